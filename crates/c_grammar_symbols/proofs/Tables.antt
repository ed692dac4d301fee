-- The tables of words and marks have each of them, and each mark of C.
use Rattle.std.specs.Prelude.{◌≡◌, ◌≢◌, ℕ, Bool, true, false, ◌&&◌, ◌||◌, ◌==◌, List, [], ◌∷◌}
use Rattle.std.specs.Prelude.{Option, None, Some, IsTrue, unwrap_or, refl}
use Rattle.std.specs.List.{list_any, list_all}
use Rattle.std.specs.Str.{bytes_eq}
use Rattle.std.specs.Cmp.{unsigned_Decides}
use Rattle.std.proofs.Common.{sym, ◌∙◌, ap, subst}
use Rattle.std.proofs.lemmas.Slice.Eq.{bytes_eq-Decides}
use Rattle.c_lexer.specs.declared.token.TokenKind.TheVariants as kind
use Rattle.c_lexer.specs.Marks.{is_mark, single_marks, double_marks, triple_marks}
use Rattle.c_grammar_symbols.specs.declared.symbol.Symbol.{Symbol}
use Rattle.c_grammar_symbols.specs.declared.symbol.Symbol.TheVariants as symbol
use Rattle.c_grammar_symbols.specs.Symbols.{spelling_of, word_spelled, mark_spelled, symbol_spelled}
use Rattle.c_grammar_symbols.specs.Symbols.{kind_of_terminal}
use Rattle.c_grammar_symbols.specs.declared.operators.BinaryOperator.{BinaryOperator}
use Rattle.c_grammar_symbols.specs.declared.operators.BinaryOperator.TheVariants as binary_operator
use Rattle.c_grammar_symbols.specs.declared.operators.AssignmentOperator.{AssignmentOperator}
use Rattle.c_grammar_symbols.specs.declared.operators.AssignmentOperator.TheVariants as assignment
use Rattle.c_grammar_symbols.specs.declared.operators.StepOperator.{StepOperator}
use Rattle.c_grammar_symbols.specs.declared.operators.StepOperator.TheVariants as step_operator
use Rattle.c_grammar_symbols.specs.declared.words.StorageWord.{StorageWord}
use Rattle.c_grammar_symbols.specs.declared.words.StorageWord.TheVariants as storage_word
use Rattle.c_grammar_symbols.specs.declared.words.SpecifierWord.{SpecifierWord}
use Rattle.c_grammar_symbols.specs.declared.words.SpecifierWord.TheVariants as specifier_word
use Rattle.c_grammar_symbols.specs.declared.words.TypeWord.{TypeWord}
use Rattle.c_grammar_symbols.specs.declared.words.TypeWord.TheVariants as type_word
use Rattle.c_grammar_symbols.specs.declared.words.OutsideWord.{OutsideWord}
use Rattle.c_grammar_symbols.specs.declared.words.OutsideWord.TheVariants as outside_word
use Rattle.c_grammar_symbols.specs.declared.words.StrayMark.{StrayMark}
use Rattle.c_grammar_symbols.specs.declared.words.StrayMark.TheVariants as stray_mark
use Rattle.c_grammar_symbols.specs.declared.words.Terminal.{Terminal}
use Rattle.c_grammar_symbols.specs.declared.words.Terminal.TheVariants as terminal

pub spelled_binary_operator : (t : BinaryOperator) →
    symbol_spelled kind.Mark (spelling_of (symbol.Binary t)) ≡ symbol.Binary t
unfolding word_spelled mark_spelled
spelled_binary_operator binary_operator.LogicalOr = refl
spelled_binary_operator binary_operator.LogicalAnd = refl
spelled_binary_operator binary_operator.BitOr = refl
spelled_binary_operator binary_operator.BitXor = refl
spelled_binary_operator binary_operator.BitAnd = refl
spelled_binary_operator binary_operator.Equal = refl
spelled_binary_operator binary_operator.NotEqual = refl
spelled_binary_operator binary_operator.Less = refl
spelled_binary_operator binary_operator.Greater = refl
spelled_binary_operator binary_operator.LessEqual = refl
spelled_binary_operator binary_operator.GreaterEqual = refl
spelled_binary_operator binary_operator.ShiftLeft = refl
spelled_binary_operator binary_operator.ShiftRight = refl
spelled_binary_operator binary_operator.Add = refl
spelled_binary_operator binary_operator.Subtract = refl
spelled_binary_operator binary_operator.Multiply = refl
spelled_binary_operator binary_operator.Divide = refl
spelled_binary_operator binary_operator.Remainder = refl

pub spelled_assignment_operator : (t : AssignmentOperator) →
    symbol_spelled kind.Mark (spelling_of (symbol.Assign t)) ≡ symbol.Assign t
unfolding word_spelled mark_spelled
spelled_assignment_operator assignment.Assign = refl
spelled_assignment_operator assignment.Multiply = refl
spelled_assignment_operator assignment.Divide = refl
spelled_assignment_operator assignment.Remainder = refl
spelled_assignment_operator assignment.Add = refl
spelled_assignment_operator assignment.Subtract = refl
spelled_assignment_operator assignment.ShiftLeft = refl
spelled_assignment_operator assignment.ShiftRight = refl
spelled_assignment_operator assignment.BitAnd = refl
spelled_assignment_operator assignment.BitXor = refl
spelled_assignment_operator assignment.BitOr = refl

pub spelled_step_operator : (t : StepOperator) →
    symbol_spelled kind.Mark (spelling_of (symbol.Step t)) ≡ symbol.Step t
unfolding word_spelled mark_spelled
spelled_step_operator step_operator.Increment = refl
spelled_step_operator step_operator.Decrement = refl

pub spelled_storage_word : (t : StorageWord) →
    symbol_spelled kind.Word (spelling_of (symbol.Storage t)) ≡ symbol.Storage t
unfolding word_spelled mark_spelled
spelled_storage_word storage_word.Extern = refl
spelled_storage_word storage_word.Static = refl
spelled_storage_word storage_word.Register = refl

pub spelled_specifier_word : (t : SpecifierWord) →
    symbol_spelled kind.Word (spelling_of (symbol.Specifier t)) ≡ symbol.Specifier t
unfolding word_spelled mark_spelled
spelled_specifier_word specifier_word.Inline = refl
spelled_specifier_word specifier_word.InlineUnderscored = refl
spelled_specifier_word specifier_word.InlineInUnderscores = refl
spelled_specifier_word specifier_word.Const = refl
spelled_specifier_word specifier_word.Noreturn = refl

pub spelled_type_word : (t : TypeWord) →
    symbol_spelled kind.Word (spelling_of (symbol.TypeWord t)) ≡ symbol.TypeWord t
unfolding word_spelled mark_spelled
spelled_type_word type_word.Void = refl
spelled_type_word type_word.Bool = refl
spelled_type_word type_word.Char = refl
spelled_type_word type_word.Short = refl
spelled_type_word type_word.Int = refl
spelled_type_word type_word.Long = refl
spelled_type_word type_word.Signed = refl
spelled_type_word type_word.Unsigned = refl

pub spelled_outside_word : (t : OutsideWord) →
    symbol_spelled kind.Word (spelling_of (symbol.Outside t)) ≡ symbol.Outside t
unfolding word_spelled mark_spelled
spelled_outside_word outside_word.Alignas = refl
spelled_outside_word outside_word.Alignof = refl
spelled_outside_word outside_word.Atomic = refl
spelled_outside_word outside_word.Complex = refl
spelled_outside_word outside_word.Generic = refl
spelled_outside_word outside_word.Imaginary = refl
spelled_outside_word outside_word.StaticAssert = refl
spelled_outside_word outside_word.ThreadLocal = refl
spelled_outside_word outside_word.Auto = refl
spelled_outside_word outside_word.Double = refl
spelled_outside_word outside_word.Float = refl
spelled_outside_word outside_word.Restrict = refl
spelled_outside_word outside_word.Sizeof = refl
spelled_outside_word outside_word.Struct = refl
spelled_outside_word outside_word.Union = refl
spelled_outside_word outside_word.Volatile = refl
spelled_outside_word outside_word.Asm = refl
spelled_outside_word outside_word.AsmInUnderscores = refl
spelled_outside_word outside_word.Int128 = refl
spelled_outside_word outside_word.Extension = refl

pub spelled_stray_mark : (t : StrayMark) →
    symbol_spelled kind.Mark (spelling_of (symbol.Stray t)) ≡ symbol.Stray t
unfolding word_spelled mark_spelled
spelled_stray_mark stray_mark.Dot = refl
spelled_stray_mark stray_mark.Arrow = refl
spelled_stray_mark stray_mark.Ellipsis = refl

pub spelled_terminal : (t : Terminal) →
    symbol_spelled (kind_of_terminal t) (spelling_of (symbol.Terminal t)) ≡ symbol.Terminal t
unfolding word_spelled mark_spelled
spelled_terminal terminal.LeftParen = refl
spelled_terminal terminal.RightParen = refl
spelled_terminal terminal.LeftBracket = refl
spelled_terminal terminal.RightBracket = refl
spelled_terminal terminal.LeftBrace = refl
spelled_terminal terminal.RightBrace = refl
spelled_terminal terminal.Semicolon = refl
spelled_terminal terminal.Comma = refl
spelled_terminal terminal.Colon = refl
spelled_terminal terminal.Question = refl
spelled_terminal terminal.Tilde = refl
spelled_terminal terminal.Exclamation = refl
spelled_terminal terminal.If = refl
spelled_terminal terminal.Else = refl
spelled_terminal terminal.While = refl
spelled_terminal terminal.Do = refl
spelled_terminal terminal.For = refl
spelled_terminal terminal.Goto = refl
spelled_terminal terminal.Break = refl
spelled_terminal terminal.Continue = refl
spelled_terminal terminal.Return = refl
spelled_terminal terminal.Typedef = refl
spelled_terminal terminal.Enum = refl
spelled_terminal terminal.Switch = refl
spelled_terminal terminal.Case = refl
spelled_terminal terminal.Default = refl
spelled_terminal terminal.Attribute = refl

-- a symbol that is no string literal
abbrev other_than_text : Option Symbol → Bool
other_than_text None = false
other_than_text (Some symbol.Text) = false
other_than_text (Some _) = true

abbrev in_table : List ℕ → Bool
in_table bytes = other_than_text (mark_spelled bytes)

by_bools : {P : Type 0} (a b c d : Bool) → (a ≡ true → c ≡ true → P) → (b ≡ true → d ≡ true → P) →
    (a || b) ≡ true → (c && d) ≡ true → P
by_bools true b true d f g any each = f refl refl
by_bools true b false d f g any each = let clash : false ≡ true = each in cc
by_bools false b true d f g any each = g any each
by_bools false b false d f g any each = let clash : false ≡ true = each in cc

-- one item passes the first test, each item the second: so one passes both
both_pass : {T P : Type 0} (p q : T → Bool) → ((y : T) → p y ≡ true → q y ≡ true → P) →
    (ys : List T) →
    list_any p ys ≡ true → list_all q ys ≡ true → P
both_pass p q f [] any each = let clash : false ≡ true = any in cc
both_pass p q f (y ∷ ys) any each =
    by_bools (p y) (list_any p ys) (q y) (list_all q ys) (f y) (both_pass p q f ys) any each

one_byte : (first : ℕ) → list_any (λ mark. mark == first) single_marks ≡ true →
    in_table (first ∷ []) ≡ true
unfolding mark_spelled
one_byte first e = both_pass (λ mark. mark == first) (λ mark. in_table (mark ∷ []))
    (λ y same good. subst (λ b. in_table (b ∷ []) ≡ true) ((unsigned_Decides y first).0 same) good)
    single_marks e refl

of_list : (bytes : List ℕ) (marks : List (List ℕ)) → list_all in_table marks ≡ true →
    list_any (bytes_eq bytes) marks ≡ true → in_table bytes ≡ true
of_list bytes marks each e = both_pass (bytes_eq bytes) in_table
    (λ y same good. subst (λ b. in_table b ≡ true) (sym ((bytes_eq-Decides bytes y).0 same)) good)
    marks e each

marked : (bytes : List ℕ) → is_mark bytes ≡ true → in_table bytes ≡ true
unfolding mark_spelled
marked [] e = let clash : false ≡ true = e in cc
marked (a ∷ []) e = one_byte a e
marked (a ∷ b ∷ []) e = of_list (a ∷ b ∷ []) double_marks refl e
marked (a ∷ b ∷ c ∷ []) e = of_list (a ∷ b ∷ c ∷ []) triple_marks refl e
marked (a ∷ b ∷ c ∷ d ∷ more) e = let clash : false ≡ true = e in cc

no_text_in : (found : Option Symbol) → other_than_text found ≡ true →
    unwrap_or found symbol.Text ≢ symbol.Text
no_text_in None e f = let clash : false ≡ true = e in cc
no_text_in (Some s) e f =
    let clash : false ≡ true = ap (λ t. other_than_text (Some t)) (sym f) ∙ e in cc

pub no_text : (bytes : List ℕ) → IsTrue (is_mark bytes) →
    symbol_spelled kind.Mark bytes ≢ symbol.Text
no_text bytes e = no_text_in (mark_spelled bytes) (marked bytes e)
