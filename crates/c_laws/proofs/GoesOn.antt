-- Tokens with which a part of an expression goes on: that a token that closes or parts it is none
-- of them.
use Rattle.std.specs.Prelude.{◌≡◌, ℕ, suc, ◌≤◌, Bool, true, false, not, ◌==◌, ◌&&◌, ◌||◌, nat_le}
use Rattle.std.specs.Prelude.{refl}
use Rattle.std.proofs.Common.{sym, ◌∙◌, ap, arith}
use Rattle.std.proofs.lemmas.Bool.Decides.{nat_tests}
use Rattle.c_grammar_forms.specs.lemmas.Choices.{impossible}
use denote.Enum.Bare.{same_true}
use Rattle.c_grammar_symbols.specs.declared.words.Terminal.{Terminal}
use Rattle.c_grammar_symbols.specs.declared.words.Terminal.TheVariants as terminal
use Rattle.c_grammar_symbols.specs.contracts.words.Terminal as the_terminal
use Rattle.c_grammar_symbols.specs.declared.operators.AssignmentOperator.TheVariants as assign
use Rattle.c_grammar_symbols.specs.declared.operators.BinaryOperator.TheVariants as binary
use Rattle.c_grammar_symbols.specs.declared.symbol.Symbol.{Symbol}
use Rattle.c_grammar_symbols.specs.declared.symbol.Symbol.TheVariants as symbol
use Rattle.c_grammar_symbols.specs.Symbols.{Leaf, symbol_of}
use Rattle.c_grammar_symbols.specs.Sources.{is, is_terminal}
use Rattle.c_grammar_tree.specs.declared.expression.Expression.{Expression}
use Rattle.c_grammar_tree.specs.Parts.{is_not, names, points, steps, binds, looseness, assigns}
use Rattle.c_grammar_tree.specs.Parts.{is_unary}
use Rattle.c_grammar_tree.specs.Parts.{initializes, specifies, specifies_locally, names_type}
use Rattle.c_grammar_tree.specs.Parts.{specifies_in_typedef, begins_declared}
use Rattle.c_grammar_tree.specs.Expressions.{assigns_to}

-- how loose an expression is at least that goes on with the symbol: a postfix 0, a chain its
-- looseness, a conditional 11, an assignment 12, a comma 13
abbrev pub rank : Symbol → ℕ
rank (symbol.Terminal terminal.LeftBracket) = 0
rank (symbol.Terminal terminal.LeftParen) = 0
rank (symbol.Terminal terminal.Question) = 11
rank (symbol.Terminal terminal.Comma) = 13
rank (symbol.Step operator) = 0
rank (symbol.Binary operator) = looseness operator
rank (symbol.Assign operator) = 12
rank _ = 14

abbrev pub loose : ℕ → Symbol → Bool
loose k s = nat_le (rank s) k

abbrev pub goes_on : ℕ → Leaf → Bool
goes_on k leaf = loose k (symbol_of leaf)

-- a declarator goes on with these
abbrev pub declares : Symbol → Bool
declares s = loose 12 s || is_terminal terminal.Attribute s

-- what stands before an initializer goes on with these
abbrev pub fronts : Symbol → Bool
fronts s = is_terminal terminal.LeftBracket s || is_terminal terminal.Attribute s

-- a parameter goes on with these
abbrev pub parameters_go_on : Symbol → Bool
parameters_go_on s = specifies s || (points s || names s)

-- parameters go on with these
abbrev pub lists_parameters : Symbol → Bool
lists_parameters s = parameters_go_on s || is_terminal terminal.Comma s

-- declarators go on with these
abbrev pub lists_declarators : Symbol → Bool
lists_declarators s = declares s || is_terminal terminal.Comma s

pub terminal_is : (x : Terminal) (s : Symbol) → is_terminal x s ≡ true → s ≡ symbol.Terminal x
terminal_is x (symbol.Terminal y) e = ap symbol.Terminal (same_true the_terminal.the_type tt y x e)
terminal_is x _ e = impossible e

-- a terminal that passes no test
pub stops_at : (test : Symbol → Bool) (x : Terminal) → test (symbol.Terminal x) ≡ false →
    (t : Leaf) → is x t ≡ true → test (symbol_of t) ≡ false
stops_at test x h t e = ap test (terminal_is x (symbol_of t) e) ∙ h

false_from : (b : Bool) → (b ≡ true → ⊥) → b ≡ false
false_from true h = absurd (h refl)
false_from false h = refl

-- a terminal that passes a test is not there where the test fails
pub is_none_of : (test : Symbol → Bool) (x : Terminal) → test (symbol.Terminal x) ≡ true →
    (t : Leaf) → test (symbol_of t) ≡ false → is x t ≡ false
is_none_of test x h t g = false_from (is x t)
    (λ e. let clash : false ≡ true = sym g ∙ (ap test (terminal_is x (symbol_of t) e) ∙ h) in cc)

-- a token that passes a test is not this terminal, which fails it
pub is_other : (test : Symbol → Bool) (x : Terminal) → test (symbol.Terminal x) ≡ false →
    (t : Leaf) → test (symbol_of t) ≡ true → is x t ≡ false
is_other test x h t g = false_from (is x t)
    (λ e. let clash : false ≡ true = sym h ∙ (ap test (sym (terminal_is x (symbol_of t) e)) ∙ g)
    in cc)

-- what a token does not close
pub open_at : (x : Terminal) (t : Leaf) → is x t ≡ true → is_not x t ≡ false
open_at x t e = ap not e

not_false : (b : Bool) → not b ≡ false → b ≡ true
not_false true e = refl
not_false false e = impossible (sym e)

pub closed_at : (test : Symbol → Bool) (x : Terminal) → test (symbol.Terminal x) ≡ false →
    (t : Leaf) → is_not x t ≡ false → test (symbol_of t) ≡ false
closed_at test x h t e = stops_at test x h t (not_false (is x t) e)

looser : (n j k : ℕ) → j ≤ k → nat_le n k ≡ false → nat_le n j ≡ false
looser n j k below h = grind (arith, nat_tests)

-- what does not go on a looser part does not go on a tighter one
pub tighter : (j k : ℕ) → j ≤ k → (t : Leaf) → goes_on k t ≡ false → goes_on j t ≡ false
tighter j k below t h = looser (rank (symbol_of t)) j k below h

equal_or_not : (n k : ℕ) → (n == suc k) ≡ true → nat_le n k ≡ false
equal_or_not n k e = grind (arith, nat_tests)

above_not : (n k : ℕ) → nat_le n (suc k) ≡ false → (n == suc k) ≡ false
above_not n k e = grind (arith, nat_tests)

-- an operator of a looser chain does not go on an operand, and stands where the chain goes on
pub operator_parts : (k : ℕ) (s : Symbol) → binds (suc k) s ≡ true → loose k s ≡ false
operator_parts k (symbol.Binary operator) e = equal_or_not (looseness operator) k e
operator_parts k _ e = impossible e

pub operator_ends : (k : ℕ) (s : Symbol) → loose (suc k) s ≡ false → binds (suc k) s ≡ false
operator_ends k (symbol.Binary operator) e = above_not (looseness operator) k e
operator_ends k _ e = refl

pub suffix_ends : (s : Symbol) → loose 0 s ≡ false →
    (is_terminal terminal.LeftBracket s || is_terminal terminal.LeftParen s || steps s) ≡ false
suffix_ends (symbol.Terminal terminal.LeftBracket) e = impossible (sym e)
suffix_ends (symbol.Terminal terminal.LeftParen) e = impossible (sym e)
suffix_ends (symbol.Step operator) e = impossible (sym e)
suffix_ends _ e = refl

pub second_true : (a b : Bool) → (a && b) ≡ true → b ≡ true
second_true true b e = e
second_true false b e = impossible e

pub first_false : (a b : Bool) → a ≡ false → (a && b) ≡ false
first_false true b e = impossible (sym e)
first_false false b e = refl

pub second_false : (a b : Bool) → b ≡ false → (a && b) ≡ false
second_false true b e = e
second_false false b e = refl

assigns_parts : (s : Symbol) → assigns s ≡ true → loose 11 s ≡ false
assigns_parts (symbol.Assign operator) e = refl
assigns_parts _ e = impossible e

assigns_ends : (s : Symbol) → loose 12 s ≡ false → assigns s ≡ false
assigns_ends (symbol.Assign operator) e = impossible (sym e)
assigns_ends _ e = refl

pub assignment_parts : (left : Expression) (t : Leaf) → assigns_to left t ≡ true →
    goes_on 11 t ≡ false
assignment_parts left t e =
    assigns_parts (symbol_of t) (second_true (is_unary left) (assigns (symbol_of t)) e)

pub assignment_ends : (left : Expression) (t : Leaf) → goes_on 12 t ≡ false →
    assigns_to left t ≡ false
assignment_ends left t e =
    second_false (is_unary left) (assigns (symbol_of t)) (assigns_ends (symbol_of t) e)

pub first_of_or : (a b : Bool) → (a || b) ≡ false → a ≡ false
first_of_or true b e = impossible (sym e)
first_of_or false b e = refl

pub second_of_or : (a b : Bool) → (a || b) ≡ false → b ≡ false
second_of_or true b e = impossible (sym e)
second_of_or false b e = e

pub declares_loose : (t : Leaf) → declares (symbol_of t) ≡ false → goes_on 12 t ≡ false
declares_loose t e = first_of_or (goes_on 12 t) (is terminal.Attribute t) e

pub both_false : (a b : Bool) → a ≡ false → b ≡ false → (a || b) ≡ false
both_false true b e f = impossible (sym e)
both_false false b e f = f

pub first_true : (a b : Bool) → (a && b) ≡ true → a ≡ true
first_true true b e = refl
first_true false b e = impossible e

pub value_ends : (s : Symbol) → loose 12 s ≡ false → initializes s ≡ false
value_ends (symbol.Assign assign.Assign) e = impossible (sym e)
value_ends _ e = refl

pub initializes_parts : (s : Symbol) → initializes s ≡ true → fronts s ≡ false
initializes_parts (symbol.Assign assign.Assign) e = refl
initializes_parts _ e = impossible e

pub initializes_ends : (s : Symbol) → declares s ≡ false → initializes s ≡ false
initializes_ends (symbol.Assign assign.Assign) e = impossible (sym e)
initializes_ends _ e = refl

pub fronts_ends : (s : Symbol) → declares s ≡ false → fronts s ≡ false
fronts_ends (symbol.Terminal terminal.LeftBracket) e = impossible (sym e)
fronts_ends (symbol.Terminal terminal.Attribute) e = impossible (sym e)
fronts_ends _ e = refl

pub name_is_no_specifier : (s : Symbol) → names s ≡ true → specifies_locally s ≡ false
name_is_no_specifier symbol.Name e = refl
name_is_no_specifier _ e = impossible e

pub name_is_no_word : (s : Symbol) → names s ≡ true → specifies s ≡ false
name_is_no_word symbol.Name e = refl
name_is_no_word _ e = impossible e

pub any_name_is_no_word : (s : Symbol) → (names s || names_type s) ≡ true →
    (specifies_in_typedef s && not (begins_declared s)) ≡ false
any_name_is_no_word symbol.Name e = refl
any_name_is_no_word (symbol.TypedefName named) e = refl
any_name_is_no_word _ e = impossible e

pub any_name_is_no_brace : (s : Symbol) → (names s || names_type s) ≡ true →
    is_terminal terminal.LeftBrace s ≡ false
any_name_is_no_brace symbol.Name e = refl
any_name_is_no_brace (symbol.TypedefName named) e = refl
any_name_is_no_brace _ e = impossible e

pub name_is_no_pointer : (s : Symbol) → names s ≡ true → points s ≡ false
name_is_no_pointer symbol.Name e = refl
name_is_no_pointer _ e = impossible e

pub pointer_is_no_word : (s : Symbol) → points s ≡ true → specifies s ≡ false
pointer_is_no_word (symbol.Binary binary.Multiply) e = refl
pointer_is_no_word _ e = impossible e
