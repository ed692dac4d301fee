-- Which form each token calls for, and what the tests of tokens find.
use Rattle.std.specs.Prelude.{◌≡◌, ℕ, ℤ, suc, ◌+◌, ◌<◌, ◌≤◌, ◌==◌, ◌&&◌, nat_lt, nat_le, Bool}
use Rattle.std.specs.Prelude.{true, false, cond, Option, None, Some, refl}
use Rattle.std.proofs.Common.{sym, ◌∙◌, ap, subst, arith}
use Rattle.std.proofs.lemmas.Bool.Decides.{nat_tests}
use Rattle.c_grammar_forms.specs.Forms.{Form, Nothing, Skip, Node, Pair, Then, Before, Deeper}
use Rattle.c_grammar_forms.specs.Forms.{Choice}
use Rattle.c_grammar_forms.specs.lemmas.Choices.{Same, same_form, impossible}
use Rattle.cpa_ints.specs.declared.integers.IntType.{IntType}
use Rattle.c_grammar_symbols.specs.declared.words.Terminal.TheVariants as terminal
use Rattle.c_grammar_symbols.specs.declared.operators.AssignmentOperator.{AssignmentOperator}
use Rattle.c_grammar_symbols.specs.declared.operators.BinaryOperator.{BinaryOperator}
use Rattle.c_grammar_symbols.specs.declared.operators.BinaryOperator.TheVariants as binary
use Rattle.c_grammar_symbols.specs.declared.operators.StepOperator.{StepOperator}
use Rattle.c_grammar_symbols.specs.declared.symbol.Symbol.{Symbol}
use Rattle.c_grammar_symbols.specs.declared.symbol.Symbol.TheVariants as symbol
use Rattle.c_grammar_symbols.specs.Symbols.{Leaf, symbol_of}
use Rattle.c_grammar_symbols.specs.Sources.{is, is_terminal}
use Rattle.c_grammar_tree.specs.declared.expression.Expression.{Expression}
use Rattle.c_grammar_tree.specs.declared.expression.UnaryOperator.{UnaryOperator}
use Rattle.c_grammar_tree.specs.Parts.{steps, binds, looseness, names_assert, is_operator}
use Rattle.c_grammar_tree.specs.Nested.{Grammar}
use Rattle.c_grammar_tree.specs.Expressions.{Group, cast_group, bracket_group, group_of, group_at}
use Rattle.c_grammar_tree.specs.Expressions.{cast_at}
use Rattle.c_grammar_tree.specs.Expressions.{unary, unary_at, sign, postfix, suffixes, type_name}
use Rattle.c_grammar_tree.specs.Expressions.{suffix_at}
use Rattle.c_grammar_tree.specs.Expressions.{primary_at, assigns_to}
use Rattle.c_parser_expressions.specs.Steps.{begins_type, sign_of, operator_of, FindsOperator}
use Rattle.c_parser_expressions.specs.Steps.{looseness_between}

-- behind "(": a cast
abbrev pub cast_form : Grammar → Form Leaf Group
cast_form G = Node (λ leaf parts. cast_group parts.0 parts.1)
    (Pair (Before (Deeper type_name) (is terminal.RightParen)) (Deeper G.cast))

-- behind "(": an expression in brackets and its suffixes
abbrev pub bracket_form : Grammar → Form Leaf Group
bracket_form G = Node (λ leaf parts. bracket_group parts.0 parts.1)
    (Then (Before (Deeper G.comma) (is terminal.RightParen))
    (λ inner. suffixes G (names_assert inner)))

abbrev pub group_form : Grammar → Form Leaf Expression
group_form G = Node group_of (Skip (Choice symbol_of (group_at G)))

pub arm_group : (G : Grammar) (s : Symbol) → is_terminal terminal.LeftParen s ≡ true →
    Same (cast_at G s) (group_form G)
unfolding cast_at
arm_group G (symbol.Terminal terminal.LeftParen) e = same_form
arm_group G _ e = impossible e

pub arm_unary : (G : Grammar) (s : Symbol) → is_terminal terminal.LeftParen s ≡ false →
    Same (cast_at G s) (unary G)
unfolding cast_at
arm_unary G (symbol.Terminal terminal.LeftParen) e = impossible (sym e)
arm_unary G _ e = same_form

pub arm_cast : (G : Grammar) (s : Symbol) → begins_type s ≡ true → Same (group_at G s) (cast_form G)
unfolding group_at
arm_cast G (symbol.TypeWord word) e = same_form
arm_cast G (symbol.TypedefName named) e = same_form
arm_cast G (symbol.Terminal terminal.Enum) e = same_form
arm_cast G _ e = impossible e

pub arm_bracket : (G : Grammar) (s : Symbol) → begins_type s ≡ false →
    Same (group_at G s) (bracket_form G)
unfolding group_at
arm_bracket G (symbol.TypeWord word) e = impossible (sym e)
arm_bracket G (symbol.TypedefName named) e = impossible (sym e)
arm_bracket G (symbol.Terminal terminal.Enum) e = impossible (sym e)
arm_bracket G _ e = same_form

some_is : {T : Type 0} (P : T → Type 0) {a b : T} → Some a ≡ Some b → P a → P b
some_is P {a} {b} e x = let f : a ≡ b = cc in subst P f x

no_some : {T : Type 0} {P : Type 0} {b : T} → None ≡ Some b → P
no_some {b = b} e = absurd (let clash : None ≡ Some b = e in cc)

pub arm_sign : (G : Grammar) (s : Symbol) (op : UnaryOperator) → sign_of s ≡ Some op →
    Same (unary_at G s) (sign op G)
unfolding unary_at
arm_sign G (symbol.Binary binary.Add) op e =
    some_is (λ o. Same (unary_at G (symbol.Binary binary.Add)) (sign o G)) e same_form
arm_sign G (symbol.Binary binary.Subtract) op e =
    some_is (λ o. Same (unary_at G (symbol.Binary binary.Subtract)) (sign o G)) e same_form
arm_sign G (symbol.Terminal terminal.Tilde) op e =
    some_is (λ o. Same (unary_at G (symbol.Terminal terminal.Tilde)) (sign o G)) e same_form
arm_sign G (symbol.Terminal terminal.Exclamation) op e =
    some_is (λ o. Same (unary_at G (symbol.Terminal terminal.Exclamation)) (sign o G)) e same_form
arm_sign G _ op e = no_some e

pub arm_postfix : (G : Grammar) (s : Symbol) → sign_of s ≡ None → steps s ≡ false →
    Same (unary_at G s) (postfix G)
unfolding unary_at
arm_postfix G (symbol.Binary binary.Add) e f = no_some (sym e)
arm_postfix G (symbol.Binary binary.Subtract) e f = no_some (sym e)
arm_postfix G (symbol.Terminal terminal.Tilde) e f = no_some (sym e)
arm_postfix G (symbol.Terminal terminal.Exclamation) e f = no_some (sym e)
arm_postfix G (symbol.Step operator) e f = impossible (sym f)
arm_postfix G _ e f = same_form

chosen_some : {T : Type 0} (b : Bool) (x y : T) → cond b (Some x) None ≡ Some y →
    (x ≡ y) × (b ≡ true)
chosen_some true x y e = (some_is (λ z. x ≡ z) e refl, refl)
chosen_some false x y e = no_some e

chosen_none : {T : Type 0} (b : Bool) (x : T) → cond b (Some x) None ≡ None → b ≡ false
chosen_none true x e = no_some (sym e)
chosen_none false x e = refl

-- the operator that is found binds as loosely as is asked for
pub operator_found : (rank : ℕ) (s : Symbol) (op : BinaryOperator) → operator_of rank s ≡ Some op →
    (s ≡ symbol.Binary op) × (binds rank s ≡ true)
operator_found rank (symbol.Binary o) op e =
    let c = chosen_some (looseness o == rank) o op e in (ap (λ x. symbol.Binary x) c.0, c.1)
operator_found rank _ op e = no_some e

pub no_operator : (rank : ℕ) (s : Symbol) → operator_of rank s ≡ None → binds rank s ≡ false
no_operator rank (symbol.Binary o) e = chosen_none (looseness o == rank) o e
no_operator rank _ e = refl

number_between : (tighter rank n k : ℕ) → n ≡ k → (nat_lt tighter n && nat_le n rank) ≡ true →
    (tighter < k) × (k ≤ rank) × ((n == k) ≡ true)
number_between tighter rank n k e h =
    (grind (arith, nat_tests), grind (arith, nat_tests), grind (arith, nat_tests))

no_number_between : (tighter rank n k : ℕ) → (nat_lt tighter n && nat_le n rank) ≡ false →
    tighter < k → k ≤ rank → (n == k) ≡ false
no_number_between tighter rank n k h above below = grind (arith, nat_tests)

other_number : (n j k : ℕ) → (n == k) ≡ true → j < k → (n == j) ≡ false
other_number n j k e below = grind (arith, nat_tests)

-- the looseness that is found is that of the operator, and lies between the two numbers
between_found : (tighter rank : ℕ) (s : Symbol) (k : ℕ) →
    looseness_between tighter rank s ≡ Some k →
    (tighter < k) × (k ≤ rank) × (binds k s ≡ true)
between_found tighter rank (symbol.Binary o) k e =
    let c = chosen_some (nat_lt tighter (looseness o) && nat_le (looseness o) rank)
    (looseness o) k e in
    number_between tighter rank (looseness o) k c.0 c.1
between_found tighter rank _ k e = no_some e

none_between : (tighter rank : ℕ) (s : Symbol) → looseness_between tighter rank s ≡ None →
    (k : ℕ) → tighter < k → k ≤ rank → binds k s ≡ false
none_between tighter rank (symbol.Binary o) e k above below =
    no_number_between tighter rank (looseness o) k
    (chosen_none (nat_lt tighter (looseness o) && nat_le (looseness o) rank) (looseness o) e)
    above below
none_between tighter rank _ e k above below = refl

-- an operator of one looseness is none of a tighter one
pub binds_no_tighter : (j k : ℕ) (s : Symbol) → binds k s ≡ true → j < k → binds j s ≡ false
binds_no_tighter j k (symbol.Binary o) e below = other_number (looseness o) j k e below
binds_no_tighter j k _ e below = refl

pub is_left_paren : (s : Symbol) → is_terminal terminal.LeftParen s ≡ true →
    s ≡ symbol.Terminal terminal.LeftParen
is_left_paren (symbol.Terminal terminal.LeftParen) e = refl
is_left_paren _ e = impossible e

pub is_left_bracket : (s : Symbol) → is_terminal terminal.LeftBracket s ≡ true →
    s ≡ symbol.Terminal terminal.LeftBracket
is_left_bracket (symbol.Terminal terminal.LeftBracket) e = refl
is_left_bracket _ e = impossible e

-- no suffix begins with the symbol
pub arm_no_suffix : (G : Grammar) (s : Symbol) → is_terminal terminal.LeftBracket s ≡ false →
    is_terminal terminal.LeftParen s ≡ false →
    steps s ≡ false → Same (suffix_at G s) Nothing
unfolding suffix_at
arm_no_suffix G (symbol.Terminal terminal.LeftBracket) e f g = impossible (sym e)
arm_no_suffix G (symbol.Terminal terminal.LeftParen) e f g = impossible (sym f)
arm_no_suffix G (symbol.Step operator) e f g = impossible (sym g)
arm_no_suffix G _ e f g = same_form

-- the symbol is a name or a constant
abbrev pub stands_alone : Symbol → Bool
stands_alone symbol.Name = true
stands_alone (symbol.Number ty value) = true
stands_alone (symbol.Character value) = true
stands_alone _ = false

-- no primary expression begins with the symbol
pub arm_no_primary : (G : Grammar) (s : Symbol) → is_terminal terminal.LeftParen s ≡ false →
    stands_alone s ≡ false → Same (primary_at G s) Nothing
unfolding primary_at
arm_no_primary G (symbol.Terminal terminal.LeftParen) e f = impossible (sym e)
arm_no_primary G symbol.Name e f = impossible (sym f)
arm_no_primary G (symbol.Number ty value) e f = impossible (sym f)
arm_no_primary G (symbol.Character value) e f = impossible (sym f)
arm_no_primary G _ e f = same_form

-- a symbol that is no name and no constant
pub not_alone : (s : Symbol) → (s ≡ symbol.Name → ⊥) →
    ((ty : IntType) (value : ℤ) → s ≡ symbol.Number ty value → ⊥) →
    ((value : ℤ) → s ≡ symbol.Character value → ⊥) → stands_alone s ≡ false
not_alone symbol.Name f g h = absurd (f refl)
not_alone (symbol.Number ty value) f g h = absurd (g ty value refl)
not_alone (symbol.Character value) f g h = absurd (h value refl)
not_alone _ f g h = refl

-- a symbol that is no step
pub no_step : (s : Symbol) → ((op : StepOperator) → s ≡ symbol.Step op → ⊥) → steps s ≡ false
no_step (symbol.Step op) f = absurd (f op refl)
no_step _ f = refl

-- what is no such thing is nothing
is_none : {T : Type 0} (found : Option T) → ((x : T) → found ≡ Some x → ⊥) → found ≡ None
is_none None f = refl
is_none (Some x) f = absurd (f x refl)

-- the operator that is found at a token
pub operator_here : (leaf : Leaf) (k : ℕ) (s : Symbol) (op : BinaryOperator) → s ≡ symbol_of leaf →
    Some op ≡ operator_of (k + 1) s →
    (symbol_of leaf ≡ symbol.Binary op) × (is_operator (suc k) leaf ≡ true)
operator_here leaf k s op e f =
    let one : k + 1 ≡ suc k = omega arith in
    operator_found (suc k) (symbol_of leaf) op (subst (λ x. operator_of (suc k) x ≡ Some op) e
    (subst (λ j. operator_of j s ≡ Some op) one (sym f)))

pub no_operator_here : (leaf : Leaf) (k : ℕ) (s : Symbol) (found : Option BinaryOperator) →
    s ≡ symbol_of leaf → found ≡ operator_of (k + 1) s →
    ((x : BinaryOperator) → found ≡ Some x → ⊥) → is_operator (suc k) leaf ≡ false
no_operator_here leaf k s found e f none =
    let one : k + 1 ≡ suc k = omega arith in
    no_operator (suc k) (symbol_of leaf)
    (subst (λ x. operator_of (suc k) x ≡ None) e (subst (λ j. operator_of j s ≡ None) one (sym f ∙
    is_none found none)))

-- the looseness that is found at a token
pub between_here : (leaf : Leaf) (tighter rank : ℕ) (s : Symbol) (k : ℕ) → s ≡ symbol_of leaf →
    Some k ≡ looseness_between tighter rank s →
    (tighter < k) × (k ≤ rank) × (is_operator k leaf ≡ true)
between_here leaf tighter rank s k e f = between_found tighter rank (symbol_of leaf) k
    (subst (λ x. looseness_between tighter rank x ≡ Some k) e (sym f))

pub none_between_here : (leaf : Leaf) (tighter rank : ℕ) (s : Symbol) (found : Option ℕ) →
    s ≡ symbol_of leaf → found ≡ looseness_between tighter rank s →
    ((x : ℕ) → found ≡ Some x → ⊥) → (k : ℕ) → tighter < k → k ≤ rank →
    is_operator k leaf ≡ false
none_between_here leaf tighter rank s found e f none =
    none_between tighter rank (symbol_of leaf)
    (subst (λ x. looseness_between tighter rank x ≡ None) e (sym f ∙ is_none found none))

-- no operator of an assignment is found
pub finds_none : (target : Expression) (leaf : Leaf) (found : Option AssignmentOperator) →
    FindsOperator target leaf found →
    ((x : AssignmentOperator) → found ≡ Some x → ⊥) → assigns_to target leaf ≡ false
finds_none target leaf None f none = f
finds_none target leaf (Some x) f none = absurd (none x refl)
