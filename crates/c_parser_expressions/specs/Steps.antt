-- What single private functions read or compute. No public clause speaks of it.
use Rattle.std.specs.Prelude.{◌≡◌, ℕ, suc, ◌==◌, cond, Bool, true, false, MatchOption, List, []}
use Rattle.std.specs.Prelude.{◌∷◌}
use Rattle.std.specs.Prelude.{Option, None, Some, ◌&&◌, nat_lt, nat_le}
use Rattle.c_grammar_forms.specs.Forms.{Form, Skip, Node, Deeper, Choice, Many}
use Rattle.c_grammar_symbols.specs.declared.words.Terminal.TheVariants as terminal
use Rattle.c_grammar_symbols.specs.declared.operators.AssignmentOperator.{AssignmentOperator}
use Rattle.c_grammar_symbols.specs.declared.operators.BinaryOperator.{BinaryOperator}
use Rattle.c_grammar_symbols.specs.declared.operators.BinaryOperator.TheVariants as binary
use Rattle.c_grammar_symbols.specs.declared.symbol.Symbol.{Symbol}
use Rattle.c_grammar_symbols.specs.declared.symbol.Symbol.TheVariants as symbol
use Rattle.c_grammar_symbols.specs.Symbols.{Leaf, symbol_of}
use Rattle.c_grammar_symbols.specs.Sources.{is}
use Rattle.c_grammar_tree.specs.declared.expression.Expression.{Expression}
use Rattle.c_grammar_tree.specs.declared.expression.TypeName.{TypeName}
use Rattle.c_grammar_tree.specs.declared.expression.UnaryOperator.{UnaryOperator}
use Rattle.c_grammar_tree.specs.declared.expression.UnaryOperator.TheVariants as unary_operator
use Rattle.c_grammar_tree.specs.Parts.{is_operator, looseness}
use Rattle.c_grammar_tree.specs.Nested.{Grammar}
use Rattle.c_grammar_tree.specs.Expressions.{assignment, chain, operand, group_of, group_at}
use Rattle.c_grammar_tree.specs.Expressions.{type_name}
use Rattle.c_grammar_tree.specs.Expressions.{assigns_to}

-- the first item, which is read already, in front of those behind it
abbrev pub after : {Token T : Type 0} → T → Token → List T → List T
after first leaf rest = first ∷ rest

-- {"," assignment} behind a first assignment of a comma expression
abbrev pub more_items : Expression → Grammar → Form Leaf (List Expression)
more_items first G = Node (after first) (Many (is terminal.Comma) (Skip (assignment G)))

-- {"," assignment} behind a first argument
abbrev pub more_arguments : Expression → Grammar → Form Leaf (List Expression)
more_arguments first G = Node (after first) (Many (is terminal.Comma) (Skip (Deeper G.assignment)))

-- {operator operand} behind the first operand of a chain
abbrev pub operands : ℕ → Grammar → Form Leaf (List (BinaryOperator × Expression))
operands tighter G = Many (is_operator (suc tighter)) (operand (chain tighter G))

-- a cast, or an expression in brackets with its suffixes
abbrev pub group : Grammar → Form Leaf Expression
group G = Node group_of (Skip (Choice symbol_of (group_at G)))

-- the symbol begins the type of a cast
abbrev pub begins_type : Symbol → Bool
begins_type (symbol.TypeWord word) = true
begins_type (symbol.TypedefName named) = true
begins_type (symbol.Terminal terminal.Enum) = true
begins_type _ = false

-- the type of a cast
abbrev pub deeper_type_name : Grammar → Form Leaf TypeName
deeper_type_name G = Deeper type_name

-- the operator of this looseness that the symbol is
abbrev pub operator_of : ℕ → Symbol → Option BinaryOperator
operator_of rank (symbol.Binary operator) = cond (looseness operator == rank) (Some operator) None
operator_of rank _ = None

-- how loosely the operator binds that the symbol is, where that is looser than the one number and
-- no looser than the other
abbrev pub looseness_between : ℕ → ℕ → Symbol → Option ℕ
looseness_between tighter rank (symbol.Binary operator) =
    cond (nat_lt tighter (looseness operator) && nat_le (looseness operator) rank)
    (Some (looseness operator)) None
looseness_between tighter rank _ = None

-- the operator on one operand that the symbol is
abbrev pub sign_of : Symbol → Option UnaryOperator
sign_of (symbol.Binary binary.Add) = Some unary_operator.Plus
sign_of (symbol.Binary binary.Subtract) = Some unary_operator.Minus
sign_of (symbol.Terminal terminal.Tilde) = Some unary_operator.Complement
sign_of (symbol.Terminal terminal.Exclamation) = Some unary_operator.Not
sign_of _ = None

-- the operator of assignment that the token is behind a unary, or that there is none
abbrev pub FindsOperator : Expression → Leaf → Option AssignmentOperator → Type 0
FindsOperator target leaf answer = MatchOption answer (assigns_to target leaf ≡ false)
    (λ operator. (assigns_to target leaf ≡ true) × (symbol_of leaf ≡ symbol.Assign operator))

-- what there is, as a list
abbrev pub option_list : {T : Type 0} → Option T → List T
option_list None = []
option_list (Some item) = item ∷ []
