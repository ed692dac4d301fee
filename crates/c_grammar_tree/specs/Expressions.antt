-- The grammar of expressions (C11 6.5).
use Rattle.std.specs.Prelude.{ℕ, zero, suc, Bool, ◌&&◌, List, [], ◌∷◌, Option, None, Some}
use Rattle.c_grammar_forms.specs.Forms.{Form, Nothing, One, Such, Skip, Before, Pair, Then, Node}
use Rattle.c_grammar_forms.specs.Forms.{Shaped}
use Rattle.c_grammar_forms.specs.Forms.{Deeper, Choice, Many, Perhaps, Nearest, Balanced, listed}
use Rattle.c_grammar_symbols.specs.declared.words.Terminal.TheVariants as terminal
use Rattle.c_grammar_symbols.specs.declared.words.TypeWord.{TypeWord}
use Rattle.c_grammar_symbols.specs.declared.operators.BinaryOperator.{BinaryOperator}
use Rattle.c_grammar_symbols.specs.declared.operators.BinaryOperator.TheVariants as binary
use Rattle.c_grammar_symbols.specs.declared.operators.AssignmentOperator.{AssignmentOperator}
use Rattle.c_grammar_symbols.specs.declared.symbol.Symbol.{Symbol}
use Rattle.c_grammar_symbols.specs.declared.symbol.Symbol.TheVariants as symbol
use Rattle.c_grammar_symbols.specs.Symbols.{Leaf, symbol_of}
use Rattle.c_grammar_symbols.specs.Sources.{is}
use Rattle.c_grammar_tree.specs.declared.name.Name.{Name}
use Rattle.c_grammar_tree.specs.declared.expression.Expression.{Expression}
use Rattle.c_grammar_tree.specs.declared.expression.Expression.TheVariants as expression
use Rattle.c_grammar_tree.specs.declared.expression.UnaryOperator.{UnaryOperator}
use Rattle.c_grammar_tree.specs.declared.expression.UnaryOperator.TheVariants as unary_operator
use Rattle.c_grammar_tree.specs.declared.expression.TypeName.{TypeName}
use Rattle.c_grammar_tree.specs.declared.expression.TypeName.TheVariants as type_name'
use Rattle.c_grammar_tree.specs.declared.expression.Suffix.{Suffix}
use Rattle.c_grammar_tree.specs.declared.expression.Suffix.TheVariants as suffix
use Rattle.c_grammar_tree.specs.Parts.{is_not, name_of, is_operator, is_assignment, is_type_word}
use Rattle.c_grammar_tree.specs.Parts.{is_end, is_name}
use Rattle.c_grammar_tree.specs.Parts.{begins_suffix, is_unary, names_assert, is_type, loosest}
use Rattle.c_grammar_tree.specs.Nested.{Grammar}

-- an identifier
unfoldable pub identifier : Form Leaf Name
identifier = Node name_of (Such is_name)

-- no suffix, no postfix expression
abbrev pub suffixed : ℕ → Expression → List Suffix → Expression
suffixed place base [] = base
suffixed place base (one ∷ more) = expression.Postfix place base (one ∷ more)

-- the skipped call, where there is one, in front of the suffixes behind it
abbrev pub in_front : Leaf → Option Suffix × List Suffix → List Suffix
in_front leaf (None, more) = more
in_front leaf (Some skipped, more) = skipped ∷ more

-- one operand is itself
abbrev pub chain_of : Leaf → Expression × List (BinaryOperator × Expression) → Expression
chain_of leaf (first, []) = first
chain_of leaf (first, operand ∷ operands) = expression.Chain leaf.place first (operand ∷ operands)

-- no operator, no conditional
abbrev pub conditional_of : Leaf → Expression × Option (Expression × Expression) → Expression
conditional_of leaf (test, None) = test
conditional_of leaf (test, Some ends) = expression.Conditional test ends.0 ends.1 leaf.place

-- no operator of assignment, no assignment
abbrev pub assignment_of : Leaf → Expression × Option (AssignmentOperator × Expression) → Expression
assignment_of leaf (left, None) = left
assignment_of leaf (left, Some right) = expression.Assignment left right.0 right.1 leaf.place

-- no comma, no list
abbrev pub comma_of : Leaf → Expression × List Expression → Expression
comma_of leaf (first, []) = first
comma_of leaf (first, item ∷ items) = expression.Comma (first ∷ item ∷ items) leaf.place

-- a cast, or an expression in brackets and what stands behind it
pub data Group : Type 0 where
  cast_group : TypeName → Expression → Group
  bracket_group : Expression → List Suffix → Group

abbrev pub group_of : Leaf → Group → Expression
group_of leaf (cast_group to operand) = expression.Cast to operand leaf.place
group_of leaf (bracket_group inner more) =
    suffixed leaf.place (expression.Bracketed inner leaf.place) more

-- an operator on one operand
abbrev pub unary_of : UnaryOperator → Leaf → Expression → Expression
unary_of operator leaf operand = expression.Unary operator operand leaf.place

-- none where nothing stands there
abbrev pub list_of : {T : Type 0} → Leaf → Option (List T) → List T
list_of leaf None = []
list_of leaf (Some items) = items

-- round brackets and the tokens between them, behind the one that opens
abbrev pub round_brackets : Form Leaf (Unit {0})
round_brackets = Balanced (is terminal.LeftParen) (is terminal.RightParen) is_end

-- assignment {"," assignment}, each one level deeper
unfoldable pub assignments : Grammar → Form Leaf (List Expression)
assignments G =
    Node listed (Pair (Deeper G.assignment) (Many (is terminal.Comma) (Skip (Deeper G.assignment))))

-- [assignment {"," assignment}] ")" (C11 6.5.2)
unfoldable pub arguments : Grammar → Form Leaf (List Expression)
arguments G = Before (Node list_of (Perhaps (is_not terminal.RightParen) (assignments G)))
    (is terminal.RightParen)

-- "[" comma "]" ; "(" arguments ; "++" ; "--" (C11 6.5.2)
unfoldable pub suffix_at : Grammar → Symbol → Form Leaf Suffix
suffix_at G (symbol.Terminal terminal.LeftBracket) =
    Node (λ leaf index. suffix.Index index leaf.place)
    (Skip (Before (Deeper G.comma) (is terminal.RightBracket)))
suffix_at G (symbol.Terminal terminal.LeftParen) =
    Node (λ leaf given. suffix.Call given leaf.place) (Skip (arguments G))
suffix_at G (symbol.Step operator) = Node (λ leaf u. suffix.Step operator leaf.place) One
suffix_at G _ = Nothing

abbrev pub any_suffix : Grammar → Form Leaf Suffix
any_suffix G = Choice symbol_of (suffix_at G)

-- "(" tokens with balanced round brackets ")": a call of __assert_fail, this project's own
unfoldable pub skipped_call : Form Leaf Suffix
skipped_call = Node (λ leaf u. suffix.Skipped leaf.place) (Skip round_brackets)

-- the brackets behind the name __assert_fail
abbrev pub opens_skipped : Bool → Leaf → Bool
opens_skipped asserts leaf = asserts && is terminal.LeftParen leaf

-- {suffix} behind a base. Where the base names __assert_fail, its call is skipped: here the look at
-- the next token is the grammar's own rule, since a plain call could stand there too
unfoldable pub suffixes : Grammar → Bool → Form Leaf (List Suffix)
suffixes G asserts =
    Node in_front (Pair (Nearest (opens_skipped asserts) skipped_call)
    (Many begins_suffix (any_suffix G)))

-- Word ; Number ; Character ; "(" comma ")" (C11 6.5.1)
unfoldable pub primary_at : Grammar → Symbol → Form Leaf Expression
primary_at G symbol.Name = Node (λ leaf u. expression.Name (name_of leaf u)) One
primary_at G (symbol.Number ty value) = Node (λ leaf u. expression.Number ty value leaf.place) One
primary_at G (symbol.Character value) = Node (λ leaf u. expression.Character value leaf.place) One
primary_at G (symbol.Terminal terminal.LeftParen) =
    Node (λ leaf inner. expression.Bracketed inner leaf.place)
    (Skip (Before (Deeper G.comma) (is terminal.RightParen)))
primary_at G _ = Nothing

abbrev pub primary : Grammar → Form Leaf Expression
primary G = Choice symbol_of (primary_at G)

-- primary {suffix} (C11 6.5.2)
unfoldable pub postfix : Grammar → Form Leaf Expression
postfix G = Node (λ leaf parts. suffixed leaf.place parts.0 parts.1)
    (Then (primary G) (λ base. suffixes G (names_assert base)))

-- + - ~ ! before a cast (C11 6.5.3)
unfoldable pub sign : UnaryOperator → Grammar → Form Leaf Expression
sign operator G = Node (unary_of operator) (Skip (Deeper G.cast))

-- ++ -- before a unary ; + - ~ ! before a cast ; postfix (C11 6.5.3)
unfoldable pub unary_at : Grammar → Symbol → Form Leaf Expression
unary_at G (symbol.Step operator) =
    Node (λ leaf operand. expression.PrefixStep operator operand leaf.place) (Skip (Deeper G.unary))
unary_at G (symbol.Binary binary.Add) = sign unary_operator.Plus G
unary_at G (symbol.Binary binary.Subtract) = sign unary_operator.Minus G
unary_at G (symbol.Terminal terminal.Tilde) = sign unary_operator.Complement G
unary_at G (symbol.Terminal terminal.Exclamation) = sign unary_operator.Not G
unary_at G _ = postfix G

unfoldable pub unary : Grammar → Form Leaf Expression
unary G = Choice symbol_of (unary_at G)

-- a word of a type
unfoldable pub type_word_at : Symbol → Form Leaf TypeWord
type_word_at (symbol.TypeWord word) = Node (λ leaf u. word) One
type_word_at _ = Nothing

-- the words of one type, without qualifiers
unfoldable pub words_of_type : Form Leaf TypeName
words_of_type = Node (λ leaf words. type_name'.Words words leaf.place)
    (Shaped is_type (Many is_type_word (Choice symbol_of type_word_at)))

-- a typedef name ; "enum" Word ; the words of one type (C11 6.7.7 in part)
unfoldable pub type_name_at : Symbol → Form Leaf TypeName
type_name_at (symbol.TypedefName named) =
    Node (λ leaf u. type_name'.Typedef named leaf.place) One
type_name_at (symbol.Terminal terminal.Enum) =
    Node (λ leaf tag. type_name'.Enum tag leaf.place) (Skip identifier)
type_name_at _ = words_of_type

unfoldable pub type_name : Form Leaf TypeName
type_name = Choice symbol_of type_name_at

-- type ")" cast
abbrev pub cast_part : Grammar → Form Leaf Group
cast_part G = Node (λ leaf parts. cast_group parts.0 parts.1)
    (Pair (Before (Deeper type_name) (is terminal.RightParen)) (Deeper G.cast))

-- behind "(": type words ")" cast ; comma ")" {suffix} (C11 6.5.4)
unfoldable pub group_at : Grammar → Symbol → Form Leaf Group
group_at G (symbol.TypeWord word) = cast_part G
group_at G (symbol.TypedefName named) = cast_part G
group_at G (symbol.Terminal terminal.Enum) = cast_part G
group_at G _ =
    Node (λ leaf parts. bracket_group parts.0 parts.1)
    (Then (Before (Deeper G.comma) (is terminal.RightParen))
    (λ inner. suffixes G (names_assert inner)))

-- "(" type words ")" cast ; unary (C11 6.5.4). What opens with "(" is looked at behind it
unfoldable pub cast_at : Grammar → Symbol → Form Leaf Expression
cast_at G (symbol.Terminal terminal.LeftParen) =
    Node group_of (Skip (Choice symbol_of (group_at G)))
cast_at G _ = unary G

unfoldable pub cast : Grammar → Form Leaf Expression
cast G = Choice symbol_of (cast_at G)

-- an operator and the operand behind it
unfoldable pub operand_at : Form Leaf Expression → Symbol → Form Leaf (BinaryOperator × Expression)
operand_at A (symbol.Binary operator) = Node (λ leaf right. (operator, right)) (Skip A)
operand_at A _ = Nothing

abbrev pub operand : Form Leaf Expression → Form Leaf (BinaryOperator × Expression)
operand A = Choice symbol_of (operand_at A)

-- operand {operator operand}: the chains from the tightest, 1, to the loosest, 10 (C11 6.5.5 to
-- 6.5.14)
unfoldable pub chain : ℕ → Grammar → Form Leaf Expression
chain zero G = cast G
chain (suc k) G =
    Node chain_of (Pair (chain k G) (Many (is_operator (suc k)) (operand (chain k G))))

-- chain ["?" comma ":" conditional] (C11 6.5.15)
unfoldable pub conditional : Grammar → Form Leaf Expression
conditional G = Node conditional_of (Pair (chain loosest G)
    (Perhaps (is terminal.Question) (Skip (Pair (Before (Deeper G.comma) (is terminal.Colon))
    (Deeper G.conditional)))))

-- an operator of assignment and the right side behind it
unfoldable pub right_side_at : Grammar → Symbol → Form Leaf (AssignmentOperator × Expression)
right_side_at G (symbol.Assign operator) =
    Node (λ leaf right. (operator, right)) (Skip (Deeper G.assignment))
right_side_at G _ = Nothing

abbrev pub right_side : Grammar → Form Leaf (AssignmentOperator × Expression)
right_side G = Choice symbol_of (right_side_at G)

-- an operator of assignment behind a unary
abbrev pub assigns_to : Expression → Leaf → Bool
assigns_to left leaf = is_unary left && is_assignment leaf

-- conditional ; unary operator assignment (C11 6.5.16). A unary before an operator of assignment is
-- its left side
unfoldable pub assignment : Grammar → Form Leaf Expression
assignment G = Node assignment_of (Then (conditional G)
    (λ left. Perhaps (assigns_to left) (right_side G)))

-- assignment {"," assignment} (C11 6.5.17)
unfoldable pub comma : Grammar → Form Leaf Expression
comma G = Node comma_of (Pair (assignment G) (Many (is terminal.Comma) (Skip (assignment G))))
