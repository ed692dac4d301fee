-- Expressions of the grammar written plainly are those of the grammar, where no token behind them
-- goes on.
use Rattle.std.specs.Prelude.{◌≡◌, ℕ, zero, suc, Bool, true, refl}
use Rattle.std.proofs.Common.{arith}
use Rattle.c_grammar_forms.specs.Forms.{Form}
use Rattle.c_laws.proofs.Closes.{Closes, no_token, closes_nothing, closes_one}
use Rattle.c_laws.proofs.Closes.{closes_such, closes_balanced}
use Rattle.c_laws.proofs.Closes.{closes_skip, closes_before, closes_pair, closes_then}
use Rattle.c_laws.proofs.Closes.{closes_node}
use Rattle.c_laws.proofs.Closes.{closes_shaped, closes_deeper, closes_choice, closes_many}
use Rattle.c_laws.proofs.Closes.{closes_perhaps, closes_nearest, starts_any, starts_many}
use Rattle.c_laws.proofs.Closes.{starts_perhaps}
use Rattle.c_grammar_symbols.specs.declared.words.Terminal.TheVariants as terminal
use Rattle.c_grammar_symbols.specs.declared.operators.BinaryOperator.TheVariants as binary
use Rattle.c_grammar_symbols.specs.declared.symbol.Symbol.{Symbol}
use Rattle.c_grammar_symbols.specs.declared.symbol.Symbol.TheVariants as symbol
use Rattle.c_grammar_symbols.specs.Symbols.{Leaf, symbol_of}
use Rattle.c_grammar_symbols.specs.Sources.{is}
use Rattle.c_grammar_tree.specs.declared.expression.Expression.{Expression}
use Rattle.c_grammar_tree.specs.Parts.{is_not, types, is_type_word, is_type, is_end, names_assert}
use Rattle.c_grammar_tree.specs.Parts.{is_name, is_operator, begins_suffix, loosest}
use Rattle.c_grammar_tree.specs.Nested.{Grammar}
use Rattle.c_grammar_tree.specs.Expressions.{identifier, round_brackets, assignments, arguments}
use Rattle.c_grammar_tree.specs.Expressions.{suffix_at}
use Rattle.c_grammar_tree.specs.Expressions.{skipped_call, opens_skipped, suffixes, primary_at}
use Rattle.c_grammar_tree.specs.Expressions.{postfix}
use Rattle.c_grammar_tree.specs.Expressions.{sign, unary_at, unary, type_word_at, type_name_at}
use Rattle.c_grammar_tree.specs.Expressions.{words_of_type, type_name, cast_part, group_at}
use Rattle.c_grammar_tree.specs.Expressions.{cast_at, cast, operand_at, chain, conditional}
use Rattle.c_grammar_tree.specs.Expressions.{right_side_at}
use Rattle.c_grammar_tree.specs.Expressions.{assigns_to, assignment, comma}
use Rattle.c_laws.proofs.GoesOn.{loose, goes_on, stops_at, is_none_of, open_at, closed_at}
use Rattle.c_laws.proofs.GoesOn.{tighter}
use Rattle.c_laws.proofs.GoesOn.{operator_parts, operator_ends, suffix_ends}
use Rattle.c_laws.proofs.GoesOn.{assignment_parts}
use Rattle.c_laws.proofs.GoesOn.{assignment_ends}

-- the nested forms so
pub record ClosedGrammar (G : Grammar) : Type 0 where
  pub comma : Closes G.comma (goes_on 13)
  pub assignment : Closes G.assignment (goes_on 12)
  pub conditional : Closes G.conditional (goes_on 11)
  pub cast : Closes G.cast (goes_on 0)
  pub unary : Closes G.unary (goes_on 0)
  pub list : Closes G.list no_token
  pub enumerator : Closes G.enumerator (goes_on 12)
  pub declaration : Closes G.declaration no_token
  pub statement : Closes G.statement no_token
  pub item : Closes G.item no_token

pub closes_identifier : {more : Leaf → Bool} → Closes identifier more
unfolding identifier
closes_identifier = closes_node _ (closes_such is_name)

pub closes_round_brackets : {more : Leaf → Bool} → Closes round_brackets more
closes_round_brackets = closes_balanced (is terminal.LeftParen) (is terminal.RightParen) is_end

closes_skipped_call : {more : Leaf → Bool} → Closes skipped_call more
unfolding skipped_call
closes_skipped_call = closes_node _ (closes_skip closes_round_brackets)

closes_type_word_at : {more : Leaf → Bool} (s : Symbol) → Closes (type_word_at s) more
unfolding type_word_at
closes_type_word_at (symbol.TypeWord word) = closes_node _ closes_one
closes_type_word_at _ = closes_nothing

closes_words_of_type : Closes words_of_type is_type_word
unfolding words_of_type
closes_words_of_type = closes_node _ (closes_shaped is_type
    (closes_many is_type_word _ {inner = no_token} (closes_choice symbol_of closes_type_word_at)
    (λ t e. refl) (λ t e. refl) (λ t e. e)))

closes_type_name_at : (s : Symbol) → Closes (type_name_at s) is_type_word
unfolding type_name_at
closes_type_name_at (symbol.TypedefName named) = closes_node _ closes_one
closes_type_name_at (symbol.Terminal terminal.Enum) =
    closes_node _ (closes_skip closes_identifier)
closes_type_name_at _ = closes_words_of_type

closes_type_name : Closes type_name is_type_word
unfolding type_name
closes_type_name = closes_choice symbol_of closes_type_name_at

closes_operand_at : {A : Form Leaf Expression} {more : Leaf → Bool} → Closes A more → (s : Symbol) →
    Closes (operand_at A s) more
unfolding operand_at
closes_operand_at c (symbol.Binary operator) = closes_node _ (closes_skip c)
closes_operand_at c _ = closes_nothing

module _ (G : Grammar) (c : ClosedGrammar G) where
  closes_assignments : Closes (assignments G) (goes_on 13)
  unfolding assignments
  closes_assignments =
      let parts = stops_at (loose 12) terminal.Comma refl in
      let less = tighter 12 13 (omega arith) in
      closes_node _ (closes_pair {inner = goes_on 12} (closes_deeper c.assignment)
      (closes_many (is terminal.Comma) _ {inner = goes_on 12}
      (closes_skip (closes_deeper c.assignment)) parts less
      (is_none_of (loose 13) terminal.Comma refl)) (starts_many (is terminal.Comma) _ parts less))

  pub closes_arguments : {more : Leaf → Bool} → Closes (arguments G) more
  unfolding arguments
  closes_arguments = closes_before {inner = is_not terminal.RightParen}
      (closes_node _ (closes_perhaps (is_not terminal.RightParen) {inner =
      goes_on 13} closes_assignments
      (closed_at (loose 13) terminal.RightParen refl) (λ t e. e))) (is terminal.RightParen)
      (open_at terminal.RightParen)

  closes_suffix_at : {more : Leaf → Bool} (s : Symbol) → Closes (suffix_at G s) more
  unfolding suffix_at
  closes_suffix_at (symbol.Terminal terminal.LeftBracket) = closes_node _ (closes_skip
      (closes_before {inner = goes_on 13} (closes_deeper c.comma) _
      (stops_at (loose 13) terminal.RightBracket refl)))
  closes_suffix_at (symbol.Terminal terminal.LeftParen) =
      closes_node _ (closes_skip closes_arguments)
  closes_suffix_at (symbol.Step operator) = closes_node _ closes_one
  closes_suffix_at _ = closes_nothing

  closes_suffixes : (asserts : Bool) → Closes (suffixes G asserts) (goes_on 0)
  unfolding suffixes
  closes_suffixes asserts = closes_node _ (closes_pair {inner = no_token}
      (closes_nearest (opens_skipped asserts) {inner = no_token} closes_skipped_call (λ t e. refl))
      (closes_many begins_suffix _ {inner = no_token} (closes_choice symbol_of closes_suffix_at)
      (λ t e. refl) (λ t e. refl)
      (λ t e. suffix_ends (symbol_of t) e)) starts_any)

  closes_primary_at : {more : Leaf → Bool} (s : Symbol) → Closes (primary_at G s) more
  unfolding primary_at
  closes_primary_at symbol.Name = closes_node _ closes_one
  closes_primary_at (symbol.Number ty value) = closes_node _ closes_one
  closes_primary_at (symbol.Character value) = closes_node _ closes_one
  closes_primary_at (symbol.Terminal terminal.LeftParen) = closes_node _ (closes_skip
      (closes_before {inner = goes_on 13} (closes_deeper c.comma) _
      (stops_at (loose 13) terminal.RightParen refl)))
  closes_primary_at _ = closes_nothing

  closes_postfix : Closes (postfix G) (goes_on 0)
  unfolding postfix
  closes_postfix =
      closes_node _ (closes_then {inner = no_token} (closes_choice symbol_of closes_primary_at)
      (λ base. closes_suffixes (names_assert base)) (λ base. starts_any))

  closes_unary_at : (s : Symbol) → Closes (unary_at G s) (goes_on 0)
  unfolding unary_at sign
  closes_unary_at (symbol.Step operator) = closes_node _ (closes_skip (closes_deeper c.unary))
  closes_unary_at (symbol.Binary binary.Add) = closes_node _ (closes_skip (closes_deeper c.cast))
  closes_unary_at (symbol.Binary binary.Subtract) =
      closes_node _ (closes_skip (closes_deeper c.cast))
  closes_unary_at (symbol.Terminal terminal.Tilde) =
      closes_node _ (closes_skip (closes_deeper c.cast))
  closes_unary_at (symbol.Terminal terminal.Exclamation) =
      closes_node _ (closes_skip (closes_deeper c.cast))
  closes_unary_at _ = closes_postfix

  pub closes_unary : Closes (unary G) (goes_on 0)
  unfolding unary
  closes_unary = closes_choice symbol_of closes_unary_at

  closes_cast_part : Closes (cast_part G) (goes_on 0)
  closes_cast_part = closes_node _ (closes_pair {inner = no_token}
      (closes_before {inner = is_type_word} (closes_deeper closes_type_name) _
      (stops_at types terminal.RightParen refl))
      (closes_deeper c.cast) starts_any)

  closes_group_at : (s : Symbol) → Closes (group_at G s) (goes_on 0)
  unfolding group_at
  closes_group_at (symbol.TypeWord word) = closes_cast_part
  closes_group_at (symbol.TypedefName named) = closes_cast_part
  closes_group_at (symbol.Terminal terminal.Enum) = closes_cast_part
  closes_group_at _ = closes_node _ (closes_then {inner = no_token}
      (closes_before {inner = goes_on 13} (closes_deeper c.comma) _
      (stops_at (loose 13) terminal.RightParen refl))
      (λ inner. closes_suffixes (names_assert inner)) (λ inner. starts_any))

  closes_cast_at : (s : Symbol) → Closes (cast_at G s) (goes_on 0)
  unfolding cast_at
  closes_cast_at (symbol.Terminal terminal.LeftParen) =
      closes_node _ (closes_skip (closes_choice symbol_of closes_group_at))
  closes_cast_at _ = closes_unary

  pub closes_cast : Closes (cast G) (goes_on 0)
  unfolding cast
  closes_cast = closes_choice symbol_of closes_cast_at

  closes_chain : (k : ℕ) → Closes (chain k G) (goes_on k)
  unfolding chain
  closes_chain zero = closes_cast
  closes_chain (suc k) =
      let parts = λ (t : Leaf) (e : is_operator (suc k) t ≡ true). operator_parts k
      (symbol_of t) e in
      let less = tighter k (suc k) (omega arith) in
      closes_node _ (closes_pair {inner = goes_on k} (closes_chain k)
      (closes_many (is_operator (suc k)) _ {inner = goes_on k}
      (closes_choice symbol_of (closes_operand_at (closes_chain k))) parts less
      (λ t e. operator_ends k (symbol_of t) e)) (starts_many (is_operator (suc k)) _ parts less))

  pub closes_conditional : Closes (conditional G) (goes_on 11)
  unfolding conditional
  closes_conditional = closes_node _ (closes_pair {inner = goes_on 10} (closes_chain loosest)
      (closes_perhaps (is terminal.Question) {inner = goes_on 11}
      (closes_skip (closes_pair {inner = no_token}
      (closes_before {inner = goes_on 13} (closes_deeper c.comma) _
      (stops_at (loose 13) terminal.Colon refl))
      (closes_deeper c.conditional) starts_any)) (λ t e. e)
      (is_none_of (loose 11) terminal.Question refl))
      (starts_perhaps (is terminal.Question) _ (stops_at (loose 10) terminal.Question refl)
      (tighter 10 11 (omega arith))))

  closes_right_side_at : (s : Symbol) → Closes (right_side_at G s) (goes_on 12)
  unfolding right_side_at
  closes_right_side_at (symbol.Assign operator) =
      closes_node _ (closes_skip (closes_deeper c.assignment))
  closes_right_side_at _ = closes_nothing

  pub closes_assignment : Closes (assignment G) (goes_on 12)
  unfolding assignment
  closes_assignment = closes_node _ (closes_then {inner = goes_on 11} closes_conditional
      (λ left. closes_perhaps (assigns_to left) {inner = goes_on 12}
      (closes_choice symbol_of closes_right_side_at)
      (λ t e. e) (assignment_ends left))
      (λ left. starts_perhaps (assigns_to left) _ (assignment_parts left)
      (tighter 11 12 (omega arith))))

  pub closes_comma : Closes (comma G) (goes_on 13)
  unfolding comma
  closes_comma =
      let parts = stops_at (loose 12) terminal.Comma refl in
      let less = tighter 12 13 (omega arith) in
      closes_node _ (closes_pair {inner = goes_on 12} closes_assignment
      (closes_many (is terminal.Comma) _ {inner = goes_on 12}
      (closes_skip closes_assignment) parts less
      (is_none_of (loose 13) terminal.Comma refl)) (starts_many (is terminal.Comma) _ parts less))
