-- Lemmas: each form of the grammar has one reading at a place, and the tokens up to its end decide
-- it.
use Rattle.std.specs.Prelude.{ℕ, zero, suc, Bool}
use Rattle.c_grammar_forms.specs.Forms.{Form}
use Rattle.c_grammar_forms.specs.lemmas.Steady.{Good, good_nothing, good_one, good_such, good_skip}
use Rattle.c_grammar_forms.specs.lemmas.Steady.{good_before}
use Rattle.c_grammar_forms.specs.lemmas.Steady.{good_pair, good_then, good_node, good_shaped}
use Rattle.c_grammar_forms.specs.lemmas.Steady.{good_deeper}
use Rattle.c_grammar_forms.specs.lemmas.Steady.{good_choice, good_perhaps, good_nearest, good_many}
use Rattle.c_grammar_forms.specs.lemmas.Steady.{good_balanced}
use Rattle.c_grammar_symbols.specs.declared.words.Terminal.TheVariants as terminal
use Rattle.c_grammar_symbols.specs.declared.operators.BinaryOperator.TheVariants as binary
use Rattle.c_grammar_symbols.specs.declared.symbol.Symbol.{Symbol}
use Rattle.c_grammar_symbols.specs.declared.symbol.Symbol.TheVariants as symbol
use Rattle.c_grammar_symbols.specs.Symbols.{Leaf, symbol_of}
use Rattle.c_grammar_symbols.specs.Sources.{is}
use Rattle.c_grammar_tree.specs.declared.expression.Expression.{Expression}
use Rattle.c_grammar_tree.specs.Parts.{is_type_word, is_type, is_end, names_assert, loosest}
use Rattle.c_grammar_tree.specs.Nested.{Grammar}
use Rattle.c_grammar_tree.specs.Expressions.{identifier, round_brackets, assignments, arguments}
use Rattle.c_grammar_tree.specs.Expressions.{suffix_at}
use Rattle.c_grammar_tree.specs.Expressions.{skipped_call, suffixes, primary_at, postfix, sign}
use Rattle.c_grammar_tree.specs.Expressions.{unary_at}
use Rattle.c_grammar_tree.specs.Expressions.{unary, type_word_at, words_of_type, type_name_at}
use Rattle.c_grammar_tree.specs.Expressions.{type_name, cast_part, group_at}
use Rattle.c_grammar_tree.specs.Expressions.{cast_at}
use Rattle.c_grammar_tree.specs.Expressions.{cast}
use Rattle.c_grammar_tree.specs.Expressions.{operand_at, operand, chain, conditional, right_side_at}
use Rattle.c_grammar_tree.specs.Expressions.{assignment, comma}

-- the nested forms of two grammars, pair by pair
pub record GoodGrammar (G H : Grammar) : Type 0 where
  pub comma : Good G.comma H.comma
  pub assignment : Good G.assignment H.assignment
  pub conditional : Good G.conditional H.conditional
  pub cast : Good G.cast H.cast
  pub unary : Good G.unary H.unary
  pub list : Good G.list H.list
  pub enumerator : Good G.enumerator H.enumerator
  pub declaration : Good G.declaration H.declaration
  pub statement : Good G.statement H.statement
  pub item : Good G.item H.item

pub good_identifier : Good identifier identifier
unfolding identifier
good_identifier = good_node _ (good_such _)

pub good_round_brackets : Good round_brackets round_brackets
good_round_brackets = good_balanced (is terminal.LeftParen) (is terminal.RightParen) is_end

pub good_skipped_call : Good skipped_call skipped_call
unfolding skipped_call
good_skipped_call = good_node _ (good_skip good_round_brackets)

pub good_type_word_at : (s : Symbol) → Good (type_word_at s) (type_word_at s)
unfolding type_word_at
good_type_word_at (symbol.TypeWord word) = good_node _ good_one
good_type_word_at _ = good_nothing

pub good_words_of_type : Good words_of_type words_of_type
unfolding words_of_type
good_words_of_type = good_node _ (good_shaped is_type (good_many is_type_word
    (good_choice symbol_of good_type_word_at)))

good_type_name_at : (s : Symbol) → Good (type_name_at s) (type_name_at s)
unfolding type_name_at
good_type_name_at (symbol.TypedefName named) = good_node _ good_one
good_type_name_at (symbol.Terminal terminal.Enum) = good_node _ (good_skip good_identifier)
good_type_name_at _ = good_words_of_type

pub good_type_name : Good type_name type_name
unfolding type_name
good_type_name = good_choice symbol_of good_type_name_at

good_operand_at : {A B : Form Leaf Expression} → Good A B → (s : Symbol) →
    Good (operand_at A s) (operand_at B s)
unfolding operand_at
good_operand_at g (symbol.Binary operator) = good_node _ (good_skip g)
good_operand_at g _ = good_nothing

pub good_operand : {A B : Form Leaf Expression} → Good A B → Good (operand A) (operand B)
good_operand g = good_choice symbol_of (good_operand_at g)

module _ (G H : Grammar) (g : GoodGrammar G H) where
  pub good_assignments : Good (assignments G) (assignments H)
  unfolding assignments
  good_assignments = good_node _ (good_pair (good_deeper g.assignment)
      (good_many _ (good_skip (good_deeper g.assignment))))

  pub good_arguments : Good (arguments G) (arguments H)
  unfolding arguments
  good_arguments = good_before (good_node _ (good_perhaps _ good_assignments)) _

  pub good_suffix_at : (s : Symbol) → Good (suffix_at G s) (suffix_at H s)
  unfolding suffix_at
  good_suffix_at (symbol.Terminal terminal.LeftBracket) =
      good_node _ (good_skip (good_before (good_deeper g.comma) _))
  good_suffix_at (symbol.Terminal terminal.LeftParen) = good_node _ (good_skip good_arguments)
  good_suffix_at (symbol.Step operator) = good_node _ good_one
  good_suffix_at _ = good_nothing

  pub good_suffixes : (asserts : Bool) → Good (suffixes G asserts) (suffixes H asserts)
  unfolding suffixes
  good_suffixes asserts =
      good_node _ (good_pair (good_nearest _ good_skipped_call)
      (good_many _ (good_choice symbol_of good_suffix_at)))

  pub good_primary_at : (s : Symbol) → Good (primary_at G s) (primary_at H s)
  unfolding primary_at
  good_primary_at symbol.Name = good_node _ good_one
  good_primary_at (symbol.Number ty value) = good_node _ good_one
  good_primary_at (symbol.Character value) = good_node _ good_one
  good_primary_at (symbol.Terminal terminal.LeftParen) =
      good_node _ (good_skip (good_before (good_deeper g.comma) _))
  good_primary_at _ = good_nothing

  pub good_postfix : Good (postfix G) (postfix H)
  unfolding postfix
  good_postfix = good_node _ (good_then (good_choice symbol_of good_primary_at)
      (λ base. good_suffixes (names_assert base)))

  pub good_unary_at : (s : Symbol) → Good (unary_at G s) (unary_at H s)
  unfolding unary_at sign
  good_unary_at (symbol.Step operator) = good_node _ (good_skip (good_deeper g.unary))
  good_unary_at (symbol.Binary binary.Add) = good_node _ (good_skip (good_deeper g.cast))
  good_unary_at (symbol.Binary binary.Subtract) = good_node _ (good_skip (good_deeper g.cast))
  good_unary_at (symbol.Terminal terminal.Tilde) = good_node _ (good_skip (good_deeper g.cast))
  good_unary_at (symbol.Terminal terminal.Exclamation) =
      good_node _ (good_skip (good_deeper g.cast))
  good_unary_at _ = good_postfix

  pub good_unary : Good (unary G) (unary H)
  unfolding unary
  good_unary = good_choice symbol_of good_unary_at

  good_cast_part : Good (cast_part G) (cast_part H)
  good_cast_part =
      good_node _ (good_pair (good_before (good_deeper good_type_name) _) (good_deeper g.cast))

  pub good_group_at : (s : Symbol) → Good (group_at G s) (group_at H s)
  unfolding group_at
  good_group_at (symbol.TypeWord word) = good_cast_part
  good_group_at (symbol.TypedefName named) = good_cast_part
  good_group_at (symbol.Terminal terminal.Enum) = good_cast_part
  good_group_at _ = good_node _ (good_then (good_before (good_deeper g.comma) _)
      (λ inner. good_suffixes (names_assert inner)))

  pub good_cast_at : (s : Symbol) → Good (cast_at G s) (cast_at H s)
  unfolding cast_at
  good_cast_at (symbol.Terminal terminal.LeftParen) =
      good_node _ (good_skip (good_choice symbol_of good_group_at))
  good_cast_at _ = good_unary

  pub good_cast : Good (cast G) (cast H)
  unfolding cast
  good_cast = good_choice symbol_of good_cast_at

  pub good_chain : (k : ℕ) → Good (chain k G) (chain k H)
  unfolding chain
  good_chain zero = good_cast
  good_chain (suc k) =
      good_node _ (good_pair (good_chain k) (good_many _ (good_operand (good_chain k))))

  pub good_conditional : Good (conditional G) (conditional H)
  unfolding conditional
  good_conditional = good_node _ (good_pair (good_chain loosest)
      (good_perhaps _ (good_skip (good_pair (good_before (good_deeper g.comma) _)
      (good_deeper g.conditional)))))

  pub good_right_side_at : (s : Symbol) → Good (right_side_at G s) (right_side_at H s)
  unfolding right_side_at
  good_right_side_at (symbol.Assign operator) = good_node _ (good_skip (good_deeper g.assignment))
  good_right_side_at _ = good_nothing

  pub good_assignment : Good (assignment G) (assignment H)
  unfolding assignment
  good_assignment = good_node _ (good_then good_conditional
      (λ left. good_perhaps _ (good_choice symbol_of good_right_side_at)))

  pub good_comma : Good (comma G) (comma H)
  unfolding comma
  good_comma = good_node _ (good_pair good_assignment (good_many _ (good_skip good_assignment)))
