-- An element of a list has a token at least, since an expression has.
use Rattle.std.specs.Prelude.{ℕ, zero, suc, ◌<◌}
use Rattle.c_grammar_forms.specs.Forms.{Deeper}
use Rattle.c_grammar_forms.specs.Reading.{Reads}
use Rattle.c_grammar_forms.specs.lemmas.Steady.{good_skip, good_pair, good_before, good_deeper}
use Rattle.c_grammar_forms.specs.lemmas.Steady.{good_choice}
use Rattle.c_grammar_forms.specs.lemmas.Steady.{good_perhaps, good_many}
use Rattle.c_grammar_forms.specs.lemmas.Loops.{Strict, strict_one, strict_such, strict_skip}
use Rattle.c_grammar_forms.specs.lemmas.Loops.{strict_first}
use Rattle.c_grammar_forms.specs.lemmas.Loops.{strict_node}
use Rattle.c_grammar_forms.specs.lemmas.Loops.{strict_choice}
use Rattle.c_grammar_symbols.specs.declared.words.Terminal.TheVariants as terminal
use Rattle.c_grammar_symbols.specs.declared.operators.BinaryOperator.TheVariants as binary
use Rattle.c_grammar_symbols.specs.declared.symbol.Symbol.{Symbol}
use Rattle.c_grammar_symbols.specs.declared.symbol.Symbol.TheVariants as symbol
use Rattle.c_grammar_symbols.specs.Symbols.{Leaf, symbol_of}
use Rattle.c_grammar_tree.specs.declared.expression.Expression.{Expression}
use Rattle.c_grammar_tree.specs.declared.expression.UnaryOperator.{UnaryOperator}
use Rattle.c_grammar_tree.specs.Parts.{names_assert, loosest}
use Rattle.c_grammar_tree.specs.Nested.{Grammar}
use Rattle.c_grammar_tree.specs.Grammar.{grammar}
use Rattle.c_grammar_tree.specs.Expressions.{primary_at, postfix, sign, unary, unary_at, cast}
use Rattle.c_grammar_tree.specs.Expressions.{cast_at}
use Rattle.c_grammar_tree.specs.Expressions.{chain, conditional, assignment}
use Rattle.c_grammar_tree.specs.declared.declaration.Enumerator.{Enumerator}
use Rattle.c_grammar_tree.specs.Declarations.{identifier, element, enumerator}
use Rattle.c_grammar_tree.specs.lemmas.OneReading.{GoodGrammar, good_suffixes, good_group_at}
use Rattle.c_grammar_tree.specs.lemmas.OneReading.{good_operand}
use Rattle.c_grammar_tree.specs.lemmas.OneReading.{good_chain, good_right_side_at}
use Rattle.c_grammar_tree.specs.lemmas.OneReadingOfText.{good_grammar, good_comma_or_end_at}
use Rattle.c_parser_declarations.specs.Forms.{listed_value, listed_enumerator}
use Rattle.c_parser_declarations.specs.lemmas.Readers.{strict_then_first}

module _ (G : Grammar) (g : GoodGrammar G G) where
  strict_primary_at : (s : Symbol) → Strict (primary_at G s)
  unfolding primary_at
  strict_primary_at symbol.Name = strict_node _ strict_one
  strict_primary_at (symbol.Number ty value) = strict_node _ strict_one
  strict_primary_at (symbol.Character value) = strict_node _ strict_one
  strict_primary_at (symbol.Terminal terminal.LeftParen) =
      strict_node _ (strict_skip (good_before (good_deeper g.comma) _))
  strict_primary_at _ = record { ahead = λ r. absurd r.never }

  strict_postfix : Strict (postfix G)
  unfolding postfix
  strict_postfix = strict_node _ (strict_then_first (strict_choice symbol_of strict_primary_at)
      (λ base. good_suffixes G G g (names_assert base)))

  strict_sign : (operator : UnaryOperator) → Strict (sign operator G)
  unfolding sign
  strict_sign operator = strict_node _ (strict_skip (good_deeper g.cast))

  strict_unary_at : (s : Symbol) → Strict (unary_at G s)
  unfolding unary_at
  strict_unary_at (symbol.Step operator) = strict_node _ (strict_skip (good_deeper g.unary))
  strict_unary_at (symbol.Binary binary.Add) = strict_sign _
  strict_unary_at (symbol.Binary binary.Subtract) = strict_sign _
  strict_unary_at (symbol.Terminal terminal.Tilde) = strict_sign _
  strict_unary_at (symbol.Terminal terminal.Exclamation) = strict_sign _
  strict_unary_at _ = strict_postfix

  strict_cast_at : (s : Symbol) → Strict (cast_at G s)
  unfolding cast_at unary
  strict_cast_at (symbol.Terminal terminal.LeftParen) =
      strict_node _ (strict_skip (good_choice symbol_of (good_group_at G G g)))
  strict_cast_at _ = strict_choice symbol_of strict_unary_at

  strict_chain : (k : ℕ) → Strict (chain k G)
  unfolding chain cast
  strict_chain zero = strict_choice symbol_of strict_cast_at
  strict_chain (suc k) = strict_node _ (strict_first (strict_chain k)
      (good_many _ (good_operand (good_chain G G g k))))

  strict_assignment : Strict (assignment G)
  unfolding assignment conditional
  strict_assignment = strict_node _ (strict_then_first
      (strict_node _ (strict_first (strict_chain loosest)
      (good_perhaps _ (good_skip (good_pair (good_before (good_deeper g.comma) _)
      (good_deeper g.conditional))))))
      (λ left. good_perhaps _ (good_choice symbol_of (good_right_side_at G G g))))

-- the same one level deeper
strict_deeper : (n : ℕ) → Strict (Deeper ((grammar n).assignment))
unfolding grammar
strict_deeper zero = record { ahead = λ r. absurd r.read.never }
strict_deeper (suc n) =
    record { ahead = λ r. (strict_assignment (grammar n) (good_grammar n n)).ahead r.read }

pub element_ahead : {at : ℕ → Leaf} {size left p : ℕ} {u : Expression} {q : ℕ} →
    Reads (λ n. listed_value (grammar n)) at size left p u q → p < q
unfolding element
element_ahead {left = left} r =
    (strict_first (strict_deeper left) (good_choice symbol_of good_comma_or_end_at)).ahead
    ((r.reading 0).read)

strict_enumerator : (n : ℕ) → Strict (Deeper ((grammar n).enumerator))
unfolding grammar enumerator identifier
strict_enumerator zero = record { ahead = λ r. absurd r.read.never }
strict_enumerator (suc n) = record {
  ahead = λ r. (strict_first (strict_node _ (strict_such _))
      (good_perhaps _ (good_skip (good_deeper ((good_grammar n n).conditional))))).ahead
      r.read.read;
}

pub enumerator_ahead : {at : ℕ → Leaf} {size left p : ℕ} {u : Enumerator} {q : ℕ} →
    Reads (λ n. listed_enumerator (grammar n)) at size left p u q → p < q
unfolding element
enumerator_ahead {left = left} r =
    (strict_first (strict_enumerator left) (good_choice symbol_of good_comma_or_end_at)).ahead
    ((r.reading 0).read)
