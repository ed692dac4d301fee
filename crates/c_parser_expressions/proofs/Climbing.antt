-- A reading of a chain in front of no looser operator is one of each looser chain, and where a
-- chain has none no looser one has: what is read of a chain, from the tightest operators on.
use Rattle.std.specs.Prelude.{◌≡◌, ℕ, zero, suc, ◌+◌, ◌-◌, ◌<◌, ◌≤◌, true, false, List, refl}
use Rattle.std.proofs.Common.{subst, arith}
use Rattle.c_grammar_forms.specs.Reading.{Reads, NoneThrough}
use Rattle.c_grammar_forms.specs.lemmas.Found.{reads_end}
use Rattle.c_grammar_symbols.specs.declared.operators.BinaryOperator.{BinaryOperator}
use Rattle.c_grammar_symbols.specs.Symbols.{Leaf, symbol_of}
use Rattle.c_grammar_tree.specs.declared.expression.Expression.{Expression}
use Rattle.c_grammar_tree.specs.declared.expression.Expression.TheVariants as expression
use Rattle.c_grammar_tree.specs.Parts.{is_operator}
use Rattle.c_grammar_tree.specs.Grammar.{grammar}
use Rattle.c_grammar_tree.specs.Expressions.{cast, chain, operand}
use Rattle.c_parser_expressions.specs.Steps.{operands}
use Rattle.c_parser_expressions.proofs.Readers.{goes_not_empty}
use Rattle.c_parser_expressions.proofs.Arms.{binds_no_tighter}
use Rattle.c_parser_expressions.proofs.Productions.{chain_none, chain_rest_none, chain_alone}
use Rattle.c_parser_expressions.proofs.Productions.{chain_many}

module _ {at : ℕ → Leaf} {size left p : ℕ} where
  one_looser : {rank : ℕ} (k : ℕ) → rank ≡ suc k → {u : Expression} {m : ℕ} →
      Reads (λ n. chain k (grammar n)) at size left p u m → is_operator rank (at m) ≡ false →
      Reads (λ n. chain rank (grammar n)) at size left p u m
  one_looser k e {m = m} r stops = chain_alone k e r
      (reads_end (λ n. operand (chain k (grammar n))) (is_operator (suc k))
      (subst (λ j. is_operator j (at m) ≡ false) e stops) r.within) refl

  some_looser : (d : ℕ) {k rank : ℕ} → rank ≡ d + k → {u : Expression} {m : ℕ} →
      Reads (λ n. chain k (grammar n)) at size left p u m →
      ((j : ℕ) → k < j → j ≤ rank → is_operator j (at m) ≡ false) →
      Reads (λ n. chain rank (grammar n)) at size left p u m
  some_looser zero {k} {rank} e {u} {m} r stops =
      let here : k ≡ rank = omega (arith, e) in
      subst (λ j. Reads (λ n. chain j (grammar n)) at size left p u m) here r
  some_looser (suc d) {k} {rank} e r stops = one_looser (d + k) (omega (arith, e))
      (some_looser d refl r (λ j above below. stops j above (omega (arith, below, e))))
      (stops rank (omega (arith, e)) (omega arith))

  some_none : (d k : ℕ) {rank i : ℕ} → rank ≡ d + k →
      NoneThrough (λ n. chain k (grammar n)) at size left p i →
      NoneThrough (λ n. chain rank (grammar n)) at size left p i
  some_none zero k {rank} {i} e g =
      let here : k ≡ rank = omega (arith, e) in
      subst (λ j. NoneThrough (λ n. chain j (grammar n)) at size left p i) here g
  some_none (suc d) k e g = chain_none (d + k) (omega (arith, e)) (some_none d k refl g)

  -- no operator between the two numbers stands behind the chain
  pub looser : {k rank : ℕ} {u : Expression} {m : ℕ} → k ≤ rank →
      Reads (λ n. chain k (grammar n)) at size left p u m →
      ((j : ℕ) → k < j → j ≤ rank → is_operator j (at m) ≡ false) →
      Reads (λ n. chain rank (grammar n)) at size left p u m
  looser {k} {rank} most r stops = some_looser (rank - k) (omega (arith, most)) r stops

  looser_none : {k rank i : ℕ} → k ≤ rank →
      NoneThrough (λ n. chain k (grammar n)) at size left p i →
      NoneThrough (λ n. chain rank (grammar n)) at size left p i
  looser_none {k} {rank} most g = some_none (rank - k) k (omega (arith, most)) g

  -- the tightest chain is a cast
  pub tightest : {u : Expression} {m : ℕ} → Reads (λ n. cast (grammar n)) at size left p u m →
      Reads (λ n. chain 0 (grammar n)) at size left p u m
  unfolding chain
  tightest r = r

  tightest_none : {i : ℕ} → NoneThrough (λ n. cast (grammar n)) at size left p i →
      NoneThrough (λ n. chain 0 (grammar n)) at size left p i
  unfolding chain
  tightest_none g = g

  pub climb_none : (rank : ℕ) {i : ℕ} → NoneThrough (λ n. cast (grammar n)) at size left p i →
      NoneThrough (λ n. chain rank (grammar n)) at size left p i
  climb_none rank g = looser_none (omega arith) (tightest_none g)

  -- behind a chain stands a looser operator, and so none between the two
  module _ {k next : ℕ} (j : ℕ) (e : next ≡ suc j) {u : Expression} {m : ℕ} (above : k < next)
      (goes : is_operator next (at m) ≡ true)
      (r : Reads (λ n. chain k (grammar n)) at size left p u m) where
    first_operand : Reads (λ n. chain j (grammar n)) at size left p u m
    first_operand = looser (omega (arith, above, e)) r
        (λ i over under. binds_no_tighter i next (symbol_of (at m)) goes (omega (arith, under, e)))

    pub link_none : {rank i : ℕ} → next ≤ rank →
        NoneThrough (λ n. operands j (grammar n)) at size left m i →
        NoneThrough (λ n. chain rank (grammar n)) at size left p i
    link_none most g = looser_none most (chain_rest_none j e first_operand g)

    pub link_read : {us : List (BinaryOperator × Expression)} {q : ℕ} →
        Reads (λ n. operands j (grammar n)) at size left m us q →
        Reads (λ n. chain next (grammar n)) at size left p (expression.Chain (at p).place u us) q
    link_read {us} {q} s = chain_many j e first_operand s (λ none.
        goes_not_empty (is_operator (suc j)) (λ n. operand (chain j (grammar n))) {at = at}
        {size = size} {left = left} {p = m} {q = q}
        (subst (λ x. is_operator x (at m) ≡ true) e goes)
        (subst (λ rest. Reads (λ n. operands j (grammar n)) at size left m rest q) none s))
