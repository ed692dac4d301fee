-- Readings of chains, conditionals, assignments and commas from readings of their parts, and none
-- where a part has none.
use Rattle.std.specs.Prelude.{◌≡◌, ◌≢◌, ℕ, suc, ◌+◌, true, false, List, [], ◌∷◌, refl}
use Rattle.std.proofs.Common.{sym, ap, subst}
use Rattle.c_grammar_forms.specs.Forms.{Skip, Before, Pair, Deeper, Choice, Many, Perhaps}
use Rattle.c_grammar_forms.specs.Reading.{Reads, NoneThrough}
use Rattle.c_grammar_forms.specs.lemmas.Found.{reads_node, reads_pair, reads_then, reads_skip}
use Rattle.c_grammar_forms.specs.lemmas.Found.{reads_choice}
use Rattle.c_grammar_forms.specs.lemmas.Found.{reads_no, reads_one_more, reads_end}
use Rattle.c_grammar_forms.specs.lemmas.NotFound.{none_node, none_first, none_second, none_then}
use Rattle.c_grammar_forms.specs.lemmas.NotFound.{none_then_first, none_skip, none_choice}
use Rattle.c_grammar_forms.specs.lemmas.NotFound.{none_perhaps}
use Rattle.c_grammar_forms.specs.lemmas.NotFound.{none_before, none_before_here}
use Rattle.c_grammar_symbols.specs.declared.words.Terminal.TheVariants as terminal
use Rattle.c_grammar_symbols.specs.declared.operators.AssignmentOperator.{AssignmentOperator}
use Rattle.c_grammar_symbols.specs.declared.operators.BinaryOperator.{BinaryOperator}
use Rattle.c_grammar_symbols.specs.declared.symbol.Symbol.TheVariants as symbol
use Rattle.c_grammar_symbols.specs.Symbols.{Leaf, symbol_of}
use Rattle.c_grammar_symbols.specs.Sources.{is}
use Rattle.c_grammar_tree.specs.declared.expression.Expression.{Expression}
use Rattle.c_grammar_tree.specs.declared.expression.Expression.TheVariants as expression
use Rattle.c_grammar_tree.specs.Parts.{loosest}
use Rattle.c_grammar_tree.specs.Grammar.{grammar}
use Rattle.c_grammar_tree.specs.Expressions.{comma, comma_of, assignment, assignment_of, assigns_to}
use Rattle.c_grammar_tree.specs.Expressions.{right_side_at, conditional, conditional_of, chain}
use Rattle.c_grammar_tree.specs.Expressions.{chain_of}
use Rattle.c_grammar_tree.specs.Expressions.{operand_at, operand}
use Rattle.c_parser_expressions.specs.Steps.{more_items, operands}
use Rattle.c_grammar_tree.specs.lemmas.Levels.{steady_deeper_comma}
use Rattle.c_parser_expressions.proofs.Readers.{none_made, tail, reads_tail, goes_not_empty}
use Rattle.c_parser_expressions.proofs.Steadies.{steady_assignment, steady_conditional}
use Rattle.c_parser_expressions.proofs.Steadies.{steady_chain}
use Rattle.c_parser_expressions.proofs.Steadies.{steady_closed_comma}

comma_made : (leaf : Leaf) (u : Expression) (rest items : List Expression) → items ≡ u ∷ rest →
    (rest ≡ [] → ⊥) →
    expression.Comma items leaf.place ≡ comma_of leaf (u, rest)
comma_made leaf u [] items e some = absurd (some refl)
comma_made leaf u (v ∷ vs) items e some = ap (λ list. expression.Comma list leaf.place) e

chain_made : (leaf : Leaf) (u : Expression) (us : List (BinaryOperator × Expression)) → us ≢ [] →
    expression.Chain leaf.place u us ≡ chain_of leaf (u, us)
chain_made leaf u [] some = absurd (some refl)
chain_made leaf u (v ∷ vs) some = refl

module _ {at : ℕ → Leaf} {size left p : ℕ} where
  pub comma_none : {i : ℕ} → NoneThrough (λ n. assignment (grammar n)) at size left p i →
      NoneThrough (λ n. comma (grammar n)) at size left p i
  unfolding comma
  comma_none g = none_node _ (none_first _ g)

  pub comma_alone : {u : Expression} {m : ℕ} → Reads (λ n. assignment (grammar n)) at size left p u
      m → is terminal.Comma (at m) ≡ false →
      Reads (λ n. comma (grammar n)) at size left p u m
  unfolding comma
  comma_alone r stops = reads_node comma_of refl (reads_pair r
      (reads_end (λ n. Skip (assignment (grammar n))) (is terminal.Comma) stops r.within))

  pub comma_rest_none : {u : Expression} {m i : ℕ} →
      Reads (λ n. assignment (grammar n)) at size left p u m →
      NoneThrough (λ n. more_items u (grammar n)) at size left m i →
      NoneThrough (λ n. comma (grammar n)) at size left p i
  unfolding comma
  comma_rest_none {u} r g =
      none_node _ (none_second steady_assignment r (none_made (λ leaf rest. u ∷ rest) g))

  pub comma_many : {u : Expression} {m : ℕ} {items : List Expression} {q : ℕ} →
      Reads (λ n. assignment (grammar n)) at size left p u m →
      is terminal.Comma (at m) ≡ true → Reads (λ n. more_items u (grammar n)) at size left
      m items q →
      Reads (λ n. comma (grammar n)) at size left p (expression.Comma items (at p).place) q
  unfolding comma
  comma_many {u} {m} {items} {q} r goes s =
      let t = reads_tail {first = u} s in
      let some = λ (e : tail items ≡ []). goes_not_empty (is terminal.Comma)
      (λ n. Skip (assignment (grammar n))) {at = at} {size = size} {left = left} {p = m}
      {q = q} goes
      (subst (λ rest. Reads (λ n. Many (is terminal.Comma) (Skip (assignment (grammar n)))) at size
      left m rest q) e t.1) in
      reads_node comma_of (comma_made (at p) u (tail items) items t.0 some) (reads_pair r t.1)

  -- a chain that is not the tightest
  module _ {rank : ℕ} (k : ℕ) (e : rank ≡ suc k) where
    pub chain_none : {i : ℕ} → NoneThrough (λ n. chain k (grammar n)) at size left p i →
        NoneThrough (λ n. chain rank (grammar n)) at size left p i
    unfolding chain
    chain_none {i} g = subst (λ j. NoneThrough (λ n. chain j (grammar n)) at size left p i) (sym e)
        (none_node {A = λ n. Pair (chain k (grammar n)) (operands k (grammar n))} chain_of
        (none_first _ g))

    pub chain_rest_none : {u : Expression} {m i : ℕ} →
        Reads (λ n. chain k (grammar n)) at size left p u m →
        NoneThrough (λ n. operands k (grammar n)) at size left m i →
        NoneThrough (λ n. chain rank (grammar n)) at size left p i
    unfolding chain
    chain_rest_none {i = i} r g =
        subst (λ j. NoneThrough (λ n. chain j (grammar n)) at size left p i) (sym e)
        (none_node {A = λ n. Pair (chain k (grammar n)) (operands k (grammar n))} chain_of
        (none_second (steady_chain k) r g))

    pub chain_alone : {u : Expression} {m : ℕ} {us : List (BinaryOperator × Expression)} {q : ℕ} →
        Reads (λ n. chain k (grammar n)) at size left p u m →
        Reads (λ n. operands k (grammar n)) at size left m us q → us ≡ [] →
        Reads (λ n. chain rank (grammar n)) at size left p u q
    unfolding chain
    chain_alone {u} {q = q} r s none =
        subst (λ j. Reads (λ n. chain j (grammar n)) at size left p u q) (sym e)
        (reads_node {A = λ n. Pair (chain k (grammar n)) (operands k (grammar n))} chain_of
        (ap (λ list. chain_of (at p) (u, list)) (sym none)) (reads_pair r s))

    pub chain_many : {u : Expression} {m : ℕ} {us : List (BinaryOperator × Expression)} {q : ℕ} →
        Reads (λ n. chain k (grammar n)) at size left p u m →
        Reads (λ n. operands k (grammar n)) at size left m us q → us ≢ [] →
        Reads (λ n. chain rank (grammar n)) at size left p (expression.Chain (at p).place u us) q
    unfolding chain
    chain_many {u} {us = us} {q = q} r s some =
        subst (λ j. Reads (λ n. chain j (grammar n)) at size left p
        (expression.Chain (at p).place u us) q) (sym e)
        (reads_node {A = λ n. Pair (chain k (grammar n)) (operands k (grammar n))} chain_of
        (chain_made (at p) u us some) (reads_pair r s))

  pub conditional_none : {i : ℕ} → NoneThrough (λ n. chain loosest (grammar n)) at size left p i →
      NoneThrough (λ n. conditional (grammar n)) at size left p i
  unfolding conditional
  conditional_none g = none_node _ (none_first _ g)

  pub conditional_alone : {u : Expression} {m : ℕ} →
      Reads (λ n. chain loosest (grammar n)) at size left p u m →
      is terminal.Question (at m) ≡ false →
      Reads (λ n. conditional (grammar n)) at size left p u m
  unfolding conditional
  conditional_alone r stops = reads_node conditional_of refl (reads_pair r (reads_no
      (λ n. Skip (Pair (Before (Deeper ((grammar n).comma)) (is terminal.Colon))
      (Deeper ((grammar n).conditional)))) (is terminal.Question) stops r.within))

  module _ {u : Expression} {m : ℕ} (r : Reads (λ n. chain loosest (grammar n)) at size left p u m)
      (goes : is terminal.Question (at m) ≡ true) where
    pub conditional_none_yes : {i : ℕ} → NoneThrough (λ n. Deeper ((grammar n).comma)) at size left
        (m + 1) i → NoneThrough (λ n. conditional (grammar n)) at size left p i
    unfolding conditional
    conditional_none_yes g =
        none_node _ (none_second (steady_chain loosest) r (none_perhaps (is terminal.Question) goes
        (none_skip (none_first _ (none_before _ g)))))

    pub conditional_no_colon : {v : Expression} {k : ℕ} →
        Reads (λ n. Deeper ((grammar n).comma)) at size left (m + 1) v k →
        is terminal.Colon (at k) ≡ false →
        NoneThrough (λ n. conditional (grammar n)) at size left p k
    unfolding conditional
    conditional_no_colon s fails = none_node _ (none_second (steady_chain loosest) r
        (none_perhaps (is terminal.Question) goes (none_skip
        (none_first _ (none_before_here _ steady_deeper_comma s fails)))))

    pub conditional_none_no : {v : Expression} {j i : ℕ} →
        Reads (λ n. Before (Deeper ((grammar n).comma)) (is terminal.Colon)) at size left
        (m + 1) v j →
        NoneThrough (λ n. Deeper ((grammar n).conditional)) at size left j i →
        NoneThrough (λ n. conditional (grammar n)) at size left p i
    unfolding conditional
    conditional_none_no s g = none_node _ (none_second (steady_chain loosest) r
        (none_perhaps (is terminal.Question) goes (none_skip
        (none_second (steady_closed_comma terminal.Colon) s g))))

    pub conditional_whole : {v : Expression} {j : ℕ} {x : Expression} {q : ℕ} →
        Reads (λ n. Before (Deeper ((grammar n).comma)) (is terminal.Colon)) at size left
        (m + 1) v j → Reads (λ n. Deeper ((grammar n).conditional)) at size left j x q →
        Reads (λ n. conditional (grammar n)) at size left p
        (expression.Conditional u v x (at p).place) q
    unfolding conditional
    conditional_whole s t = reads_node conditional_of refl (reads_pair r
        (reads_one_more (is terminal.Question) goes (reads_skip (reads_pair s t))))

  pub assignment_none : {i : ℕ} → NoneThrough (λ n. conditional (grammar n)) at size left p i →
      NoneThrough (λ n. assignment (grammar n)) at size left p i
  unfolding assignment
  assignment_none g = none_node _ (none_then_first _ g)

  pub assignment_alone : {u : Expression} {m : ℕ} →
      Reads (λ n. conditional (grammar n)) at size left p u m → assigns_to u (at m) ≡ false →
      Reads (λ n. assignment (grammar n)) at size left p u m
  unfolding assignment
  assignment_alone {u} r stops = reads_node assignment_of refl
      (reads_then (λ n left. Perhaps (assigns_to left)
      (Choice symbol_of (right_side_at (grammar n)))) r
      (reads_no (λ n. Choice symbol_of (right_side_at (grammar n))) (assigns_to u) stops r.within))

  module _ {u : Expression} {m : ℕ} {op : AssignmentOperator}
      (r : Reads (λ n. conditional (grammar n)) at size left p u m)
      (goes : assigns_to u (at m) ≡ true) (e : symbol_of (at m) ≡ symbol.Assign op) where
    pub assignment_none_right : {i : ℕ} → NoneThrough (λ n. Deeper ((grammar n).assignment)) at size
        left (m + 1) i → NoneThrough (λ n. assignment (grammar n)) at size left p i
    unfolding assignment right_side_at
    assignment_none_right g = none_node _ (none_then
        (λ n left. Perhaps (assigns_to left) (Choice symbol_of (right_side_at (grammar n))))
        steady_conditional r (none_perhaps (assigns_to u) goes
        (none_choice symbol_of (λ n. right_side_at (grammar n)) e (none_node _ (none_skip g)))))

    pub assignment_whole : {v : Expression} {q : ℕ} →
        Reads (λ n. Deeper ((grammar n).assignment)) at size left (m + 1) v q →
        Reads (λ n. assignment (grammar n)) at size left p
        (expression.Assignment u op v (at p).place) q
    unfolding assignment right_side_at
    assignment_whole s = reads_node assignment_of refl
        (reads_then (λ n left. Perhaps (assigns_to left)
        (Choice symbol_of (right_side_at (grammar n)))) r
        (reads_one_more (assigns_to u) goes
        (reads_choice symbol_of (λ n. right_side_at (grammar n)) e
        (reads_node (λ leaf right. (op, right)) refl (reads_skip s)))))

-- an operand of a chain, behind its operator
module _ {at : ℕ → Leaf} {size left m : ℕ} where
  pub operand_none : (k : ℕ) {i : ℕ} {op : BinaryOperator} → symbol_of (at m) ≡ symbol.Binary op →
      NoneThrough (λ n. chain k (grammar n)) at size left (m + 1) i →
      NoneThrough (λ n. operand (chain k (grammar n))) at size left m i
  unfolding operand_at
  operand_none k e g =
      none_choice symbol_of (λ n. operand_at (chain k (grammar n))) e (none_node _ (none_skip g))

  pub operand_read : (k : ℕ) {op : BinaryOperator} {u : Expression} {q : ℕ} →
      symbol_of (at m) ≡ symbol.Binary op →
      Reads (λ n. chain k (grammar n)) at size left (m + 1) u q →
      Reads (λ n. operand (chain k (grammar n))) at size left m (op, u) q
  unfolding operand_at
  operand_read k {op = op} e r = reads_choice symbol_of (λ n. operand_at (chain k (grammar n))) e
      (reads_node (λ leaf right. (op, right)) refl (reads_skip r))
