use Rattle.std.proofs.Common.{sym, ◌∙◌, arith}
use Rattle.std.proofs.lemmas.Bool.{or_cases}
use Rattle.std.proofs.Common.{inl, inr}
use Rattle.cpa_cnf.specs.Clauses.{has}
use Rattle.cpa_cnf.specs.Marking.{marked}
use Rattle.cpa_cnf.specs.lemmas.Members.{has-at, has-take, or_true_left, or_true_right}
use Rattle.cpa_cnf.specs.lemmas.Marking.{marks_next}
use Rattle.cpa_cnf.proofs.marks.mark.Goals as goal

pub returns-then-number-table-clause-beyond : goal.returns-then-number-table-clause-beyond
returns-then-number-table-clause-beyond c =
    (c.literal-item.result, omega arith, has-at _ _ _ c.loop-literal-test.true c.literal-item.is)

pub returns-then-number-table-clause-only : goal.returns-then-number-table-clause-only
returns-then-number-table-clause-only c l h =
    elim (or_cases _ _ (sym (c.loop-literal.invariant l) ∙ h)) [
      | inl e ↦ or_true_left _ _ e
      | inr e ↦ or_true_right (marked c.args.table.now l) (has c.args.literals.now l)
          (has-take c.loop-literal.literal-index _ l e)
    ]

pub loop-literal-preserved : goal.loop-literal-preserved
loop-literal-preserved c x =
    rw c.number-number.ensures
    (marks_next c.args.table.now c.loop-literal.table c.args.literals.now
    c.loop-literal.literal-index c.literal-item.result x
    c.loop-literal-test.true c.literal-item.is (omega arith) (c.loop-literal.invariant x))
