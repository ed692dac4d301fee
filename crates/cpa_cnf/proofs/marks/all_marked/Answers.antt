use Rattle.std.proofs.Common.{◌≡◌, true, sym, ◌∙◌}
use Rattle.std.proofs.lemmas.Bool.{false≢true}
use Rattle.cpa_cnf.specs.Marking.{marked}
use Rattle.cpa_cnf.specs.lemmas.Members.{has-at, more}
use Rattle.cpa_cnf.proofs.marks.all_marked.Goals as goal

pub returns-then-not-is_marked : goal.returns-then-not-is_marked
returns-then-not-is_marked c = (
  λ wrong. absurd (false≢true wrong),
  λ each. c.if-not-is_marked.ensures
      ∙ each c.literal-item.result (has-at _ _ _ c.loop-literal-test.true c.literal-item.is),
)

pub loop-literal-preserved : goal.loop-literal-preserved
loop-literal-preserved c =
    more (λ l. marked c.args.table.now l ≡ true) c.args.literals.now c.loop-literal.literal-index
    c.literal-item.result
    c.loop-literal-test.true c.literal-item.is c.loop-literal.invariant
    (sym c.if-not-is_marked.ensures)
