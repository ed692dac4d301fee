use Rattle.std.proofs.Common.{rules, refl, ◌∙◌}
use Rattle.cpa_audit.proofs.Neighbours.{one_more, at_end}
use Rattle.cpa_audit.proofs.runs.check_run.Goals as goal

pub loop-i-preserved : goal.loop-i-preserved
loop-i-preserved c = (
  c.check_line.ensures.same ∙ c.loop-i.invariant.0,
  one_more c.args.cnf.now c.args.log.now c.args.from c.loop-i.i c.loop-i.invariant.1
      (c.if-not-check_line.ensures.good.0 refl),
)

pub returns : goal.returns
returns c = at_end c.args.cnf.now c.args.log.now c.args.from c.args.end c.loop-i.i
    c.loop-i.invariant.1 (search rules)
