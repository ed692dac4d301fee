use Rattle.std.proofs.Common.{◌∙◌, arith}
use Rattle.cases_queries.proofs.Refutations.{all_good, one_more}
use Rattle.cases_queries.proofs.interpolant_rows.is_refutation.Goals as goal

pub loop-i-preserved : goal.loop-i-preserved
loop-i-preserved c = (
  c.check_line.ensures.same ∙ c.loop-i.invariant.0,
  one_more c.args.cnf.now c.args.log.now c.loop-i.i c.loop-i.invariant.1
      (c.check_line.ensures.good.0 c.if-not-check_line.false),
)

pub returns : goal.returns
returns c = λ ends. record {
  good = all_good c.args.cnf.now c.args.log.now
      (λ n below. c.loop-i.invariant.1 n (omega arith));
  last = c.ends_empty.ensures ends;
}
