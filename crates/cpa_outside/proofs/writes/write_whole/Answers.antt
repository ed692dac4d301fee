use Rattle.std.proofs.Common.{arith}
use Rattle.std.proofs.lemmas.Grind.{common_steps}
use Rattle.cpa_outside.proofs.Grown.{grown-next}
use Rattle.cpa_outside.proofs.writes.write_whole.Goals as goal

pub loop-done-preserved : goal.loop-done-preserved
loop-done-preserved g c = record {
  within = grind (arith, common_steps);
  grew =
      grown-next _ _ _ c.args.bytes.now c.loop-done.done _ c.loop-done.invariant.grew
      c.in_ok-done.ensures.grows;
  kept = grind (arith, common_steps);
}
