use Rattle.std.proofs.Common.{◌+◌, ◌-◌, ◌*◌}
use Rattle.cpa_chains.proofs.parallel.+parts.Given as goal

abbrev pub decreases-fill_parts : goal.decreases-fill_parts
decreases-fill_parts g l = 4 * l.parts.count

abbrev pub decreases-fill_halves : goal.decreases-fill_halves
decreases-fill_halves g l = 4 * (l.front_parts.count + l.back_parts.count) - 1

abbrev pub decreases-fill_halves-join_mut+arg2 : goal.decreases-fill_halves-join_mut+arg2
decreases-fill_halves-join_mut+arg2 g l = 4 * l.front_parts.count + 1

abbrev pub decreases-fill_halves-join_mut+arg3 : goal.decreases-fill_halves-join_mut+arg3
decreases-fill_halves-join_mut+arg3 g l = 4 * l.back_parts.count + 1
