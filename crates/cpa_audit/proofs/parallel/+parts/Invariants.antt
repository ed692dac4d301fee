use Rattle.std.proofs.Common.{◌+◌, ◌-◌, ◌*◌, length}
use Rattle.cpa_audit.proofs.parallel.+parts.Given as goal

abbrev pub decreases-check_parts : goal.decreases-check_parts
decreases-check_parts g l = 4 * length l.tables.now

abbrev pub decreases-check_halves : goal.decreases-check_halves
decreases-check_halves g l = 4 * (length l.front.now + length l.back.now) - 1

abbrev pub decreases-check_halves-join+arg2 : goal.decreases-check_halves-join+arg2
decreases-check_halves-join+arg2 g l = 4 * length l.front.now + 1

abbrev pub decreases-check_halves-join+arg3 : goal.decreases-check_halves-join+arg3
decreases-check_halves-join+arg3 g l = 4 * length l.back.now + 1
