use Rattle.std.proofs.Common.{◌+◌, ◌-◌, ◌*◌, length}
use Rattle.cpa_portfolio_race.proofs.racing.+parts.Given as goal

abbrev pub decreases-answer_parts : goal.decreases-answer_parts
decreases-answer_parts g l = 4 * length l.configs.now

abbrev pub decreases-answer_halves : goal.decreases-answer_halves
decreases-answer_halves g l = 4 * (length l.front_configs.now + length l.back_configs.now) - 1

abbrev pub decreases-answer_halves-join+arg2 : goal.decreases-answer_halves-join+arg2
decreases-answer_halves-join+arg2 g l = 4 * length l.front_configs.now + 1

abbrev pub decreases-answer_halves-join+arg3 : goal.decreases-answer_halves-join+arg3
decreases-answer_halves-join+arg3 g l = 4 * length l.back_configs.now + 1
