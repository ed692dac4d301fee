use Rattle.cpa_blast_arithmetic.specs.Laws.{shifts_shift}
use Rattle.cpa_blast_arithmetic.proofs.laws.shifts_shift_at_types.Goals as goal

pub returns : goal.returns
returns c = shifts_shift
