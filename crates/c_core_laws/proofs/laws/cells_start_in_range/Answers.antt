-- The objects of file scope start at values of their types, and all else at 0.
use Rattle.c_core_laws.proofs.StartsInRange.{cells_in_range}
use Rattle.c_core_laws.proofs.laws.cells_start_in_range.Goals as goal

pub returns : goal.returns
returns c = cells_in_range
