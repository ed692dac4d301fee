-- N7 is not broken, so that a name has the number of its place.
use Rattle.c_core_laws.proofs.LabelNumbers.{numbers_in_order}
use Rattle.c_core_laws.proofs.laws.labels_are_in_order.Goals as goal

pub returns : goal.returns
returns c = numbers_in_order
