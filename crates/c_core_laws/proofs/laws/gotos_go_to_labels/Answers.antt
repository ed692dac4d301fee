-- N7 is not broken, so that the first label of a name is its only one.
use Rattle.c_core_laws.proofs.LabelNames.{labels_named}
use Rattle.c_core_laws.proofs.laws.gotos_go_to_labels.Goals as goal

pub returns : goal.returns
returns c = labels_named
