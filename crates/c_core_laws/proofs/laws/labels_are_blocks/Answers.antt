-- The labelled blocks of the tree of a function, in order.
use Rattle.c_core_laws.proofs.LabelBlocks.{blocks_are}
use Rattle.c_core_laws.proofs.laws.labels_are_blocks.Goals as goal

pub returns : goal.returns
returns c = blocks_are
