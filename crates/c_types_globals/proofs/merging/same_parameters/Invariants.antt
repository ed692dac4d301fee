use Rattle.std.proofs.Common.{◌≡◌, length}
use Rattle.c_types_rules.specs.Items.{same_parameters}
use Rattle.c_types_globals.proofs.merging.same_parameters.Given as goal

abbrev pub invariant-loop-olds : goal.invariant-loop-olds
invariant-loop-olds l = same_parameters l.olds l.freshes ≡ same_parameters l.fn.old l.fn.fresh

abbrev pub decreases-loop-olds : goal.decreases-loop-olds
decreases-loop-olds l = length l.olds
