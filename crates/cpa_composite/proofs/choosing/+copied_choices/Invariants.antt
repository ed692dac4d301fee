use Rattle.std.proofs.Common.{length}
use Rattle.cpa_composite.proofs.choosing.+copied_choices.Given as goal

abbrev pub decreases-copied_choices : goal.decreases-copied_choices
decreases-copied_choices l = length l.lists.now
