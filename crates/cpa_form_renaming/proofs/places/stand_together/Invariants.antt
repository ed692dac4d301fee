-- The cells so far stand together where the flag says so.
use Rattle.std.proofs.Common.{◌≡◌}
use Rattle.cpa_form_renaming.specs.Places.{stand_together}
use Rattle.cpa_form_renaming.proofs.places.stand_together.Given as goal

abbrev pub invariant-loop-i : goal.invariant-loop-i
invariant-loop-i l = l.together ≡ stand_together l.places l.base l.i
