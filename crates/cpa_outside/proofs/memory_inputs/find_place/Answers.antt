use Rattle.cpa_outside.proofs.Places.{place_of-position}
use Rattle.cpa_outside.proofs.memory_inputs.find_place.Goals as goal

pub returns-clause-place : goal.returns-clause-place
returns-clause-place c = let place = place_of-position c.args.files.now c.args.name.now in cc
