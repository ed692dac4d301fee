use Rattle.cpa_top_verdict.proofs.Picks.{are_places, one_each}
use Rattle.cpa_top_verdict.proofs.laws.picks_are_places.Goals as goal

pub returns-clause-places : goal.returns-clause-places
returns-clause-places c = are_places

pub returns-clause-components : goal.returns-clause-components
returns-clause-components c = one_each
