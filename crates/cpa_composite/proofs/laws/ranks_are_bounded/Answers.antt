use Rattle.cpa_composite.proofs.Ranked.{initial_ranked, successors_ranked, adjusted_ranked}
use Rattle.cpa_composite.proofs.Ranked.{merged_ranked, ranks_at_most}
use Rattle.cpa_composite.proofs.laws.ranks_are_bounded.Goals as goal

pub returns-clause-initial : goal.returns-clause-initial
returns-clause-initial c = initial_ranked

pub returns-clause-successors : goal.returns-clause-successors
returns-clause-successors c = successors_ranked

pub returns-clause-adjust : goal.returns-clause-adjust
returns-clause-adjust c = adjusted_ranked

pub returns-clause-merge : goal.returns-clause-merge
returns-clause-merge c = merged_ranked

pub returns-clause-height : goal.returns-clause-height
returns-clause-height c = ranks_at_most
