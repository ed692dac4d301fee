use Rattle.cpa_model.proofs.CoverLemmas.{covers_agree, safe_of_cover}
use Rattle.cpa_model.proofs.laws.covers_are_safe.Goals as goal

pub returns-clause-agree : goal.returns-clause-agree
returns-clause-agree c = covers_agree

pub returns-clause-safe : goal.returns-clause-safe
returns-clause-safe c = safe_of_cover
