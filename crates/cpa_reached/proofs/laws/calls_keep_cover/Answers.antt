use Rattle.cpa_reached.specs.lemmas.SuccessorLaws.{added-covers, replaced-covers, used-covers}
use Rattle.cpa_reached.specs.lemmas.SuccessorLaws.{removed-covers, refined-covers}
use Rattle.cpa_reached.proofs.laws.calls_keep_cover.Goals as goal

pub returns-clause-add : goal.returns-clause-add
returns-clause-add c =
    λ cfa r es ps parent covers. added-covers cfa r.next r.live es ps parent covers

pub returns-clause-replace : goal.returns-clause-replace
returns-clause-replace c =
    λ cfa r old es state holds covers. replaced-covers cfa r.next old r.live es state holds covers

pub returns-clause-note_use : goal.returns-clause-note_use
returns-clause-note_use c = λ cfa r n by covers. used-covers cfa n by r.live covers

pub returns-clause-remove_below : goal.returns-clause-remove_below
returns-clause-remove_below c = removed-covers

pub returns-clause-set_precisions : goal.returns-clause-set_precisions
returns-clause-set_precisions c = λ cfa r n ps covers. refined-covers cfa n ps r.live covers

pub returns-clause-close_turn : goal.returns-clause-close_turn
returns-clause-close_turn c = λ cfa r turn covers. covers

pub returns-clause-start_round : goal.returns-clause-start_round
returns-clause-start_round c = λ cfa r covers. covers
