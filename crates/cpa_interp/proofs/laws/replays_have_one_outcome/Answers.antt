use Rattle.cpa_interp.specs.lemmas.Outcomes.{one_outcome, some_outcome}
use Rattle.cpa_interp.proofs.laws.replays_have_one_outcome.Goals as goal

pub returns-clause-some : goal.returns-clause-some
returns-clause-some c =
    λ P inputs budget W. some_outcome P W (c.steps_keep_states.ensures P W)
    (c.initial_is_state.ensures P W) inputs budget

pub returns-clause-one : goal.returns-clause-one
returns-clause-one c =
    λ P inputs budget a b W x y. one_outcome P W (c.steps_keep_states.ensures P W)
    (c.initial_is_state.ensures P W) inputs budget a b x y
