-- There is one outcome.
use Rattle.std.proofs.lemmas.Result.{IfOk-weaker}
use Rattle.cpa_interp.specs.lemmas.Outcomes.{one_outcome}
use Rattle.cpa_interp.proofs.running.replay.Goals as goal

pub returns-clause-only : goal.returns-clause-only
returns-clause-only c =
    λ P outcome W A replay. IfOk-weaker c.run.result _ _
    (λ answer comes. one_outcome P W (c.steps_keep_states.ensures P W)
    (c.initial_is_state.ensures P W) c.args.inputs.now c.args.steps answer outcome comes replay)
    (c.run.ensures P W A)
