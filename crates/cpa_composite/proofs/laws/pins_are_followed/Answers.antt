use Rattle.cpa_composite.proofs.Pinned.{pins_step, pins_stuck, pins_initial, pins_adjust}
use Rattle.cpa_composite.proofs.Moving.{pins_next}
use Rattle.cpa_composite.proofs.laws.pins_are_followed.Goals as goal

pub returns-clause-step : goal.returns-clause-step
returns-clause-step c = pins_step

pub returns-clause-stuck : goal.returns-clause-stuck
returns-clause-stuck c = pins_stuck

pub returns-clause-initial : goal.returns-clause-initial
returns-clause-initial c = pins_initial

pub returns-clause-adjust : goal.returns-clause-adjust
returns-clause-adjust c = pins_adjust

pub returns-clause-next : goal.returns-clause-next
returns-clause-next c = pins_next c.steps_keep_states.ensures
