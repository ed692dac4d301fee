use Rattle.cpa_model.proofs.EdgeSteps.{begins_in_state, initial_states, steps_are_edges}
use Rattle.cpa_model.proofs.laws.edges_are_steps.Goals as goal

pub returns-clause-initial : goal.returns-clause-initial
returns-clause-initial c = initial_states

pub returns-clause-state : goal.returns-clause-state
returns-clause-state c = begins_in_state

pub returns-clause-steps : goal.returns-clause-steps
returns-clause-steps c = λ P cfa s t A. steps_are_edges P cfa A s t
