use Rattle.cpa_engine_laws.specs.lemmas.Starting.{reachable_closed, first_reachable, edges_settled}
use Rattle.cpa_engine_laws.proofs.laws.states_bound_turns.Goals as goal

pub returns-clause-states : goal.returns-clause-states
returns-clause-states c = λ P cfa cs states W of are none pinning. record {
  apart = pinning.apart;
  exact = pinning.exact;
  parts = pinning.parts;
  settled = edges_settled P cfa of none;
  closed = reachable_closed P cfa states
      (λ s t step. (c.edges_are_steps.ensures.steps P cfa s t of).1 step) are;
}

pub returns-clause-first : goal.returns-clause-first
returns-clause-first c = λ P cfa states W of are.
    first_reachable P cfa states (c.edges_are_steps.ensures.initial P cfa of) are
