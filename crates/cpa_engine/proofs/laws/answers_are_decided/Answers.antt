use Rattle.cpa_engine.proofs.Deciding.{is_decided}
use Rattle.cpa_engine.proofs.laws.answers_are_decided.Goals as goal

pub returns : goal.returns
returns c = λ cfa cs config a is spared. is_decided cfa cs config a
    (record {
      begins = c.initial_is_state.ensures;
      reached = λ P rows W of covers. (c.covers_are_safe.ensures.safe P rows W
          ((c.covers_are_safe.ensures.agree P cfa rows of).0 covers)).reachable;
      tell = c.pins_tell.ensures cfa cs;
      keys = λ P pairs W of are widen. record {
        bound = c.pairs_bound_turns.ensures.keys P cfa cs pairs W of are widen.points widen.stacks
            widen.widen widen.heights;
        first = c.pairs_bound_turns.ensures.first P cfa cs pairs of are;
      };
      count = c.pairs_bound_turns.ensures.count cs;
      states = λ P config states W of are none exact. record {
        bound = c.states_bound_turns.ensures.states P cfa cs states W of are none exact.pinning;
        exact = exact;
        first = c.states_bound_turns.ensures.first P cfa states W of are;
      };
    })
    is spared
