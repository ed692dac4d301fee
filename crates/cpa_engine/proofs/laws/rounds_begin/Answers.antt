use Rattle.cpa_engine.proofs.Beginning.{begins_standing}
use Rattle.cpa_engine.proofs.laws.rounds_begin.Goals as goal

pub returns : goal.returns
returns c = λ cfa cs settings pivot newest old new numbered precise binds begins stands.
    begins_standing cfa cs settings pivot newest old new
    (record {
      removes = c.calls_keep_cover.ensures.remove_below cfa pivot;
      keys = c.turns_are_bounded.ensures.keys cfa cs;
      states = λ settings states xs exact. c.turns_are_bounded.ensures.states cfa cs states xs
          exact.pinning;
    })
    numbered precise binds begins stands
