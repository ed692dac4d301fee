use Rattle.std.proofs.Common.{inl, refl}
use Rattle.cpa_engine.proofs.Starting.{first, start_stands}
use Rattle.cpa_engine.proofs.laws.searches_begin.Goals as goal

pub returns-clause-stands : goal.returns-clause-stands
returns-clause-stands c = λ cfa cs settings es ps automaton row.
    let lines = c.lines_begin.ensures.keys cfa cs settings es ps row in
    start_stands cfa cs settings es ps
    (record {
      state = c.edges_are_steps.ensures.state cfa automaton;
      ranked = λ fixed. c.ranks_are_bounded.ensures.initial cs cfa settings es ps fixed row;
      lines = lines;
      exact = λ exact. c.lines_begin.ensures.pins cfa cs settings es ps exact.pinning exact.all
          exact.unlimited row;
      keys = c.turns_are_bounded.ensures.keys cfa cs;
      states = c.turns_are_bounded.ensures.states cfa cs;
    })
    row

pub returns-clause-binds : goal.returns-clause-binds
returns-clause-binds c = λ cfa cs settings es ps row exact.
    let lines = c.lines_begin.ensures.pins cfa cs settings es ps exact.pinning exact.all
    exact.unlimited row in
    lines.binds (first es ps) (inl refl)
