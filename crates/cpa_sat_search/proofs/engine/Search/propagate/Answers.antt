use Rattle.cpa_sat_search.proofs.Growth.{state_after, rank_keeps}
use Rattle.cpa_sat_search.proofs.engine.Search.propagate.Goals as goal

pub returns-clause-state : goal.returns-clause-state
returns-clause-state c =
    let e = c.in_ok-found.ensures in
    state_after c.args.cnf.now c.args.self.now c.propagate_trail.new.self c.requires e.sound e.rises
    e.same

pub returns-clause-least : goal.returns-clause-least
returns-clause-least c n =
    let e = c.in_ok-found.ensures in
    rank_keeps n c.args.self.now c.propagate_trail.new.self e.same.lines e.rises.vars e.rises.least
