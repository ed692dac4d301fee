use Rattle.cpa_sat_search.proofs.Loading.{started}
use Rattle.cpa_sat_search.proofs.start.start.Goals as goal

pub returns-clause-state : goal.returns-clause-state
returns-clause-state c =
    let t = c.in_ok-trail.ensures in
    let a = c.in_ok-analysis.ensures in
    started c.args.cnf.now _ c.in_ok-arena.ensures c.requires.below t.trail t.vars t.empty a.idle
    a.vars c.new-lines.ensures.items
