use Rattle.cpa_sat_search.proofs.Loading.{loads_next}
use Rattle.cpa_sat_search.proofs.start.load.Goals as goal

pub loop-clause-preserved : goal.loop-clause-preserved
loop-clause-preserved c =
    let loaded = c.in_ok-load_clause.ensures in
    loads_next c.args.cnf.now c.in-Some.clause.now _ _ c.loop-clause.arena c.load_clause.new.arena
    c.in-Some.ensures.steps c.loop-clause.invariant loaded.loaded loaded.sorted loaded.few
