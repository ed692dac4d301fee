use Rattle.std.proofs.Common.{refl}
use Rattle.cpa_sat_search.proofs.Growth.{state_more}
use Rattle.cpa_sat_search.proofs.engine.Search.add.Goals as goal

pub returns-clause-state : goal.returns-clause-state
returns-clause-state c =
    let r = c.requires in
    state_more c.args.cnf.now c.args.self.now _ c.args.line r.state r.good r.sorted r.filled r.fresh
    c.in_ok-push.ensures.pushed refl refl c.in_ok-push-2.ensures.items
    c.in_ok-push.ensures.few
