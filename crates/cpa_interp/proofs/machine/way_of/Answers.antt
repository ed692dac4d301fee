-- The way is found by its rank.
use Rattle.cpa_interp.proofs.Picking.{if_none, if_none_weaker, if_some_weaker, ranked_way}
use Rattle.cpa_interp.proofs.Picking.{way_ranked}
use Rattle.cpa_interp.proofs.machine.way_of.Goals as goal

pub returns-in_err-rank-clause-none : goal.returns-in_err-rank-clause-none
returns-in_err-rank-clause-none c =
    if_none c.from_residual.result (λ e here way. c.in_err-rank.ensures.none way.0 way.2)

pub returns-clause-some : goal.returns-clause-some
returns-clause-some c =
    let known = c.in_ok-rank.ensures.some in
    if_some_weaker c.with_rank.result (λ e found. (
      found.0,
      way_ranked c.args.edges.now c.args.test.now c.requires.tests known.0 c.args.store.now.values
          c.in_ok-rank.rank known.1 known.2 e.now found.0 found.1,
    )) c.with_rank.ensures.some

pub returns-clause-none : goal.returns-clause-none
returns-clause-none c =
    let known = c.in_ok-rank.ensures.some in
    if_none_weaker c.with_rank.result (λ none e here way. none e here
    (ranked_way c.args.test.now known.0 c.args.store.now.values c.in_ok-rank.rank known.1 known.2
    e way))
    c.with_rank.ensures.none
