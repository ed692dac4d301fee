use Rattle.cpa_reached_opening.proofs.Waiting.{gone_so, opened_so, waits_exactly}
use Rattle.cpa_reached_opening.proofs.opening.waits_again.Goals as goal

pub returns-then-not-is_gone-clause-means : goal.returns-then-not-is_gone-clause-means
returns-then-not-is_gone-clause-means c =
    let gone = c.args.gone.now in
    let e = c.args.entry.now in
    waits_exactly gone c.args.pivot e c.is_opened.result
    (opened_so gone c.args.pivot e c.is_gone.result c.is_opened.result c.is_gone.ensures
    c.if-not-is_gone.true c.is_opened.ensures)

pub returns-else-not-is_gone-clause-means : goal.returns-else-not-is_gone-clause-means
returns-else-not-is_gone-clause-means c =
    let gone = c.args.gone.now in
    let e = c.args.entry.now in
    waits_exactly gone c.args.pivot e _
    (gone_so gone c.args.pivot e c.is_gone.result c.is_gone.ensures c.if-not-is_gone.false)
