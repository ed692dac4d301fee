-- One more expression.
use Rattle.std.proofs.Common.{refl}
use Rattle.cpa_query.specs.Queries.{IsAsked}
use Rattle.cases_reader.proofs.Gathered.{one_more}
use Rattle.cases_reader.proofs.queries.are_asked.Goals as goal

pub loop-one-preserved : goal.loop-one-preserved
loop-one-preserved c =
    let l = c.loop-one in
    one_more (λ one. IsAsked c.args.cells.now one.0) c.args.wanted.now l.one-index
    c.one-item.result c.loop-one-test.true c.one-item.is l.invariant
    (c.if-not-is_asked.ensures refl)
