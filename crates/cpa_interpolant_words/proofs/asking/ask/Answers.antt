-- What is decided of the query is decided of the form.
use Rattle.std.proofs.Common.{sym, subst}
use Rattle.cpa_query.specs.declared.query.Query.{Query}
use Rattle.cpa_query.specs.Queries.{IsQuery, IsModel}
use Rattle.cpa_solver.specs.Decisions.{HasNoModel, IsDecided}
use Rattle.cpa_interpolant_words.proofs.asking.ask.Goals as goal

pub decide-requires : goal.decide-requires
decide-requires c = subst IsQuery (sym c.in_ok-query.ensures) c.requires

pub returns-in-Model : goal.returns-in-Model
returns-in-Model c =
    let model =
    subst (IsDecided c.in_ok-query.query c.args.limits.learnt) c.in-Model.is
    c.in_ok-decided.ensures in
    subst (λ (q : Query). IsModel q c.in-Model.store.values) c.in_ok-query.ensures model

pub returns-in-NoModel : goal.returns-in-NoModel
returns-in-NoModel c =
    let decided =
    subst (IsDecided c.in_ok-query.query c.args.limits.learnt) c.in-NoModel.is
    c.in_ok-decided.ensures in
    subst HasNoModel c.in_ok-query.ensures decided.1
