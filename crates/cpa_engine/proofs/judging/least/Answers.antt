use Rattle.std.proofs.Common.{◌∙◌, List, ap}
use Rattle.cpa_iface.specs.declared.entries.Entry.{Entry}
use Rattle.cpa_engine_rounds.specs.Errors.{first_error}
use Rattle.cpa_engine.proofs.Errors.{least_some, least_none}
use Rattle.cpa_engine.proofs.judging.least.Goals as goal

pub returns-clause-some : goal.returns-clause-some
returns-clause-some c =
    least_some c.args.cfa.now c.args.search.now.reached c.least_error.result
    c.live.ensures.numbered
    (c.least_error.ensures
    ∙ ap (λ (xs : List Entry). first_error c.args.cfa.now xs) c.live.ensures.live)

pub returns-clause-none : goal.returns-clause-none
returns-clause-none c =
    least_none c.args.cfa.now c.args.search.now.reached.live c.least_error.result
    (c.least_error.ensures
    ∙ ap (λ (xs : List Entry). first_error c.args.cfa.now xs) c.live.ensures.live)
