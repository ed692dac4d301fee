-- What was found of the list is found of the expressions chosen.
use Rattle.std.proofs.Common.{subst}
use Rattle.cpa_folds.specs.Along.{acts_along}
use Rattle.cpa_interpolant_rules.specs.Found.{AreFound}
use Rattle.cpa_interpolant_words.proofs.looking.cuts.Goals as goal

pub returns-then-found : goal.returns-then-found
returns-then-found c =
    let cfa = c.args.cfa.now in
    subst (AreFound cfa.cells c.args.limits.gates (acts_along cfa c.args.path.now))
    c.deref.ensures.value (c.in_ok-found-in-Some.ensures c.if-found.true)
