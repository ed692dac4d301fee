use Rattle.std.proofs.Common.{sym, subst}
use Rattle.cpa_facts.specs.declared.fact.Fact.{Fact}
use Rattle.cpa_recheck_bounds.specs.Standing.{Stands}
use Rattle.cpa_recheck_bounds.proofs.Stood.{is_false, truth_stands}
use Rattle.cpa_recheck_bounds.proofs.standing.stands.Goals as goal

pub returns-in-Truth : goal.returns-in-Truth
returns-in-Truth c = λ is.
    subst (λ (f : Fact). Stands c.args.act.now f) (sym c.in-Truth.is)
    (truth_stands c.args.act.now c.in-Truth.expr c.in-Truth.holds
    c.value_depends_on_what_is_read.ensures
    (c.may_change.ensures (is_false c.may_change.result is)))
