use Rattle.std.proofs.Common.{sym, subst, ◌∙◌}
use Rattle.cpa_facts.specs.declared.fact.Fact.{Fact}
use Rattle.cpa_facts.specs.declared.fact.Fact.TheVariants.{Truth}
use Rattle.cpa_form_rules.specs.Runs.{StoreFactHolds}
use Rattle.cpa_recheck_bounds.proofs.Said.{same_holds}
use Rattle.cpa_recheck_bounds.proofs.saying.is_truth_said.Goals as goal

pub returns-then-says_truth : goal.returns-then-says_truth
returns-then-says_truth c = λ is are store lie holds.
    subst (λ (f : Fact). StoreFactHolds store f) (sym c.in-Truth.is)
    (same_holds store (Truth c.in-Truth.expr c.in-Truth.holds) c.args.elem.now.facts
    (sym c.says_truth.ensures ∙ is) holds)
