use Rattle.std.proofs.Common.{subst, sym, ◌∙◌}
use Rattle.cpa_model.specs.declared.automaton.Act.{Act}
use Rattle.cpa_recheck_bounds.specs.Standing.{IsBarred}
use Rattle.cpa_recheck_bounds.proofs.Stood.{barred}
use Rattle.cpa_recheck_bounds.proofs.standing.is_barred.Goals as goal

pub returns-in-Assume : goal.returns-in-Assume
returns-in-Assume c = λ is.
    subst (λ (a : Act). IsBarred a c.args.elem.now) (sym c.in-Assume.is)
    (barred c.in-Assume.test c.in-Assume.holds c.args.elem.now (sym c.says_truth.ensures ∙ is))
