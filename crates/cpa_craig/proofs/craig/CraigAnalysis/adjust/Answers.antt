use Rattle.std.proofs.lemmas.Result.{IfOk-weaker}
use Rattle.cpa_model.specs.declared.facts.Elem.{Elem}
use Rattle.cpa_iface.specs.declared.precisions.Precision.{Precision}
use Rattle.cpa_craig.proofs.CraigLaws.{adjust-laws}
use Rattle.cpa_craig.proofs.craig.CraigAnalysis.adjust.Goals as goal

pub returns-clause-laws : goal.returns-clause-laws
returns-clause-laws c =
    IfOk-weaker _ _ _ (λ (pair : Elem × Precision) laws.
    adjust-laws c.args.cfa.now c.args.elem.now c.args.precision.now c.args.reached.now
    c.args.place pair.0 pair.1 laws)
    c.adjust.ensures.laws
