use Rattle.std.proofs.lemmas.Result.{IfOk-weaker}
use Rattle.cpa_iface.specs.declared.precisions.Precision.{Precision}
use Rattle.cpa_craig.proofs.CraigLaws.{first-laws}
use Rattle.cpa_craig.proofs.craig.CraigAnalysis.first_precision.Goals as goal

pub returns-clause-laws : goal.returns-clause-laws
returns-clause-laws c =
    IfOk-weaker _ _ _
    (λ (p : Precision) laws. first-laws c.args.cfa.now c.args.settings.now p laws)
    c.first_precision.ensures.laws
