use Rattle.std.proofs.lemmas.Result.{IfOk-weaker}
use Rattle.cpa_model.specs.declared.facts.Elem.{Elem}
use Rattle.cpa_craig.proofs.CraigLaws.{initial-laws}
use Rattle.cpa_craig.proofs.craig.CraigAnalysis.initial.Goals as goal

pub returns-clause-laws : goal.returns-clause-laws
returns-clause-laws c =
    IfOk-weaker _ _ _ (λ (e : Elem) laws. initial-laws c.args.cfa.now e laws)
    c.initial.ensures.laws
