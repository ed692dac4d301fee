use Rattle.std.proofs.lemmas.Result.{IfOk-weaker}
use Rattle.cpa_model.specs.declared.facts.Elem.{Elem}
use Rattle.cpa_craig.proofs.CraigLaws.{merge-laws}
use Rattle.cpa_craig.proofs.craig.CraigAnalysis.merge.Goals as goal

pub returns-clause-laws : goal.returns-clause-laws
returns-clause-laws c =
    IfOk-weaker _ _ _ (λ (e : Elem) laws.
    merge-laws c.args.cfa.now c.args.rule c.args.new.now c.args.old.now c.args.precision.now e laws)
    c.merge.ensures.laws
