use Rattle.std.specs.Prelude.{Option}
use Rattle.std.proofs.lemmas.Result.{IfOk-weaker}
use Rattle.cpa_model.specs.declared.facts.Elem.{Elem}
use Rattle.cpa_craig.proofs.CraigLaws.{strengthen-laws}
use Rattle.cpa_craig.proofs.craig.CraigAnalysis.strengthen.Goals as goal

pub returns-clause-laws : goal.returns-clause-laws
returns-clause-laws c =
    IfOk-weaker _ _ _ (λ (e : Option Elem) laws.
    strengthen-laws c.args.cfa.now c.args.own.now c.args.others.now c.args.precision.now e laws)
    c.strengthen.ensures.laws
