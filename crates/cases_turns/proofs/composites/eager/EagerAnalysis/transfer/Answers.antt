use Rattle.std.proofs.Common.{List, [], ◌∷◌, ◌++◌, sym, ap, ◌∙◌, subst}
use Rattle.cpa_model.specs.declared.facts.Elem.{Elem}
use Rattle.cpa_iface.specs.Laws.{TransferLaws}
use Rattle.cases_turns.specs.Samples.{eager}
use Rattle.cases_turns.proofs.Growing.{nothing_transfer}
use Rattle.cases_turns.proofs.composites.eager.EagerAnalysis.transfer.Goals as goal

pub returns-clause-laws : goal.returns-clause-laws
returns-clause-laws c =
    let cfa = c.args._cfa.now in
    let elem = c.args._elem.now in
    let p = c.args._precision.now in
    subst (TransferLaws eager cfa c.args._edge elem p)
    (sym (c.in_ok-push.ensures.items
    ∙ (ap (λ (es : List Elem). es ++ c.no_facts.result ∷ []) c.new-successors.ensures.items
    ∙ ap (λ (e : Elem). e ∷ []) c.no_facts.ensures)))
    (nothing_transfer cfa c.args._edge elem p)
