use Rattle.std.proofs.Common.{List, [], ◌∷◌, ◌++◌, sym, ap, ◌∙◌, subst, arith}
use Rattle.cpa_model.specs.declared.facts.Elem.{Elem}
use Rattle.cpa_iface.specs.Laws.{TransferLaws}
use Rattle.cases_turns.specs.Samples.{counter}
use Rattle.cases_turns.proofs.Counting.{count_transfer}
use Rattle.cases_turns.proofs.composites.counter.CounterAnalysis.transfer.Goals as goal

pub returns-clause-laws : goal.returns-clause-laws
returns-clause-laws c =
    let cfa = c.args._cfa.now in
    let small = c.saturating_add-self.type_inv in
    let elem = c.args._elem.now in
    let p = c.args._precision.now in
    subst (TransferLaws counter cfa c.args._edge elem p)
    (sym (c.in_ok-push.ensures.items
    ∙ (ap (λ (es : List Elem). es ++ c.in_ok-count.field-0 ∷ []) c.new-successors.ensures.items
    ∙ ap (λ (e : Elem). e ∷ []) c.in_ok-count.ensures)))
    (count_transfer cfa c.args._edge elem p c.saturating_add-self.result (omega (arith, small)))
