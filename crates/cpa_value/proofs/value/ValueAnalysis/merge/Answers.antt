use Rattle.std.proofs.Common.{refl, sym, subst}
use Rattle.std.proofs.lemmas.Result.{IfOk-weaker}
use Rattle.cpa_model.specs.declared.facts.Elem.{Elem}
use Rattle.cpa_iface.specs.Laws.{MergeLaws}
use Rattle.cpa_iface.specs.lemmas.CommonLaws.{merged_facts-laws}
use Rattle.cpa_value.specs.Values.{values}
use Rattle.cpa_value.proofs.value.ValueAnalysis.merge.Goals as goal

pub returns-clause-laws : goal.returns-clause-laws
returns-clause-laws c =
    let cfa = c.args.cfa.now in
    let new = c.args.new.now in
    let old = c.args.old.now in
    let p = c.args._precision.now in
    IfOk-weaker _ _ _ (λ (e : Elem) is.
    subst (MergeLaws values cfa c.args.rule new old p) (sym is)
    (merged_facts-laws values cfa c.args.rule new old p
    (record { cover = refl; rank = refl; merges = λ _ _ _ _ _. refl }) c.requires.old))
    c.merged.ensures
