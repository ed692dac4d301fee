use Rattle.std.proofs.Common.{refl, sym, subst}
use Rattle.std.proofs.lemmas.Result.{IfOk-weaker}
use Rattle.cpa_model.specs.declared.facts.Elem.{Elem}
use Rattle.cpa_iface.specs.Laws.{MergeLaws}
use Rattle.cpa_iface.specs.lemmas.CommonLaws.{merged_facts-laws}
use Rattle.cases_turns.specs.Samples.{guess}
use Rattle.cases_turns.proofs.composites.guess.GuessAnalysis.merge.Goals as goal

pub returns-clause-laws : goal.returns-clause-laws
returns-clause-laws c =
    let cfa = c.args._cfa.now in
    let new = c.args.new.now in
    let old = c.args.old.now in
    let p = c.args._precision.now in
    IfOk-weaker _ _ _ (λ (e : Elem) is.
    subst (MergeLaws guess cfa c.args.rule new old p) (sym is)
    (merged_facts-laws guess cfa c.args.rule new old p
    (record { cover = refl; rank = refl; merges = λ _ _ _ _ _. tt }) c.requires.old))
    c.merge_facts.ensures
