use Rattle.std.proofs.Common.{refl, sym, subst}
use Rattle.std.proofs.lemmas.Result.{IfOk-weaker}
use Rattle.cpa_model.specs.declared.facts.Elem.{Elem}
use Rattle.cpa_iface.specs.Laws.{MergeLaws}
use Rattle.cpa_iface.specs.lemmas.CommonLaws.{merged_facts-laws}
use Rattle.cases_turns.specs.Samples.{counter}
use Rattle.cases_turns.proofs.composites.counter.CounterAnalysis.merge.Goals as goal

pub returns-in_default : goal.returns-in_default
returns-in_default c =
    let cfa = c.args._cfa.now in
    let new = c.args.new.now in
    let old = c.args.old.now in
    let p = c.args._precision.now in
    record {
      laws = IfOk-weaker _ _ _ (λ (e : Elem) is.
          subst (MergeLaws counter cfa c.args.rule new old p) (sym is)
          (merged_facts-laws counter cfa c.args.rule new old p
          (record { cover = refl; rank = refl; merges = λ _ _ _ _ _. tt }) c.requires.old))
          c.merge_facts.ensures;
      kept = refl;
    }
