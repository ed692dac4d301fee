use Rattle.std.proofs.Common.{◌∙◌, ap, subst}
use Rattle.std.proofs.Math.Seq.{map-set_same}
use Rattle.std.proofs.lemmas.Result.{IfOk-weaker}
use Rattle.cpa_model.specs.declared.facts.Elem.{Elem}
use Rattle.cpa_iface.specs.Laws.{MergeLaws}
use Rattle.cpa_iface.specs.Meanings.{Meaning}
use Rattle.cpa_composite_covers.specs.lemmas.PickLaws.{meant}
use Rattle.cpa_composite.proofs.asking.merge.Goals as goal

pub returns-clause-laws : goal.returns-clause-laws
returns-clause-laws g c = λ k is.
    let meaning = g.A.Analysis.meaning in
    let same = meant meaning c.args.handed.now.items c.args.pick.now k c.index_mut.result.now
    c.requires.pick c.index_mut.ensures.value is in
    IfOk-weaker _ _ _ (λ (e : Elem) law.
    subst (λ (n : Meaning). MergeLaws n c.args.cfa.now c.args.pick.now.rule c.args.new.now
    c.args.old.now c.args.precision.now e)
    same law)
    c.merge.ensures.laws

pub returns-clause-kept : goal.returns-clause-kept
returns-clause-kept g c =
    let meaning = g.A.Analysis.meaning in
    map-set_same meaning c.args.handed.now.items c.args.pick.now.place c.merge.new.self
    c.index_mut.result.now (c.merge.ensures.kept ∙ ap meaning c.index_mut.ensures.value)
