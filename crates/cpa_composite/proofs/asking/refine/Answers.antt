use Rattle.std.proofs.Common.{◌∙◌, ap, subst}
use Rattle.std.proofs.Math.Seq.{map-set_same}
use Rattle.std.proofs.lemmas.Result.{IfOk-weaker}
use Rattle.cpa_iface.specs.declared.precisions.Precision.{Precision}
use Rattle.cpa_iface.specs.Laws.{RefineLaws}
use Rattle.cpa_iface.specs.Meanings.{Meaning}
use Rattle.cpa_composite_covers.specs.lemmas.PickLaws.{meant}
use Rattle.cpa_composite.proofs.asking.refine.Goals as goal

pub returns-clause-laws : goal.returns-clause-laws
returns-clause-laws g c = λ k is.
    let meaning = g.A.Analysis.meaning in
    let same = meant meaning c.args.handed.now.items c.args.pick.now k c.index_mut.result.now
    c.requires.pick c.index_mut.ensures.value is in
    IfOk-weaker _ _ _ (λ (p : Precision) law.
    subst (λ (n : Meaning). RefineLaws n c.args.cfa.now c.args.path.now
    c.args.precision.now p)
    same law)
    c.refine.ensures.laws

pub returns-clause-kept : goal.returns-clause-kept
returns-clause-kept g c =
    let meaning = g.A.Analysis.meaning in
    map-set_same meaning c.args.handed.now.items c.args.pick.now.place c.refine.new.self
    c.index_mut.result.now (c.refine.ensures.kept ∙ ap meaning c.index_mut.ensures.value)
