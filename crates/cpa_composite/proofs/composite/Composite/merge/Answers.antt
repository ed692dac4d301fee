use Rattle.std.proofs.Common.{List, map, subst}
use Rattle.std.specs.Prelude.{IfOk, IfNone}
use Rattle.cpa_iface.specs.declared.merging.Pick.{Pick}
use Rattle.cpa_composite.specs.Components.{picked}
use Rattle.cpa_composite.specs.Laws.{AgreeOnSep, EachMerged}
use Rattle.cpa_composite.proofs.Picking.{within_kept}
use Rattle.cpa_composite.proofs.composite.Composite.merge.Goals as goal

pub invariant_of-self : goal.invariant_of-self
invariant_of-self g c =
    record {
      within = within_kept g.A.Analysis.meaning c.args.self.now.handed.items
          c.merge.new.handed.items
          c.args.self.now.picks.items c.merge.ensures.kept c.args.self.now.within;
    }

pub returns-clause-stays : goal.returns-clause-stays
returns-clause-stays g c =
    let ms = map g.A.Analysis.meaning c.args.self.now.handed.items in
    let cfa = c.args.cfa.now in
    let new = c.args.new.now in
    let old = c.args.old.now in
    let ps = c.args.precisions.now in
    subst (λ (l : List Pick). let cs = picked ms l in
    IfOk c.merge.result (λ o. IfNone o (AgreeOnSep cs new old
    → EachMerged cfa cs new old ps old))) c.deref.ensures.value c.merge.ensures.stays
