use Rattle.std.proofs.Common.{List, map, subst}
use Rattle.std.specs.Prelude.{IfOk, IfNone}
use Rattle.cpa_iface.specs.declared.merging.Pick.{Pick}
use Rattle.cpa_composite.specs.Components.{picked}
use Rattle.cpa_composite.specs.Laws.{EachRefined}
use Rattle.cpa_composite.proofs.Picking.{within_kept}
use Rattle.cpa_composite.proofs.composite.Composite.refine.Goals as goal

pub invariant_of-self : goal.invariant_of-self
invariant_of-self g c =
    record {
      within = within_kept g.A.Analysis.meaning c.args.self.now.handed.items
          c.refine.new.handed.items
          c.args.self.now.picks.items c.refine.ensures.kept c.args.self.now.within;
    }

pub returns-clause-stays : goal.returns-clause-stays
returns-clause-stays g c =
    let ms = map g.A.Analysis.meaning c.args.self.now.handed.items in
    let cfa = c.args.cfa.now in
    let ps = c.args.precisions.now in
    subst (λ (l : List Pick). IfOk c.refine.result (λ o. IfNone o
    (EachRefined cfa c.args.path.now (picked ms l) ps ps))) c.deref.ensures.value
    c.refine.ensures.stays
