use Rattle.cpa_composite.proofs.Picking.{within_kept}
use Rattle.cpa_composite.proofs.composite.Composite.initial.Goals as goal

pub invariant_of-self : goal.invariant_of-self
invariant_of-self g c =
    record {
      within = within_kept g.A.Analysis.meaning c.args.self.now.handed.items
          c.initial.new.handed.items
          c.args.self.now.picks.items c.initial.ensures.kept c.args.self.now.within;
    }
