use Rattle.std.proofs.Common.{List, refl, sym, subst, ◌∙◌}
use Rattle.cpa_iface.specs.declared.entries.Entry.{Entry}
use Rattle.cpa_reached.specs.Calls.{with_precisions}
use Rattle.cpa_reached.specs.Marks.{AreMarked}
use Rattle.cpa_reached.proofs.Marking.{marked_at}
use Rattle.cpa_reached.proofs.reached.Reached.set_precisions.Goals as goal

pub invariant_of-self : goal.invariant_of-self
invariant_of-self c =
    let i = c.self.inside in
    record {
      kept = c.set_precisions.ensures.kept;
      indexed = c.set_precisions.ensures.indexed;
      marked =
          subst (λ (ys : List Entry). AreMarked i.marks.items ys)
          (sym c.set_precisions.ensures.entries)
          (marked_at i.marks.items c.args.entry (with_precisions c.args.precisions.items)
          i.table.entries.items (λ e. refl) (λ e. refl) c.self.invariant.marked);
      counted = c.self.invariant.counted ∙ sym c.set_precisions.ensures.next;
    }
