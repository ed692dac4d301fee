use Rattle.std.proofs.Common.{subst, sym, ◌∙◌}
use Rattle.cpa_reached.specs.Entries.{ReachedSet, IsNumbered}
use Rattle.cpa_reached.proofs.Marking.{removed_by}
use Rattle.cpa_reached.proofs.Views.{numbered}
use Rattle.cpa_reached.proofs.reached.Reached.remove_below.Goals as goal

pub returns-clause-numbered : goal.returns-clause-numbered
returns-clause-numbered c =
    let i = c.self.inside in
    subst (λ (r : ReachedSet). IsNumbered r) c.self.view_is
    (numbered i.table.entries.items i.table.links.items i.table.waiting.items i.journal.items
    i.table.next i.table.places c.self.invariant.kept)

pub invariant_of-self : goal.invariant_of-self
invariant_of-self c =
    let i = c.self.inside in
    record {
      kept = c.remove_below.ensures.kept;
      indexed = c.remove_below.ensures.indexed;
      marked =
          removed_by c.remove_below.result i.marks.items c.args.pivot i.table.entries.items
          c.remove_below.new.table.entries.items c.remove_below.ensures.ok
          c.remove_below.ensures.err
          c.self.invariant.marked;
      counted = c.self.invariant.counted ∙ sym c.remove_below.ensures.next;
    }
