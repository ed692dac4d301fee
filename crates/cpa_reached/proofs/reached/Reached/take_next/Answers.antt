use Rattle.std.proofs.Common.{sym, ◌∙◌}
use Rattle.cpa_reached.proofs.Marking.{marked_taken}
use Rattle.cpa_reached.proofs.reached.Reached.take_next.Goals as goal

pub invariant_of-self : goal.invariant_of-self
invariant_of-self c =
    let i = c.self.inside in
    record {
      kept = c.take_next.ensures.kept;
      indexed = c.take_next.ensures.indexed;
      marked =
          marked_taken c.take_next.result i.marks.items i.table.entries.items
          c.take_next.new.table.entries.items c.take_next.ensures.taken c.take_next.ensures.same
          c.self.invariant.marked;
      counted = c.self.invariant.counted ∙ sym c.take_next.ensures.next;
    }
