use Rattle.std.proofs.Common.{refl, sym, ◌∙◌}
use Rattle.cpa_reached.specs.Calls.{at_number, gains}
use Rattle.cpa_reached.proofs.Marking.{marked_at, marked_by}
use Rattle.cpa_reached.proofs.reached.Reached.note_use.Goals as goal

pub invariant_of-self : goal.invariant_of-self
invariant_of-self c =
    let i = c.self.inside in
    let ms = i.marks.items in
    let xs = i.table.entries.items in
    let f = gains c.args.by in
    record {
      kept = c.note_use.ensures.kept;
      indexed = c.note_use.ensures.indexed;
      marked =
          marked_by c.note_use.result ms xs c.note_use.new.table.entries.items
          (at_number c.args.entry f xs) c.note_use.ensures.ok c.note_use.ensures.err
          (marked_at ms c.args.entry f xs (λ e. refl) (λ e. refl) c.self.invariant.marked)
          c.self.invariant.marked;
      counted = c.self.invariant.counted ∙ sym c.note_use.ensures.next;
    }
