use Rattle.std.proofs.Common.{◌≡◌, List, [], ◌∷◌, ◌++◌, sym, ap, ◌∙◌, subst}
use Rattle.cpa_reached.specs.declared.marks.Mark.{Mark}
use Rattle.cpa_reached.specs.Calls.{added_entries}
use Rattle.cpa_reached.specs.Marks.{Tells}
use Rattle.cpa_reached.proofs.Marking.{marked_added, marked_after, marked_longer_by}
use Rattle.cpa_reached.proofs.reached.Reached.add.Goals as goal

pub invariant_of-self-2 : goal.invariant_of-self-2
invariant_of-self-2 c =
    let i = c.self.inside in
    let ms = i.marks.items in
    let ns = c.push_reserved.new.self.items in
    let es = c.args.elems.items in
    let mark = c.mark_of-mark.result in
    let tells : Tells mark es = subst (Tells mark) c.deref.ensures.value c.mark_of-mark.ensures in
    let is : ns ≡ ms ++ mark ∷ [] =
    c.push_reserved.ensures.items
    ∙ ap (λ (l : List Mark). l ++ mark ∷ []) c.reserve_one.ensures.items in
    record {
      kept = c.in_ok-number.ensures.kept;
      indexed = c.in_ok-number.ensures.indexed;
      marked = marked_after ns ms mark c.add.new.table.entries.items
          (added_entries i.table.next i.table.entries.items es c.args.precisions.items
          c.args.parent)
          is c.in_ok-number.ensures.ok
          (marked_added ms mark i.table.next i.table.entries.items es c.args.precisions.items
          c.args.parent
          c.self.invariant.counted tells c.self.invariant.marked);
      counted = marked_longer_by ms ns mark i.table.next is c.self.invariant.counted
          ∙ sym c.in_ok-number.ensures.next;
    }
