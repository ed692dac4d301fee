use Rattle.std.proofs.Common.{◌≡◌, map, length}
use Rattle.std.specs.Vec.Iter.{into_iter_items, into_iter_len}
use Rattle.cpa_composite.proofs.Chosen.{IsLeft}
use Rattle.cpa_composite.proofs.choosing.only_choice.Given as goal

abbrev pub invariant-loop-list : goal.invariant-loop-list
invariant-loop-list l = record {
  left : IsLeft (map (λ list. list.items) l.fn.lists.items) l.row.items
      (map (λ list. list.items) (into_iter_items l.list-iterator));
  len : into_iter_len l.list-iterator ≡ length (into_iter_items l.list-iterator);
}
