use Rattle.std.proofs.Common.{◌≡◌, map, length}
use Rattle.std.specs.List.{AllByRecursion}
use Rattle.std.specs.Vec.Iter.{into_iter_items, into_iter_len}
use Rattle.cpa_composite.specs.Components.{picked, AreElems}
use Rattle.cpa_composite.proofs.Strengthening.{Remains}
use Rattle.cpa_composite.proofs.choosing.strengthen_all.Given as goal

abbrev pub invariant-loop-choice : goal.invariant-loop-choice
invariant-loop-choice g l =
    let meaning = g.A.Analysis.meaning in
    let ms = map meaning l.initial.handed.items in
    record {
      each : Remains l.cfa (picked ms l.picks) l.precisions
          (map (λ row. row.items) l.fn.choices.items)
          (map (λ row. row.items) (into_iter_items l.choice-iterator))
          (map (λ row. row.items) l.rows.items);
      kept : map meaning l.handed.items ≡ ms;
      shaped : AllByRecursion (AreElems l.cfa (length l.picks))
          (map (λ row. row.items) (into_iter_items l.choice-iterator));
      len : into_iter_len l.choice-iterator ≡ length (into_iter_items l.choice-iterator);
    }
