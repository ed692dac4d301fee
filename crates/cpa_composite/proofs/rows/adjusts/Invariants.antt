use Rattle.std.proofs.Common.{◌≡◌, length, map}
use Rattle.cpa_composite.specs.Components.{picked}
use Rattle.cpa_composite.specs.Laws.{EachAdjusted}
use Rattle.cpa_composite.proofs.rows.adjusts.Given as goal

abbrev pub invariant-loop-place : goal.invariant-loop-place
invariant-loop-place g l =
    let meaning = g.A.Analysis.meaning in
    let ms = map meaning l.initial.handed.items in
    record {
      each : EachAdjusted l.cfa l.reached (picked ms l.picks) l.elems l.precisions l.after.items
          l.next.items;
      size : length l.after.items ≡ l.place;
      long : length l.next.items ≡ l.place;
      kept : map meaning l.handed.items ≡ ms;
    }
