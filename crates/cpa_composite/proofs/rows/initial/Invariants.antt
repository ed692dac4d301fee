use Rattle.std.proofs.Common.{◌≡◌, length, map}
use Rattle.cpa_composite.specs.Components.{picked}
use Rattle.cpa_composite.specs.Laws.{EachInitial}
use Rattle.cpa_composite.proofs.rows.initial.Given as goal

abbrev pub invariant-loop-pick : goal.invariant-loop-pick
invariant-loop-pick g l =
    let meaning = g.A.Analysis.meaning in
    let ms = map meaning l.initial.handed.items in
    record {
      each : EachInitial l.cfa l.settings (picked ms l.picks) l.elems.items l.precisions.items;
      size : length l.elems.items ≡ l.pick-index;
      long : length l.precisions.items ≡ l.pick-index;
      kept : map meaning l.handed.items ≡ ms;
    }
