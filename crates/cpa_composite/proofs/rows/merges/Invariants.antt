use Rattle.std.proofs.Common.{◌≡◌, length, map}
use Rattle.cpa_composite.specs.Components.{picked}
use Rattle.cpa_composite.specs.Laws.{EachMerged}
use Rattle.cpa_composite.proofs.rows.merges.Given as goal

abbrev pub invariant-loop-place : goal.invariant-loop-place
invariant-loop-place g l =
    let meaning = g.A.Analysis.meaning in
    let ms = map meaning l.initial.handed.items in
    record {
      each : EachMerged l.cfa (picked ms l.picks) l.new l.old l.precisions l.merged.items;
      size : length l.merged.items ≡ l.place;
      kept : map meaning l.handed.items ≡ ms;
    }
