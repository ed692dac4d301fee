use Rattle.std.proofs.Common.{◌≡◌, length, map}
use Rattle.cpa_composite.specs.Components.{picked}
use Rattle.cpa_composite.specs.Laws.{EachRefined}
use Rattle.cpa_composite.proofs.rows.refines.Given as goal

abbrev pub invariant-loop-place : goal.invariant-loop-place
invariant-loop-place g l =
    let meaning = g.A.Analysis.meaning in
    let ms = map meaning l.initial.handed.items in
    record {
      each : EachRefined l.cfa l.path (picked ms l.picks) l.precisions l.refined.items;
      size : length l.refined.items ≡ l.place;
      kept : map meaning l.handed.items ≡ ms;
    }
