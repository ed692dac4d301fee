use Rattle.std.proofs.Common.{◌≡◌, map}
use Rattle.cpa_composite.specs.Components.{picked}
use Rattle.cpa_composite.proofs.Strengthening.{Halfway}
use Rattle.cpa_composite.proofs.choosing.strengthen.Given as goal

abbrev pub invariant-loop-place : goal.invariant-loop-place
invariant-loop-place g l =
    let meaning = g.A.Analysis.meaning in
    let ms = map meaning l.initial.handed.items in
    record {
      half : Halfway l.cfa (picked ms l.picks) l.fn.choice.items l.precisions l.place l.row.items;
      kept : map meaning l.handed.items ≡ ms;
    }
