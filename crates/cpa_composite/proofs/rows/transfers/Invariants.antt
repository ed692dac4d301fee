use Rattle.std.proofs.Common.{◌≡◌, length, map}
use Rattle.cpa_composite.specs.Components.{picked}
use Rattle.cpa_composite.specs.Laws.{EachTransfer}
use Rattle.cpa_composite.proofs.rows.transfers.Given as goal

abbrev pub invariant-loop-place : goal.invariant-loop-place
invariant-loop-place g l =
    let meaning = g.A.Analysis.meaning in
    let ms = map meaning l.initial.handed.items in
    record {
      each : EachTransfer l.cfa l.edge (picked ms l.picks) l.elems l.precisions
          (map (λ list. list.items) l.lists.items);
      size : length l.lists.items ≡ l.place;
      kept : map meaning l.handed.items ≡ ms;
    }
