use Rattle.std.proofs.Common.{◌≡◌, ℕ, ◌||◌, ◌&&◌, not, length, take}
use Rattle.std.specs.Prelude.{nat_lt, ◌==◌}
use Rattle.std.specs.List.{list_any}
use Rattle.cpa_query.specs.Queries.{is_marked}
use Rattle.cpa_engine_rounds.proofs.marks.mark_all_unless.Given as goal

abbrev pub invariant-loop-cell : goal.invariant-loop-cell
invariant-loop-cell l = record {
  long : length l.marks ≡ length l.fn.marks;
  marks : (c : ℕ) → is_marked l.marks c ≡ (is_marked l.fn.marks c
      || (list_any (λ m. (m == c) && not (is_marked l.others c)) (take l.cell-index l.cells)
      && nat_lt c (length l.fn.marks)));
}
