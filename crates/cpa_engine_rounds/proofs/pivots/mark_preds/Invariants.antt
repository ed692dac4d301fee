use Rattle.std.proofs.Common.{◌≡◌, ℕ, ◌||◌, ◌&&◌, length, take}
use Rattle.std.specs.Prelude.{nat_lt}
use Rattle.std.specs.List.{list_any}
use Rattle.cpa_expr.specs.Cells.{may_read}
use Rattle.cpa_query.specs.Queries.{is_marked}
use Rattle.cpa_engine_rounds.proofs.pivots.mark_preds.Given as goal

abbrev pub invariant-loop-pred : goal.invariant-loop-pred
invariant-loop-pred l = record {
  long : length l.marks ≡ length l.fn.marks;
  marks : (c : ℕ) → is_marked l.marks c ≡ (is_marked l.fn.marks c
      || (list_any (λ e. may_read e c) (take l.pred-index l.preds)
      && nat_lt c (length l.fn.marks)));
}
