use Rattle.std.proofs.Common.{◌≡◌, ℕ, ◌&&◌, length, take}
use Rattle.std.specs.Prelude.{nat_lt}
use Rattle.cpa_query.specs.Queries.{is_marked}
use Rattle.cpa_engine_rounds.specs.Pivots.{is_new}
use Rattle.cpa_engine_rounds.proofs.pivots.mark_new.Given as goal

abbrev pub invariant-loop-place : goal.invariant-loop-place
invariant-loop-place l = record {
  long : length l.marks ≡ length l.fn.marks;
  marks : (c : ℕ) → is_marked l.marks c
      ≡ (is_new (take l.place l.old) l.new c && nat_lt c (length l.fn.marks));
}
