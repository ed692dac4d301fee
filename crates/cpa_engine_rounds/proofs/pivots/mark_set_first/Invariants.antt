use Rattle.std.proofs.Common.{◌≡◌, ℕ, ◌&&◌, length, take}
use Rattle.std.specs.Prelude.{nat_lt}
use Rattle.std.specs.List.{list_any}
use Rattle.cpa_query.specs.Queries.{is_marked}
use Rattle.cpa_folds.specs.Along.{acts_along}
use Rattle.cpa_engine_rounds.specs.Pivots.{reads, is_set_first}
use Rattle.cpa_engine_rounds.proofs.pivots.mark_set_first.Given as goal

abbrev pub invariant-loop-number : goal.invariant-loop-number
invariant-loop-number l = record {
  read_long : length l.read ≡ length l.cfa.cells;
  set_long : length l.set ≡ length l.cfa.cells;
  read : (c : ℕ) → is_marked l.read c
      ≡ (list_any (λ a. reads a c) (acts_along l.cfa (take l.number-index l.path))
      && nat_lt c (length l.cfa.cells));
  set : (c : ℕ) → is_marked l.set c
      ≡ (is_set_first (acts_along l.cfa (take l.number-index l.path)) c
      && nat_lt c (length l.cfa.cells));
}
