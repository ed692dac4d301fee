-- The marks are those of the expressions so far.
use Rattle.std.proofs.Common.{◌≡◌, ℕ, ◌||◌, ◌&&◌, length, take}
use Rattle.std.specs.Prelude.{nat_lt}
use Rattle.cpa_query.specs.Queries.{is_marked, wanted_reads}
use Rattle.cpa_query.proofs.reads.mark_wanted.Given as goal

abbrev pub invariant-loop-one : goal.invariant-loop-one
invariant-loop-one l =
    record {
      long : length l.marks ≡ length l.fn.marks;
      marks : (cell : ℕ) → is_marked l.marks cell ≡ (is_marked l.fn.marks cell
          || (wanted_reads (take l.one-index l.wanted) cell && nat_lt cell (length l.fn.marks)));
    }
