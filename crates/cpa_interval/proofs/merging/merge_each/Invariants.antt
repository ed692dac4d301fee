-- The cells that are left, and the others, have their bounds.
use Rattle.std.proofs.Common.{◌≡◌, ℕ, ◌||◌, Bool, drop}
use Rattle.cpa_interval.specs.Filling.{is_listed, IsRightBut}
use Rattle.cpa_interval.specs.Merging.{merged_along}
use Rattle.cpa_interval.proofs.merging.merge_each.Given as goal

abbrev pub invariant-loop-near : goal.invariant-loop-near
invariant-loop-near l =
    (l.all.cells ≡ l.fn.all.cells)
    × ((left : ℕ → Bool) → IsRightBut (λ c. is_listed c l.known || left c)
    (merged_along l.rule l.numbers l.fn.all.cells l.olds.each l.news.each) l.fn.all.each
    → IsRightBut (λ c. is_listed c (drop l.near l.known) || left c)
    (merged_along l.rule l.numbers l.fn.all.cells l.olds.each l.news.each) l.all.each)
