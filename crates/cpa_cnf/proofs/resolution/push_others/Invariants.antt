use Rattle.std.proofs.Common.{◌≡◌, ℕ, not, ◌&&◌, ◌||◌, take}
use Rattle.std.specs.Prelude.{◌==◌}
use Rattle.cpa_cnf.specs.Clauses.{has}
use Rattle.cpa_cnf.proofs.resolution.push_others.Given as goal

abbrev pub invariant-loop-literal : goal.invariant-loop-literal
invariant-loop-literal l =
    (x : ℕ) → has l.left.items x ≡ (has l.initial.left.items x
    || (has (take l.literal-index l.literals) x && not (x == l.out)))
