use Rattle.std.proofs.Common.{◌≡◌, ◌||◌, ◌<◌, ℕ, false, length, drop}
use Rattle.std.specs.Prelude.{slice_index_or}
use Rattle.std.specs.List.{list_any}
use Rattle.cpa_chains.specs.Sides.{clauses_on, has_variable, stands_on}
use Rattle.cpa_chains.proofs.sides.variables_of_b.Given as goal

abbrev pub invariant-loop-i : goal.invariant-loop-i
invariant-loop-i l =
    (length l.table.items ≡ l.cnf.vars)
    × ((x : ℕ) → x < l.cnf.vars → (slice_index_or l.table.items x false
    || list_any (λ c. has_variable c x)
    (clauses_on false (drop l.i l.sides) (drop l.i l.cnf.clauses)))
    ≡ stands_on false l.cnf l.sides x)
