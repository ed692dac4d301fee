use Rattle.std.proofs.Common.{◌≡◌, ℕ, true, take}
use Rattle.cpa_cnf.specs.Clauses.{has}
use Rattle.cpa_cnf.specs.Marking.{marked}
use Rattle.cpa_cnf.proofs.marks.all_marked.Given as goal

abbrev pub invariant-loop-literal : goal.invariant-loop-literal
invariant-loop-literal l =
    (x : ℕ) → has (take l.literal-index l.literals) x ≡ true → marked l.table x ≡ true
