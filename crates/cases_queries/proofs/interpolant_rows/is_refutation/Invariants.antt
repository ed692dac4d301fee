-- Each line so far is good.
use Rattle.std.proofs.Common.{◌≡◌, ◌<◌, ℕ}
use Rattle.cpa_cnf.specs.Lines.{IsGoodAt}
use Rattle.cases_queries.proofs.interpolant_rows.is_refutation.Given as goal

abbrev pub invariant-loop-i : goal.invariant-loop-i
invariant-loop-i l =
    (l.marks ≡ l.cnf.vars) × ((line : ℕ) → line < l.i → IsGoodAt l.cnf l.log line)
