-- Lines that are good one after the other are all good.
use Rattle.std.proofs.Common.{◌≡◌, ◌<◌, ◌+◌, ℕ, List, length, subst, arith, inl, inr}
use Rattle.std.proofs.lemmas.Bool.{cases_lt}
use Rattle.std.proofs.lemmas.Option.{slice_get_within}
use Rattle.cpa_cnf.specs.declared.formula.Cnf.{Cnf}
use Rattle.cpa_cnf.specs.declared.formula.Line.{Line}
use Rattle.cpa_cnf.specs.Lines.{AreGood, IsGoodAt}

module _ (cnf : Cnf) (log : List Line) where
  pub one_more : (i : ℕ) → ((n : ℕ) → n < i → IsGoodAt cnf log n) → IsGoodAt cnf log i
      → (n : ℕ) → n < i + 1 → IsGoodAt cnf log n
  one_more i before here n below = elim (cases_lt n i) [
    | inl less ↦ before n less
    | inr more ↦
        let same : i ≡ n = omega arith in subst (λ (k : ℕ). IsGoodAt cnf log k) same here
  ]

  pub all_good : ((n : ℕ) → n < length log → IsGoodAt cnf log n) → AreGood cnf log
  all_good good n = λ line at. good n (slice_get_within log n line at) line at
