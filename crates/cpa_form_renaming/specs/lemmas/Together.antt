-- Cells that stand one behind the other.
use Rattle.std.proofs.Common.{◌≡◌, ℕ, zero, suc, ◌+◌, ◌<◌, ◌==◌, Bool, true, false, ◌&&◌, IsTrue}
use Rattle.std.proofs.Common.{List, refl, sym, subst, arith}
use Rattle.std.proofs.lemmas.Bool.{and_parts, eqb-true, eq-eqb}
use Rattle.cpa_form_renaming.specs.declared.places.Place.{Place}
use Rattle.cpa_form_renaming.specs.Places.{number_at, stand_together}

pub both_true : (a b : Bool) → a ≡ true → b ≡ true → (a && b) ≡ true
both_true true b h k = k
both_true false b h k = absurd (cc)

pub together_at : (places : List Place) (base len i : ℕ) → IsTrue (stand_together places base len)
    → i < len → number_at places (base + i) ≡ number_at places base + i
together_at places base zero i h below = absurd (omega arith)
together_at places base (suc n) i h below =
    let parts = and_parts (stand_together places base n)
    (number_at places (base + n) == number_at places base + n) h in
    by (i == n) refl parts.1 (λ less. together_at places base n i parts.0 less)
  where
    smaller : (i n : ℕ) → i < suc n → (i == n) ≡ false → i < n
    smaller i n below e =
        let apart : (i ≡ n) → ⊥ = λ is. let same = eq-eqb i n is in absurd (cc) in
        grind (arith, below, apart)

    by : (b : Bool) → (i == n) ≡ b
        → (number_at places (base + n) == number_at places base + n) ≡ true
        → (i < n → number_at places (base + i) ≡ number_at places base + i)
        → number_at places (base + i) ≡ number_at places base + i
    by true e last others =
        subst (λ k. number_at places (base + k) ≡ number_at places base + k) (sym (eqb-true i n e))
        (eqb-true (number_at places (base + n)) (number_at places base + n) last)
    by false e last others = others (smaller i n below e)

pub together_from : (places : List Place) (base len : ℕ)
    → ((i : ℕ) → i < len → number_at places (base + i) ≡ number_at places base + i)
    → IsTrue (stand_together places base len)
together_from places base zero each = refl
together_from places base (suc n) each =
    both_true (stand_together places base n)
    (number_at places (base + n) == number_at places base + n)
    (together_from places base n (λ i below. each i (omega (arith, below))))
    (eq-eqb (number_at places (base + n)) (number_at places base + n) (each n (omega arith)))
