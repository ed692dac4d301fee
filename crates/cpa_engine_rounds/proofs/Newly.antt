-- Which cells are newly kept, place by place (`new_more`).
use Rattle.std.proofs.Common.{◌≡◌, ℕ, zero, suc, ◌+◌, ◌<◌, ◌≤◌, Bool, true, false, not, get_or, min}
use Rattle.std.proofs.Common.{List, [], ◌∷◌, take, length, refl, sym, ap, ◌∙◌, arith}
use Rattle.std.specs.Prelude.{◌||◌, ◌&&◌}
use Rattle.cpa_iface.specs.declared.precisions.Precision.{Precision}
use Rattle.cpa_engine_rounds.specs.Pivots.{keeps_newly, is_new}

-- what is tracked newly, where marks go no further than the cells
pub newly : (old more any before less was mid new : Bool) → was ≡ (before && less)
    → mid ≡ (old || ((more && not was) && less)) → new ≡ (mid || (any && less))
    → new ≡ (old || (((more && not before) || any) && less))
newly old more any before less was mid new is_was is_mid is_new =
    is_new
    ∙ ap (λ (b : Bool). b || (any && less)) is_mid
    ∙ ap (λ (b : Bool). (old || ((more && not b) && less)) || (any && less)) is_was
    ∙ by old more any before less
  where
    by : (old more any before less : Bool)
        → ((old || ((more && not (before && less)) && less)) || (any && less))
        ≡ (old || (((more && not before) || any) && less))
    by true more any before less = refl
    by false true true true true = refl
    by false true true true false = refl
    by false true true false true = refl
    by false true true false false = refl
    by false true false true true = refl
    by false true false true false = refl
    by false true false false true = refl
    by false true false false false = refl
    by false false any before less = refl

-- one place more
pub new_more : (old new : List Precision) (i : ℕ) (p q : Precision) (c : ℕ) → i < length old
    → i < length new → p ≡ get_or old i p → q ≡ get_or new i q
    → is_new (take (i + 1) old) new c ≡ (is_new (take i old) new c || keeps_newly p q c)
new_more [] new i p q c less also at_p at_q = absurd (omega (arith, less))
new_more (x ∷ old) [] i p q c less also at_p at_q = absurd (omega (arith, also))
new_more (x ∷ old) (y ∷ new) zero p q c less also at_p at_q =
    ap (λ (r : Precision). keeps_newly r y c || is_new [] new c) (sym at_p)
    ∙ ap (λ (r : Precision). keeps_newly p r c || is_new [] new c) (sym at_q)
    ∙ by (keeps_newly p q c)
  where
    by : (b : Bool) → (b || false) ≡ b
    by true = refl
    by false = refl
new_more (x ∷ old) (y ∷ new) (suc i) p q c less also at_p at_q =
    ap (λ (n : ℕ). is_new (take n (x ∷ old)) (y ∷ new) c) (moved i)
    ∙ ap (λ (b : Bool). keeps_newly x y c || b)
    (new_more old new i p q c (omega (arith, less)) (omega (arith, also)) at_p at_q)
    ∙ by (keeps_newly x y c)
  where
    moved : (k : ℕ) → suc k + 1 ≡ suc (k + 1)
    moved k = omega arith

    by : (b : Bool) → (b || (is_new (take i old) new c || keeps_newly p q c))
        ≡ ((b || is_new (take i old) new c) || keeps_newly p q c)
    by true = refl
    by false = refl

-- all places
pub new_all : (old new : List Precision) (i : ℕ) (c : ℕ) → min (length old) (length new) ≤ i
    → is_new (take i old) new c ≡ is_new old new c
new_all [] new zero c over = refl
new_all [] new (suc i) c over = refl
new_all (x ∷ old) [] zero c over = refl
new_all (x ∷ old) [] (suc i) c over = refl
new_all (x ∷ old) (y ∷ new) zero c over = absurd (omega (arith, over))
new_all (x ∷ old) (y ∷ new) (suc i) c over =
    ap (λ (b : Bool). keeps_newly x y c || b) (new_all old new i c (omega (arith, over)))

pub marks_more : (old now kept less : Bool) (new : Bool) → old ≡ (now && less)
    → new ≡ (old || (kept && less)) → new ≡ ((now || kept) && less)
marks_more old now kept less new was is =
    is ∙ ap (λ (b : Bool). b || (kept && less)) was ∙ by now kept less
  where
    by : (a b c : Bool) → ((a && c) || (b && c)) ≡ ((a || b) && c)
    by true true true = refl
    by true true false = refl
    by true false true = refl
    by true false false = refl
    by false b c = refl

pub below_both : (m n i end : ℕ) → end ≡ min m n → i < end → (i < m) × (i < n)
below_both m n i end is less = (omega (arith, is, less), omega (arith, is, less))
