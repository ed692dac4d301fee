-- What holds of the items of a list so far, and of the one at a place.
use Rattle.std.proofs.Common.{◌≡◌, ℕ, zero, suc, ◌+◌, ◌<◌, List, [], ◌∷◌, length, take, get_or, sym}
use Rattle.std.proofs.Common.{subst, arith}
use Rattle.std.specs.List.{AllByRecursion}

more : {X : Type 0} (P : X → Type 0) (xs : List X) (i : ℕ) (d : X) → i < length xs
    → P (get_or xs i d) → AllByRecursion P (take i xs) → AllByRecursion P (take (suc i) xs)
more P [] i d less one all = absurd (omega (arith, less))
more P (x ∷ xs) zero d less one all = (one, tt)
more P (x ∷ xs) (suc i) d less one all =
    (all.0, more P xs i d (omega (arith, less)) one all.1)

pub one_more : {X : Type 0} (P : X → Type 0) (xs : List X) (i : ℕ) (x : X) → i < length xs
    → x ≡ get_or xs i x → P x → AllByRecursion P (take i xs) → AllByRecursion P (take (i + 1) xs)
one_more P xs i x less is one all =
    let next : suc i ≡ i + 1 = omega arith in
    subst (λ (k : ℕ). AllByRecursion P (take k xs)) next (more P xs i x less (subst P is one) all)

there : {X : Type 0} (P : X → Type 0) (xs : List X) (i : ℕ) (d : X) → i < length xs
    → AllByRecursion P xs → P (get_or xs i d)
there P [] i d less all = absurd (omega (arith, less))
there P (x ∷ xs) zero d less all = all.0
there P (x ∷ xs) (suc i) d less all = there P xs i d (omega (arith, less)) all.1

pub item_at : {X : Type 0} (P : X → Type 0) (xs : List X) (i : ℕ) (x : X) → i < length xs
    → x ≡ get_or xs i x → AllByRecursion P xs → P x
item_at P xs i x less is all = subst P (sym is) (there P xs i x less all)
