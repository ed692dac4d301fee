-- A call that stands among others has a place there, and the other way round.
use Rattle.std.proofs.Common.{◌≡◌, ℕ, zero, suc, ◌<◌, Bool, true, false, cond, List, []}
use Rattle.std.proofs.Common.{◌∷◌, length, get_or, refl, sym, subst, inl, inr, Some, arith}
use Rattle.std.specs.List.{All, Contains, filter}
use Rattle.std.specs.Borrow.{Bor}
use Rattle.std.specs.Slice.{IsItemAt}
use Rattle.std.proofs.lemmas.List.Elements.{All-contains}
use Rattle.c_types_rules.specs.Recursion.{Among}

pub among_at : {X : Type 0} (xs : List X) (i : ℕ) (d : X) → i < length xs → Among (get_or xs i d) xs
among_at [] i d less = absurd (omega arith)
among_at (x ∷ xs) zero d less = inl refl
among_at (x ∷ xs) (suc i) d less = inr (among_at xs i d (omega arith))

-- the item of a loop
pub among_item : {X : Type 0} (xs : List X) (i : ℕ) (x : X) → i < length xs → x ≡ get_or xs i x
    → Among x xs
among_item {X} xs i x less is =
    subst (λ (y : X). Among y xs) (sym is) (among_at xs i x less)

-- what `get` gives
pub among_got : {X : Type 0} (xs : List X) (i : ℕ) (x : Bor X) → IsItemAt xs i (Some x)
    → Among x.now xs
among_got xs i x got = among_item xs i x.now got.3.0 got.1

pub all_among : {X : Type 0} (xs : List X) → All (λ x. Among x xs) xs
all_among xs = λ k d less. among_at xs k d less

pub among_contained : {X : Type 0} (x : X) (xs : List X) → Among x xs → Contains xs x
among_contained x [] stands = absurd stands
among_contained x (y ∷ ys) (inl is) = (0, omega arith, sym is)
among_contained x (y ∷ ys) (inr later) =
    let found = among_contained x ys later in (suc found.0, omega (arith, found.1), found.2)

pub all_at : {X : Type 0} (P : X → Type 0) (xs : List X) (x : X) → All P xs → Among x xs → P x
all_at P xs x all stands = All-contains P xs x all (among_contained x xs stands)

pub among_filter : {X : Type 0} (test : X → Bool) (x : X) (xs : List X) → Among x xs
    → test x ≡ true → Among x (filter test xs)
among_filter test x [] stands passes = absurd stands
among_filter {X} test x (y ∷ ys) (inl is) passes =
    let same : test y ≡ true = subst (λ (z : X). test z ≡ true) is passes in
    rw same (inl is)
among_filter test x (y ∷ ys) (inr later) passes =
    let there = among_filter test x ys later passes in
    elim (test y) as (λ b. Among x (cond b (y ∷ filter test ys) (filter test ys))) [
      | true ↦ inr there
      | false ↦ there
    ]
