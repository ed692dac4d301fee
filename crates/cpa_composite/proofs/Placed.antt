-- Items of a list by their places.
use Rattle.std.proofs.Common.{zero, suc}
use Rattle.std.proofs.Common.{◌≡◌, ℕ, ◌+◌, ◌<◌, List, [], ◌∷◌, ◌++◌, length, take, drop, Some}
use Rattle.std.proofs.Common.{refl, sym, ap, ◌∙◌, subst, arith}
use Rattle.std.proofs.Common.{get_or}
use Rattle.std.proofs.Math.Seq.{get_or-append_seam}
use Rattle.std.specs.List.{slice_get, AllByRecursion, remove, insert}
use Rattle.std.proofs.lemmas.Option.{same_Some}

-- the front of a longer list
pub front_at : {X : Type 0} (xs ys : List X) (i : ℕ) → i < length xs
    → slice_get (xs ++ ys) i ≡ slice_get xs i
front_at [] ys i h = absurd (omega arith)
front_at (x ∷ xs) ys zero h = refl
front_at (x ∷ xs) ys (suc i) h = front_at xs ys i (omega arith)

-- the item behind all others
pub last_at : {X : Type 0} (xs : List X) (x : X) → slice_get (xs ++ x ∷ []) (length xs) ≡ Some x
last_at [] x = refl
last_at (y ∷ xs) x = last_at xs x

-- what is asked of each item at its place, and of the next one, is asked of each of the longer list
pub grows : {X : Type 0} (P : ℕ → X → Type 0) (xs : List X) (x : X)
    → ((i : ℕ) (y : X) → slice_get xs i ≡ Some y → P i y) → P (length xs) x
    → (i : ℕ) (y : X) → slice_get (xs ++ x ∷ []) i ≡ Some y → P i y
grows P [] x all last zero y h = subst (P 0) (same_Some x y h) last
grows P [] x all last (suc i) y h = absurd (cc)
grows P (z ∷ zs) x all last zero y h = all 0 y h
grows P (z ∷ zs) x all last (suc i) y h =
    grows (λ j. P (suc j)) zs x (λ j w k. all (suc j) w k) last i y h

-- what holds at each place holds of each item
pub at_each : {X : Type 0} (P : X → Type 0) (xs : List X)
    → ((i : ℕ) (x : X) → slice_get xs i ≡ Some x → P x) → AllByRecursion P xs
at_each P [] h = tt
at_each P (x ∷ xs) h = (h 0 x refl, at_each P xs (λ i y at. h (suc i) y at))

-- what holds of each item holds at a place
pub each_at : {X : Type 0} (P : X → Type 0) (xs : List X) → AllByRecursion P xs → (i : ℕ) (x : X)
    → slice_get xs i ≡ Some x → P x
each_at P [] h i x at = absurd (cc)
each_at P (y ∷ xs) h zero x at = subst P (same_Some y x at) h.0
each_at P (y ∷ xs) h (suc i) x at = each_at P xs h.1 i x at

-- what is left from a place on begins with the item there
left_from : {X : Type 0} (xs : List X) (i : ℕ) (x : X) → slice_get xs i ≡ Some x
    → drop i xs ≡ x ∷ drop (suc i) xs
left_from [] i x at = absurd (cc)
left_from {X} (y ∷ xs) zero x at = ap (λ (z : X). z ∷ xs) (same_Some y x at)
left_from (y ∷ xs) (suc i) x at = left_from xs i x at

pub left_at : {X : Type 0} (xs : List X) (i : ℕ) (x : X) → slice_get xs i ≡ Some x
    → drop i xs ≡ x ∷ drop (i + 1) xs
left_at {X} xs i x at =
    let one : suc i ≡ i + 1 = omega arith in
    left_from xs i x at ∙ ap (λ (n : ℕ). x ∷ drop n xs) one

-- the front up to a place, and the item there
front_with : {X : Type 0} (xs : List X) (i : ℕ) (x : X) → slice_get xs i ≡ Some x
    → take (suc i) xs ≡ take i xs ++ x ∷ []
front_with [] i x at = absurd (cc)
front_with {X} (y ∷ xs) zero x at = ap (λ (z : X). z ∷ []) (same_Some y x at)
front_with {X} (y ∷ xs) (suc i) x at = ap (λ (l : List X). y ∷ l) (front_with xs i x at)

pub take_next : {X : Type 0} (xs : List X) (i : ℕ) (x : X) → slice_get xs i ≡ Some x
    → take (i + 1) xs ≡ take i xs ++ x ∷ []
take_next {X} xs i x at =
    let one : i + 1 ≡ suc i = omega arith in
    ap (λ (n : ℕ). take n xs) one ∙ front_with xs i x at

-- a list without the item at a place
removed_there : {X : Type 0} (before : List X) (own : X) (after : List X)
    → remove (before ++ own ∷ after) (length before) ≡ before ++ after
removed_there [] own after = refl
removed_there {X} (x ∷ before) own after =
    ap (λ (l : List X). x ∷ l) (removed_there before own after)

pub removed : {X : Type 0} (before : List X) (own : X) (after xs : List X) (place : ℕ)
    → xs ≡ before ++ own ∷ after → length before ≡ place → remove xs place ≡ before ++ after
removed {X} before own after xs place is size =
    ap (λ (l : List X). remove l place) is
    ∙ (ap (λ (n : ℕ). remove (before ++ own ∷ after) n) (sym size)
    ∙ removed_there before own after)

-- the item at that place
pub own_is : {X : Type 0} (before : List X) (own : X) (after xs : List X) (place : ℕ) (x : X)
    → xs ≡ before ++ own ∷ after → length before ≡ place → x ≡ get_or xs place x → x ≡ own
own_is {X} before own after xs place x is size at =
    at ∙ (ap (λ (l : List X). get_or l place x) is
    ∙ (ap (λ (n : ℕ). get_or (before ++ own ∷ after) n x) (sym size)
    ∙ get_or-append_seam before own after x))

-- a list with another item at a place
inserted_there : {X : Type 0} (before : List X) (x : X) (after : List X)
    → insert (before ++ after) (length before) x ≡ before ++ x ∷ after
inserted_there [] x after = refl
inserted_there {X} (y ∷ before) x after =
    ap (λ (l : List X). y ∷ l) (inserted_there before x after)

pub inserted : {X : Type 0} (before : List X) (x : X) (after : List X) (place : ℕ)
    → length before ≡ place → insert (before ++ after) place x ≡ before ++ x ∷ after
inserted before x after place size =
    ap (λ (n : ℕ). insert (before ++ after) n x) (sym size) ∙ inserted_there before x after

-- what holds of each item of both lists holds of each of the whole
pub all_both : {X : Type 0} (P : X → Type 0) (xs ys : List X) → AllByRecursion P xs
    → AllByRecursion P ys → AllByRecursion P (xs ++ ys)
all_both P [] ys a b = b
all_both P (x ∷ xs) ys a b = (a.0, all_both P xs ys a.1 b)

pub all_front : {X : Type 0} (P : X → Type 0) (xs ys : List X) → AllByRecursion P (xs ++ ys)
    → AllByRecursion P xs
all_front P [] ys h = tt
all_front P (x ∷ xs) ys h = (h.0, all_front P xs ys h.1)

pub all_behind : {X : Type 0} (P : X → Type 0) (xs ys : List X) → AllByRecursion P (xs ++ ys)
    → AllByRecursion P ys
all_behind P [] ys h = h
all_behind P (x ∷ xs) ys h = all_behind P xs ys h.1

pub joined : {X : Type 0} (xs : List X) (x : X) (ys : List X)
    → (xs ++ x ∷ []) ++ ys ≡ xs ++ x ∷ ys
joined [] x ys = refl
joined {X} (z ∷ xs) x ys = ap (λ (l : List X). z ∷ l) (joined xs x ys)

-- with another item in its place a list is as long
pub same_length : {X : Type 0} (xs : List X) (x y : X) (ys : List X)
    → length (xs ++ x ∷ ys) ≡ length (xs ++ y ∷ ys)
same_length [] x y ys = refl
same_length (z ∷ xs) x y ys = ap suc (same_length xs x y ys)

pub no_more : {X : Type 0} (xs : List X) → xs ++ [] ≡ xs
no_more [] = refl
no_more {X} (x ∷ xs) = ap (λ (l : List X). x ∷ l) (no_more xs)
