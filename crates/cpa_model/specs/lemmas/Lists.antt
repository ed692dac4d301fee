-- What holds of each element of a list, with one more or less at its end, and what stands at a
-- place.
use Rattle.std.proofs.Common.{◌≡◌, ℕ, List, [], ◌∷◌, ◌++◌, Some, slice_get}
use Rattle.std.specs.List.{AllByRecursion, Contains}
use Rattle.std.proofs.lemmas.Option.{slice_get-get_or, slice_get_within, get_or_from_slice_get}

-- one more element at the end
pub AllByRecursion-push : {X : Type 0} (P : X → Type 0) (xs : List X) (x : X) → AllByRecursion P xs
    → P x → AllByRecursion P (xs ++ x ∷ [])
AllByRecursion-push P [] x all here = (here, tt)
AllByRecursion-push P (y ∷ ys) x all here = (all.0, AllByRecursion-push P ys x all.1 here)

-- one less element at the end
pub AllByRecursion-front : {X : Type 0} (P : X → Type 0) (xs : List X) (x : X)
    → AllByRecursion P (xs ++ x ∷ []) → AllByRecursion P xs
AllByRecursion-front P [] x all = tt
AllByRecursion-front P (y ∷ ys) x all = (all.0, AllByRecursion-front P ys x all.1)

-- between an element of a list and what stands at a place
pub place_of : {X : Type 0} (xs : List X) (x : X) → Contains xs x
    → (k : ℕ) × (slice_get xs k ≡ Some x)
place_of xs x h = let e = slice_get-get_or xs h.0 x h.1 in (h.0, cc (e, h.2))

pub in_list : {X : Type 0} (xs : List X) (k : ℕ) (x : X) → slice_get xs k ≡ Some x → Contains xs x
in_list xs k x e = (k, slice_get_within xs k x e, get_or_from_slice_get xs k x x e)
