-- Members of lists that grow at their end.
use Rattle.std.proofs.Common.{◌≡◌, ◌≢◌, List, [], ◌∷◌, ◌++◌, map, refl, ap}
use Rattle.std.proofs.Common.{inl, inr, ⊎_elim}
use Rattle.std.specs.Prelude.{◌⊎◌}
use Rattle.std.specs.List.{AllByRecursion}
use Rattle.cpa_iface.specs.Laws.{AreDistinct}
use Rattle.cpa_reached.specs.Members.{IsIn}

pub in_both : {X : Type 0} (xs ys : List X) (x : X) → IsIn x (xs ++ ys) → IsIn x xs ⊎ IsIn x ys
in_both [] ys x there = inr there
in_both (y ∷ xs) ys x (inl same) = inl (inl same)
in_both (y ∷ xs) ys x (inr later) =
    ⊎_elim (λ h. inl (inr h)) (λ h. inr h) (in_both xs ys x later)

pub in_front : {X : Type 0} (xs ys : List X) (x : X) → IsIn x xs → IsIn x (xs ++ ys)
in_front [] ys x there = absurd there
in_front (y ∷ xs) ys x (inl same) = inl same
in_front (y ∷ xs) ys x (inr later) = inr (in_front xs ys x later)

pub in_back : {X : Type 0} (xs ys : List X) (x : X) → IsIn x ys → IsIn x (xs ++ ys)
in_back [] ys x there = there
in_back (y ∷ xs) ys x there = inr (in_back xs ys x there)

pub last_in : {X : Type 0} (xs : List X) (x : X) → IsIn x (xs ++ x ∷ [])
last_in xs x = in_back xs (x ∷ []) x (inl refl)

-- an item of a list with one more
pub in_push : {X : Type 0} (xs : List X) (y x : X) → IsIn x (xs ++ y ∷ []) → IsIn x xs ⊎ (y ≡ x)
in_push xs y x there =
    ⊎_elim (λ h. inl h) (λ h. ⊎_elim (λ same. inr same) (λ none. absurd none) h)
    (in_both xs (y ∷ []) x there)

pub in_map_of : {X Y : Type 0} (f : X → Y) (xs : List X) (x : X) → IsIn x xs
    → IsIn (f x) (map f xs)
in_map_of f [] x there = absurd there
in_map_of f (y ∷ xs) x (inl same) = inl (ap f same)
in_map_of f (y ∷ xs) x (inr later) = inr (in_map_of f xs x later)

pub of_map : {X Y : Type 0} (f : X → Y) (xs : List X) (y : Y) → IsIn y (map f xs)
    → (x : X) × IsIn x xs × (f x ≡ y)
of_map f [] y there = absurd there
of_map f (x ∷ xs) y (inl same) = (x, inl refl, same)
of_map f (x ∷ xs) y (inr later) = let r = of_map f xs y later in (r.0, inr r.1, r.2)

pub map_push : {X Y : Type 0} (f : X → Y) (xs : List X) (x : X)
    → map f (xs ++ x ∷ []) ≡ map f xs ++ f x ∷ []
map_push f [] x = refl
map_push {X} {Y} f (y ∷ xs) x = ap (λ (l : List Y). f y ∷ l) (map_push f xs x)

-- distinct items, and one that is none of them
differs_from_all : {X : Type 0} (x y : X) (xs : List X) → x ≢ y → AllByRecursion (λ z. x ≢ z) xs
    → AllByRecursion (λ z. x ≢ z) (xs ++ y ∷ [])
differs_from_all x y [] other all = (other, tt)
differs_from_all x y (z ∷ xs) other all = (all.0, differs_from_all x y xs other all.1)

pub distinct_push : {X : Type 0} (xs : List X) (x : X) → AreDistinct xs → (IsIn x xs → ⊥)
    → AreDistinct (xs ++ x ∷ [])
distinct_push [] x distinct none = (tt, tt)
distinct_push (y ∷ xs) x distinct none = (
  differs_from_all y x xs (λ same. none (inl same)) distinct.0,
  distinct_push xs x distinct.1 (λ there. none (inr there)),
)
