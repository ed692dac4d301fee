-- Items of a list from a place on, of which some pass a test: one that passes there (`found_at`),
-- one that is passed over (`passed_over`), and that they are items of the list (`found_behind`).
use Rattle.std.proofs.Common.{◌≡◌, ℕ, zero, suc, ◌+◌, ◌<◌, Bool, true, false, List, [], ◌∷◌}
use Rattle.std.proofs.Common.{length, drop, Some, refl, sym, ap, ◌∙◌, arith}
use Rattle.std.specs.Prelude.{slice_get, ◌||◌}
use Rattle.std.specs.List.{list_any}

-- the test says of the item at the place what it says
abbrev pub TellsOf : {X : Type 0} → (X → Bool) → List X → ℕ → Bool → Type 0
TellsOf {X} p xs i b = (x : X) → slice_get xs i ≡ Some x → b ≡ p x

first_of : {X : Type 0} (p : X → Bool) (xs : List X) (i : ℕ) (b : Bool) → i < length xs
    → TellsOf p xs i b → list_any p (drop i xs) ≡ (b || list_any p (drop (i + 1) xs))
first_of p [] i b inside tells = absurd (omega (arith, inside))
first_of p (x ∷ xs) zero b inside tells = ap (λ one. one || list_any p xs) (sym (tells x refl))
first_of p (x ∷ xs) (suc i) b inside tells =
    let next : suc (i + 1) ≡ suc i + 1 = omega arith in
    first_of p xs i b (omega (arith, inside)) tells
    ∙ ap (λ k. b || list_any p (drop k (x ∷ xs))) next

pub found_at : {X : Type 0} (p : X → Bool) (xs : List X) (i : ℕ) (b : Bool) → i < length xs
    → TellsOf p xs i b → b ≡ true → list_any p (drop i xs) ≡ true
found_at p xs i b inside tells holds =
    first_of p xs i b inside tells ∙ ap (λ one. one || list_any p (drop (i + 1) xs)) holds

pub passed_over : {X : Type 0} (p : X → Bool) (xs : List X) (i : ℕ) (b : Bool) → i < length xs
    → TellsOf p xs i b → b ≡ false → list_any p (drop (i + 1) xs) ≡ list_any p (drop i xs)
passed_over p xs i b inside tells none =
    sym (first_of p xs i b inside tells ∙ ap (λ one. one || list_any p (drop (i + 1) xs)) none)

pub found_behind : {X : Type 0} (p : X → Bool) (xs : List X) (i : ℕ)
    → list_any p (drop i xs) ≡ true → list_any p xs ≡ true
found_behind p xs zero found = found
found_behind p [] (suc i) found = found
found_behind p (x ∷ xs) (suc i) found = later (p x) (list_any p xs) (found_behind p xs i found)
  where
    later : (a b : Bool) → b ≡ true → (a || b) ≡ true
    later true b holds = refl
    later false b holds = holds
