-- What stands at a place of a list, and what the analysis at the place of a pick means. Lemmas for
-- the crates above.
use Rattle.std.specs.Prelude.{◌≡◌, ℕ, zero, suc, ◌<◌, List, [], ◌∷◌, length, map, get_or, Some}
use Rattle.std.specs.Prelude.{refl, slice_get}
use Rattle.std.specs.Option.{option_map}
use Rattle.std.proofs.Common.{sym, ap, ◌∙◌, subst, arith}
use Rattle.std.proofs.lemmas.List.{length-map}
use Rattle.std.proofs.lemmas.Option.{same_Some, slice_get-map, slice_get_read}
use Rattle.cpa_iface.specs.declared.merging.Pick.{Pick}
use Rattle.cpa_iface.specs.Meanings.{Meaning}
use Rattle.cpa_composite_covers.specs.Components.{Component, IsPicked, ArePlaces}

-- within a list there is an item
pub there_is : {X : Type 0} (xs : List X) (i : ℕ) → i < length xs
    → (x : X) × (slice_get xs i ≡ Some x)
there_is [] i h = absurd (omega arith)
there_is (x ∷ xs) zero h = (x, refl)
there_is (x ∷ xs) (suc i) h = there_is xs i (omega arith)

-- they are within the meanings
pub within_meanings : {A : Type 0} (meaning : A → Meaning) (xs : List A) (picks : List Pick)
    → ArePlaces (length xs) picks → ArePlaces (length (map meaning xs)) picks
within_meanings meaning xs picks within =
    subst (λ (n : ℕ). ArePlaces n picks) (sym (length-map xs meaning)) within

-- the analysis at the place of the pick means what the component does
pub meant : {A : Type 0} (meaning : A → Meaning) (xs : List A) (p : Pick) (c : Component) (x : A)
    → p.place < length xs → x ≡ get_or xs p.place x → IsPicked (map meaning xs) p c
    → meaning x ≡ c.meaning
meant meaning xs p c x inside at is =
    same_Some (meaning x) c.meaning
    (sym (slice_get-map meaning xs p.place
    ∙ ap (option_map meaning) (slice_get_read xs (length xs) p.place x refl inside at))
    ∙ is.meaning)
