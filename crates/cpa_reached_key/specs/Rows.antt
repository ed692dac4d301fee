-- Rows of elements: whether two are the same to the letter, and what stands at some places of one
-- (this project's own). That the tests decide equality is shown in `RowLaws`.
use Rattle.std.specs.Prelude.{ℕ, Bool, true, false, ◌&&◌, List, [], ◌∷◌, Option, Some, None}
use Rattle.std.specs.Prelude.{slice_get}
use Rattle.std.specs.List.{flat_map}
use Rattle.cpa_facts.specs.declared.fact.Fact.{Fact}
use Rattle.cpa_model.specs.declared.facts.Elem.{Elem}
use Rattle.cpa_model.specs.Standing.{same_fact}

abbrev pub same_facts : List Fact → List Fact → Bool
same_facts [] [] = true
same_facts [] (g ∷ gs) = false
same_facts (f ∷ fs) [] = false
same_facts (f ∷ fs) (g ∷ gs) = same_fact f g && same_facts fs gs

abbrev pub same_elem : Elem → Elem → Bool
same_elem e f = same_facts e.facts f.facts

abbrev pub same_row : List Elem → List Elem → Bool
same_row [] [] = true
same_row [] (f ∷ fs) = false
same_row (e ∷ es) [] = false
same_row (e ∷ es) (f ∷ fs) = same_elem e f && same_row es fs

-- what is there, as a list
abbrev pub listed : {X : Type 0} → Option X → List X
listed (Some x) = x ∷ []
listed None = []

-- the elements of the row at these places, as far as they are there
abbrev pub picked : List ℕ → List Elem → List Elem
picked places row = flat_map (λ place. listed (slice_get row place)) places
