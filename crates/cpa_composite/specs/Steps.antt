-- One analysis strengthens its element in a row (this project's own).
use Rattle.std.specs.Prelude.{◌≡◌, ℕ, Bool, true, false, List, ◌∷◌, ◌++◌, length, Some, None}
use Rattle.cpa_model.specs.declared.facts.Elem.{Elem}
use Rattle.cpa_model.specs.declared.automaton.Cfa.{Cfa}
use Rattle.cpa_iface.specs.declared.precisions.Precision.{Precision}
use Rattle.cpa_iface.specs.Laws.{StrengthenLaws}
use Rattle.cpa_composite.specs.Components.{Component}

-- that no state is left, or, at false, the row with a new element between these
abbrev pub Strengthened : Cfa → Component → List Elem → Elem → List Elem → Precision → List Elem
    → Bool → Type 0
Strengthened cfa c before own after p new true =
    StrengthenLaws c.meaning cfa own (before ++ after) p None
Strengthened cfa c before own after p new false =
    (f : Elem) × StrengthenLaws c.meaning cfa own (before ++ after) p (Some f)
    × (new ≡ before ++ f ∷ after)

-- the same of the element at a place of a row
abbrev pub StrengthensAt : Cfa → Component → ℕ → List Elem → Precision → List Elem → Bool → Type 0
StrengthensAt cfa c place row p new stuck =
    (before after : List Elem) (own : Elem) → row ≡ before ++ own ∷ after → length before ≡ place
    → Strengthened cfa c before own after p new stuck
