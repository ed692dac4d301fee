-- When a row covers another one: each analysis says so of its own elements (CAV 2007, section 4).
use Rattle.std.specs.Prelude.{Bool, true, ◌&&◌, List, [], ◌∷◌}
use Rattle.cpa_model.specs.declared.facts.Elem.{Elem}
use Rattle.cpa_model.specs.declared.states.State.{State}
use Rattle.cpa_model.specs.Facts.{LiesIn}
use Rattle.cpa_composite_covers.specs.Components.{Component}

-- the cover of each analysis says that its element of the one row is covered by that of the other
abbrev pub all_cover : List Component → List Elem → List Elem → Bool
all_cover [] es fs = true
all_cover (c ∷ cs) [] fs = true
all_cover (c ∷ cs) (e ∷ es) [] = true
all_cover (c ∷ cs) (e ∷ es) (f ∷ fs) = c.meaning.cover e f && all_cover cs es fs

-- each state of the one row is one of the other
abbrev pub IsWithinRow : List Elem → List Elem → Type 0
IsWithinRow es fs = (s : State) → LiesIn s es → LiesIn s fs
