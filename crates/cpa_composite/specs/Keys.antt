-- The components by whose elements entries are told apart (this project's own).
use Rattle.std.specs.Prelude.{ℕ, ◌+◌, Bool, true, false, ◌&&◌, if◌then◌else◌, List, [], ◌∷◌}
use Rattle.cpa_iface.specs.declared.analysis.Part.{Part}
use Rattle.cpa_iface.specs.declared.analysis.Part.TheVariants as part
use Rattle.cpa_composite.specs.Comparisons.{keeps_apart}
use Rattle.cpa_composite.specs.Components.{Component}

abbrev pub is_control : Part → Bool
is_control part.Nothing = false
is_control part.Point = true
is_control part.Stack = true
is_control part.Store = false

-- it is exact on the point or on the stack, and keeps its elements apart
abbrev pub is_key : Component → Bool
is_key c = is_control c.meaning.part && keeps_apart c.rule

-- the numbers of those, the first component being of this number
abbrev pub key_places_from : ℕ → List Component → List ℕ
key_places_from i [] = []
key_places_from i (c ∷ cs) =
    if is_key c then i ∷ key_places_from (i + 1) cs else key_places_from (i + 1) cs

-- the numbers of those, counted from 0
abbrev pub key_places : List Component → List ℕ
key_places cs = key_places_from 0 cs
