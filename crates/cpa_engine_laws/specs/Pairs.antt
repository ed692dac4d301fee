-- The points with the calls that may be open there, and the keys of such pairs (C11 6.5.2.2: a
-- function returns to its call; keys are this project's own).
use Rattle.std.specs.Prelude.{ℕ, ◌↔◌, List, [], map}
use Rattle.cpa_model.specs.declared.facts.Elem.{Elem}
use Rattle.cpa_model.specs.declared.program.Program.{Program}
use Rattle.cpa_model.specs.States.{state_at}
use Rattle.cpa_interp.specs.lemmas.Calling.{Fits}
use Rattle.cpa_composite.specs.Components.{Component}
use Rattle.cpa_composite.specs.Exact.{pins}
use Rattle.cpa_reached.specs.Members.{IsIn}
use Rattle.cpa_engine_turn.specs.Keys.{key_of}

-- these are exactly the pairs of a point and a list of call sites in which the first site stands
-- in main, each later one in the function that the one before calls, and the point in the one that
-- the last calls
abbrev pub ArePairs : Program → List (ℕ × List ℕ) → Type 0
ArePairs P pairs = (p : ℕ) (calls : List ℕ) → Fits P p calls ↔ IsIn (p, calls) pairs

-- the key of the states at this point with these calls
abbrev pub pair_key : List Component → ℕ × List ℕ → List Elem
pair_key cs pair = key_of cs (pins cs (state_at pair.0 pair.1 []))

abbrev pub pair_keys : List Component → List (ℕ × List ℕ) → List (List Elem)
pair_keys cs pairs = map (pair_key cs) pairs
