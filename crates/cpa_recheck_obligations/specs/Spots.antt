-- Where a state may stand for an entry to hold of it: what the entry's facts on the point and on
-- the stack leave open (this project's own; states by CAV 2007, section 2, with a stack).
use Rattle.std.specs.Prelude.{◌≡◌, ◌==◌, ◌&&◌, ℕ, Bool, true, false, List, [], ◌∷◌, map}
use Rattle.std.specs.Prelude.{Option, None, Some, IfSome, option_and_then, if◌then◌else◌}
use Rattle.std.specs.List.{flat_map}
use Rattle.cpa_facts.specs.declared.fact.Fact.{Fact}
use Rattle.cpa_facts.specs.declared.fact.Fact.TheVariants.{At, Stack}
use Rattle.cpa_model.specs.declared.facts.Elem.{Elem}
use Rattle.cpa_model.specs.declared.states.State.{State}
use Rattle.cpa_model.specs.Standing.{same_sites}
use Rattle.cpa_recheck_obligations.specs.declared.spots.Spot.{Spot}

-- ---- entries as one element

-- the facts of all elements of the entry
abbrev pub joined : List Elem → Elem
joined elems = record { facts = flat_map (λ (e : Elem). e.facts) elems }

-- each entry as one element
abbrev pub as_one : List (List Elem) → List Elem
as_one entries = map joined entries

-- ---- spots

-- the state stands at the spot: at its point and with its stack, as far as it says
pub record StandsAt (s : State) (spot : Spot) : Type 0 where
  pub point : IfSome spot.point (λ p. s.point ≡ p)
  pub stack : IfSome spot.stack (λ sites. s.stack ≡ sites)

abbrev pub spot_of_parts : Option ℕ → Option (List ℕ) → Spot
spot_of_parts point stack = record { point = point; stack = stack }

-- nothing is said
abbrev pub anywhere : Spot
anywhere = spot_of_parts None None

-- the spot allows the point
abbrev pub permits : Option ℕ → ℕ → Bool
permits None p = true
permits (Some own) p = own == p

-- the spot allows the stack
abbrev pub permits_stack : Option (List ℕ) → List ℕ → Bool
permits_stack None sites = true
permits_stack (Some own) sites = same_sites own sites

-- the spot at which the fact holds too; None where no state is there. Facts on the store say
-- nothing of it.
abbrev pub noted : Fact → Spot → Option Spot
noted (At p) spot =
    if permits spot.point p then Some (spot_of_parts (Some p) spot.stack) else None
noted (Stack sites) spot =
    if permits_stack spot.stack sites
    then Some (spot_of_parts spot.point (Some sites)) else None
noted _ spot = Some spot

abbrev pub spot_from : List Fact → Spot → Option Spot
spot_from [] spot = Some spot
spot_from (fact ∷ facts) spot = option_and_then (spot_from facts) (noted fact spot)

-- the spot of an element: the one point that its facts name, the one stack; None where two of them
-- differ, so that it holds of no state
abbrev pub spot_of : Elem → Option Spot
spot_of e = spot_from e.facts anywhere

abbrev pub spots_of : List Elem → List (Option Spot)
spots_of xs = map spot_of xs

-- ---- equal spots

abbrev pub same_point : Option ℕ → Option ℕ → Bool
same_point None None = true
same_point (Some p) (Some q) = p == q
same_point _ _ = false

abbrev pub same_stack : Option (List ℕ) → Option (List ℕ) → Bool
same_stack None None = true
same_stack (Some s) (Some t) = same_sites s t
same_stack _ _ = false

abbrev pub same_spot : Spot → Spot → Bool
same_spot a b = same_point a.point b.point && same_stack a.stack b.stack
