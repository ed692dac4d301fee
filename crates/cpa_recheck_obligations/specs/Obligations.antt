-- The obligations of a list of entries: the facts that together make it a cover, cut by entry, edge
-- and error point (of a cover: CAV 2007, section 2; the cuts and their order: this project's own).
-- Entries are elements here, each the facts of all elements of an entry.
use Rattle.std.specs.Prelude.{◌≡◌, ◌+◌, ◌&&◌, ℕ, Bool, false, List, [], ◌∷◌, ◌++◌, map, is_some}
use Rattle.std.specs.Prelude.{Option, None, Some, option_map, slice_get, if◌then◌else◌, ⊤, IsTrue}
use Rattle.std.specs.List.{Contains, filter, flat_map}
use Rattle.cpa_model.specs.declared.facts.Elem.{Elem}
use Rattle.cpa_model.specs.declared.automaton.Act.{Act}
use Rattle.cpa_model.specs.declared.automaton.Edge.{Edge}
use Rattle.cpa_model.specs.declared.automaton.Cfa.{Cfa}
use Rattle.cpa_model.specs.Stacks.{stack_after}
use Rattle.cpa_recheck_obligations.specs.declared.listing.Obligation.{Obligation}
use Rattle.cpa_recheck_obligations.specs.declared.listing.Obligation.TheVariants.{Begins, Leads}
use Rattle.cpa_recheck_obligations.specs.declared.listing.Obligation.TheVariants.{Avoids}
use Rattle.cpa_recheck_obligations.specs.declared.spots.Spot.{Spot}
use Rattle.cpa_recheck_obligations.specs.Spots.{permits, same_spot, spot_of_parts, spots_of}

-- the places of the items that pass the test, counted from a number on
abbrev pub places_from : {A : Type 0} → (A → Bool) → ℕ → List A → List ℕ
places_from test n [] = []
places_from test n (x ∷ xs) =
    if test x then n ∷ places_from test (n + 1) xs else places_from test (n + 1) xs

abbrev pub places : {A : Type 0} → (A → Bool) → List A → List ℕ
places test xs = places_from test 0 xs

-- ---- the list

-- the stack behind the act, where one is said; None where the act is not possible with it
abbrev pub stack_behind : Act → Option (List ℕ) → Option (Option (List ℕ))
stack_behind act None = Some None
stack_behind act (Some sites) = option_map Some (stack_after act sites)

-- the edge leaves a point that the spot allows, and its stack step is possible there
abbrev pub leaves : Spot → Edge → Bool
leaves spot edge = permits spot.point edge.from && is_some (stack_behind edge.act spot.stack)

abbrev pub edges_of : Cfa → Spot → List ℕ
edges_of cfa spot = places (leaves spot) cfa.edges

-- the error points that the spot allows
abbrev pub errors_of : Cfa → Spot → List ℕ
errors_of cfa spot = filter (permits spot.point) cfa.errors

-- what is to be shown of the entry of this number: first each edge, then each error point. An entry
-- with no spot holds of no state.
abbrev pub own : Cfa → ℕ → Option Spot → List Obligation
own cfa x None = []
own cfa x (Some spot) = map (Leads x) (edges_of cfa spot) ++ map (Avoids x) (errors_of cfa spot)

abbrev pub own_from : Cfa → ℕ → List (Option Spot) → List Obligation
own_from cfa x [] = []
own_from cfa x (spot ∷ spots) = own cfa x spot ++ own_from cfa (x + 1) spots

-- first that the initial state lies in an entry, then what is to be shown of each entry, in order
abbrev pub obligations : Cfa → List Elem → List Obligation
obligations cfa xs = Begins ∷ own_from cfa 0 (spots_of xs)

-- The obligation names an entry that has a spot, and an edge that leaves it or an error point that
-- it allows.
abbrev pub IsObligationOf : Cfa → List Elem → Obligation → Type 0
IsObligationOf cfa xs Begins = ⊤
IsObligationOf cfa xs (Leads x g) =
    (spot : Spot) × (edge : Edge) × (slice_get (spots_of xs) x ≡ Some (Some spot))
    × (slice_get cfa.edges g ≡ Some edge) × IsTrue (leaves spot edge)
IsObligationOf cfa xs (Avoids x p) =
    (spot : Spot) × (slice_get (spots_of xs) x ≡ Some (Some spot)) × Contains cfa.errors p
    × IsTrue (permits spot.point p)

-- ---- candidates

abbrev pub said_or_not : {A : Type 0} → Option A → List (Option A)
said_or_not None = None ∷ []
said_or_not (Some a) = Some a ∷ None ∷ []

-- the spots at which each state of the spot stands: with its point or none, with its stack or none
abbrev pub around : Spot → List Spot
around spot =
    flat_map (λ point. map (spot_of_parts point) (said_or_not spot.stack)) (said_or_not spot.point)

abbrev pub is_at : Spot → Option Spot → Bool
is_at key None = false
is_at key (Some spot) = same_spot spot key

-- the numbers of the entries at just this spot
abbrev pub under : List (Option Spot) → Spot → List ℕ
under spots key = places (is_at key) spots

-- the numbers of the entries in which a state of the spot may lie, by its point and its stack;
-- where the spot says no stack, those alone that say none
abbrev pub candidates : List (Option Spot) → Spot → List ℕ
candidates spots spot = flat_map (under spots) (around spot)
