-- What is asked of a solver about an obligation (this project's own): whether there are stores that
-- break it.
use Rattle.std.specs.Prelude.{◌≡◌, ◌<◌, ℕ, ℤ, Bool, true, false, List, [], ◌∷◌, map}
use Rattle.std.specs.Prelude.{slice_index_or, Option, None, Some, IfSome, option_and_then}
use Rattle.std.specs.Prelude.{option_map}
use Rattle.std.specs.List.{AllByRecursion}
use Rattle.cpa_model.specs.declared.facts.Elem.{Elem}
use Rattle.cpa_model.specs.declared.automaton.Act.TheVariants.{Skip}
use Rattle.cpa_model.specs.declared.automaton.Edge.{Edge}
use Rattle.cpa_model.specs.declared.automaton.Cfa.{Cfa}
use Rattle.cpa_model.specs.Automata.{edge_of}
use Rattle.cpa_model.specs.Steps.{StepsStack}
use Rattle.cpa_form_rules.specs.Runs.{Added, taken, holding, failing, Runs}
use Rattle.cpa_form_rules.specs.Runs.{Begins as BeginsAt}
use Rattle.cpa_form_rules.specs.Forms.{Form, form_of}
use Rattle.cpa_recheck_obligations.specs.declared.listing.Obligation.{Obligation}
use Rattle.cpa_recheck_obligations.specs.declared.listing.Obligation.TheVariants.{Begins, Leads}
use Rattle.cpa_recheck_obligations.specs.declared.listing.Obligation.TheVariants.{Avoids}
use Rattle.cpa_recheck_obligations.specs.declared.spots.Spot.{Spot}
use Rattle.cpa_recheck_obligations.specs.Spots.{spot_of, spot_of_parts, spots_of}
use Rattle.cpa_recheck_obligations.specs.Obligations.{stack_behind, candidates}

-- the entry of this number; without facts where there is none
abbrev pub entry_at : List Elem → ℕ → Elem
entry_at xs x = slice_index_or xs x (record { facts = [] })

abbrev pub edge_at : Cfa → ℕ → Edge
edge_at cfa g = slice_index_or cfa.edges g (edge_of 0 Skip 0)

-- where the initial state stands
abbrev pub start_of : Cfa → Spot
start_of cfa = spot_of_parts (Some cfa.start) (Some [])

-- where a state of the spot stands after the edge; None where the edge is not possible there
abbrev pub behind : Edge → Spot → Option Spot
behind edge spot =
    option_map (spot_of_parts (Some edge.to)) (stack_behind edge.act spot.stack)

abbrev pub target : Cfa → List Elem → ℕ → ℕ → Option Spot
target cfa xs x g = option_and_then (behind (edge_at cfa g)) (spot_of (entry_at xs x))

-- the entries in which a state of the spot may lie
abbrev pub rivals : List Elem → Option Spot → List Elem
rivals xs None = []
rivals xs (Some spot) = map (entry_at xs) (candidates (spots_of xs) spot)

-- the entries in which what the obligation speaks of may lie
abbrev pub rivals_of : Cfa → List Elem → Obligation → List Elem
rivals_of cfa xs Begins = rivals xs (Some (start_of cfa))
rivals_of cfa xs (Leads x g) = rivals xs (target cfa xs x g)
rivals_of cfa xs (Avoids x p) = []

-- the facts of the entry on the store hold, the edge is taken, each candidate fails
abbrev pub added : Cfa → List Elem → Obligation → List Added
added cfa xs Begins = failing (rivals xs (Some (start_of cfa))) ∷ []
added cfa xs (Leads x g) =
    holding (entry_at xs x) ∷ taken (edge_at cfa g).act ∷ failing (rivals xs (target cfa xs x g))
    ∷ []
added cfa xs (Avoids x p) = holding (entry_at xs x) ∷ []

abbrev pub is_begins : Obligation → Bool
is_begins Begins = true
is_begins _ = false

-- the form of the obligation: that of the initial state begins at the initial store. Its query has
-- a model exactly where stores break the obligation, and its weight is the obligation's.
abbrev pub form_at : Cfa → List Elem → Obligation → Form
form_at cfa xs o = form_of cfa.cells (is_begins o) (added cfa xs o)

-- no run of stores meets what is asked about the obligation
abbrev pub IsRunless : Cfa → List Elem → Obligation → Type 0
IsRunless cfa xs o =
    (first inputs last : List ℤ) → BeginsAt cfa.cells (is_begins o) first
    → Runs cfa.cells (added cfa xs o) first inputs last → ⊥

-- Stacks before and after the edge for a state of an entry: where the entry says a stack it is that
-- one, and where it says none, the stack after the edge is one that no entry says.
pub record AreStacksFor (cfa : Cfa) (xs : List Elem) (spot : Spot) (edge : Edge)
    (old new : List ℕ) : Type 0 where
  pub steps : StepsStack edge.act old new
  pub sites : AllByRecursion (λ site. site < cfa.points) old
  pub said : IfSome spot.stack (λ sites. old ≡ sites)
  pub free : spot.stack ≡ None
      → AllByRecursion (λ found. IfSome found (λ (own : Spot). own.stack ≡ Some new → ⊥))
      (spots_of xs)
