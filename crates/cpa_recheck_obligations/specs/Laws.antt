-- The laws of obligations. Below each statement stands its lemma.
use Rattle.std.specs.Prelude.{◌≡◌, ◌↔◌, ◌<◌, ℕ, ℤ, List, Option, None, Some, IfSome, slice_get}
use Rattle.std.specs.List.{AllByRecursion}
use Rattle.std.proofs.Common.{sym, subst}
use Rattle.cpa_model.specs.declared.facts.Elem.{Elem}
use Rattle.cpa_model.specs.declared.states.State.{State}
use Rattle.cpa_model.specs.declared.automaton.Edge.{Edge}
use Rattle.cpa_model.specs.declared.automaton.Cfa.{Cfa}
use Rattle.cpa_model.specs.Automata.{IsAutomaton, initial_state}
use Rattle.cpa_model.specs.Covers.{LiesInSome, CoversAutomaton}
use Rattle.cpa_model.specs.Facts.{Holds, IsElem, LiesIn}
use Rattle.cpa_model.specs.States.{state_at}
use Rattle.cpa_query.specs.Queries.{IsModel}
use Rattle.cpa_form_rules.specs.Forms.{first_store, last_store}
use Rattle.cpa_form_rules.specs.Laws.{IsAddedOf, IsFormOf, forms_are_runs}
use Rattle.cpa_model.specs.lemmas.EdgesSound.{edge_sound}
use Rattle.cpa_recheck_obligations.specs.declared.listing.Obligation.{Obligation}
use Rattle.cpa_recheck_obligations.specs.declared.listing.Obligation.TheVariants.{Begins, Leads}
use Rattle.cpa_recheck_obligations.specs.declared.listing.Obligation.TheVariants.{Avoids}
use Rattle.cpa_recheck_obligations.specs.declared.spots.Spot.{Spot}
use Rattle.cpa_recheck_obligations.specs.Spots.{joined, as_one, spot_of}
use Rattle.cpa_recheck_obligations.specs.Obligations.{obligations, IsObligationOf}
use Rattle.cpa_recheck_obligations.specs.Meeting.{IsMet, Breaks}
use Rattle.cpa_recheck_obligations.specs.lemmas.Standing.{one_holds, holds_one}
use Rattle.cpa_recheck_obligations.specs.lemmas.Covers.{obligations_cover, obligations_named}
use Rattle.cpa_recheck_obligations.specs.lemmas.Asking.{all_fit, runless_met, unmodelled_met}
use Rattle.cpa_recheck_obligations.specs.Forms.{added, form_at, entry_at, is_begins, IsRunless}
use Rattle.cpa_recheck_obligations.specs.Forms.{AreStacksFor}

-- an entry as one element holds of exactly the states that lie in the entry
abbrev pub EntriesAreOne : Type 0
EntriesAreOne = (elems : List Elem) (s : State) → Holds (joined elems) s ↔ LiesIn s elems

pub entries_are_one : EntriesAreOne
entries_are_one elems s = (one_holds elems s, holds_one elems s)

-- all obligations are met exactly where the entries are a cover
abbrev pub ObligationsAreCovers : Type 0
ObligationsAreCovers =
    (cfa : Cfa) (entries : List (List Elem))
    → AllByRecursion (IsMet cfa entries) (obligations cfa (as_one entries))
    ↔ CoversAutomaton cfa entries

pub obligations_are_covers : ObligationsAreCovers
obligations_are_covers cfa entries = obligations_cover cfa entries

-- no state breaks an obligation that is met
abbrev pub BrokenIsUnmet : Type 0
BrokenIsUnmet =
    (cfa : Cfa) (entries : List (List Elem)) (o : Obligation) (s : State) (next : Option State)
    → Breaks cfa entries o s next → IsMet cfa entries o → ⊥

pub broken_is_unmet : BrokenIsUnmet
broken_is_unmet cfa entries Begins s None broken met =
    broken.1 (subst (λ (u : State). LiesInSome u entries) (sym broken.0) met)
broken_is_unmet cfa entries (Leads x g) s (Some t) broken met =
    broken.outside
    (met broken.entry broken.edge s t broken.entry_is broken.edge_is broken.lies broken.steps)
broken_is_unmet cfa entries (Avoids x p) s None broken met =
    met broken.entry s broken.entry_is broken.state broken.point broken.lies
broken_is_unmet cfa entries Begins s (Some t) broken met = broken
broken_is_unmet cfa entries (Leads x g) s None broken met = broken
broken_is_unmet cfa entries (Avoids x p) s (Some t) broken met = broken

-- the elements are shaped for the automaton
abbrev pub AreShapedFor : Cfa → List Elem → Type 0
AreShapedFor cfa xs = AllByRecursion (IsElem cfa.cells cfa.points) xs

-- what is asked about an obligation is of the automaton
abbrev pub AddedFit : Type 0
AddedFit =
    (cfa : Cfa) (xs : List Elem) (o : Obligation) → IsAutomaton cfa → AreShapedFor cfa xs
    → AllByRecursion (IsAddedOf cfa) (added cfa xs o)

pub added_fit : AddedFit
added_fit cfa xs o is shaped = all_fit cfa xs shaped (λ n edge at. edge_sound cfa n edge is at) o

-- where no run of stores meets what is asked about an obligation, it is met without a query
abbrev pub RunlessIsMet : Type 0
RunlessIsMet =
    (cfa : Cfa) (entries : List (List Elem)) (o : Obligation) → IsRunless cfa (as_one entries) o
    → IsMet cfa entries o

pub runless_is_met : RunlessIsMet
runless_is_met cfa entries o none = runless_met cfa entries o none

-- where the query of an obligation has no model, it is met
abbrev pub UnmodelledIsMet : Type 0
UnmodelledIsMet =
    (cfa : Cfa) (entries : List (List Elem)) (o : Obligation) → IsAutomaton cfa
    → AreShapedFor cfa (as_one entries)
    → ((values : List ℤ) → IsModel (form_at cfa (as_one entries) o).query values → ⊥)
    → IsMet cfa entries o

-- the law of forms, at the form of an obligation
pub form_is : (cfa : Cfa) (xs : List Elem) (o : Obligation) → IsAutomaton cfa → AreShapedFor cfa xs
    → IsFormOf cfa (is_begins o) (added cfa xs o) (form_at cfa xs o)
form_is cfa xs o is shaped =
    forms_are_runs cfa (is_begins o) (added cfa xs o) is (added_fit cfa xs o is shaped)

pub unmodelled_is_met : UnmodelledIsMet
unmodelled_is_met cfa entries o is shaped none =
    unmodelled_met cfa entries o (form_is cfa (as_one entries) o is shaped) none

-- each obligation of the list names what is there
abbrev pub ObligationsAreNamed : Type 0
ObligationsAreNamed =
    (cfa : Cfa) (xs : List Elem) → AllByRecursion (IsObligationOf cfa xs) (obligations cfa xs)

pub obligations_are_named : ObligationsAreNamed
obligations_are_named cfa xs = obligations_named cfa xs

-- Each model of an obligation's query gives a state that breaks it: its first store, with the point
-- of the edge or of the error and a stack that the entry allows, and for an edge its last store.
pub record ModelsBreak : Type 0 where
  pub begins : (cfa : Cfa) (entries : List (List Elem)) (values : List ℤ) → IsAutomaton cfa
      → AreShapedFor cfa (as_one entries)
      → IsModel (form_at cfa (as_one entries) Begins).query values
      → Breaks cfa entries Begins (initial_state cfa) None
  pub leads : (cfa : Cfa) (entries : List (List Elem)) (x g : ℕ) (values : List ℤ) (spot : Spot)
      (edge : Edge) (old new : List ℕ) → IsAutomaton cfa → AreShapedFor cfa (as_one entries)
      → IsObligationOf cfa (as_one entries) (Leads x g)
      → spot_of (entry_at (as_one entries) x) ≡ Some spot → slice_get cfa.edges g ≡ Some edge
      → AreStacksFor cfa (as_one entries) spot edge old new
      → IsModel (form_at cfa (as_one entries) (Leads x g)).query values
      → Breaks cfa entries (Leads x g)
      (state_at edge.from old
      (first_store (form_at cfa (as_one entries) (Leads x g)) values))
      (Some (state_at edge.to new
      (last_store (form_at cfa (as_one entries) (Leads x g)) values)))
  pub avoids : (cfa : Cfa) (entries : List (List Elem)) (x p : ℕ) (values : List ℤ) (spot : Spot)
      (sites : List ℕ) → IsAutomaton cfa → AreShapedFor cfa (as_one entries)
      → IsObligationOf cfa (as_one entries) (Avoids x p)
      → spot_of (entry_at (as_one entries) x) ≡ Some spot
      → IfSome spot.stack (λ own. sites ≡ own)
      → AllByRecursion (λ site. site < cfa.points) sites
      → IsModel (form_at cfa (as_one entries) (Avoids x p)).query values
      → Breaks cfa entries (Avoids x p)
      (state_at p sites (first_store (form_at cfa (as_one entries) (Avoids x p)) values)) None
