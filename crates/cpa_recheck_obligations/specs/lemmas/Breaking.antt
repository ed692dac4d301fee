-- A model of an obligation's query is a state that breaks the obligation (`begins_broken`,
-- `leads_broken`, `avoids_broken`).
use Rattle.std.proofs.Common.{◌≡◌, ℕ, ◌<◌, ℤ, true, List, Option, Some, None}
use Rattle.std.proofs.Common.{slice_get, ◌⊎◌, inl, inr, refl, sym, ap, ◌∙◌, subst}
use Rattle.std.specs.Prelude.{IfSome, option_map, is_some}
use Rattle.std.specs.List.{AllByRecursion}
use Rattle.std.proofs.lemmas.Bool.{and_parts}
use Rattle.cpa_model.specs.declared.facts.Elem.{Elem}
use Rattle.cpa_model.specs.declared.states.State.{State}
use Rattle.cpa_model.specs.declared.automaton.Act.{Act}
use Rattle.cpa_model.specs.declared.automaton.Edge.{Edge}
use Rattle.cpa_model.specs.declared.automaton.Cfa.{Cfa}
use Rattle.cpa_model.specs.Acts.{IsEdgeOf}
use Rattle.cpa_model.specs.Automata.{IsStateOf, IsAutomaton, initial_state}
use Rattle.cpa_model.specs.Covers.{LiesInSome}
use Rattle.cpa_model.specs.Facts.{LiesIn}
use Rattle.cpa_model.specs.Programs.{point_count}
use Rattle.cpa_model.specs.States.{IsState, state_at}
use Rattle.cpa_model.specs.Steps.{Moves, StepsApart, StepsKeepStates, StepsStack, StepsStore}
use Rattle.cpa_model.specs.lemmas.EdgesSound.{all_at}
use Rattle.cpa_model.specs.lemmas.Lists.{in_list, place_of}
use Rattle.cpa_model.specs.lemmas.Stacks.{stack_after-whole}
use Rattle.cpa_query.specs.Queries.{IsModel}
use Rattle.cpa_form_rules.specs.Runs.{StoreHolds, StoreFails}
use Rattle.cpa_form_rules.specs.Forms.{first_store, last_store}
use Rattle.cpa_form_rules.specs.Stores.{failing_is_not_holding, holding_has_two_parts}
use Rattle.cpa_form_rules.specs.Stores.{steps_take_inputs}
use Rattle.cpa_recheck_obligations.specs.declared.listing.Obligation.TheVariants.{Begins, Leads}
use Rattle.cpa_recheck_obligations.specs.declared.listing.Obligation.TheVariants.{Avoids}
use Rattle.cpa_recheck_obligations.specs.declared.spots.Spot.{Spot}
use Rattle.cpa_recheck_obligations.specs.Spots.{joined, as_one, StandsAt, spot_of_parts, spot_of}
use Rattle.cpa_recheck_obligations.specs.Spots.{spots_of, permits}
use Rattle.cpa_recheck_obligations.specs.Obligations.{stack_behind, candidates, IsObligationOf}
use Rattle.cpa_recheck_obligations.specs.Forms.{entry_at, start_of, rivals, form_at}
use Rattle.cpa_recheck_obligations.specs.Forms.{edge_at, AreStacksFor}
use Rattle.cpa_recheck_obligations.specs.Meeting.{Breaks}
use Rattle.cpa_recheck_obligations.specs.lemmas.Places.{map_all}
use Rattle.cpa_recheck_obligations.specs.lemmas.Standing.{one_holds, holds_one, control_at}
use Rattle.cpa_recheck_obligations.specs.lemmas.Standing.{Includes, at_candidates, permits_back}
use Rattle.cpa_recheck_obligations.specs.lemmas.Covers.{some_at, one_at, lies_at_spot, spot_at}
use Rattle.cpa_recheck_obligations.specs.lemmas.Asking.{FormIs, of_spot, of_entry, entry_is}
use Rattle.cpa_recheck_obligations.specs.lemmas.Asking.{edge_is}
use Rattle.cpa_recheck_obligations.specs.lemmas.Asking.{target_is}

-- ---- states that lie in no entry

-- no entry says this stack
abbrev IsUnsaid : List (Option Spot) → List ℕ → Type 0
IsUnsaid spots stack =
    AllByRecursion (λ found. IfSome found (λ (own : Spot). own.stack ≡ Some stack → ⊥)) spots

-- The state stands at this spot, and at no narrower one that an entry says.
record StandsJustAt (spots : List (Option Spot)) (t : State) (spot : Spot) : Type 0 where
  point : spot.point ≡ Some t.point
  stack : (spot.stack ≡ Some t.stack) ⊎ ((spot.stack ≡ None) × IsUnsaid spots t.stack)

point_within : (own o : Option ℕ) (p : ℕ) → o ≡ Some p → IfSome own (λ q. p ≡ q)
    → IfSome own (λ q. o ≡ Some q)
point_within None o p is h = tt
point_within (Some q) o p is h = is ∙ ap Some h

said_within : (own o : Option (List ℕ)) (s : List ℕ) → o ≡ Some s → IfSome own (λ q. s ≡ q)
    → IfSome own (λ q. o ≡ Some q)
said_within None o s is h = tt
said_within (Some q) o s is h = is ∙ ap Some h

unsaid_within : (own o : Option (List ℕ)) (s : List ℕ) → (own ≡ Some s → ⊥)
    → IfSome own (λ q. s ≡ q) → IfSome own (λ q. o ≡ Some q)
unsaid_within None o s never h = tt
unsaid_within (Some q) o s never h = absurd (never (ap Some (sym h)))

-- an entry in which it lies, by its spot, is a candidate
includes_of : (spots : List (Option Spot)) (t : State) (spot own : Spot) (n : ℕ)
    → slice_get spots n ≡ Some (Some own) → StandsJustAt spots t spot → StandsAt t own
    → Includes own spot
includes_of spots t spot own n at just stands = record {
  point = point_within own.point spot.point t.point just.point stands.point;
  stack = by just.stack;
}
  where
    by : (spot.stack ≡ Some t.stack) ⊎ ((spot.stack ≡ None) × IsUnsaid spots t.stack)
        → IfSome own.stack (λ sites. spot.stack ≡ Some sites)
    by (inl is) = said_within own.stack spot.stack t.stack is stands.stack
    by (inr none) =
        unsaid_within own.stack spot.stack t.stack
        (all_at (λ found. IfSome found (λ (x : Spot). x.stack ≡ Some t.stack → ⊥)) spots n
        (Some own) none.1 at)
        stands.stack

lies_nowhere : (entries : List (List Elem)) (t : State) (spot : Spot)
    → StandsJustAt (spots_of (as_one entries)) t spot
    → AllByRecursion (StoreFails t.store.values) (rivals (as_one entries) (Some spot))
    → LiesInSome t entries → ⊥
lies_nowhere entries t spot just fails lies =
    let xs = as_one entries in
    let at = some_at t entries lies in
    let own = lies_at_spot t at.entry at.lies in
    let one = one_at entries at.number at.entry at.is in
    let place = spot_at xs at.number (joined at.entry) own.0 one own.1 in
    let includes = includes_of (spots_of xs) t spot own.0 at.number place just own.2 in
    let failing = at_candidates (λ n. StoreFails t.store.values (entry_at xs n)) (spots_of xs) spot
    at.number own.0 place includes
    (map_all (StoreFails t.store.values) (entry_at xs) (candidates (spots_of xs) spot) fails) in
    (failing_is_not_holding.fails t.store.values (joined at.entry)).0
    (subst (StoreFails t.store.values) (entry_is xs at.number (joined at.entry) one) failing)
    ((holding_has_two_parts.holds (joined at.entry) t).0 (holds_one at.entry t at.lies)).1

-- ---- the initial state

module _ (cfa : Cfa) (entries : List (List Elem)) where
  pub begins_broken : FormIs cfa entries Begins → (values : List ℤ)
      → IsModel (form_at cfa (as_one entries) Begins).query values
      → Breaks cfa entries Begins (initial_state cfa) None
  begins_broken form values model =
      let begins = form.begins values model in
      let run = form.run values model in
      let fails = subst
      (λ (store : List ℤ). AllByRecursion (StoreFails store)
      (rivals (as_one entries) (Some (start_of cfa)))) begins run.3.0 in (
        refl,
        lies_nowhere entries (initial_state cfa) (start_of cfa)
            (record { point = refl; stack = inl refl }) fails,
      )

-- ---- a state at an error point

both_same : {A : Type 0} (o : Option A) (a b : A) → o ≡ Some a → o ≡ Some b → a ≡ b
both_same o a b p q = let e = sym p ∙ q in cc

module _ (cfa : Cfa) (entries : List (List Elem)) (is : IsAutomaton cfa) where
  -- the entry of an obligation, with its spot
  record OfSpot (x : ℕ) (spot : Spot) : Type 0 where
    entry : List Elem
    entry_at_x : slice_get entries x ≡ Some entry
    whole : entry_at (as_one entries) x ≡ joined entry
    spot_is : spot_of (joined entry) ≡ Some spot

  of_number : (x : ℕ) (own spot : Spot)
      → slice_get (spots_of (as_one entries)) x ≡ Some (Some own)
      → spot_of (entry_at (as_one entries) x) ≡ Some spot → OfSpot x spot
  of_number x own spot at found =
      let e = of_spot (as_one entries) x own at in
      let entry = of_entry entries x e.0 e.1 in
      let whole = entry_is (as_one entries) x e.0 e.1 ∙ sym entry.2 in
      record {
        entry = entry.0;
        entry_at_x = entry.1;
        whole = whole;
        spot_is = sym (ap spot_of whole) ∙ found;
      }

  same_spots : (x : ℕ) (own spot : Spot)
      → slice_get (spots_of (as_one entries)) x ≡ Some (Some own)
      → spot_of (entry_at (as_one entries) x) ≡ Some spot → own ≡ spot
  same_spots x own spot at found =
      let e = of_spot (as_one entries) x own at in
      let whole = entry_is (as_one entries) x e.0 e.1 in
      both_same (spot_of e.0) own spot e.2 (sym (ap spot_of whole) ∙ found)

  -- a state that stands at the spot of the entry, on whose store the entry holds, lies in it
  lies_there : (x : ℕ) (spot : Spot) (s : State) (of : OfSpot x spot) → StandsAt s spot
      → StoreHolds s.store.values (entry_at (as_one entries) x) → LiesIn s of.entry
  lies_there x spot s of stands holds =
      one_holds of.entry s
      ((holding_has_two_parts.holds (joined of.entry) s).1 (
        control_at s (joined of.entry) spot of.spot_is stands,
        subst (StoreHolds s.store.values) of.whole holds,
      ))

  pub avoids_broken : (x p : ℕ) → AllByRecursion (λ q. q < cfa.points) cfa.errors
      → FormIs cfa entries (Avoids x p) → (values : List ℤ) (spot : Spot) (sites : List ℕ)
      → IsObligationOf cfa (as_one entries) (Avoids x p)
      → spot_of (entry_at (as_one entries) x) ≡ Some spot
      → IfSome spot.stack (λ own. sites ≡ own)
      → AllByRecursion (λ site. site < cfa.points) sites
      → IsModel (form_at cfa (as_one entries) (Avoids x p)).query values
      → Breaks cfa entries (Avoids x p)
      (state_at p sites (first_store (form_at cfa (as_one entries) (Avoids x p)) values)) None
  avoids_broken x p inside form values spot sites of found said below model =
      let first = first_store (form_at cfa (as_one entries) (Avoids x p)) values in
      let s = state_at p sites first in
      let entry = of_number x of.0 spot of.1 found in
      let same = same_spots x of.0 spot of.1 found in
      let allowed = subst (λ (o : Spot). permits o.point p ≡ true) same of.3 in
      let stands : StandsAt s spot = record {
        point = permits_back spot.point p p allowed refl;
        stack = said;
      } in
      let place = place_of cfa.errors p of.2 in
      let run = form.run values model in
      record {
        entry = entry.entry;
        entry_is = entry.entry_at_x;
        lies = lies_there x spot s entry stands run.3.0;
        state = record {
          point = all_at (λ q. q < cfa.points) cfa.errors place.0 p inside place.1;
          stack = below;
          store = form.begins values model;
        };
        point = refl;
        error = of.2;
      }

  -- ---- a state and its successor

  -- the store's part of a step from one state leads to states
  keeps : StepsKeepStates is.program → (edge : Edge) (g : ℕ) → slice_get cfa.edges g ≡ Some edge
      → (s t : State) → IsStateOf cfa s → s.point ≡ edge.from → t.point ≡ edge.to
      → StepsStack edge.act s.stack t.stack
      → StepsStore cfa.cells edge.act s.store.values t.store.values → IsStateOf cfa t
  keeps kept edge g at s t state from goes stack store =
      let P = is.program in
      let A = is.automaton in
      let moves = A.moves edge (in_list cfa.edges g edge at) in
      let before = subst (λ (points : ℕ). IsState P.cells points s) A.points
      (subst (λ cells. IsState cells cfa.points s) A.cells state) in
      let apart : StepsApart P s t = record {
        act = edge.act;
        point = moves_from from goes moves;
        stack = stack;
        store = subst (λ cells. StepsStore cells edge.act s.store.values t.store.values)
            A.cells store;
      } in
      let after = kept s t before apart in
      subst (λ (points : ℕ). IsState cfa.cells points t) (sym A.points)
      (subst (λ cells. IsState cells (point_count P) t) (sym A.cells) after)
    where
      moves_from : s.point ≡ edge.from → t.point ≡ edge.to
          → Moves is.program edge.from edge.act edge.to → Moves is.program s.point edge.act t.point
      moves_from from goes moves =
          subst (λ (q : ℕ). Moves is.program s.point edge.act q) (sym goes)
          (subst (λ (p : ℕ). Moves is.program p edge.act edge.to) (sym from) moves)

  stack_just : (act : Act) (o : Option (List ℕ)) (spots : List (Option Spot)) (old new : List ℕ)
      → StepsStack act old new → IfSome o (λ sites. old ≡ sites) → (o ≡ None → IsUnsaid spots new)
      → (then : Option (List ℕ)) × (stack_behind act o ≡ Some then)
      × ((then ≡ Some new) ⊎ ((then ≡ None) × IsUnsaid spots new))
  stack_just act None spots old new steps at free = (None, refl, inr (refl, free refl))
  stack_just act (Some sites) spots old new steps at free =
      let after = stack_after-whole act sites new
      (subst (λ l. StepsStack act l new) at steps) in
      (Some new, ap (option_map Some) after, inl refl)

  pub leads_broken : (x g : ℕ) → StepsKeepStates is.program → FormIs cfa entries (Leads x g)
      → (values : List ℤ) (spot : Spot) (edge : Edge) (old new : List ℕ) → IsEdgeOf cfa edge
      → IsObligationOf cfa (as_one entries) (Leads x g)
      → spot_of (entry_at (as_one entries) x) ≡ Some spot → slice_get cfa.edges g ≡ Some edge
      → AreStacksFor cfa (as_one entries) spot edge old new
      → IsModel (form_at cfa (as_one entries) (Leads x g)).query values
      → Breaks cfa entries (Leads x g)
      (state_at edge.from old
      (first_store (form_at cfa (as_one entries) (Leads x g)) values))
      (Some (state_at edge.to new
      (last_store (form_at cfa (as_one entries) (Leads x g)) values)))
  leads_broken x g kept form values spot edge old new sound of found at stacks model =
      let xs = as_one entries in
      let first = first_store (form_at cfa xs (Leads x g)) values in
      let last = last_store (form_at cfa xs (Leads x g)) values in
      let s = state_at edge.from old first in
      let t = state_at edge.to new last in
      let entry = of_number x of.0 spot of.2 found in
      let same = same_spots x of.0 spot of.2 found in
      let other : of.1 ≡ edge = both_same (slice_get cfa.edges g) of.1 edge of.3 at in
      let parts = and_parts (permits of.0.point of.1.from)
      (is_some (stack_behind of.1.act of.0.stack)) of.4 in
      let allowed = subst (λ (e : Edge). permits spot.point e.from ≡ true) other
      (subst (λ (o : Spot). permits o.point of.1.from ≡ true) same parts.0) in
      let stands : StandsAt s spot = record {
        point = permits_back spot.point edge.from edge.from allowed refl;
        stack = stacks.said;
      } in
      let run = form.run values model in
      let held = run.3.0 in
      let begun = run.3.2 in
      let step = run.5 in
      let rest = step.5 in
      let act_is = ap (λ (e : Edge). e.act) (edge_is cfa g edge at) in
      let stepped = (steps_take_inputs.step cfa.cells (edge_at cfa g).act run.0 step.0).1
      (step.1, step.3) in
      let from_first = subst
      (λ (store : List ℤ). StepsStore cfa.cells (edge_at cfa g).act store step.0) begun stepped in
      let to_last = rest.5.1 ∙ rest.3.2 in
      let whole = subst
      (λ (store : List ℤ). StepsStore cfa.cells (edge_at cfa g).act first store) (sym to_last)
      from_first in
      let store = subst (λ (a : Act). StepsStore cfa.cells a first last) act_is whole in
      let state : IsStateOf cfa s = record {
        point = sound.from;
        stack = stacks.sites;
        store = form.begins values model;
      } in
      let then = stack_just edge.act spot.stack (spots_of xs) old new stacks.steps stacks.said
      stacks.free in
      let goes = target_is cfa xs x g edge spot found (edge_is cfa g edge at)
      ∙ ap (option_map (spot_of_parts (Some edge.to))) then.1 in
      let fails_next = subst
      (λ (o : Option Spot). AllByRecursion (StoreFails step.0) (rivals xs o)) goes rest.3.0 in
      let fails = subst
      (λ (store : List ℤ). AllByRecursion (StoreFails store)
      (rivals xs (Some (spot_of_parts (Some edge.to) then.0)))) (sym to_last) fails_next in
      record {
        entry = entry.entry;
        edge = edge;
        entry_is = entry.entry_at_x;
        edge_is = at;
        lies = lies_there x spot s entry stands held;
        steps = record {
          before = state;
          after = keeps kept edge g at s t state refl refl stacks.steps store;
          from = refl;
          to = refl;
          stack = stacks.steps;
          store = store;
        };
        outside = lies_nowhere entries t (spot_of_parts (Some edge.to) then.0)
            (record { point = refl; stack = then.2 }) fails;
      }
