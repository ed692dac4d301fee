-- An obligation is met where no run of stores meets what is asked about it (`runless_met`), and so
-- where its query has no model (`unmodelled_met`).
use Rattle.std.proofs.Common.{◌≡◌, ℕ, zero, suc, ℤ, List, [], ◌∷◌, get_or}
use Rattle.std.proofs.Common.{Option, Some, None, slice_get, ◌⊎◌, inl, inr, refl, sym, ap, ◌∙◌}
use Rattle.std.proofs.Common.{subst}
use Rattle.std.specs.Prelude.{IfSome, option_map, option_and_then}
use Rattle.std.specs.List.{AllByRecursion}
use Rattle.std.proofs.lemmas.List.{append-nil}
use Rattle.std.proofs.lemmas.Option.{get_or_from_slice_get, slice_get-map}
use Rattle.cpa_model.specs.declared.facts.Elem.{Elem}
use Rattle.cpa_model.specs.declared.states.State.{State}
use Rattle.cpa_model.specs.declared.automaton.Act.{Act}
use Rattle.cpa_model.specs.declared.automaton.Act.TheVariants.{Skip}
use Rattle.cpa_model.specs.declared.automaton.Edge.{Edge}
use Rattle.cpa_model.specs.declared.automaton.Cfa.{Cfa}
use Rattle.cpa_model.specs.Acts.{IsEdgeOf}
use Rattle.cpa_model.specs.Automata.{initial_state, edge_of}
use Rattle.cpa_model.specs.Covers.{LiesInSome}
use Rattle.cpa_model.specs.Facts.{Holds, IsElem}
use Rattle.cpa_model.specs.Steps.{StepsStack}
use Rattle.cpa_model.specs.lemmas.Stacks.{stack_after-whole}
use Rattle.cpa_query.specs.Queries.{IsModel}
use Rattle.cpa_form_rules.specs.Runs.{taken, holding, failing, StoreHolds, StoreFails}
use Rattle.cpa_form_rules.specs.Runs.{Runs}
use Rattle.cpa_form_rules.specs.Laws.{IsAddedOf, IsFormOf}
use Rattle.cpa_form_rules.specs.Stores.{failing_is_not_holding, holding_has_two_parts}
use Rattle.cpa_form_rules.specs.Stores.{steps_take_inputs}
use Rattle.cpa_recheck_obligations.specs.declared.listing.Obligation.{Obligation}
use Rattle.cpa_recheck_obligations.specs.declared.listing.Obligation.TheVariants.{Begins, Leads}
use Rattle.cpa_recheck_obligations.specs.declared.listing.Obligation.TheVariants.{Avoids}
use Rattle.cpa_recheck_obligations.specs.declared.spots.Spot.{Spot}
use Rattle.cpa_recheck_obligations.specs.Spots.{joined, as_one, StandsAt, spot_of_parts, spot_of}
use Rattle.cpa_recheck_obligations.specs.Spots.{spots_of}
use Rattle.cpa_recheck_obligations.specs.Obligations.{stack_behind, candidates}
use Rattle.cpa_recheck_obligations.specs.Forms.{entry_at, edge_at, start_of, behind, target, rivals}
use Rattle.cpa_recheck_obligations.specs.Forms.{added, is_begins, form_at, IsRunless}
use Rattle.cpa_recheck_obligations.specs.Meeting.{IsMet}
use Rattle.cpa_recheck_obligations.specs.lemmas.Places.{all_map, all_of}
use Rattle.cpa_recheck_obligations.specs.lemmas.Standing.{one_holds, holds_one, control_at}
use Rattle.cpa_recheck_obligations.specs.lemmas.Standing.{Includes, all_candidates}
use Rattle.cpa_recheck_obligations.specs.lemmas.Covers.{some_in, one_at, lies_at_spot}

-- ---- what is asked is of the automaton

-- what is there, or the other
get_or_none : {A : Type 0} (xs : List A) (i : ℕ) (d : A) → slice_get xs i ≡ None → get_or xs i d ≡ d
get_or_none [] i d at = refl
get_or_none (x ∷ xs) zero d at = absurd (cc)
get_or_none (x ∷ xs) (suc i) d at = get_or_none xs i d at

at_or : {A : Type 0} (P : A → Type 0) (xs : List A) (i : ℕ) (d : A) → AllByRecursion P xs → P d
    → P (get_or xs i d)
at_or P [] i d all there = there
at_or P (x ∷ xs) zero d all there = all.0
at_or P (x ∷ xs) (suc i) d all there = at_or P xs i d all.1 there

module _ (cfa : Cfa) (xs : List Elem)
    (shaped : AllByRecursion (IsElem cfa.cells cfa.points) xs) where
  entry_fits : (x : ℕ) → IsElem cfa.cells cfa.points (entry_at xs x)
  entry_fits x = at_or (IsElem cfa.cells cfa.points) xs x (record { facts = [] }) shaped tt

  rivals_fit : (spot : Option Spot)
      → AllByRecursion (IsElem cfa.cells cfa.points) (rivals xs spot)
  rivals_fit None = tt
  rivals_fit (Some spot) =
      all_map (IsElem cfa.cells cfa.points) (entry_at xs) (candidates (spots_of xs) spot)
      (all_of (λ n. IsElem cfa.cells cfa.points (entry_at xs n)) entry_fits
      (candidates (spots_of xs) spot))

  module _ (edges : (n : ℕ) (edge : Edge) → slice_get cfa.edges n ≡ Some edge
      → IsEdgeOf cfa edge) where
    edge_fits : (g : ℕ) → IsAddedOf cfa (taken (edge_at cfa g).act)
    edge_fits g = by (slice_get cfa.edges g) refl
      where
        by : (o : Option Edge) → slice_get cfa.edges g ≡ o
            → IsAddedOf cfa (taken (edge_at cfa g).act)
        by (Some edge) at =
            subst (λ (e : Edge). IsAddedOf cfa (taken e.act))
            (sym (get_or_from_slice_get cfa.edges g edge (edge_of 0 Skip 0) at))
            (edges g edge at).act
        by None at =
            subst (λ (e : Edge). IsAddedOf cfa (taken e.act))
            (sym (get_or_none cfa.edges g (edge_of 0 Skip 0) at)) tt

    pub all_fit : (o : Obligation) → AllByRecursion (IsAddedOf cfa) (added cfa xs o)
    all_fit Begins = (rivals_fit (Some (start_of cfa)), tt)
    all_fit (Leads x g) = (entry_fits x, (edge_fits g, (rivals_fit (target cfa xs x g), tt)))
    all_fit (Avoids x p) = (entry_fits x, tt)

-- ---- entries on a store

-- the entry of this number has a spot that includes the other one
pub record IsRival (xs : List Elem) (spot : Spot) (n : ℕ) : Type 0 where
  pub own : Spot
  pub at : slice_get (spots_of xs) n ≡ Some (Some own)
  pub includes : Includes own spot

-- of entries with these numbers, each fails on the store, or one that is a rival holds
some_or_all : (store : List ℤ) (xs : List Elem) (spot : Spot) (ns : List ℕ)
    → AllByRecursion (IsRival xs spot) ns
    → AllByRecursion (λ n. StoreFails store (entry_at xs n)) ns
    ⊎ ((n : ℕ) × IsRival xs spot n × StoreHolds store (entry_at xs n))
some_or_all store xs spot [] all = inl tt
some_or_all store xs spot (n ∷ ns) all =
    by (failing_is_not_holding.either store (entry_at xs n)) (some_or_all store xs spot ns all.1)
  where
    by : StoreHolds store (entry_at xs n) ⊎ StoreFails store (entry_at xs n)
        → AllByRecursion (λ m. StoreFails store (entry_at xs m)) ns
        ⊎ ((m : ℕ) × IsRival xs spot m × StoreHolds store (entry_at xs m))
        → AllByRecursion (λ m. StoreFails store (entry_at xs m)) (n ∷ ns)
        ⊎ ((m : ℕ) × IsRival xs spot m × StoreHolds store (entry_at xs m))
    by (inl holds) rest = inr (n, all.0, holds)
    by (inr fails) (inl rest) = inl (fails, rest)
    by (inr fails) (inr rest) = inr rest

-- what an option was mapped from
mapped : {A B : Type 0} (f : A → B) (o : Option A) (b : B) → option_map f o ≡ Some b
    → (a : A) × (o ≡ Some a) × (f a ≡ b)
mapped f None b is = absurd (cc)
mapped f (Some a) b is = (a, refl, cc)

-- the element with the spot of this number
pub of_spot : (xs : List Elem) (n : ℕ) (own : Spot)
    → slice_get (spots_of xs) n ≡ Some (Some own)
    → (e : Elem) × (slice_get xs n ≡ Some e) × (spot_of e ≡ Some own)
of_spot xs n own at =
    mapped spot_of (slice_get xs n) (Some own) (sym (slice_get-map spot_of xs n) ∙ at)

pub of_entry : (entries : List (List Elem)) (n : ℕ) (e : Elem)
    → slice_get (as_one entries) n ≡ Some e
    → (entry : List Elem) × (slice_get entries n ≡ Some entry) × (joined entry ≡ e)
of_entry entries n e at =
    mapped joined (slice_get entries n) e (sym (slice_get-map joined entries n) ∙ at)

pub entry_is : (xs : List Elem) (n : ℕ) (e : Elem) → slice_get xs n ≡ Some e → entry_at xs n ≡ e
entry_is xs n e at = get_or_from_slice_get xs n e (record { facts = [] }) at

pub edge_is : (cfa : Cfa) (g : ℕ) (edge : Edge) → slice_get cfa.edges g ≡ Some edge
    → edge_at cfa g ≡ edge
edge_is cfa g edge at = get_or_from_slice_get cfa.edges g edge (edge_of 0 Skip 0) at

-- what stands at a spot stands at each that includes it
widened_point : (own o : Option ℕ) (p : ℕ) → IfSome own (λ q. o ≡ Some q)
    → IfSome o (λ q. p ≡ q) → IfSome own (λ q. p ≡ q)
widened_point None o p h k = tt
widened_point (Some q) o p h k = subst (λ (o : Option ℕ). IfSome o (λ q. p ≡ q)) h k

widened_stack : (own o : Option (List ℕ)) (s : List ℕ) → IfSome own (λ q. o ≡ Some q)
    → IfSome o (λ q. s ≡ q) → IfSome own (λ q. s ≡ q)
widened_stack None o s h k = tt
widened_stack (Some q) o s h k = subst (λ (o : Option (List ℕ)). IfSome o (λ q. s ≡ q)) h k

widened : (s : State) (own spot : Spot) → Includes own spot → StandsAt s spot → StandsAt s own
widened s own spot includes at = record {
  point = widened_point own.point spot.point s.point includes.point at.point;
  stack = widened_stack own.stack spot.stack s.stack includes.stack at.stack;
}

-- a state at the spot, on whose store the entry of a rival holds, lies in an entry
lies_in_rival : (entries : List (List Elem)) (t : State) (spot : Spot) (n : ℕ) → StandsAt t spot
    → IsRival (as_one entries) spot n → StoreHolds t.store.values (entry_at (as_one entries) n)
    → LiesInSome t entries
lies_in_rival entries t spot n at rival holds =
    let xs = as_one entries in
    let e = of_spot xs n rival.own rival.at in
    let entry = of_entry entries n e.0 e.1 in
    let control = control_at t e.0 rival.own e.2 (widened t rival.own spot rival.includes at) in
    let store = subst (StoreHolds t.store.values) (entry_is xs n e.0 e.1) holds in
    let whole = (holding_has_two_parts.holds e.0 t).1 (control, store) in
    some_in t entries n entry.0 entry.1
    (one_holds entry.0 t (subst (λ (x : Elem). Holds x t) (sym entry.2) whole))

-- the rivals of a spot
rivals_are : (xs : List Elem) (spot : Spot)
    → AllByRecursion (IsRival xs spot) (candidates (spots_of xs) spot)
rivals_are xs spot =
    all_candidates (IsRival xs spot) (spots_of xs) spot
    (λ i own at includes. record { own = own; at = at; includes = includes })

-- a state at the spot lies in an entry, or each rival fails on its store
pub lies_or_fails : (entries : List (List Elem)) (t : State) (spot : Spot) → StandsAt t spot
    → LiesInSome t entries
    ⊎ AllByRecursion (StoreFails t.store.values) (rivals (as_one entries) (Some spot))
lies_or_fails entries t spot at =
    by (some_or_all t.store.values (as_one entries) spot
    (candidates (spots_of (as_one entries)) spot) (rivals_are (as_one entries) spot))
  where
    by : AllByRecursion (λ n. StoreFails t.store.values (entry_at (as_one entries) n))
        (candidates (spots_of (as_one entries)) spot)
        ⊎ ((n : ℕ) × IsRival (as_one entries) spot n
        × StoreHolds t.store.values (entry_at (as_one entries) n))
        → LiesInSome t entries
        ⊎ AllByRecursion (StoreFails t.store.values) (rivals (as_one entries) (Some spot))
    by (inl fails) =
        inr (all_map (StoreFails t.store.values) (entry_at (as_one entries))
        (candidates (spots_of (as_one entries)) spot) fails)
    by (inr found) = inl (lies_in_rival entries t spot found.0 at found.1 found.2)

-- ---- behind an edge

stack_stands : (act : Act) (o : Option (List ℕ)) (old new : List ℕ) → StepsStack act old new
    → IfSome o (λ sites. old ≡ sites)
    → (then : Option (List ℕ)) × (stack_behind act o ≡ Some then)
    × IfSome then (λ sites. new ≡ sites)
stack_stands act None old new steps at = (None, refl, tt)
stack_stands act (Some sites) old new steps at =
    let after = stack_after-whole act sites new
    (subst (λ l. StepsStack act l new) at steps) in
    (Some new, ap (option_map Some) after, refl)

-- the successor of a state at a spot stands at the spot behind the edge
pub stands_behind : (edge : Edge) (spot : Spot) (s t : State) → StandsAt s spot
    → t.point ≡ edge.to → StepsStack edge.act s.stack t.stack
    → (then : Spot) × (behind edge spot ≡ Some then) × StandsAt t then
stands_behind edge spot s t at goes steps =
    let stack = stack_stands edge.act spot.stack s.stack t.stack steps at.stack in (
      spot_of_parts (Some edge.to) stack.0,
      ap (option_map (spot_of_parts (Some edge.to))) stack.1,
      record { point = goes; stack = stack.2 },
    )

pub target_is : (cfa : Cfa) (xs : List Elem) (x g : ℕ) (edge : Edge) (spot : Spot)
    → spot_of (entry_at xs x) ≡ Some spot → edge_at cfa g ≡ edge
    → target cfa xs x g ≡ behind edge spot
target_is cfa xs x g edge spot at is =
    ap (option_and_then (behind (edge_at cfa g))) at ∙ ap (λ (e : Edge). behind e spot) is

-- ---- what no run meets

module _ (cfa : Cfa) (entries : List (List Elem)) where
  abbrev HasNoRun : Obligation → Type 0
  HasNoRun = IsRunless cfa (as_one entries)

  begins_met : HasNoRun Begins → IsMet cfa entries Begins
  begins_met none = by (lies_or_fails entries s (start_of cfa) at)
    where
      s : State
      s = initial_state cfa

      at : StandsAt s (start_of cfa)
      at = record { point = refl; stack = refl }

      by : LiesInSome s entries
          ⊎ AllByRecursion (StoreFails s.store.values) (rivals (as_one entries)
          (Some (start_of cfa)))
          → LiesInSome s entries
      by (inl lies) = lies
      by (inr fails) =
          absurd (none s.store.values [] s.store.values refl
          (s.store.values, [], [], (fails, refl, refl), refl, (refl, refl)))

  leads_met : (x g : ℕ) → HasNoRun (Leads x g) → IsMet cfa entries (Leads x g)
  leads_met x g none entry edge s t entry_at_x edge_at_g lies along =
      let spot = lies_at_spot s entry lies in
      let then = stands_behind edge spot.0 s t spot.2 along.to along.stack in
      let whole = entry_is (as_one entries) x (joined entry) (one_at entries x entry entry_at_x) in
      let goes = target_is cfa (as_one entries) x g edge spot.0
      (ap spot_of whole ∙ spot.1) (edge_is cfa g edge edge_at_g) ∙ then.1 in
      by then.0 goes whole (lies_or_fails entries t then.0 then.2)
    where
      by : (then : Spot) → target cfa (as_one entries) x g ≡ Some then
          → entry_at (as_one entries) x ≡ joined entry
          → LiesInSome t entries
          ⊎ AllByRecursion (StoreFails t.store.values) (rivals (as_one entries) (Some then))
          → LiesInSome t entries
      by then goes whole (inl is_in) = is_in
      by then goes whole (inr fails) =
          let xs = as_one entries in
          let from = s.store.values in
          let last = t.store.values in
          let held = ((holding_has_two_parts.holds (joined entry) s).0
          (holds_one entry s lies)).1 in
          let first = subst (StoreHolds from) (sym whole) held in
          let stepped = (steps_take_inputs.step cfa.cells edge.act from last).0 along.store in
          let act_is = ap (λ (e : Edge). e.act) (edge_is cfa g edge edge_at_g) in
          let fail = subst
          (λ (o : Option Spot). AllByRecursion (StoreFails last) (rivals xs o)) (sym goes) fails in
          let run = subst
          (λ (a : Act). Runs cfa.cells (holding (entry_at xs x) ∷ taken a
          ∷ failing (rivals xs (target cfa xs x g)) ∷ []) from stepped.0 last) (sym act_is) (
            from,
            [],
            stepped.0,
            (first, refl, refl),
            refl,
            (
              last,
              stepped.0,
              [],
              stepped.1,
              sym (append-nil stepped.0),
              (last, [], [], (fail, refl, refl), refl, (refl, refl)),
            ),
          ) in
          absurd (none from stepped.0 last along.before.store run)

  avoids_met : (x p : ℕ) → HasNoRun (Avoids x p) → IsMet cfa entries (Avoids x p)
  avoids_met x p none entry s entry_at_x state point lies =
      let xs = as_one entries in
      let from = s.store.values in
      let whole = entry_is xs x (joined entry) (one_at entries x entry entry_at_x) in
      let held = ((holding_has_two_parts.holds (joined entry) s).0 (holds_one entry s lies)).1 in
      let first = subst (StoreHolds from) (sym whole) held in
      none from [] from state.store (from, [], [], (first, refl, refl), refl, (refl, refl))

  pub runless_met : (o : Obligation) → HasNoRun o → IsMet cfa entries o
  runless_met Begins none = begins_met none
  runless_met (Leads x g) none = leads_met x g none
  runless_met (Avoids x p) none = avoids_met x p none

  -- ---- queries without a model

  abbrev pub HasNone : Obligation → Type 0
  HasNone o =
      (values : List ℤ) → IsModel (form_at cfa (as_one entries) o).query values → ⊥

  abbrev pub FormIs : Obligation → Type 0
  FormIs o =
      IsFormOf cfa (is_begins o) (added cfa (as_one entries) o) (form_at cfa (as_one entries) o)

  pub unmodelled_met : (o : Obligation) → FormIs o → HasNone o → IsMet cfa entries o
  unmodelled_met o form none =
      runless_met o (λ first inputs last begins run.
      let model = form.model first inputs last begins run in none model.0 model.1)
