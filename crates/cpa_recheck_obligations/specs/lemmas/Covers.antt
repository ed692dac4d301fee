-- All obligations are met exactly where the entries are a cover (`obligations_cover`).
use Rattle.std.proofs.Common.{◌≡◌, ℕ, zero, suc, ◌+◌, ◌&&◌, Bool, true, false, List, [], ◌∷◌}
use Rattle.std.proofs.Common.{map, Option, Some, None, slice_get, inl, inr, refl, sym, ap, ◌∙◌}
use Rattle.std.proofs.Common.{subst, arith, zero-add}
use Rattle.std.specs.Prelude.{◌↔◌, IfSome, is_some, option_map, cond}
use Rattle.std.specs.List.{AllByRecursion, Contains, filter}
use Rattle.std.proofs.lemmas.Option.{slice_get-map}
use Rattle.cpa_model.specs.declared.facts.Elem.{Elem}
use Rattle.cpa_model.specs.declared.states.State.{State}
use Rattle.cpa_model.specs.declared.automaton.Act.{Act}
use Rattle.cpa_model.specs.declared.automaton.Edge.{Edge}
use Rattle.cpa_model.specs.declared.automaton.Cfa.{Cfa}
use Rattle.cpa_model.specs.Automata.{StepsAlong}
use Rattle.cpa_model.specs.Covers.{LiesInSome, CoversAutomaton}
use Rattle.cpa_model.specs.Facts.{LiesIn}
use Rattle.cpa_model.specs.Steps.{StepsStack}
use Rattle.cpa_model.specs.lemmas.Lists.{place_of, in_list}
use Rattle.cpa_model.specs.lemmas.Stacks.{stack_after-whole}
use Rattle.cpa_form_rules.specs.Stores.{holding_has_two_parts}
use Rattle.cpa_form_rules.specs.lemmas.Lists.{all_both, all_parts}
use Rattle.cpa_recheck_obligations.specs.declared.listing.Obligation.{Obligation}
use Rattle.cpa_recheck_obligations.specs.declared.listing.Obligation.TheVariants.{Leads}
use Rattle.cpa_recheck_obligations.specs.declared.listing.Obligation.TheVariants.{Avoids}
use Rattle.cpa_recheck_obligations.specs.declared.spots.Spot.{Spot}
use Rattle.cpa_recheck_obligations.specs.Spots.{joined, as_one, StandsAt, permits, spot_of}
use Rattle.cpa_recheck_obligations.specs.Spots.{spots_of}
use Rattle.cpa_recheck_obligations.specs.Obligations.{stack_behind, leaves, edges_of}
use Rattle.cpa_recheck_obligations.specs.Obligations.{errors_of, own, own_from, obligations}
use Rattle.cpa_recheck_obligations.specs.Obligations.{IsObligationOf}
use Rattle.cpa_recheck_obligations.specs.Meeting.{IsMet}
use Rattle.cpa_recheck_obligations.specs.lemmas.Places.{all_map, map_all, all_places, at_places}
use Rattle.cpa_recheck_obligations.specs.lemmas.Standing.{holds_one, permits_true, stands_at}

-- ---- entries by their numbers

-- the state lies in the entry of some number
pub record LiesAt (s : State) (entries : List (List Elem)) : Type 0 where
  pub number : ℕ
  pub entry : List Elem
  pub is : slice_get entries number ≡ Some entry
  pub lies : LiesIn s entry

pub some_at : (s : State) (entries : List (List Elem)) → LiesInSome s entries → LiesAt s entries
some_at s [] h = absurd h
some_at s (entry ∷ entries) (inl here) =
    record { number = 0; entry = entry; is = refl; lies = here }
some_at s (entry ∷ entries) (inr later) =
    let at = some_at s entries later in
    record { number = suc at.number; entry = at.entry; is = at.is; lies = at.lies }

pub some_in : (s : State) (entries : List (List Elem)) (x : ℕ) (entry : List Elem)
    → slice_get entries x ≡ Some entry → LiesIn s entry → LiesInSome s entries
some_in s [] x entry at lies = absurd (cc)
some_in s (e ∷ entries) zero entry at lies =
    let same : entry ≡ e = cc in inl (subst (LiesIn s) same lies)
some_in s (e ∷ entries) (suc x) entry at lies = inr (some_in s entries x entry at lies)

-- the entry as one element
pub one_at : (entries : List (List Elem)) (x : ℕ) (entry : List Elem)
    → slice_get entries x ≡ Some entry → slice_get (as_one entries) x ≡ Some (joined entry)
one_at entries x entry at = slice_get-map joined entries x ∙ ap (option_map joined) at

pub spot_at : (xs : List Elem) (x : ℕ) (e : Elem) (spot : Spot) → slice_get xs x ≡ Some e
    → spot_of e ≡ Some spot → slice_get (spots_of xs) x ≡ Some (Some spot)
spot_at xs x e spot at is =
    slice_get-map spot_of xs x ∙ (ap (option_map spot_of) at ∙ ap Some is)

-- where a state lies, the entry has a spot, at which the state stands
pub lies_at_spot : (s : State) (entry : List Elem) → LiesIn s entry
    → (spot : Spot) × (spot_of (joined entry) ≡ Some spot) × StandsAt s spot
lies_at_spot s entry lies =
    stands_at s (joined entry)
    ((holding_has_two_parts.holds (joined entry) s).0 (holds_one entry s lies)).0

-- ---- filters

module _ (Q : ℕ → Type 0) (test : ℕ → Bool) where
  all_filter : (xs : List ℕ) → ((i x : ℕ) → slice_get xs i ≡ Some x → test x ≡ true → Q x)
      → AllByRecursion Q (filter test xs)
  all_filter [] h = tt
  all_filter (x ∷ xs) h =
      by (test x) refl (all_filter xs (λ i y at passes. h (suc i) y at passes))
    where
      by : (b : Bool) → test x ≡ b → AllByRecursion Q (filter test xs)
          → AllByRecursion Q (cond b (x ∷ filter test xs) (filter test xs))
      by true is later = (h 0 x refl is, later)
      by false is later = later

  at_filter : (xs : List ℕ) (i x : ℕ) → slice_get xs i ≡ Some x → test x ≡ true
      → AllByRecursion Q (filter test xs) → Q x
  at_filter [] i x at passes all = absurd (cc)
  at_filter (y ∷ xs) zero x at passes all =
      let same : y ≡ x = cc in
      let here = subst
      (λ b. AllByRecursion Q (cond b (y ∷ filter test xs) (filter test xs)))
      (ap test same ∙ passes) all in subst Q same here.0
  at_filter (y ∷ xs) (suc i) x at passes all = at_filter xs i x at passes (by (test y) all)
    where
      by : (b : Bool) → AllByRecursion Q (cond b (y ∷ filter test xs) (filter test xs))
          → AllByRecursion Q (filter test xs)
      by true all = all.1
      by false all = all

-- ---- the list

module _ (Q : Obligation → Type 0) (cfa : Cfa) where
  -- what holds of what is to be shown of each entry holds of the whole list
  all_own : (k : ℕ) (spots : List (Option Spot))
      → ((i : ℕ) (o : Option Spot) → slice_get spots i ≡ Some o
      → AllByRecursion Q (own cfa (k + i) o))
      → AllByRecursion Q (own_from cfa k spots)
  all_own k [] h = tt
  all_own k (o ∷ spots) h =
      let none : k + 0 ≡ k = omega arith in
      all_both Q (own cfa k o) (own_from cfa (k + 1) spots)
      (subst (λ n. AllByRecursion Q (own cfa n o)) none (h 0 o refl))
      (all_own (k + 1) spots (λ i p at.
      let same : k + suc i ≡ (k + 1) + i = omega arith in
      subst (λ n. AllByRecursion Q (own cfa n p)) same (h (suc i) p at)))

  at_own : (k : ℕ) (spots : List (Option Spot)) (i : ℕ) (o : Option Spot)
      → slice_get spots i ≡ Some o → AllByRecursion Q (own_from cfa k spots)
      → AllByRecursion Q (own cfa (k + i) o)
  at_own k [] i o at all = absurd (cc)
  at_own k (p ∷ spots) zero o at all =
      let same : p ≡ o = cc in
      let none : k ≡ k + 0 = omega arith in
      let here = (all_parts Q (own cfa k p) (own_from cfa (k + 1) spots) all).0 in
      subst (λ n. AllByRecursion Q (own cfa n o)) none
      (subst (λ q. AllByRecursion Q (own cfa k q)) same here)
  at_own k (p ∷ spots) (suc i) o at all =
      let same : (k + 1) + i ≡ k + suc i = omega arith in
      subst (λ n. AllByRecursion Q (own cfa n o)) same
      (at_own (k + 1) spots i o at
      (all_parts Q (own cfa k p) (own_from cfa (k + 1) spots) all).1)

  -- what holds of each edge and of each error point of an entry
  module _ (x : ℕ) (spot : Spot) where
    all_of_entry : ((g : ℕ) (edge : Edge) → slice_get cfa.edges g ≡ Some edge
        → leaves spot edge ≡ true → Q (Leads x g))
        → ((i p : ℕ) → slice_get cfa.errors i ≡ Some p → permits spot.point p ≡ true
        → Q (Avoids x p))
        → AllByRecursion Q (own cfa x (Some spot))
    all_of_entry edges errors =
        all_both Q (map (Leads x) (edges_of cfa spot)) (map (Avoids x) (errors_of cfa spot))
        (all_map Q (Leads x) (edges_of cfa spot)
        (all_places (λ g. Q (Leads x g)) (leaves spot) 0 cfa.edges (λ g edge at passes.
        subst (λ n. Q (Leads x n)) (sym (zero-add g)) (edges g edge at passes))))
        (all_map Q (Avoids x) (errors_of cfa spot)
        (all_filter (λ p. Q (Avoids x p)) (permits spot.point) cfa.errors errors))

    edge_of_entry : (g : ℕ) (edge : Edge) → slice_get cfa.edges g ≡ Some edge
        → leaves spot edge ≡ true → AllByRecursion Q (own cfa x (Some spot)) → Q (Leads x g)
    edge_of_entry g edge at passes all =
        let here = (all_parts Q (map (Leads x) (edges_of cfa spot))
        (map (Avoids x) (errors_of cfa spot)) all).0 in
        subst (λ n. Q (Leads x n)) (zero-add g)
        (at_places (λ n. Q (Leads x n)) (leaves spot) 0 cfa.edges g edge at passes
        (map_all Q (Leads x) (edges_of cfa spot) here))

    error_of_entry : (i p : ℕ) → slice_get cfa.errors i ≡ Some p → permits spot.point p ≡ true
        → AllByRecursion Q (own cfa x (Some spot)) → Q (Avoids x p)
    error_of_entry i p at passes all =
        let here = (all_parts Q (map (Leads x) (edges_of cfa spot))
        (map (Avoids x) (errors_of cfa spot)) all).1 in
        at_filter (λ n. Q (Avoids x n)) (permits spot.point) cfa.errors i p at passes
        (map_all Q (Avoids x) (errors_of cfa spot) here)

  -- what is to be shown of an entry, from the whole list
  of_number : (spots : List (Option Spot)) (x : ℕ) (o : Option Spot) → slice_get spots x ≡ Some o
      → AllByRecursion Q (own_from cfa 0 spots) → AllByRecursion Q (own cfa x o)
  of_number spots x o at all =
      subst (λ n. AllByRecursion Q (own cfa n o)) (zero-add x) (at_own 0 spots x o at all)

  -- and for the whole list, from each entry with a spot
  of_each : (spots : List (Option Spot))
      → ((x : ℕ) (spot : Spot) → slice_get spots x ≡ Some (Some spot)
      → AllByRecursion Q (own cfa x (Some spot)))
      → AllByRecursion Q (own_from cfa 0 spots)
  of_each spots h = all_own 0 spots (λ i o at. by i o at)
    where
      by : (i : ℕ) (o : Option Spot) → slice_get spots i ≡ Some o
          → AllByRecursion Q (own cfa (0 + i) o)
      by i None at = tt
      by i (Some spot) at =
          subst (λ n. AllByRecursion Q (own cfa n (Some spot))) (sym (zero-add i)) (h i spot at)

pub obligations_named : (cfa : Cfa) (xs : List Elem)
    → AllByRecursion (IsObligationOf cfa xs) (obligations cfa xs)
obligations_named cfa xs = (
  tt,
  of_each (IsObligationOf cfa xs) cfa (spots_of xs) (λ x spot at.
      all_of_entry (IsObligationOf cfa xs) cfa x spot
      (λ g edge is passes. (spot, edge, at, is, passes))
      (λ i p is passes. (spot, at, in_list cfa.errors i p is, passes))),
)

-- ---- covers

-- a step is possible with the stack that the spot says
possible : (act : Act) (o : Option (List ℕ)) (old new : List ℕ) → StepsStack act old new
    → IfSome o (λ sites. old ≡ sites) → is_some (stack_behind act o) ≡ true
possible act None old new steps at = refl
possible act (Some sites) old new steps at =
    let after = stack_after-whole act sites new
    (subst (λ l. StepsStack act l new) at steps) in
    ap (λ (o : Option (List ℕ)). is_some (option_map Some o)) after

leaves_true : (a b : Bool) → a ≡ true → b ≡ true → (a && b) ≡ true
leaves_true true b h k = k
leaves_true false b h k = absurd (cc)

pub leaves_at : (cfa : Cfa) (edge : Edge) (spot : Spot) (s t : State) → StandsAt s spot
    → StepsAlong cfa edge s t → leaves spot edge ≡ true
leaves_at cfa edge spot s t at along =
    leaves_true (permits spot.point edge.from) (is_some (stack_behind edge.act spot.stack))
    (permits_true spot.point s.point edge.from at.point along.from)
    (possible edge.act spot.stack s.stack t.stack along.stack at.stack)

module _ (cfa : Cfa) (entries : List (List Elem)) where
  abbrev AllMet : Type 0
  AllMet = AllByRecursion (IsMet cfa entries) (obligations cfa (as_one entries))

  -- what is to be shown of the entry in which a state lies
  own_of : AllMet → (s : State) (x : ℕ) (entry : List Elem) → slice_get entries x ≡ Some entry
      → LiesIn s entry
      → (spot : Spot) × StandsAt s spot
      × AllByRecursion (IsMet cfa entries) (own cfa x (Some spot))
  own_of met s x entry at lies =
      let found = lies_at_spot s entry lies in (
        found.0,
        found.2,
        of_number (IsMet cfa entries) cfa (spots_of (as_one entries)) x (Some found.0)
            (spot_at (as_one entries) x (joined entry) found.0 (one_at entries x entry at) found.1)
            met.1,
      )

  cover_of : AllMet → CoversAutomaton cfa entries
  cover_of met = record {
    initial = met.0;
    successors = λ s t lies step.
        let at = some_at s entries lies in
        let owns = own_of met s at.number at.entry at.is at.lies in
        let edge = place_of cfa.edges step.0 step.1 in
        edge_of_entry (IsMet cfa entries) cfa at.number owns.0 edge.0 step.0 edge.1
        (leaves_at cfa step.0 owns.0 s t owns.1 step.2) owns.2
        at.entry step.0 s t at.is edge.1 at.lies step.2;
    safe = λ s is lies error.
        let at = some_at s entries lies in
        let owns = own_of met s at.number at.entry at.is at.lies in
        let place = place_of cfa.errors s.point error in
        error_of_entry (IsMet cfa entries) cfa at.number owns.0 place.0 s.point place.1
        (permits_true owns.0.point s.point s.point owns.1.point refl) owns.2
        at.entry s at.is is refl at.lies;
  }

  met_of : CoversAutomaton cfa entries → AllMet
  met_of covers = (
    covers.initial,
    of_each (IsMet cfa entries) cfa (spots_of (as_one entries)) (λ x spot at.
        all_of_entry (IsMet cfa entries) cfa x spot
        (λ g edge is passes entry other s t entry_is edge_is lies along.
        covers.successors s t (some_in s entries x entry entry_is lies)
        (other, in_list cfa.edges g other edge_is, along))
        (λ i p is passes entry s entry_is state point lies.
        covers.safe s state (some_in s entries x entry entry_is lies)
        (subst (Contains cfa.errors) (sym point) (in_list cfa.errors i p is)))),
  )

  pub obligations_cover : AllMet ↔ CoversAutomaton cfa entries
  obligations_cover = (cover_of, met_of)
