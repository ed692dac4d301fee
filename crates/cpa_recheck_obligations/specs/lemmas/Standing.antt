-- A state stands at the spot of an element exactly where the element's facts on the point and on
-- the stack hold of it; the candidates of a spot are the entries whose spot includes it.
use Rattle.std.proofs.Common.{◌≡◌, ℕ, Bool, true, false, List, [], ◌∷◌, map}
use Rattle.std.proofs.Common.{Option, Some, None, slice_get, refl, sym, ap, ◌∙◌, subst}
use Rattle.std.proofs.Common.{zero-add}
use Rattle.std.specs.Prelude.{IfSome, option_and_then, if◌then◌else◌}
use Rattle.std.specs.List.{AllByRecursion}
use Rattle.std.proofs.lemmas.Bool.Decides.{Decides-eqb}
use Rattle.cpa_facts.specs.declared.fact.Fact.{Fact}
use Rattle.cpa_facts.specs.declared.fact.Fact.TheVariants.{At, Stack, Equals, Within, Truth}
use Rattle.cpa_model.specs.declared.facts.Elem.{Elem}
use Rattle.cpa_model.specs.declared.states.State.{State}
use Rattle.cpa_model.specs.Facts.{FactHolds, Holds, LiesIn}
use Rattle.cpa_model.specs.Standing.{same_sites}
use Rattle.cpa_model.specs.lemmas.StandingLaws.{same_fact-self}
use Rattle.cpa_form_rules.specs.Stores.{ControlFactHolds, ControlHolds}
use Rattle.cpa_recheck_obligations.specs.declared.spots.Spot.{Spot}
use Rattle.cpa_recheck_obligations.specs.Spots.{joined, StandsAt, spot_of_parts, permits}
use Rattle.cpa_recheck_obligations.specs.Spots.{permits_stack, spot_from, anywhere, spot_of}
use Rattle.cpa_recheck_obligations.specs.lemmas.SpotLaws.{same_sites-means, same_spot-means}
use Rattle.cpa_recheck_obligations.specs.lemmas.SpotLaws.{same_spot-self}
use Rattle.cpa_recheck_obligations.specs.Obligations.{said_or_not, around, is_at, under, candidates}
use Rattle.cpa_recheck_obligations.specs.lemmas.Places.{all_flat, flat_all, map_all, all_map}
use Rattle.cpa_recheck_obligations.specs.lemmas.Places.{all_places, at_places, all_so}

-- ---- entries as one

pub one_holds : (elems : List Elem) (s : State) → Holds (joined elems) s → LiesIn s elems
one_holds elems s h = flat_all (FactHolds s) (λ (e : Elem). e.facts) elems h

pub holds_one : (elems : List Elem) (s : State) → LiesIn s elems → Holds (joined elems) s
holds_one elems s h = all_flat (FactHolds s) (λ (e : Elem). e.facts) elems h

-- ---- what a spot allows

pub permits_true : (o : Option ℕ) (q p : ℕ) → IfSome o (λ own. q ≡ own) → q ≡ p
    → permits o p ≡ true
permits_true None q p h is = refl
permits_true (Some own) q p h is = (Decides-eqb own p).1 (sym h ∙ is)

pub permits_back : (o : Option ℕ) (q p : ℕ) → permits o p ≡ true → q ≡ p
    → IfSome o (λ own. q ≡ own)
permits_back None q p h is = tt
permits_back (Some own) q p h is = is ∙ sym ((Decides-eqb own p).0 h)

stack_true : (o : Option (List ℕ)) (q p : List ℕ) → IfSome o (λ own. q ≡ own) → q ≡ p
    → permits_stack o p ≡ true
stack_true None q p h is = refl
stack_true (Some own) q p h is =
    subst (λ r. same_sites own r ≡ true) (sym h ∙ is) (same_fact-self (Stack own))

stack_back : (o : Option (List ℕ)) (q p : List ℕ) → permits_stack o p ≡ true → q ≡ p
    → IfSome o (λ own. q ≡ own)
stack_back None q p h is = tt
stack_back (Some own) q p h is = is ∙ sym (same_sites-means own p h)

-- ---- the spot of an element

module _ (s : State) where
  -- a spot that is found, at which the state stands
  abbrev FoundAt : Option Spot → Type 0
  FoundAt o = (found : Spot) × (o ≡ Some found) × StandsAt s found

  stands_from : (facts : List Fact) (spot : Spot) → StandsAt s spot
      → AllByRecursion (ControlFactHolds s) facts → FoundAt (spot_from facts spot)
  stands_from [] spot at h = (spot, refl, at)
  stands_from (At p ∷ facts) spot at h =
      let next = spot_of_parts (Some p) spot.stack in
      let allowed = permits_true spot.point s.point p at.point h.0 in
      let rest = stands_from facts next (record { point = h.0; stack = at.stack }) h.1 in (
        rest.0,
        ap (λ b. option_and_then (spot_from facts) (if b then Some next else None)) allowed
            ∙ rest.1,
        rest.2,
      )
  stands_from (Stack sites ∷ facts) spot at h =
      let next = spot_of_parts spot.point (Some sites) in
      let allowed = stack_true spot.stack s.stack sites at.stack h.0 in
      let rest = stands_from facts next (record { point = at.point; stack = h.0 }) h.1 in (
        rest.0,
        ap (λ b. option_and_then (spot_from facts) (if b then Some next else None)) allowed
            ∙ rest.1,
        rest.2,
      )
  stands_from (Equals cell value ∷ facts) spot at h = stands_from facts spot at h.1
  stands_from (Within cell lo hi ∷ facts) spot at h = stands_from facts spot at h.1
  stands_from (Truth expr holds ∷ facts) spot at h = stands_from facts spot at h.1

  -- the facts hold, and the state stands where it stood before them
  abbrev HoldsFrom : List Fact → Spot → Type 0
  HoldsFrom facts spot = AllByRecursion (ControlFactHolds s) facts × StandsAt s spot

  control_from : (facts : List Fact) (spot found : Spot) → spot_from facts spot ≡ Some found
      → StandsAt s found → HoldsFrom facts spot
  control_from [] spot found is at =
      let same : found ≡ spot = cc in (tt, subst (StandsAt s) same at)
  control_from (At p ∷ facts) spot found is at =
      by (permits spot.point p) refl is
      (λ further. control_from facts (spot_of_parts (Some p) spot.stack) found further at)
    where
      next : Spot
      next = spot_of_parts (Some p) spot.stack

      by : (b : Bool) → permits spot.point p ≡ b
          → option_and_then (spot_from facts) (if b then Some next else None) ≡ Some found
          → (spot_from facts next ≡ Some found → HoldsFrom facts next)
          → HoldsFrom (At p ∷ facts) spot
      by true allowed is further =
          let rest = further is in (
            (rest.1.point, rest.0),
            record {
              point = permits_back spot.point s.point p allowed rest.1.point;
              stack = rest.1.stack;
            },
          )
      by false other is further = absurd (cc)
  control_from (Stack sites ∷ facts) spot found is at =
      by (permits_stack spot.stack sites) refl is
      (λ further. control_from facts (spot_of_parts spot.point (Some sites)) found further at)
    where
      next : Spot
      next = spot_of_parts spot.point (Some sites)

      by : (b : Bool) → permits_stack spot.stack sites ≡ b
          → option_and_then (spot_from facts) (if b then Some next else None) ≡ Some found
          → (spot_from facts next ≡ Some found → HoldsFrom facts next)
          → HoldsFrom (Stack sites ∷ facts) spot
      by true allowed is further =
          let rest = further is in (
            (rest.1.stack, rest.0),
            record {
              point = rest.1.point;
              stack = stack_back spot.stack s.stack sites allowed rest.1.stack;
            },
          )
      by false other is further = absurd (cc)
  control_from (Equals cell value ∷ facts) spot found is at =
      let rest = control_from facts spot found is at in ((tt, rest.0), rest.1)
  control_from (Within cell lo hi ∷ facts) spot found is at =
      let rest = control_from facts spot found is at in ((tt, rest.0), rest.1)
  control_from (Truth expr holds ∷ facts) spot found is at =
      let rest = control_from facts spot found is at in ((tt, rest.0), rest.1)

  -- where the facts on the point and on the stack hold, the state stands at the element's spot
  pub stands_at : (e : Elem) → ControlHolds s e
      → (found : Spot) × (spot_of e ≡ Some found) × StandsAt s found
  stands_at e h = stands_from e.facts anywhere (record { point = tt; stack = tt }) h

  -- and where it stands at the spot, they hold
  pub control_at : (e : Elem) (found : Spot) → spot_of e ≡ Some found → StandsAt s found
      → ControlHolds s e
  control_at e found is at = (control_from e.facts anywhere found is at).0

-- ---- candidates

-- each state of the other spot stands at this one
pub record Includes (spot other : Spot) : Type 0 where
  pub point : IfSome spot.point (λ p. other.point ≡ Some p)
  pub stack : IfSome spot.stack (λ sites. other.stack ≡ Some sites)

said_has : {A : Type 0} (Q : Option A → Type 0) (own o : Option A)
    → IfSome own (λ a. o ≡ Some a) → AllByRecursion Q (said_or_not o) → Q own
said_has Q None None h all = all.0
said_has Q None (Some a) h all = all.1.0
said_has Q (Some a) None h all = absurd (cc)
said_has Q (Some a) (Some b) h all = subst Q h all.0

said_only : {A : Type 0} (o : Option A)
    → AllByRecursion (λ own. IfSome own (λ a. o ≡ Some a)) (said_or_not o)
said_only None = (tt, tt)
said_only (Some a) = (refl, (tt, tt))

around_has : (Q : Spot → Type 0) (own spot : Spot) → Includes own spot
    → AllByRecursion Q (around spot) → Q own
around_has Q own spot includes all =
    said_has (λ stack. Q (spot_of_parts own.point stack)) own.stack spot.stack includes.stack
    (map_all Q (spot_of_parts own.point) (said_or_not spot.stack)
    (said_has
    (λ point. AllByRecursion Q (map (spot_of_parts point) (said_or_not spot.stack)))
    own.point spot.point includes.point
    (flat_all Q (λ point. map (spot_of_parts point) (said_or_not spot.stack))
    (said_or_not spot.point) all)))

around_only : (spot : Spot) → AllByRecursion (λ own. Includes own spot) (around spot)
around_only spot =
    all_flat (λ own. Includes own spot)
    (λ point. map (spot_of_parts point) (said_or_not spot.stack))
    (said_or_not spot.point)
    (all_so (λ (point : Option ℕ). IfSome point (λ p. spot.point ≡ Some p))
    (λ point. AllByRecursion (λ own. Includes own spot)
    (map (spot_of_parts point) (said_or_not spot.stack)))
    (λ point at.
    all_map (λ own. Includes own spot) (spot_of_parts point) (said_or_not spot.stack)
    (all_so (λ (stack : Option (List ℕ)). IfSome stack (λ sites. spot.stack ≡ Some sites))
    (λ stack. Includes (spot_of_parts point stack) spot)
    (λ stack with_it. record { point = at; stack = with_it }) (said_or_not spot.stack)
    (said_only spot.stack)))
    (said_or_not spot.point) (said_only spot.point))

module _ (Q : ℕ → Type 0) (spots : List (Option Spot)) (spot : Spot) where
  -- what holds of each entry whose spot includes this one holds of each candidate
  pub all_candidates : ((i : ℕ) (own : Spot) → slice_get spots i ≡ Some (Some own)
      → Includes own spot → Q i) → AllByRecursion Q (candidates spots spot)
  all_candidates h =
      all_flat Q (under spots) (around spot)
      (all_so (λ own. Includes own spot) (λ key. AllByRecursion Q (under spots key))
      (λ key includes. all_places Q (is_at key) 0 spots (λ i o at passes.
      subst Q (sym (zero-add i)) (by key includes i o at passes)))
      (around spot) (around_only spot))
    where
      by : (key : Spot) → Includes key spot → (i : ℕ) (o : Option Spot) → slice_get spots i ≡ Some o
          → is_at key o ≡ true → Q i
      by key includes i None at passes = absurd (cc)
      by key includes i (Some own) at passes =
          h i own at (subst (λ k. Includes k spot) (sym (same_spot-means own key passes)) includes)

  -- and the other way round
  pub at_candidates : (i : ℕ) (own : Spot) → slice_get spots i ≡ Some (Some own)
      → Includes own spot → AllByRecursion Q (candidates spots spot) → Q i
  at_candidates i own at includes all =
      let here = around_has (λ key. AllByRecursion Q (under spots key)) own spot includes
      (flat_all Q (under spots) (around spot) all) in
      subst Q (zero-add i)
      (at_places Q (is_at own) 0 spots i (Some own) at (same_spot-self own) here)
