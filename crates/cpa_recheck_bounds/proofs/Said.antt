-- What is said of an element shows that it holds on each store within the bounds.
use Rattle.std.proofs.Common.{◌≡◌, ℕ, zero, suc, ℤ, ◌≤ℤ◌, Bool, true, false, ◌||◌, List, []}
use Rattle.std.proofs.Common.{◌∷◌, map, length, refl, sym, ap, subst, arith, inl, inr, ◌⊎◌}
use Rattle.std.specs.Prelude.{Option, None, Some, slice_get, IsSomeAnd}
use Rattle.std.specs.List.{AllByRecursion, list_any}
use Rattle.std.proofs.lemmas.Int.{ints}
use Rattle.std.proofs.lemmas.Bool.{and_parts}
use Rattle.cpa_expr.specs.declared.tree.Expr.{Expr}
use Rattle.cpa_expr.specs.Laws.{DependsOnWhatIsRead}
use Rattle.cpa_expr.specs.Values.{HasTruth, is_nonzero}
use Rattle.cpa_facts.specs.declared.fact.Fact.{Fact}
use Rattle.cpa_facts.specs.declared.fact.Fact.TheVariants.{At, Stack, Equals, Within, Truth}
use Rattle.cpa_model.specs.declared.facts.Elem.{Elem}
use Rattle.cpa_model.specs.Standing.{same_fact}
use Rattle.cpa_model.specs.lemmas.StandingLaws.{same_fact-means}
use Rattle.cpa_form_rules.specs.Runs.{StoreFactHolds, StoreHolds}
use Rattle.cpa_form_rules.specs.Stores.{failing_is_not_holding}
use Rattle.cpa_interval_bounds.specs.declared.bounds.Bounds.{Bounds}
use Rattle.cpa_interval_bounds.specs.Bounds.{Has, bounds, only, is_inside, has}
use Rattle.cpa_interval_bounds.specs.ExpressionBounds.{LieWithin}
use Rattle.cpa_interval_bounds.specs.lemmas.Sets.{has_means}
use Rattle.cpa_interval_acts.specs.lemmas.ZipLemmas.{some_value}
use Rattle.cpa_recheck_obligations.specs.Forms.{entry_at}
use Rattle.cpa_recheck_bounds.specs.Exact.{AreFixedBelow, lows_of}
use Rattle.cpa_recheck_bounds.specs.Saying.{is_among, bounds_say, IsSaid, AreAllSaid, AreSaid}
use Rattle.cpa_recheck_bounds.proofs.Exactly.{exact}

either : (a b : Bool) → (a || b) ≡ true → (a ≡ true) ⊎ (b ≡ true)
either true b h = inl refl
either false b h = inr h

-- all numbers of bounds inside others are among them
inside_has : (own other : Bounds) (v : ℤ) → is_inside own other ≡ true → Has own v → Has other v
inside_has own other v is h =
    let both = and_parts (has other own.lo) (has other own.hi) is in
    let low = (has_means other own.lo both.0).low in
    let high = (has_means other own.hi both.1).high in
    let first = h.low in
    let last = h.high in
    record { low = omega (arith, ints); high = omega (arith, ints) }

-- the cell has a value, and it is among these
among : (all : List Bounds) (store : List ℤ) (cell : ℕ) (other : Bounds) → LieWithin all store
    → is_among other (slice_get all cell) ≡ true → IsSomeAnd (slice_get store cell) (Has other)
among all store cell other lie = by (slice_get all cell) refl
  where
    wider : (own : Bounds) (o : Option ℤ) → is_inside own other ≡ true → IsSomeAnd o (Has own)
        → IsSomeAnd o (Has other)
    wider own None is h = absurd h
    wider own (Some v) is h = inside_has own other v is h

    by : (o : Option Bounds) → slice_get all cell ≡ o → is_among other o ≡ true
        → IsSomeAnd (slice_get store cell) (Has other)
    by None at is = absurd (cc)
    by (Some own) at is =
        wider own (slice_get store cell) is (some_value all store cell own lie at)

one_value : (v w : ℤ) → Has (only v) w → w ≡ v
one_value v w h = let low = h.low in let high = h.high in omega (arith, ints)

equals : (o : Option ℤ) (v : ℤ) → IsSomeAnd o (Has (only v)) → o ≡ Some v
equals None v h = absurd h
equals (Some w) v h = ap Some (one_value v w h)

within : (o : Option ℤ) (lo hi : ℤ) → IsSomeAnd o (Has (bounds lo hi))
    → IsSomeAnd o (λ v. (lo ≤ℤ v) × (v ≤ℤ hi))
within None lo hi h = absurd h
within (Some v) lo hi h = (h.low, h.high)

-- a fact that is the same as one of those that hold
pub same_holds : (store : List ℤ) (fact : Fact) (facts : List Fact)
    → list_any (same_fact fact) facts ≡ true → AllByRecursion (StoreFactHolds store) facts
    → StoreFactHolds store fact
same_holds store fact [] is all = absurd (cc)
same_holds store fact (own ∷ facts) is all =
    by (either (same_fact fact own) (list_any (same_fact fact) facts) is)
    (λ later. same_holds store fact facts later all.1)
  where
    by : (same_fact fact own ≡ true) ⊎ (list_any (same_fact fact) facts ≡ true)
        → (list_any (same_fact fact) facts ≡ true → StoreFactHolds store fact)
        → StoreFactHolds store fact
    by (inl same) next = subst (StoreFactHolds store) (sym (same_fact-means fact own same)) all.0
    by (inr later) next = next later

pub said_by_bounds : (all : List Bounds) (elem : Elem) (fact : Fact) → bounds_say all fact ≡ true
    → IsSaid all elem fact
said_by_bounds all elem (At p) is store lie holds = tt
said_by_bounds all elem (Stack sites) is store lie holds = tt
said_by_bounds all elem (Equals cell v) is store lie holds =
    equals (slice_get store cell) v (among all store cell (only v) lie is)
said_by_bounds all elem (Within cell lo hi) is store lie holds =
    within (slice_get store cell) lo hi (among all store cell (bounds lo hi) lie is)
said_by_bounds all elem (Truth e h) is store lie holds = absurd (cc)

-- the value on the lower ends is that on each store within the bounds
pub known_truth : (e : Expr) (h : Bool) (all : List Bounds) (lows store : List ℤ)
    → DependsOnWhatIsRead → AreFixedBelow e all (length all) → HasTruth lows e h
    → lows ≡ lows_of all → LieWithin all store → HasTruth store e h
known_truth e h all lows store law fixed has are lie =
    subst (λ o. IsSomeAnd o (λ v. is_nonzero v ≡ h))
    (sym (exact e all store lie fixed law lows are)) has

-- what is left of the facts gives all of them
abbrev pub GivesAll : List Bounds → Elem → List Fact → List Fact → Type 0
GivesAll all elem facts rest =
    (store : List ℤ) → LieWithin all store → StoreHolds store elem
    → AllByRecursion (StoreFactHolds store) rest → AllByRecursion (StoreFactHolds store) facts

-- one of the others holds where the one at a place does
pub said_here : (all : List Bounds) (elem : Elem) (xs : List Elem) (numbers : List ℕ) (i n : ℕ)
    → slice_get numbers i ≡ Some n → AreAllSaid all elem (entry_at xs n)
    → AreSaid all elem (map (entry_at xs) numbers)
said_here all elem xs [] i n at said store lie holds fail = absurd (cc)
said_here all elem xs (m ∷ numbers) zero n at said store lie holds fail =
    let same : n ≡ m = cc in
    (failing_is_not_holding.fails store (entry_at xs m)).0 fail.0
    (subst (λ k. StoreHolds store (entry_at xs k)) same (said store lie holds))
said_here all elem xs (m ∷ numbers) (suc i) n at said store lie holds fail =
    said_here all elem xs numbers i n at said store lie holds fail.1
