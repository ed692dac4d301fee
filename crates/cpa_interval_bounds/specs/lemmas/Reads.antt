-- The bounds of an element that an index names.
use Rattle.std.proofs.Common.{◌≡◌, ◌≢◌, ℕ, zero, suc, ◌+◌, ◌-◌, ◌<◌, ◌≤◌, ℤ, pos, negsuc, ◌-ℤ◌}
use Rattle.std.proofs.Common.{◌≤ℤ◌}
use Rattle.std.proofs.Common.{Bool, true, false, List, [], ◌∷◌, refl, sym, subst, arith, cond}
use Rattle.std.specs.Prelude.{◌==◌, nat_lt, Option, None, Some, IfSome, IsSomeAnd, slice_get}
use Rattle.std.specs.Prelude.{option_map, option_and_then}
use Rattle.std.proofs.lemmas.Int.{ints}
use Rattle.std.proofs.lemmas.Bool.Decides.{Decides-ltb, Decides-eqb}
use Rattle.cpa_ints.specs.declared.integers.IntType.{IntType}
use Rattle.cpa_expr.specs.Shape.{AreCells}
use Rattle.cpa_expr.specs.Values.{cell_at}
use Rattle.cpa_interval_bounds.specs.declared.bounds.Bounds.{Bounds}
use Rattle.cpa_interval_bounds.specs.declared.elements.Places.{Places}
use Rattle.cpa_interval_bounds.specs.Bounds.{IsOf, Has, meet, hull_where_some}
use Rattle.cpa_interval_bounds.specs.Elements.{places_of, cells_at, named, hull_from, read_bounds}
use Rattle.cpa_interval_bounds.specs.ExpressionBounds.{AreOf, LieWithin}
use Rattle.cpa_interval_bounds.specs.lemmas.Sets.{meet_has, meet_is, hull_left, hull_right}
use Rattle.cpa_interval_bounds.specs.lemmas.Ranges.{hull-is}
use Rattle.cpa_interval_bounds.specs.lemmas.TruthSets.{SomeHas}

-- the bounds of a cell that has a value
pub cell_has : (cells : List Bounds) (values : List ℤ) (c : ℕ) (v : ℤ) → LieWithin cells values
    → slice_get values c ≡ Some v → IsSomeAnd (slice_get cells c) (λ b. Has b v)
cell_has [] [] c v all is = absurd (cc)
cell_has [] (w ∷ values) c v all is = absurd all
cell_has (b ∷ cells) [] c v all is = absurd all
cell_has (b ∷ cells) (w ∷ values) zero v all is = let same : w ≡ v = cc in subst (Has b) same all.0
cell_has (b ∷ cells) (w ∷ values) (suc c) v all is = cell_has cells values c v all.1 is

-- the bounds of a cell that has a type
pub cell_is : (types : List IntType) (cells : List Bounds) (c : ℕ) (t : IntType)
    → AreOf types cells → slice_get types c ≡ Some t
    → (b : Bounds) × (slice_get cells c ≡ Some b) × IsOf t b
cell_is [] [] c t all is = absurd (cc)
cell_is [] (b ∷ cells) c t all is = absurd all
cell_is (s ∷ types) [] c t all is = absurd all
cell_is (s ∷ types) (b ∷ cells) zero t all is = let same : s ≡ t = cc in
    (b, refl, subst (λ u. IsOf u b) same all.0)
cell_is (s ∷ types) (b ∷ cells) (suc c) t all is = cell_is types cells c t all.1 is

-- what of two things that may be there is a hull
hull_some : (o p : Option Bounds) (n : ℤ) → SomeHas o n → SomeHas (hull_where_some o p) n
hull_some None p n h = absurd h
hull_some (Some a) None n h = h
hull_some (Some a) (Some b) n h = hull_left a b n h

some_hull : (o p : Option Bounds) (n : ℤ) → SomeHas p n → SomeHas (hull_where_some o p) n
some_hull o None n h = absurd h
some_hull None (Some b) n h = h
some_hull (Some a) (Some b) n h = hull_right a b n h

pub both-are : (t : IntType) (o p : Option Bounds) → IfSome o (IsOf t) → IfSome p (IsOf t)
    → IfSome (hull_where_some o p) (IsOf t)
both-are t None p first second = second
both-are t (Some a) None first second = first
both-are t (Some a) (Some b) first second = hull-is t a b first second

-- the hull has what each of its cells has
hull_from_has : (cells : List Bounds) (first n j : ℕ) (v : ℤ) → j < n
    → IsSomeAnd (slice_get cells (first + j)) (λ b. Has b v) → SomeHas (hull_from cells first n) v
hull_from_has cells first zero j v less h = absurd (omega arith)
hull_from_has cells first (suc n) j v less h =
    by (j == n) refl (λ inner. hull_from_has cells first n j v inner h) where
      by : (x : Bool) → (j == n) ≡ x → (j < n → SomeHas (hull_from cells first n) v)
          → SomeHas (hull_where_some (hull_from cells first n) (slice_get cells (first + n))) v
      by true is before =
          let same : j ≡ n = (Decides-eqb j n).0 is in
          some_hull (hull_from cells first n) (slice_get cells (first + n)) v
          (subst (λ k. IsSomeAnd (slice_get cells (first + k)) (λ b. Has b v)) same h)
      by false is before =
          let differs : j ≢ n = λ e. absurd (cc ((Decides-eqb j n).1 e, is)) in
          hull_some (hull_from cells first n) (slice_get cells (first + n)) v (before (omega arith))

pub hull_from-is : (t : IntType) (cells : List Bounds) (first n : ℕ)
    → ((j : ℕ) → j < n → IfSome (slice_get cells (first + j)) (IsOf t))
    → IfSome (hull_from cells first n) (IsOf t)
hull_from-is t cells first zero each = tt
hull_from-is t cells first (suc n) each =
    both-are t (hull_from cells first n) (slice_get cells (first + n))
    (hull_from-is t cells first n (λ j less. each j (omega arith))) (each n (omega arith))

-- the places that are named lie in the array
pub record AreInside (base len : ℕ) (p : Places) : Type 0 where
  pub start : ℕ
  pub first : p.first ≡ base + start
  pub within : start + p.count ≤ len
  pub some : 1 ≤ p.count

pub named_inside : (base len : ℕ) (index : Bounds) (p : Places) → named base len index ≡ Some p
    → AreInside base len p
named_inside base len index p is = by (meet index (places_of len)) refl is where
  inside : (c : Bounds) → pos 0 ≤ℤ c.lo → c.lo ≤ℤ c.hi → c.hi ≤ℤ (pos len -ℤ pos 1)
      → AreInside base len (cells_at base c)
  inside c low order high = ends c.lo c.hi low order high where
    ends : (x y : ℤ) → pos 0 ≤ℤ x → x ≤ℤ y → y ≤ℤ (pos len -ℤ pos 1)
        → AreInside base len (cells_at base (record { lo = x; hi = y }))
    ends (pos i) (pos j) from order to = record {
      start = i;
      first = refl;
      within = omega (arith, ints);
      some = omega arith;
    }
    ends (pos i) (negsuc j) from order to = absurd (omega (arith, ints))
    ends (negsuc i) y from order to = absurd (omega (arith, ints))

  by : (o : Option Bounds) → meet index (places_of len) ≡ o
      → option_map (cells_at base) o ≡ Some p → AreInside base len p
  by None none same = absurd (cc)
  by (Some c) some same =
      let it = meet_is index (places_of len) c some in
      let here : cells_at base c ≡ p = cc in
      subst (AreInside base len) here (inside c it.right_low it.order it.right_high)

-- an index that does not trap names its element
pub record Names (base i : ℕ) (p : Places) : Type 0 where
  pub place : ℕ
  pub below : place < p.count
  pub same : p.first + place ≡ base + i

pub named_has : (base len i : ℕ) (index : Bounds) → i < len → Has index (pos i)
    → IsSomeAnd (named base len index) (Names base i)
named_has base len i index less h =
    by (meet index (places_of len)) refl
    (meet_has index (places_of len) (pos i) h
    (record { low = omega (arith, ints); high = omega (arith, ints) })) where
      ends : (x y : ℤ) → pos 0 ≤ℤ x → x ≤ℤ pos i → pos i ≤ℤ y
          → Names base i (cells_at base (record { lo = x; hi = y }))
      ends (pos k) (pos j) from low high = record {
        place = i - k;
        below = omega (arith, ints);
        same = omega (arith, ints);
      }
      ends (pos k) (negsuc j) from low high = absurd (omega (arith, ints))
      ends (negsuc k) y from low high = absurd (omega (arith, ints))

      by : (o : Option Bounds) → meet index (places_of len) ≡ o → SomeHas o (pos i)
          → IsSomeAnd (option_map (cells_at base) o) (Names base i)
      by None is here = absurd here
      by (Some c) is here =
          ends c.lo c.hi (meet_is index (places_of len) c is).right_low here.low here.high

pub read_has : (cells : List Bounds) (values : List ℤ) (base len : ℕ) (index : Bounds) (n v : ℤ)
    → LieWithin cells values → Has index n → cell_at values base len n ≡ Some v
    → SomeHas (read_bounds cells base len index) v
read_has cells values base len index (negsuc i) v all h is = absurd (cc)
read_has cells values base len index (pos i) v all h is = by (nat_lt i len) refl is where
  pick : (o : Option Places) → IsSomeAnd o (Names base i) → slice_get values (base + i) ≡ Some v
      → SomeHas (option_and_then (λ p. hull_from cells p.first p.count) o) v
  pick None names at = absurd names
  pick (Some p) names at =
      hull_from_has cells p.first p.count names.place v names.below
      (subst (λ c. IsSomeAnd (slice_get cells c) (λ b. Has b v)) (sym names.same)
      (cell_has cells values (base + i) v all at))

  by : (x : Bool) → nat_lt i len ≡ x → cond x (slice_get values (base + i)) None ≡ Some v
      → SomeHas (read_bounds cells base len index) v
  by true less at =
      pick (named base len index) (named_has base len i index ((Decides-ltb i len).0 less) h) at
  by false less at = absurd (cc)

pub read-is : (types : List IntType) (cells : List Bounds) (t : IntType) (base len : ℕ)
    (index : Bounds) → AreOf types cells → AreCells types base len t
    → IfSome (read_bounds cells base len index) (IsOf t)
read-is types cells t base len index all typed = by (named base len index) refl where
  by : (o : Option Places) → named base len index ≡ o
      → IfSome (option_and_then (λ p. hull_from cells p.first p.count) o) (IsOf t)
  by None is = tt
  by (Some p) is =
      let inside = named_inside base len index p is in
      hull_from-is t cells p.first p.count (λ j less.
      let within = inside.within in
      let at = cell_is types cells (base + (inside.start + j)) t all
      (typed (inside.start + j) (omega arith)) in
      let same : base + (inside.start + j) ≡ p.first + j = omega (arith, inside.first) in
      subst (λ c. IfSome (slice_get cells c) (IsOf t)) same
      (subst (λ o. IfSome o (IsOf t)) (sym at.1) at.2))
