-- What the element of bounds says, and that its bounds are these again.
use Rattle.std.proofs.Common.{◌≡◌, ℕ, ◌+◌, ◌*◌, ◌≤◌, ℤ, ◌≤ℤ◌, Bool, true, false, not, ◌&&◌, List}
use Rattle.std.proofs.Common.{[], ◌∷◌, ◌++◌, refl, sym, ap, ◌∙◌, subst, arith, length}
use Rattle.std.specs.Prelude.{zero, suc, Option, None, Some, slice_get, slice_set, IsSomeAnd}
use Rattle.std.specs.Prelude.{if◌then◌else◌}
use Rattle.std.specs.List.{AllByRecursion}
use Rattle.std.specs.Ordering.{int_eq}
use Rattle.std.proofs.lemmas.Int.{ints}
use Rattle.std.proofs.lemmas.Bool.{and_parts}
use Rattle.std.proofs.lemmas.Bool.Decides.{Decides-int_eq}
use Rattle.cpa_ints.specs.declared.integers.IntType.{IntType}
use Rattle.cpa_ints.specs.Integers.{IsInRange, least, greatest}
use Rattle.cpa_model.specs.declared.program.Cell.{Cell}
use Rattle.cpa_facts.specs.declared.fact.Fact.{Fact}
use Rattle.cpa_facts.specs.declared.fact.Fact.TheVariants.{Within}
use Rattle.cpa_model.specs.declared.states.State.{State}
use Rattle.cpa_model.specs.Expressions.{types_of}
use Rattle.cpa_model.specs.Facts.{FactHolds, IsFact, IsValueOf}
use Rattle.cpa_model.specs.Standing.{same_fact}
use Rattle.cpa_model.specs.lemmas.StandingLaws.{same_fact-means, same_fact-self}
use Rattle.cpa_interval_bounds.specs.declared.bounds.Bounds.{Bounds}
use Rattle.cpa_interval_bounds.specs.Bounds.{IsOf, Has, bounds, range_of}
use Rattle.cpa_interval_bounds.specs.ExpressionBounds.{AreOf, LieWithin}
use Rattle.cpa_interval.specs.Steps.{one_where}
use Rattle.cpa_interval.specs.lemmas.Falls.{few}
use Rattle.cpa_interval.specs.Cells.{with_facts, cell_bounds, is_whole}
use Rattle.cpa_interval_acts.specs.Cells.{ranges_of}
use Rattle.cpa_interval.specs.Cells.{fact_of, facts_from}
use Rattle.cpa_interval.specs.Ranks.{steps_along, same_facts, is_regular, rank_along}
use Rattle.cpa_interval_acts.specs.lemmas.ZipLemmas.{some_value, type_in, type_of_cell}

-- what holds of the fact of each cell holds of all facts of the cells
pub facts_all : (P : Fact → Type 0) (kept : ℕ → Bool) (n : ℕ) (cs : List Cell) (bs : List Bounds)
    → ((i j : ℕ) (c : Cell) (b : Bounds) → n + i ≡ j → slice_get cs i ≡ Some c
    → slice_get bs i ≡ Some b → is_whole c.ty b ≡ false → P (Within j b.lo b.hi))
    → AllByRecursion P (facts_from kept n cs bs)
facts_all P kept n [] bs each = tt
facts_all P kept n (c ∷ cs) [] each = tt
facts_all P kept n (c ∷ cs) (b ∷ bs) each =
    by (kept n) (is_whole c.ty b) refl (each 0 n c b (omega arith) refl refl)
    (facts_all P kept (n + 1) cs bs
    (λ i j x y at one two is. each (suc i) j x y (omega (arith, at)) one two is)) where
      by : (x y : Bool) → is_whole c.ty b ≡ y → (is_whole c.ty b ≡ false → P (Within n b.lo b.hi))
          → AllByRecursion P (facts_from kept (n + 1) cs bs)
          → AllByRecursion P ((if x && not y then Within n b.lo b.hi ∷ [] else [])
          ++ facts_from kept (n + 1) cs bs)
      by true false is here rest = (here is, rest)
      by true true is here rest = rest
      by false y is here rest = rest

-- the values of a state whose bounds these are
lies_in : (o : Option ℤ) (b : Bounds) → IsSomeAnd o (Has b)
    → IsSomeAnd o (λ v. (b.lo ≤ℤ v) × (v ≤ℤ b.hi))
lies_in None b h = absurd h
lies_in (Some v) b h = (h.low, h.high)

pub facts_hold : (s : State) (kept : ℕ → Bool) (cs : List Cell) (bs : List Bounds)
    → LieWithin bs s.store.values → AllByRecursion (FactHolds s) (facts_from kept 0 cs bs)
facts_hold s kept cs bs all =
    facts_all (FactHolds s) kept 0 cs bs (λ i j c b at one two is.
    let here : i ≡ j = omega (arith, at) in
    subst (λ k. IsSomeAnd (slice_get s.store.values k) (λ v. (b.lo ≤ℤ v) × (v ≤ℤ b.hi))) here
    (lies_in (slice_get s.store.values i) b (some_value bs s.store.values i b all two)))

value_of_cell : (cs : List Cell) (k : ℕ) (c : Cell) (v : ℤ) → slice_get cs k ≡ Some c
    → IsInRange c.ty v → IsValueOf cs k v
value_of_cell cs k c v at within =
    subst (λ o. IsSomeAnd o (λ x. IsInRange x.ty v)) (sym at) within

-- bounds of the types of the cells give shaped facts
pub facts_shaped : (cs : List Cell) (points : ℕ) (kept : ℕ → Bool) (bs : List Bounds)
    → AreOf (types_of cs) bs → AllByRecursion (IsFact cs points) (facts_from kept 0 cs bs)
facts_shaped cs points kept bs all =
    facts_all (IsFact cs points) kept 0 cs bs (λ i j c b at one two is.
    let here : i ≡ j = omega (arith, at) in
    let of = type_in (types_of cs) bs i c.ty b all (type_of_cell cs i c one) two in
    subst (λ k. IsFact cs points (Within k b.lo b.hi)) here (
      value_of_cell cs i c b.lo one (low_in c.ty b of),
      value_of_cell cs i c b.hi one (high_in c.ty b of),
      of.order,
    )) where
      low_in : (t : IntType) (b : Bounds) → IsOf t b → IsInRange t b.lo
      low_in t b of =
          let low = of.low in let order = of.order in let high = of.high in
          (low, omega (arith, ints))

      high_in : (t : IntType) (b : Bounds) → IsOf t b → IsInRange t b.hi
      high_in t b of =
          let low = of.low in let order = of.order in let high = of.high in
          (omega (arith, ints), high)

-- ---- the bounds of the element of bounds

whole_means : (t : IntType) (b : Bounds) → is_whole t b ≡ true → range_of t ≡ b
whole_means t b h =
    let both = and_parts (int_eq b.lo (least t)) (int_eq b.hi (greatest t)) h in
    let low : b.lo ≡ least t = (Decides-int_eq b.lo (least t)).0 both.0 in
    let high : b.hi ≡ greatest t = (Decides-int_eq b.hi (greatest t)).0 both.1 in
    ap (λ x. bounds x (greatest t)) (sym low) ∙ ap (bounds b.lo) (sym high)

pub whole_range : (t : IntType) → is_whole t (range_of t) ≡ true
whole_range t =
    ap (λ x. x && int_eq (greatest t) (greatest t)) ((Decides-int_eq (least t) (least t)).1 refl)
    ∙ (Decides-int_eq (greatest t) (greatest t)).1 refl

set_behind : (pre bs : List Bounds) (r b : Bounds) (n : ℕ) → n ≡ length pre
    → slice_set (pre ++ r ∷ bs) n b ≡ pre ++ b ∷ bs
set_behind [] bs r b zero is = refl
set_behind [] bs r b (suc n) is = absurd (cc)
set_behind (x ∷ pre) bs r b zero is = absurd (cc)
set_behind (x ∷ pre) bs r b (suc n) is =
    ap (λ l. x ∷ l) (set_behind pre bs r b n (omega (arith, is)))

push_front : (pre bs : List Bounds) (r : Bounds) → (pre ++ r ∷ []) ++ bs ≡ pre ++ r ∷ bs
push_front [] bs r = refl
push_front (x ∷ pre) bs r = ap (λ l. x ∷ l) (push_front pre bs r)

push_length : (pre : List Bounds) (r : Bounds) → length (pre ++ r ∷ []) ≡ length pre + 1
push_length [] r = refl
push_length (x ∷ pre) r = let rest = push_length pre r in omega (arith, rest)

restored : (pre : List Bounds) (cs : List Cell) (bs : List Bounds) (n : ℕ) → n ≡ length pre
    → length bs ≡ length cs
    → with_facts (facts_from (λ _. true) n cs bs) (pre ++ ranges_of cs) ≡ pre ++ bs
restored pre [] [] n is long = refl
restored pre [] (b ∷ bs) n is long = absurd (cc)
restored pre (c ∷ cs) [] n is long = absurd (cc)
restored pre (c ∷ cs) (b ∷ bs) n is long =
    let r = range_of c.ty in
    let more = push_length pre r in
    let rest : with_facts (facts_from (λ _. true) (n + 1) cs bs) (pre ++ r ∷ ranges_of cs)
    ≡ pre ++ r ∷ bs =
    ap (with_facts (facts_from (λ _. true) (n + 1) cs bs)) (sym (push_front pre (ranges_of cs) r))
    ∙ (restored (pre ++ r ∷ []) cs bs (n + 1) (omega (arith, is, more)) (omega (arith, long))
    ∙ push_front pre bs r) in
    by (is_whole c.ty b) refl rest where
      by : (x : Bool) → is_whole c.ty b ≡ x
          → with_facts (facts_from (λ _. true) (n + 1) cs bs)
          (pre ++ range_of c.ty ∷ ranges_of cs) ≡ pre ++ range_of c.ty ∷ bs
          → with_facts ((if true && not x then Within n b.lo b.hi ∷ [] else [])
          ++ facts_from (λ _. true) (n + 1) cs bs) (pre ++ range_of c.ty ∷ ranges_of cs)
          ≡ pre ++ b ∷ bs
      by true at rest = rest ∙ ap (λ y. pre ++ y ∷ bs) (whole_means c.ty b at)
      by false at rest =
          ap (λ l. slice_set l n (bounds b.lo b.hi)) rest
          ∙ set_behind pre bs (range_of c.ty) b n is

pub bounds_again : (cs : List Cell) (bs : List Bounds) → length bs ≡ length cs
    → cell_bounds cs (facts_from (λ _. true) 0 cs bs) ≡ bs
bounds_again cs bs long = restored [] cs bs 0 refl long

-- ---- regular elements

same_facts-self : (fs : List Fact) → same_facts fs fs ≡ true
same_facts-self [] = refl
same_facts-self (f ∷ fs) =
    ap (λ b. b && same_facts fs fs) (same_fact-self f) ∙ same_facts-self fs

pub same_facts-means : (fs gs : List Fact) → same_facts fs gs ≡ true → fs ≡ gs
same_facts-means [] [] h = refl
same_facts-means [] (g ∷ gs) h = absurd (cc)
same_facts-means (f ∷ fs) [] h = absurd (cc)
same_facts-means (f ∷ fs) (g ∷ gs) h =
    let both = and_parts (same_fact f g) (same_facts fs gs) h in
    let first = same_fact-means f g both.0 in
    let rest = same_facts-means fs gs both.1 in
    cc

pub regular : (cs : List Cell) (bs : List Bounds) → length bs ≡ length cs
    → is_regular cs (facts_from (λ _. true) 0 cs bs) ≡ true
regular cs bs long =
    let fs = facts_from (λ _. true) 0 cs bs in
    ap (λ l. same_facts fs (facts_from (λ _. true) 0 cs l)) (bounds_again cs bs long)
    ∙ same_facts-self fs

-- the rank of the element of bounds is the number of their steps
pub rank_is : (ns : List ℤ) (cs : List Cell) (bs : List Bounds) → length bs ≡ length cs
    → rank_along ns cs (facts_from (λ _. true) 0 cs bs) ≡ steps_along ns cs bs
rank_is ns cs bs long =
    let fs = facts_from (λ _. true) 0 cs bs in
    let one : steps_along ns cs (cell_bounds cs fs) ≡ steps_along ns cs bs =
    ap (steps_along ns cs) (bounds_again cs bs long) in
    let none : one_where (not (is_regular cs fs)) ≡ 0 =
    ap (λ b. one_where (not b)) (regular cs bs long) in
    omega (arith, one, none)

steps_few : (ns : List ℤ) (cs : List Cell) (bs : List Bounds)
    → steps_along ns cs bs ≤ length cs * (2 * (length ns + 1))
steps_few ns [] bs = omega arith
steps_few ns (c ∷ cs) [] = omega arith
steps_few ns (c ∷ cs) (b ∷ bs) =
    let first = few ns c.ty b in
    let rest = steps_few ns cs bs in
    omega (arith, first, rest)

pub rank_few : (ns : List ℤ) (cs : List Cell) (bs : List Bounds) → length bs ≡ length cs
    → rank_along ns cs (facts_from (λ _. true) 0 cs bs) ≤ 2 * length cs * (length ns + 1)
rank_few ns cs bs long =
    let is = rank_is ns cs bs long in
    let less = steps_few ns cs bs in
    omega (arith, is, less)

-- ---- of tracked cells alone

-- the bounds, with all numbers of its type for each cell that is not kept
abbrev pub kept_bounds : (ℕ → Bool) → ℕ → List Cell → List Bounds → List Bounds
kept_bounds kept n [] bs = []
kept_bounds kept n (c ∷ cs) [] = []
kept_bounds kept n (c ∷ cs) (b ∷ bs) =
    (if kept n then b else range_of c.ty) ∷ kept_bounds kept (n + 1) cs bs

pub kept_facts : (kept : ℕ → Bool) (n : ℕ) (cs : List Cell) (bs : List Bounds)
    → facts_from kept n cs bs ≡ facts_from (λ _. true) n cs (kept_bounds kept n cs bs)
kept_facts kept n [] bs = refl
kept_facts kept n (c ∷ cs) [] = refl
kept_facts kept n (c ∷ cs) (b ∷ bs) = by (kept n) (kept_facts kept (n + 1) cs bs) where
  by : (x : Bool) → facts_from kept (n + 1) cs bs
      ≡ facts_from (λ _. true) (n + 1) cs (kept_bounds kept (n + 1) cs bs)
      → fact_of x n c.ty b ++ facts_from kept (n + 1) cs bs
      ≡ fact_of true n c.ty (if x then b else range_of c.ty)
      ++ facts_from (λ _. true) (n + 1) cs (kept_bounds kept (n + 1) cs bs)
  by true rest = ap (λ l. fact_of true n c.ty b ++ l) rest
  by false rest =
      rest ∙ ap (λ y. (if true && not y then Within n (least c.ty) (greatest c.ty) ∷ [] else [])
      ++ facts_from (λ _. true) (n + 1) cs (kept_bounds kept (n + 1) cs bs))
      (sym (whole_range c.ty))

pub kept_length : (kept : ℕ → Bool) (n : ℕ) (cs : List Cell) (bs : List Bounds)
    → length bs ≡ length cs → length (kept_bounds kept n cs bs) ≡ length cs
kept_length kept n [] bs long = refl
kept_length kept n (c ∷ cs) [] long = absurd (cc)
kept_length kept n (c ∷ cs) (b ∷ bs) long =
    ap suc (kept_length kept (n + 1) cs bs (omega (arith, long)))
