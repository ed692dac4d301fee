-- Which truths numbers within bounds have, and what a comparison leaves of bounds.
use Rattle.std.proofs.Common.{◌≡◌, ◌≢◌, ℤ, pos, ◌+ℤ◌, ◌-ℤ◌, ◌≤ℤ◌, Bool, true, false, not, ◌&&◌}
use Rattle.std.proofs.Common.{refl, sym, ap, subst, arith, cond}
use Rattle.std.specs.Prelude.{int_le, int_lt, Option, None, Some, IfSome, IsSomeAnd}
use Rattle.std.specs.Int.{int_max, int_min}
use Rattle.std.specs.Ordering.{int_eq}
use Rattle.std.proofs.lemmas.Int.{ints, clamps}
use Rattle.std.proofs.lemmas.Bool.Decides.{Decides-int_eq}
use Rattle.cpa_ints.specs.declared.integers.IntType.TheVariants as ty
use Rattle.cpa_expr.specs.declared.tree.CmpOp.{CmpOp}
use Rattle.cpa_expr.specs.declared.tree.CmpOp.TheVariants as cmp
use Rattle.cpa_expr.specs.Values.{compares, truth, is_nonzero}
use Rattle.cpa_interval_bounds.specs.declared.bounds.Bounds.{Bounds}
use Rattle.cpa_interval_bounds.specs.declared.truths.Truths.{Truths}
use Rattle.cpa_interval_bounds.specs.Bounds.{IsOf, Has, only, hull_where_some}
use Rattle.cpa_interval_bounds.specs.Truths.{is_only, truths_of, may_be, one_where, numbers_of}
use Rattle.cpa_interval_bounds.specs.Truths.{opposite, exchanged, may_compare, compared}
use Rattle.cpa_interval_bounds.specs.Cuts.{cut}
use Rattle.cpa_interval_bounds.specs.lemmas.Sets.{has_from, le_true, from_le, lt_true, from_lt}
use Rattle.cpa_interval_bounds.specs.lemmas.Sets.{from_not_le, from_not_lt, between_has, meet_has}
use Rattle.cpa_interval_bounds.specs.lemmas.Sets.{hull_left, hull_right}
use Rattle.cpa_interval_bounds.specs.lemmas.Ranges.{only-is, hull-is}
use Rattle.cpa_interval_bounds.specs.lemmas.Ends.{only_means}

-- the bounds are there and have the number
abbrev pub SomeHas : Option Bounds → ℤ → Type 0
SomeHas o n = IsSomeAnd o (λ b. Has b n)

zero_test : (n : ℤ) → int_eq n (pos 0) ≡ true → n ≡ pos 0
zero_test n = (Decides-int_eq n (pos 0)).0

-- a number has one of the truths of its bounds
pub truth_of_number : (o : Option Bounds) (n : ℤ) → SomeHas o n
    → may_be (truths_of o) (is_nonzero n) ≡ true
truth_of_number None n h = absurd h
truth_of_number (Some b) n h = by (int_eq n (pos 0)) refl where
  by : (x : Bool) → int_eq n (pos 0) ≡ x → may_be (truths_of (Some b)) (not x) ≡ true
  by true is = has_from b (pos 0) (subst (Has b) (zero_test n is) h)
  by false is = other (is_only b (pos 0)) refl where
    other : (y : Bool) → is_only b (pos 0) ≡ y → not y ≡ true
    other false same = refl
    other true same =
        let it = only_means b (pos 0) same in
        let first = it.0 in
        let last = it.1 in
        let low = h.low in
        let high = h.high in
        let zero : n ≡ pos 0 = omega (arith, ints) in
        absurd (cc ((Decides-int_eq n (pos 0)).1 zero, is))

left_some : (o p : Option Bounds) (n : ℤ) → SomeHas o n → SomeHas (hull_where_some o p) n
left_some None p n h = absurd h
left_some (Some a) None n h = h
left_some (Some a) (Some b) n h = hull_left a b n h

right_some : (o p : Option Bounds) (n : ℤ) → SomeHas p n → SomeHas (hull_where_some o p) n
right_some o None n h = absurd h
right_some None (Some b) n h = h
right_some (Some a) (Some b) n h = hull_right a b n h

pub only_has : (n : ℤ) → Has (only n) n
only_has n = record { low = omega (arith, ints); high = omega (arith, ints) }

one_has : (x : Bool) (n : ℤ) → x ≡ true → SomeHas (one_where x n) n
one_has true n is = only_has n
one_has false n is = absurd (cc)

-- the numbers of truths have each of them
pub numbers_have : (t : Truths) (x : Bool) → may_be t x ≡ true → SomeHas (numbers_of t) (truth x)
numbers_have t true may = right_some (one_where t.fails (pos 0)) (one_where t.holds (pos 1)) (pos 1)
    (one_has t.holds (pos 1) may)
numbers_have t false may = left_some (one_where t.fails (pos 0)) (one_where t.holds (pos 1)) (pos 0)
    (one_has t.fails (pos 0) may)

-- and they are numbers of type int
pub numbers-are : (t : Truths) → IfSome (numbers_of t) (IsOf ty.I32)
numbers-are t = by t.fails t.holds where
  zero_is : IsOf ty.I32 (only (pos 0))
  zero_is = only-is ty.I32 (pos 0) (omega (arith, ints)) (omega (arith, ints))

  one_is : IsOf ty.I32 (only (pos 1))
  one_is = only-is ty.I32 (pos 1) (omega (arith, ints)) (omega (arith, ints))

  by : (x y : Bool)
      → IfSome (hull_where_some (one_where x (pos 0)) (one_where y (pos 1))) (IsOf ty.I32)
  by true true = hull-is ty.I32 (only (pos 0)) (only (pos 1)) zero_is one_is
  by true false = zero_is
  by false true = one_is
  by false false = tt

-- ---- comparisons

-- numbers that compare so show that their bounds may
pub may_from : (o : CmpOp) (a b : Bounds) (n m : ℤ) → Has a n → Has b m → compares o n m ≡ true
    → may_compare o a b ≡ true
may_from cmp.Eq a b n m first second is =
    let same = (Decides-int_eq n m).0 is in
    let l = first.low in let h = first.high in let p = second.low in let q = second.high in
    rw (le_true a.lo b.hi (omega (arith, ints))) (le_true b.lo a.hi (omega (arith, ints)))
may_from cmp.Ne a b n m first second is = by (int_eq a.lo b.hi) refl (int_eq a.hi b.lo) refl where
  by : (x : Bool) → int_eq a.lo b.hi ≡ x → (y : Bool) → int_eq a.hi b.lo ≡ y → not (x && y) ≡ true
  by false low y high = refl
  by true low false high = refl
  by true low true high =
      let one = (Decides-int_eq a.lo b.hi).0 low in
      let two = (Decides-int_eq a.hi b.lo).0 high in
      let l = first.low in let h = first.high in let p = second.low in let q = second.high in
      let same : n ≡ m = omega (arith, ints) in
      absurd (cc ((Decides-int_eq n m).1 same, is))
may_from cmp.Lt a b n m first second is =
    let less = from_lt n m is in
    let l = first.low in let q = second.high in lt_true a.lo b.hi (omega (arith, ints))
may_from cmp.Le a b n m first second is =
    let less = from_le n m is in
    let l = first.low in let q = second.high in le_true a.lo b.hi (omega (arith, ints))
may_from cmp.Gt a b n m first second is =
    let less = from_lt m n is in
    let h = first.high in let p = second.low in lt_true b.lo a.hi (omega (arith, ints))
may_from cmp.Ge a b n m first second is =
    let less = from_le m n is in
    let h = first.high in let p = second.low in le_true b.lo a.hi (omega (arith, ints))

lt_not : (a b : ℤ) → int_lt a b ≡ false → int_le b a ≡ true
lt_not a b is = le_true b a (from_not_lt a b is)

le_not : (a b : ℤ) → int_le a b ≡ false → int_lt b a ≡ true
le_not a b is = lt_true b a (from_not_le a b is)

not_true : (x : Bool) → not x ≡ false → x ≡ true
not_true true is = refl
not_true false is = absurd (cc)

-- the opposite holds where a comparison fails
pub opposite_holds : (o : CmpOp) (n m : ℤ) → compares o n m ≡ false
    → compares (opposite o) n m ≡ true
opposite_holds cmp.Eq n m is = ap not is
opposite_holds cmp.Ne n m is = not_true (int_eq n m) is
opposite_holds cmp.Lt n m is = lt_not n m is
opposite_holds cmp.Le n m is = le_not n m is
opposite_holds cmp.Gt n m is = lt_not m n is
opposite_holds cmp.Ge n m is = le_not m n is

-- the comparison of the sides exchanged
pub exchanged_holds : (o : CmpOp) (n m : ℤ) → compares o n m ≡ true
    → compares (exchanged o) m n ≡ true
exchanged_holds cmp.Eq n m is =
    let same = (Decides-int_eq n m).0 is in (Decides-int_eq m n).1 (sym same)
exchanged_holds cmp.Ne n m is = by (int_eq m n) refl where
  by : (x : Bool) → int_eq m n ≡ x → not x ≡ true
  by false other = refl
  by true other =
      let same = (Decides-int_eq m n).0 other in
      absurd (cc ((Decides-int_eq n m).1 (sym same), is))
exchanged_holds cmp.Lt n m is = is
exchanged_holds cmp.Le n m is = is
exchanged_holds cmp.Gt n m is = is
exchanged_holds cmp.Ge n m is = is

-- how two numbers compare is one of the truths of the comparison of their bounds
pub compared_may : (o : CmpOp) (a b : Bounds) (n m : ℤ) → Has a n → Has b m
    → may_be (compared o a b) (compares o n m) ≡ true
compared_may o a b n m first second = by (compares o n m) refl where
  by : (x : Bool) → compares o n m ≡ x → may_be (compared o a b) x ≡ true
  by true is = may_from o a b n m first second is
  by false is = may_from (opposite o) a b n m first second (opposite_holds o n m is)

-- ---- what a comparison leaves

pub cut_has : (o : CmpOp) (a b : Bounds) (n m : ℤ) → Has a n → Has b m → compares o n m ≡ true
    → SomeHas (cut o a b) n
cut_has cmp.Eq a b n m first second is =
    let same = (Decides-int_eq n m).0 is in
    meet_has a b n first (subst (Has b) (sym same) second)
cut_has cmp.Ne a b n m first second is =
    between_has (cond (is_only b a.lo) (a.lo +ℤ pos 1) a.lo)
    (cond (is_only b a.hi) (a.hi -ℤ pos 1) a.hi) n
    (low (is_only b a.lo) refl) (high (is_only b a.hi) refl) where
      differs : n ≢ m
      differs same = absurd (cc ((Decides-int_eq n m).1 same, is))

      low : (x : Bool) → is_only b a.lo ≡ x → cond x (a.lo +ℤ pos 1) a.lo ≤ℤ n
      low false only_one = first.low
      low true only_one =
          let it = only_means b a.lo only_one in
          let one = it.0 in
          let two = it.1 in
          let l = first.low in
          let p = second.low in
          let q = second.high in
          let other : a.lo ≢ n = λ e. absurd (differs (omega (arith, ints, e))) in
          omega (arith, ints, other)

      high : (x : Bool) → is_only b a.hi ≡ x → n ≤ℤ cond x (a.hi -ℤ pos 1) a.hi
      high false only_one = first.high
      high true only_one =
          let it = only_means b a.hi only_one in
          let one = it.0 in
          let two = it.1 in
          let h = first.high in
          let p = second.low in
          let q = second.high in
          let other : a.hi ≢ n = λ e. absurd (differs (omega (arith, ints, e))) in
          omega (arith, ints, other)
cut_has cmp.Lt a b n m first second is =
    let less = from_lt n m is in
    let l = first.low in let h = first.high in let q = second.high in
    between_has a.lo (int_min a.hi (b.hi -ℤ pos 1)) n l (omega (arith, ints, clamps))
cut_has cmp.Le a b n m first second is =
    let less = from_le n m is in
    let l = first.low in let h = first.high in let q = second.high in
    between_has a.lo (int_min a.hi b.hi) n l (omega (arith, ints, clamps))
cut_has cmp.Gt a b n m first second is =
    let less = from_lt m n is in
    let l = first.low in let h = first.high in let p = second.low in
    between_has (int_max a.lo (b.lo +ℤ pos 1)) a.hi n (omega (arith, ints, clamps)) h
cut_has cmp.Ge a b n m first second is =
    let less = from_le m n is in
    let l = first.low in let h = first.high in let p = second.low in
    between_has (int_max a.lo b.lo) a.hi n (omega (arith, ints, clamps)) h
