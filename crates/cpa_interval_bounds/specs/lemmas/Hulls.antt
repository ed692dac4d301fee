-- The bounds that operators and comparisons give are the hulls of what they give.
use Rattle.std.proofs.Common.{◌≡◌, ◌≢◌, ℤ, pos, neg_ℤ, ◌+ℤ◌, ◌-ℤ◌, ◌*ℤ◌, ◌≤ℤ◌, int_div, Bool}
use Rattle.std.proofs.Common.{true, false, refl, sym, ap, ◌∙◌, subst, arith, cond, not}
use Rattle.std.specs.Prelude.{Option, Some, None, int_lt}
use Rattle.std.specs.Int.{int_max, int_min}
use Rattle.std.specs.Ordering.{int_eq}
use Rattle.std.proofs.lemmas.Int.{ints, clamps}
use Rattle.std.proofs.lemmas.Bool.Decides.{Decides-int_eq}
use Rattle.cpa_expr.specs.declared.tree.CmpOp.{CmpOp}
use Rattle.cpa_expr.specs.declared.tree.CmpOp.TheVariants as cmp
use Rattle.cpa_expr.specs.Values.{compares}
use Rattle.cpa_interval_bounds.specs.declared.bounds.Bounds.{Bounds}
use Rattle.cpa_interval_bounds.specs.Bounds.{Has, has}
use Rattle.cpa_interval_bounds.specs.Arithmetic.{negation, sum, difference, of_ends, product}
use Rattle.cpa_interval_bounds.specs.Arithmetic.{quotient}
use Rattle.cpa_interval_bounds.specs.Truths.{is_only}
use Rattle.cpa_interval_bounds.specs.Cuts.{cut}
use Rattle.cpa_interval_bounds.specs.Hulls.{IsHullOf, Gives, Leaves}
use Rattle.cpa_interval_bounds.specs.lemmas.Sets.{between_is, le_true, lt_true, meet_is}
use Rattle.cpa_interval_bounds.specs.lemmas.Ends.{only_means, only_from}
use Rattle.cpa_interval_bounds.specs.lemmas.Orders.{product_has, quotient_has}
use Rattle.cpa_interval_bounds.specs.lemmas.Operators.{one_side}
use Rattle.cpa_interval_bounds.specs.lemmas.TruthSets.{SomeHas, cut_has}

low_end : (a : Bounds) → a.lo ≤ℤ a.hi → Has a a.lo
low_end a order = record { low = omega (arith, ints); high = order }

high_end : (a : Bounds) → a.lo ≤ℤ a.hi → Has a a.hi
high_end a order = record { low = order; high = omega (arith, ints) }

pub negation_hull : (a : Bounds) → a.lo ≤ℤ a.hi
    → IsHullOf (λ n. (x : ℤ) × Has a x × (n ≡ neg_ℤ x)) (negation a)
negation_hull a order = record {
  has = λ n h.
      let first = h.1 in
      let low = first.low in
      let high = first.high in
      let is = h.2 in record { low = omega (arith, ints, is); high = omega (arith, ints, is) };
  least = (a.hi, high_end a order, refl);
  greatest = (a.lo, low_end a order, refl);
}

gives : (f : ℤ → ℤ → ℤ) (a b : Bounds) (x y : ℤ) → Has a x → Has b y → Gives f a b (f x y)
gives f a b x y first second = record {
  left = x;
  right = y;
  of_left = first;
  of_right = second;
  is = refl;
}

pub sum_hull : (a b : Bounds) → a.lo ≤ℤ a.hi → b.lo ≤ℤ b.hi → IsHullOf (Gives ◌+ℤ◌ a b) (sum a b)
sum_hull a b first second = record {
  has = λ n h.
      let one = h.of_left in
      let two = h.of_right in
      let l = one.low in let m = one.high in let p = two.low in let q = two.high in
      let is = h.is in record { low = omega (arith, ints, is); high = omega (arith, ints, is) };
  least = gives ◌+ℤ◌ a b a.lo b.lo (low_end a first) (low_end b second);
  greatest = gives ◌+ℤ◌ a b a.hi b.hi (high_end a first) (high_end b second);
}

pub difference_hull : (a b : Bounds) → a.lo ≤ℤ a.hi → b.lo ≤ℤ b.hi
    → IsHullOf (Gives ◌-ℤ◌ a b) (difference a b)
difference_hull a b first second = record {
  has = λ n h.
      let one = h.of_left in
      let two = h.of_right in
      let l = one.low in let m = one.high in let p = two.low in let q = two.high in
      let is = h.is in record { low = omega (arith, ints, is); high = omega (arith, ints, is) };
  least = gives ◌-ℤ◌ a b a.lo b.hi (low_end a first) (high_end b second);
  greatest = gives ◌-ℤ◌ a b a.hi b.lo (high_end a first) (low_end b second);
}

-- the lesser and the greater of two numbers is one of them
least_is : (P : ℤ → Type 0) (x y : ℤ) → P x → P y → P (int_min x y)
least_is P x y first second = by (int_lt y x) where
  by : (b : Bool) → P (cond b y x)
  by true = second
  by false = first

greatest_is : (P : ℤ → Type 0) (x y : ℤ) → P x → P y → P (int_max x y)
greatest_is P x y first second = by (int_lt y x) where
  by : (b : Bool) → P (cond b x y)
  by true = first
  by false = second

ends_hull : (f : ℤ → ℤ → ℤ) (a b : Bounds) → a.lo ≤ℤ a.hi → b.lo ≤ℤ b.hi
    → ((x y : ℤ) → Has a x → Has b y → Has (of_ends f a b) (f x y))
    → IsHullOf (Gives f a b) (of_ends f a b)
ends_hull f a b first second each =
    let P = Gives f a b in
    let p = gives f a b a.lo b.lo (low_end a first) (low_end b second) in
    let q = gives f a b a.lo b.hi (low_end a first) (high_end b second) in
    let r = gives f a b a.hi b.lo (high_end a first) (low_end b second) in
    let s = gives f a b a.hi b.hi (high_end a first) (high_end b second) in
    record {
      has = λ n h. subst (Has (of_ends f a b)) (sym h.is)
          (each h.left h.right h.of_left h.of_right);
      least = least_is P (int_min (f a.lo b.lo) (f a.lo b.hi)) (int_min (f a.hi b.lo) (f a.hi b.hi))
          (least_is P (f a.lo b.lo) (f a.lo b.hi) p q)
          (least_is P (f a.hi b.lo) (f a.hi b.hi) r s);
      greatest = greatest_is P (int_max (f a.lo b.lo) (f a.lo b.hi))
          (int_max (f a.hi b.lo) (f a.hi b.hi))
          (greatest_is P (f a.lo b.lo) (f a.lo b.hi) p q)
          (greatest_is P (f a.hi b.lo) (f a.hi b.hi) r s);
    }

pub product_hull : (a b : Bounds) → a.lo ≤ℤ a.hi → b.lo ≤ℤ b.hi
    → IsHullOf (Gives ◌*ℤ◌ a b) (product a b)
product_hull a b first second =
    ends_hull ◌*ℤ◌ a b first second (λ x y one two. product_has a b x y one two)

pub quotient_hull : (a b : Bounds) → a.lo ≤ℤ a.hi → b.lo ≤ℤ b.hi → has b (pos 0) ≡ false
    → IsHullOf (Gives int_div a b) (quotient a b)
quotient_hull a b first second none =
    ends_hull int_div a b first second
    (λ x y one two. quotient_has a b x y (one_side b y two none) one two)

-- ---- comparisons

no_number : (o : Option Bounds) (n : ℤ) → o ≡ None → SomeHas o n → ⊥
no_number None n is h = h
no_number (Some b) n is h = absurd (cc)

pub cut_none : (o : CmpOp) (a b : Bounds) (n : ℤ) → cut o a b ≡ None → Leaves o a b n → ⊥
cut_none o a b n is h =
    no_number (cut o a b) n is (cut_has o a b n h.other h.own h.of_other h.compares)

some_number : (o : Option Bounds) (c : Bounds) (n : ℤ) → o ≡ Some c → SomeHas o n → Has c n
some_number None c n is h = absurd h
some_number (Some b) c n is h = let same : b ≡ c = cc in subst (λ x. Has x n) same h

leaves : (o : CmpOp) (a b : Bounds) (n m : ℤ) → a.lo ≤ℤ n → n ≤ℤ a.hi → Has b m
    → compares o n m ≡ true → Leaves o a b n
leaves o a b n m low high second is = record {
  own = record { low = low; high = high };
  other = m;
  of_other = second;
  compares = is;
}

-- some number of the bounds is another one, where not this one alone is there
another : (a b : Bounds) (n : ℤ) → a.lo ≤ℤ n → n ≤ℤ a.hi → b.lo ≤ℤ b.hi → is_only b n ≡ false
    → Leaves cmp.Ne a b n
another a b n low high order more = by (int_eq n b.lo) refl where
  by : (x : Bool) → int_eq n b.lo ≡ x → Leaves cmp.Ne a b n
  by false is = leaves cmp.Ne a b n b.lo low high (low_end b order) (ap not is)
  by true is =
      let first = (Decides-int_eq n b.lo).0 is in
      other (int_eq n b.hi) refl where
        other : (y : Bool) → int_eq n b.hi ≡ y → Leaves cmp.Ne a b n
        other false at = leaves cmp.Ne a b n b.hi low high (high_end b order) (ap not at)
        other true at =
            let last = (Decides-int_eq n b.hi).0 at in
            let own = (Decides-int_eq n b.lo).0 is in
            absurd (cc (only_from b n (sym own) (sym last), more))

ends_left : (o : CmpOp) (a b c : Bounds) → a.lo ≤ℤ a.hi → b.lo ≤ℤ b.hi → cut o a b ≡ Some c
    → Leaves o a b c.lo × Leaves o a b c.hi
ends_left cmp.Eq a b c first second is =
    let it = meet_is a b c is in
    let order = it.order in
    let al = it.left_low in let ah = it.left_high in
    let bl = it.right_low in let bh = it.right_high in (
      leaves cmp.Eq a b c.lo c.lo al (omega (arith, ints))
          (record { low = bl; high = omega (arith, ints) }) ((Decides-int_eq c.lo c.lo).1 refl),
      leaves cmp.Eq a b c.hi c.hi (omega (arith, ints)) ah
          (record { low = omega (arith, ints); high = bh }) ((Decides-int_eq c.hi c.hi).1 refl),
    )
ends_left cmp.Ne a b c first second is =
    let lo = cond (is_only b a.lo) (a.lo +ℤ pos 1) a.lo in
    let hi = cond (is_only b a.hi) (a.hi -ℤ pos 1) a.hi in
    let it = between_is lo hi c is in
    subst (λ x. Leaves cmp.Ne a b x.lo × Leaves cmp.Ne a b x.hi) (sym it.1)
    (low (is_only b a.lo) refl it.0, high (is_only b a.hi) refl it.0) where
      differs : (n m : ℤ) → is_only b n ≡ true → n ≢ m → is_only b m ≡ false
      differs n m only_one other = by (is_only b m) refl where
        by : (x : Bool) → is_only b m ≡ x → is_only b m ≡ false
        by false same = same
        by true same =
            let one = (only_means b n only_one).0 in
            let two = (only_means b m same).0 in
            absurd (other (sym one ∙ two))

      ends : (x y : Bool) → is_only b a.lo ≡ x → is_only b a.hi ≡ y
          → cond x (a.lo +ℤ pos 1) a.lo ≤ℤ cond y (a.hi -ℤ pos 1) a.hi
          → (a.lo ≤ℤ cond x (a.lo +ℤ pos 1) a.lo) × (cond y (a.hi -ℤ pos 1) a.hi ≤ℤ a.hi)
      ends true true p q order = (omega (arith, ints), omega (arith, ints))
      ends true false p q order = (omega (arith, ints), omega (arith, ints))
      ends false true p q order = (omega (arith, ints), omega (arith, ints))
      ends false false p q order = (omega (arith, ints), omega (arith, ints))

      low : (x : Bool) → is_only b a.lo ≡ x
          → cond (is_only b a.lo) (a.lo +ℤ pos 1) a.lo ≤ℤ cond (is_only b a.hi) (a.hi -ℤ pos 1) a.hi
          → Leaves cmp.Ne a b (cond (is_only b a.lo) (a.lo +ℤ pos 1) a.lo)
      low x p order =
          let both = ends (is_only b a.lo) (is_only b a.hi) refl refl order in
          another a b (cond (is_only b a.lo) (a.lo +ℤ pos 1) a.lo) both.0
          (omega (arith, ints, order, both.1)) second (moved x p) where
            moved : (y : Bool) → is_only b a.lo ≡ y
                → is_only b (cond (is_only b a.lo) (a.lo +ℤ pos 1) a.lo) ≡ false
            moved true at =
                rw at (differs a.lo (a.lo +ℤ pos 1) at (λ e. absurd (omega (arith, ints, e))))
            moved false at = rw at at

      high : (x : Bool) → is_only b a.hi ≡ x
          → cond (is_only b a.lo) (a.lo +ℤ pos 1) a.lo ≤ℤ cond (is_only b a.hi) (a.hi -ℤ pos 1) a.hi
          → Leaves cmp.Ne a b (cond (is_only b a.hi) (a.hi -ℤ pos 1) a.hi)
      high x p order =
          let both = ends (is_only b a.lo) (is_only b a.hi) refl refl order in
          another a b (cond (is_only b a.hi) (a.hi -ℤ pos 1) a.hi)
          (omega (arith, ints, order, both.0)) both.1 second (moved x p) where
            moved : (y : Bool) → is_only b a.hi ≡ y
                → is_only b (cond (is_only b a.hi) (a.hi -ℤ pos 1) a.hi) ≡ false
            moved true at =
                rw at (differs a.hi (a.hi -ℤ pos 1) at (λ e. absurd (omega (arith, ints, e))))
            moved false at = rw at at
ends_left cmp.Lt a b c first second is =
    let it = between_is a.lo (int_min a.hi (b.hi -ℤ pos 1)) c is in
    let order = it.0 in
    subst (λ x. Leaves cmp.Lt a b x.lo × Leaves cmp.Lt a b x.hi) (sym it.1) (
      leaves cmp.Lt a b a.lo b.hi (omega (arith, ints)) first (high_end b second)
          (lt_true a.lo b.hi (omega (arith, ints, clamps))),
      leaves cmp.Lt a b (int_min a.hi (b.hi -ℤ pos 1)) b.hi order (omega (arith, ints, clamps))
          (high_end b second)
          (lt_true (int_min a.hi (b.hi -ℤ pos 1)) b.hi (omega (arith, ints, clamps))),
    )
ends_left cmp.Le a b c first second is =
    let it = between_is a.lo (int_min a.hi b.hi) c is in
    let order = it.0 in
    subst (λ x. Leaves cmp.Le a b x.lo × Leaves cmp.Le a b x.hi) (sym it.1) (
      leaves cmp.Le a b a.lo b.hi (omega (arith, ints)) first (high_end b second)
          (le_true a.lo b.hi (omega (arith, ints, clamps))),
      leaves cmp.Le a b (int_min a.hi b.hi) b.hi order (omega (arith, ints, clamps))
          (high_end b second) (le_true (int_min a.hi b.hi) b.hi (omega (arith, ints, clamps))),
    )
ends_left cmp.Gt a b c first second is =
    let it = between_is (int_max a.lo (b.lo +ℤ pos 1)) a.hi c is in
    let order = it.0 in
    subst (λ x. Leaves cmp.Gt a b x.lo × Leaves cmp.Gt a b x.hi) (sym it.1) (
      leaves cmp.Gt a b (int_max a.lo (b.lo +ℤ pos 1)) b.lo (omega (arith, ints, clamps)) order
          (low_end b second)
          (lt_true b.lo (int_max a.lo (b.lo +ℤ pos 1)) (omega (arith, ints, clamps))),
      leaves cmp.Gt a b a.hi b.lo first (omega (arith, ints)) (low_end b second)
          (lt_true b.lo a.hi (omega (arith, ints, clamps))),
    )
ends_left cmp.Ge a b c first second is =
    let it = between_is (int_max a.lo b.lo) a.hi c is in
    let order = it.0 in
    subst (λ x. Leaves cmp.Ge a b x.lo × Leaves cmp.Ge a b x.hi) (sym it.1) (
      leaves cmp.Ge a b (int_max a.lo b.lo) b.lo (omega (arith, ints, clamps)) order
          (low_end b second) (le_true b.lo (int_max a.lo b.lo) (omega (arith, ints, clamps))),
      leaves cmp.Ge a b a.hi b.lo first (omega (arith, ints)) (low_end b second)
          (le_true b.lo a.hi (omega (arith, ints, clamps))),
    )

pub cut_hull : (o : CmpOp) (a b c : Bounds) → a.lo ≤ℤ a.hi → b.lo ≤ℤ b.hi → cut o a b ≡ Some c
    → IsHullOf (Leaves o a b) c
cut_hull o a b c first second is =
    let ends = ends_left o a b c first second is in
    record {
      has = λ n h. some_number (cut o a b) c n is
          (cut_has o a b n h.other h.own h.of_other h.compares);
      least = ends.0;
      greatest = ends.1;
    }
