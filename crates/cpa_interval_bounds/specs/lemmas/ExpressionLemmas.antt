-- The bounds of a well-typed expression are of its type, and have its value.
use Rattle.std.proofs.Common.{◌≡◌, ℤ, pos, Bool, true, false, List, refl, sym, ap, ◌∙◌, subst, cond}
use Rattle.std.proofs.Common.{◌&&◌, not}
use Rattle.std.specs.Prelude.{Option, None, Some, IfSome, option_map, option_and_then}
use Rattle.std.proofs.lemmas.Bool.{or_left, or_right}
use Rattle.cpa_ints.specs.declared.integers.IntType.{IntType}
use Rattle.cpa_ints.specs.declared.integers.IntType.TheVariants as ty
use Rattle.cpa_ints.specs.Wrapping.{wrapped}
use Rattle.cpa_expr.specs.declared.tree.Expr.{Expr, roll-Expr}
use Rattle.cpa_expr.specs.declared.tree.Expr.TheOpen.{Expr-F}
use Rattle.cpa_expr.specs.declared.tree.Expr.TheFolds.{map-Expr, fold-roll-Expr}
use Rattle.cpa_expr.specs.Shape.{OfParts, IsTyped, IsTypedHere, node_type, type_of}
use Rattle.cpa_expr.specs.Values.{value_of, value_step, cell_at, un_value, bin_value, compares}
use Rattle.cpa_expr.specs.Values.{truth, truth_of, is_nonzero, logical_and, logical_or}
use Rattle.cpa_expr.specs.Values.{logical_not, conditional}
use Rattle.cpa_expr.specs.lemmas.Layers.{value_rolled, values_in, type_rolled}
use Rattle.cpa_expr.specs.lemmas.Parts.{by_parts, every_rolled}
use Rattle.cpa_interval_bounds.specs.declared.bounds.Bounds.{Bounds}
use Rattle.cpa_interval_bounds.specs.declared.truths.Truths.{Truths}
use Rattle.cpa_interval_bounds.specs.Bounds.{IsOf, Has, fitted, hull_where_some}
use Rattle.cpa_interval_bounds.specs.Arithmetic.{un_bounds, bin_bounds}
use Rattle.cpa_interval_bounds.specs.Truths.{may_be, truths_of, numbers_of, compared, both_hold}
use Rattle.cpa_interval_bounds.specs.Truths.{one_holds, it_fails}
use Rattle.cpa_interval_bounds.specs.Elements.{read_bounds}
use Rattle.cpa_interval_bounds.specs.ExpressionBounds.{AreOf, LieWithin, of_both, either_end}
use Rattle.cpa_interval_bounds.specs.ExpressionBounds.{bounds_step, bounds_of}
use Rattle.cpa_interval_bounds.specs.lemmas.Sets.{hull_left, hull_right}
use Rattle.cpa_interval_bounds.specs.lemmas.Ranges.{only-is, fitted-is, un_bounds-is, bin_bounds-is}
use Rattle.cpa_interval_bounds.specs.lemmas.Operators.{fitted_has, un_within, bin_within}
use Rattle.cpa_interval_bounds.specs.lemmas.TruthSets.{SomeHas, only_has, truth_of_number}
use Rattle.cpa_interval_bounds.specs.lemmas.TruthSets.{numbers_have}
use Rattle.cpa_interval_bounds.specs.lemmas.TruthSets.{numbers-are, compared_may}
use Rattle.cpa_interval_bounds.specs.lemmas.Reads.{read_has, read-is, both-are}

-- ---- the type

-- bounds that are there are of the type
abbrev pub OfType : IntType → Option Bounds → Type 0
OfType t o = IfSome o (IsOf t)

mapped-of : (s t : IntType) (f : Bounds → Bounds) (o : Option Bounds) → OfType s o
    → ((b : Bounds) → IsOf s b → IsOf t (f b)) → OfType t (option_map f o)
mapped-of s t f None h each = tt
mapped-of s t f (Some b) h each = each b h

both-of : (s u t : IntType) (f : Bounds → Bounds → Option Bounds) (o p : Option Bounds)
    → OfType s o → OfType u p
    → ((a b : Bounds) → IsOf s a → IsOf u b → OfType t (f a b)) → OfType t (of_both f o p)
both-of s u t f None p first second each = tt
both-of s u t f (Some a) None first second each = tt
both-of s u t f (Some a) (Some b) first second each = each a b first second

end-of : (t : IntType) (o p q : Option Bounds) → OfType t p → OfType t q
    → OfType t (either_end o p q)
end-of t None p q first second = tt
end-of t (Some a) p q first second = both-are t p q first second

module _ (types : List IntType) (cells : List Bounds) (are : AreOf types cells) where
  -- what is to be shown of an expression
  abbrev Typed : Expr → Type 0
  Typed e = IsTyped types e → OfType (type_of e) (bounds_of e cells)

  bounds_in : Expr-F Expr → Expr-F (Option Bounds)
  bounds_in = map-Expr Expr (Option Bounds) (λ e. bounds_of e cells)

  typed_node : (x : Expr-F Expr) → IsTypedHere types x
      → OfParts (λ e. OfType (type_of e) (bounds_of e cells)) x
      → OfType (node_type (map-Expr Expr IntType type_of x)) (bounds_step cells (bounds_in x))
  unfolding bounds_in
  typed_node (Expr-F.Const t n) typed h = only-is t n typed.0 typed.1
  typed_node (Expr-F.Read t base len index) typed h = by (bounds_of index cells) where
    by : (o : Option Bounds) → OfType t (option_and_then (read_bounds cells base len) o)
    by None = tt
    by (Some i) = read-is types cells t base len i are typed.1
  typed_node (Expr-F.Un o t arg) typed h =
      mapped-of (type_of arg) t (un_bounds o t) (bounds_of arg cells) h.0
      (λ b is. un_bounds-is o t b is.order)
  typed_node (Expr-F.Bin o t left right) typed h =
      both-of (type_of left) (type_of right) t (λ a b. Some (bin_bounds o t a b))
      (bounds_of left cells) (bounds_of right cells) h.0 (h.1).0
      (λ a b first second. bin_bounds-is o t a b (subst (λ s. IsOf s a) (typed.1) first)
      second.order (λ other. subst (λ s. IsOf s b) (typed.2 other) second))
  typed_node (Expr-F.Cmp o t left right) typed h =
      both-of (type_of left) (type_of right) ty.I32 (λ a b. numbers_of (compared o a b))
      (bounds_of left cells) (bounds_of right cells) h.0 (h.1).0
      (λ a b _ _. numbers-are (compared o a b))
  typed_node (Expr-F.Cast t arg) typed h =
      mapped-of (type_of arg) t (fitted t) (bounds_of arg cells) h.0
      (λ b is. fitted-is t b is.order)
  typed_node (Expr-F.And left right) typed h =
      numbers-are (both_hold (truths_of (bounds_of left cells)) (truths_of (bounds_of right cells)))
  typed_node (Expr-F.Or left right) typed h =
      numbers-are (one_holds (truths_of (bounds_of left cells)) (truths_of (bounds_of right cells)))
  typed_node (Expr-F.Not arg) typed h = numbers-are (it_fails (truths_of (bounds_of arg cells)))
  typed_node (Expr-F.Cond t test first second) typed h =
      end-of t (bounds_of test cells) (bounds_of first cells) (bounds_of second cells)
      (subst (λ s. OfType s (bounds_of first cells)) typed.0 (h.1).0)
      (subst (λ s. OfType s (bounds_of second cells)) typed.1 ((h.1).1).0)

  -- what holds of the parts that are well typed
  parts_of_typed : (Q : Expr → Type 0) (x : Expr-F Expr) → OfParts (λ e. IsTyped types e → Q e) x
      → OfParts (IsTyped types) x → OfParts Q x
  parts_of_typed Q (Expr-F.Const t n) h typed = tt
  parts_of_typed Q (Expr-F.Read t base len index) h typed = (h.0 typed.0, tt)
  parts_of_typed Q (Expr-F.Un o t arg) h typed = (h.0 typed.0, tt)
  parts_of_typed Q (Expr-F.Bin o t left right) h typed =
      (h.0 typed.0, ((h.1).0 (typed.1).0, tt))
  parts_of_typed Q (Expr-F.Cmp o t left right) h typed =
      (h.0 typed.0, ((h.1).0 (typed.1).0, tt))
  parts_of_typed Q (Expr-F.Cast t arg) h typed = (h.0 typed.0, tt)
  parts_of_typed Q (Expr-F.And left right) h typed =
      (h.0 typed.0, ((h.1).0 (typed.1).0, tt))
  parts_of_typed Q (Expr-F.Or left right) h typed =
      (h.0 typed.0, ((h.1).0 (typed.1).0, tt))
  parts_of_typed Q (Expr-F.Not arg) h typed = (h.0 typed.0, tt)
  parts_of_typed Q (Expr-F.Cond t test first second) h typed =
      (h.0 typed.0, ((h.1).0 (typed.1).0, (((h.1).1).0 ((typed.1).1).0, tt)))

  -- the bounds of a well-typed expression are of its type
  pub bounds_typed : (e : Expr) → Typed e
  unfolding bounds_in
  bounds_typed = by_parts Typed (λ x h typed.
      let split = every_rolled (IsTypedHere types) x typed in
      subst (λ t. OfType t (bounds_of (roll-Expr x) cells)) (sym (type_rolled x))
      (subst (OfType (node_type (map-Expr Expr IntType type_of x)))
      (sym (fold-roll-Expr (Option Bounds) (bounds_step cells) x))
      (typed_node x split.0 (parts_of_typed (λ e. OfType (type_of e) (bounds_of e cells)) x h
      split.1))))

-- ---- the value

-- a value, if there is one, is one of the bounds
abbrev pub Covers : Option Bounds → Option ℤ → Type 0
Covers bs o = IfSome o (SomeHas bs)

then-covers : (f : Bounds → Option Bounds) (g : ℤ → Option ℤ) (bs : Option Bounds) (o : Option ℤ)
    → Covers bs o → ((b : Bounds) (n : ℤ) → bs ≡ Some b → Has b n → Covers (f b) (g n))
    → Covers (option_and_then f bs) (option_and_then g o)
then-covers f g bs None h each = tt
then-covers f g None (Some n) h each = absurd h
then-covers f g (Some b) (Some n) h each = each b n refl h

mapped-covers : (f : Bounds → Bounds) (g : ℤ → ℤ) (bs : Option Bounds) (o : Option ℤ)
    → Covers bs o → ((b : Bounds) (n : ℤ) → Has b n → Has (f b) (g n))
    → Covers (option_map f bs) (option_map g o)
mapped-covers f g bs None h each = tt
mapped-covers f g None (Some n) h each = absurd h
mapped-covers f g (Some b) (Some n) h each = each b n h

-- a truth of a value, as a number
truth-covers : (t : Truths) (o : Option ℤ) → IfSome o (λ n. may_be t (is_nonzero n) ≡ true)
    → Covers (numbers_of t) (truth_of o)
truth-covers t None h = tt
truth-covers t (Some n) h = numbers_have t (is_nonzero n) h

truths_of-covered : (bs : Option Bounds) (o : Option ℤ) → Covers bs o
    → IfSome o (λ n. may_be (truths_of bs) (is_nonzero n) ≡ true)
truths_of-covered bs None h = tt
truths_of-covered bs (Some n) h = truth_of_number bs n h

both-may : (s t : Truths) (y : Bool) → s.holds ≡ true → may_be t y ≡ true
    → may_be (both_hold s t) y ≡ true
both-may s t true first second = ap (λ x. x && t.holds) first ∙ second
both-may s t false first second =
    or_right s.fails (s.holds && t.fails) (ap (λ x. x && t.fails) first ∙ second)

one-may : (s t : Truths) (y : Bool) → s.fails ≡ true → may_be t y ≡ true
    → may_be (one_holds s t) y ≡ true
one-may s t true first second =
    or_right s.holds (s.fails && t.holds) (ap (λ x. x && t.holds) first ∙ second)
one-may s t false first second = ap (λ x. x && t.fails) first ∙ second

and-covers : (s t : Truths) (o p : Option ℤ) → IfSome o (λ n. may_be s (is_nonzero n) ≡ true)
    → IfSome p (λ n. may_be t (is_nonzero n) ≡ true)
    → Covers (numbers_of (both_hold s t)) (logical_and o p)
and-covers s t None p first second = tt
and-covers s t (Some n) p first second = by (is_nonzero n) first where
  right : (q : Option ℤ) → s.holds ≡ true → IfSome q (λ m. may_be t (is_nonzero m) ≡ true)
      → Covers (numbers_of (both_hold s t)) (truth_of q)
  right None holds other = tt
  right (Some m) holds other = numbers_have (both_hold s t) (is_nonzero m)
      (both-may s t (is_nonzero m) holds other)

  by : (x : Bool) → may_be s x ≡ true
      → Covers (numbers_of (both_hold s t)) (cond x (truth_of p) (Some (pos 0)))
  by true may = right p may second
  by false may = numbers_have (both_hold s t) false (or_left s.fails (s.holds && t.fails) may)

or-covers : (s t : Truths) (o p : Option ℤ) → IfSome o (λ n. may_be s (is_nonzero n) ≡ true)
    → IfSome p (λ n. may_be t (is_nonzero n) ≡ true)
    → Covers (numbers_of (one_holds s t)) (logical_or o p)
or-covers s t None p first second = tt
or-covers s t (Some n) p first second = by (is_nonzero n) first where
  right : (q : Option ℤ) → s.fails ≡ true → IfSome q (λ m. may_be t (is_nonzero m) ≡ true)
      → Covers (numbers_of (one_holds s t)) (truth_of q)
  right None fails other = tt
  right (Some m) fails other = numbers_have (one_holds s t) (is_nonzero m)
      (one-may s t (is_nonzero m) fails other)

  by : (x : Bool) → may_be s x ≡ true
      → Covers (numbers_of (one_holds s t)) (cond x (Some (pos 1)) (truth_of p))
  by true may = numbers_have (one_holds s t) true (or_left s.holds (s.fails && t.holds) may)
  by false may = right p may second

not-covers : (s : Truths) (o : Option ℤ) → IfSome o (λ n. may_be s (is_nonzero n) ≡ true)
    → Covers (numbers_of (it_fails s)) (logical_not o)
not-covers s None h = tt
not-covers s (Some n) h = by (is_nonzero n) h where
  by : (x : Bool) → may_be s x ≡ true → SomeHas (numbers_of (it_fails s)) (truth (not x))
  by true may = numbers_have (it_fails s) false may
  by false may = numbers_have (it_fails s) true may

left-hull : (p q : Option Bounds) (n : ℤ) → SomeHas p n → SomeHas (hull_where_some p q) n
left-hull None q n h = absurd h
left-hull (Some a) None n h = h
left-hull (Some a) (Some b) n h = hull_left a b n h

right-hull : (p q : Option Bounds) (n : ℤ) → SomeHas q n → SomeHas (hull_where_some p q) n
right-hull p None n h = absurd h
right-hull None (Some b) n h = h
right-hull (Some a) (Some b) n h = hull_right a b n h

end-covers : (bs p q : Option Bounds) (o first second : Option ℤ) → Covers bs o → Covers p first
    → Covers q second → Covers (either_end bs p q) (conditional o first second)
end-covers bs p q None first second test one two = tt
end-covers None p q (Some n) first second test one two = absurd test
end-covers (Some b) p q (Some n) first second test one two = by (is_nonzero n) where
  weaker : (P Q : ℤ → Type 0) (o : Option ℤ) → ((m : ℤ) → P m → Q m) → IfSome o P → IfSome o Q
  weaker P Q None f h = tt
  weaker P Q (Some m) f h = f m h

  by : (x : Bool) → Covers (hull_where_some p q) (cond x first second)
  by true = weaker (SomeHas p) (SomeHas (hull_where_some p q)) first (left-hull p q) one
  by false = weaker (SomeHas q) (SomeHas (hull_where_some p q)) second (right-hull p q) two

within-some : (b : Bounds) (o : Option ℤ) → IfSome o (Has b) → Covers (Some b) o
within-some b None h = tt
within-some b (Some n) h = h

at-some : {A : Type 0} (P : A → Type 0) (o : Option A) (a : A) → IfSome o P → o ≡ Some a → P a
at-some P o a h is = subst (λ x. IfSome x P) is h

module _ (types : List IntType) (cells : List Bounds) (values : List ℤ) (are : AreOf types cells)
    (within : LieWithin cells values) where
  -- what is to be shown of an expression
  abbrev Covered : Expr → Type 0
  Covered e = IsTyped types e → Covers (bounds_of e cells) (value_of e values)

  covered_node : (x : Expr-F Expr) → IsTypedHere types x → OfParts (IsTyped types) x
      → OfParts (λ e. Covers (bounds_of e cells) (value_of e values)) x
      → Covers (bounds_step cells (map-Expr Expr (Option Bounds) (λ e. bounds_of e cells) x))
      (value_step values (values_in values x))
  covered_node (Expr-F.Const t n) here typed h = only_has n
  covered_node (Expr-F.Read t base len index) here typed h =
      then-covers (read_bounds cells base len) (cell_at values base len) (bounds_of index cells)
      (value_of index values) h.0 (λ b n _ has. read b n has (cell_at values base len n) refl)
    where
      read : (b : Bounds) (n : ℤ) → Has b n → (o : Option ℤ) → cell_at values base len n ≡ o
          → Covers (read_bounds cells base len b) o
      read b n has None at = tt
      read b n has (Some v) at = read_has cells values base len b n v within has at
  covered_node (Expr-F.Un o t arg) here typed h =
      mapped-covers (un_bounds o t) (un_value o t) (bounds_of arg cells) (value_of arg values) h.0
      (un_within o t)
  covered_node (Expr-F.Bin o t left right) here typed h =
      then-covers (λ a. option_and_then (λ b. Some (bin_bounds o t a b)) (bounds_of right cells))
      (λ n. option_and_then (λ m. bin_value o t n m) (value_of right values))
      (bounds_of left cells) (value_of left values) h.0
      (λ a n at first.
      then-covers (λ b. Some (bin_bounds o t a b)) (λ m. bin_value o t n m)
      (bounds_of right cells) (value_of right values) (h.1).0
      (λ b m other second.
      let one = at-some (IsOf (type_of left)) (bounds_of left cells) a
      (bounds_typed types cells are left typed.0) at in
      let two = at-some (IsOf (type_of right)) (bounds_of right cells) b
      (bounds_typed types cells are right (typed.1).0) other in
      within-some (bin_bounds o t a b) (bin_value o t n m)
      (bin_within o t a b n m (subst (λ s. IsOf s a) here.1 one)
      (λ plain. subst (λ s. IsOf s b) (here.2 plain) two) first second)))
  covered_node (Expr-F.Cmp o t left right) here typed h =
      then-covers (λ a. option_and_then (λ b. numbers_of (compared o a b)) (bounds_of right cells))
      (λ n. option_and_then (λ m. Some (truth (compares o n m))) (value_of right values))
      (bounds_of left cells) (value_of left values) h.0
      (λ a n _ first.
      then-covers (λ b. numbers_of (compared o a b)) (λ m. Some (truth (compares o n m)))
      (bounds_of right cells) (value_of right values) (h.1).0
      (λ b m _ second. numbers_have (compared o a b) (compares o n m)
      (compared_may o a b n m first second)))
  covered_node (Expr-F.Cast t arg) here typed h =
      mapped-covers (fitted t) (wrapped t) (bounds_of arg cells) (value_of arg values) h.0
      (fitted_has t)
  covered_node (Expr-F.And left right) here typed h =
      and-covers (truths_of (bounds_of left cells)) (truths_of (bounds_of right cells))
      (value_of left values) (value_of right values)
      (truths_of-covered (bounds_of left cells) (value_of left values) h.0)
      (truths_of-covered (bounds_of right cells) (value_of right values) (h.1).0)
  covered_node (Expr-F.Or left right) here typed h =
      or-covers (truths_of (bounds_of left cells)) (truths_of (bounds_of right cells))
      (value_of left values) (value_of right values)
      (truths_of-covered (bounds_of left cells) (value_of left values) h.0)
      (truths_of-covered (bounds_of right cells) (value_of right values) (h.1).0)
  covered_node (Expr-F.Not arg) here typed h =
      not-covers (truths_of (bounds_of arg cells)) (value_of arg values)
      (truths_of-covered (bounds_of arg cells) (value_of arg values) h.0)
  covered_node (Expr-F.Cond t test first second) here typed h =
      end-covers (bounds_of test cells) (bounds_of first cells) (bounds_of second cells)
      (value_of test values) (value_of first values) (value_of second values)
      h.0 (h.1).0 ((h.1).1).0

  -- the value of a well-typed expression, if there is one, is one of its bounds
  pub bounds_cover : (e : Expr) → Covered e
  bounds_cover = by_parts Covered (λ x h typed.
      let split = every_rolled (IsTypedHere types) x typed in
      subst (λ bs. Covers bs (value_of (roll-Expr x) values))
      (sym (fold-roll-Expr (Option Bounds) (bounds_step cells) x))
      (subst (Covers (bounds_step cells (map-Expr Expr (Option Bounds) (λ e. bounds_of e cells) x)))
      (sym (value_rolled values x))
      (covered_node x split.0 split.1
      (parts_of_typed types cells are (λ e. Covers (bounds_of e cells) (value_of e values)) x h
      split.1))))
