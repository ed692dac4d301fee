-- What a node's own tests tell, where its parts have values.
use Rattle.std.proofs.Common.{◌≡◌, ◌≢◌, ◌↔◌, ◌⊎◌, inl, inr, ℕ, suc, ◌-◌, ◌^◌, ◌<◌, ◌≤◌, ℤ, pos}
use Rattle.std.proofs.Common.{negsuc, ◌+ℤ◌, ◌-ℤ◌, ◌*ℤ◌, neg_ℤ, ◌≤ℤ◌, ◌<ℤ◌, int_div, int_lt, nat_lt}
use Rattle.std.proofs.Common.{Bool, true, false, ◌==◌, ◌&&◌, IsTrue, List, Option, None, Some}
use Rattle.std.proofs.Common.{IsSomeAnd, option_map, refl, sym, ap, subst, ◌∙◌, arith}
use Rattle.std.specs.Prelude.{if◌then◌else◌, int_le}
use Rattle.std.specs.Bool.{Decides}
use Rattle.std.specs.Ordering.{int_eq}
use Rattle.std.specs.Int.{int_div_euclid}
use Rattle.std.proofs.lemmas.Int.{ints}
use Rattle.std.proofs.lemmas.Bool.Decides.{nat_tests, Decides-int_eq, Decides-not}
use Rattle.cpa_ints.specs.declared.integers.IntType.{IntType}
use Rattle.cpa_ints.specs.declared.integers.IntType.TheVariants as ty
use Rattle.cpa_ints.specs.Integers.{width, is_signed, least, greatest, IsInRange}
use Rattle.cpa_ints.specs.Wrapping.{wrapped}
use Rattle.cpa_ints.specs.lemmas.Arithmetic.{wrapped_of_range}
use Rattle.cpa_expr.specs.declared.tree.UnOp.{UnOp}
use Rattle.cpa_expr.specs.declared.tree.BinOp.{BinOp}
use Rattle.cpa_expr.specs.declared.tree.CmpOp.{CmpOp}
use Rattle.cpa_expr.specs.declared.tree.UnOp.TheVariants as un
use Rattle.cpa_expr.specs.declared.tree.BinOp.TheVariants as bin
use Rattle.cpa_expr.specs.declared.tree.CmpOp.TheVariants as cmp
use Rattle.cpa_expr.specs.declared.tree.Expr.{Expr, out-Expr}
use Rattle.cpa_expr.specs.declared.tree.Expr.TheViews.{roll-out-Expr}
use Rattle.cpa_expr.specs.declared.tree.Expr.TheVariants.{Const, Bin, Cmp, Cast, And, Or, Not}
use Rattle.cpa_expr.specs.declared.tree.Expr.TheOpen.{Expr-F}
use Rattle.cpa_expr.specs.Shape.{type_of, is_shift}
use Rattle.cpa_expr.specs.Values.{amount_of, divided_by, bin_value, compares, truth, evaluated}
use Rattle.cpa_expr.specs.Values.{comparison, value_step, value_of}
use Rattle.cpa_expr.specs.Traps.{IsOutside, HasNoValue}
use Rattle.cpa_expr.specs.Laws.{value_at_variants}
use Rattle.cpa_expr.specs.lemmas.CellsRead.{both_same}
use Rattle.cpa_expr.specs.lemmas.Layers.{values_in, value_rolled}
use Rattle.cpa_trap_checks.specs.Nodes.{is_constant_zero, is_one_cell}
use Rattle.cpa_trap_checks.specs.Wraps.{IsBeyond, exact_un, exact_bin}
use Rattle.cpa_trap_checks.specs.Checks.{compared, outside_at, outside, own_trap, index_trap}
use Rattle.cpa_trap_checks.specs.Checks.{is_past, add_wraps, sub_wraps, is_lost, mul_wraps}
use Rattle.cpa_trap_checks.specs.Checks.{div_wraps, shl_wraps, signed_wraps, bin_wraps, un_wraps}
use Rattle.cpa_trap_checks.specs.Tells.{Tells, tells, tells_not}
use Rattle.cpa_trap_checks.specs.lemmas.Deciding.{tell_same, tell_none, tell_or, tell_and, tell_not}
use Rattle.cpa_trap_checks.specs.lemmas.Ends.{Ends, signed_ends}
use Rattle.cpa_trap_checks.specs.lemmas.Overflows.{negation_beyond, left_of_greatest, left_of_least}
use Rattle.cpa_trap_checks.specs.lemmas.Overflows.{left_above, left_below, sum_beyond}
use Rattle.cpa_trap_checks.specs.lemmas.Overflows.{difference_beyond, quotient_beyond}
use Rattle.cpa_trap_checks.specs.lemmas.Overflows.{product_beyond, shift_beyond}

-- two numbers compare so
abbrev Compares : CmpOp → ℤ → ℤ → Type 0
Compares cmp.Eq a b = a ≡ b
Compares cmp.Ne a b = a ≢ b
Compares cmp.Lt a b = a <ℤ b
Compares cmp.Le a b = a ≤ℤ b
Compares cmp.Gt a b = b <ℤ a
Compares cmp.Ge a b = b ≤ℤ a

less_decides : (a b : ℤ) → Decides (int_lt a b) (a <ℤ b)
less_decides a b = (λ e. grind (arith, ints, e), λ h. grind (arith, ints, h))

most_decides : (a b : ℤ) → Decides (int_le a b) (a ≤ℤ b)
most_decides a b = (λ e. grind (arith, ints, e), λ h. grind (arith, ints, h))

compares_decides : (o : CmpOp) (a b : ℤ) → Decides (compares o a b) (Compares o a b)
compares_decides cmp.Eq a b = Decides-int_eq a b
compares_decides cmp.Ne a b = Decides-not (int_eq a b) (Decides-int_eq a b)
compares_decides cmp.Lt a b = less_decides a b
compares_decides cmp.Le a b = most_decides a b
compares_decides cmp.Gt a b = less_decides b a
compares_decides cmp.Ge a b = most_decides b a

module _ (values : List ℤ) where
  tell_decided : (e : Expr) (b : Bool) (A : Type 0) → value_of e values ≡ Some (truth b)
      → Decides b A → Tells values (Some e) A
  tell_decided e true A is d = tells is (d.0 refl)
  tell_decided e false A is d = tells_not is (λ a. let t = d.1 a in cc)

  tell_comparison : (o : CmpOp) (t : IntType) (l r : Expr) (x y : ℤ) → value_of l values ≡ Some x
      → value_of r values ≡ Some y → Tells values (Some (Cmp o t l r)) (Compares o x y)
  tell_comparison o t l r x y is are =
      tell_decided (Cmp o t l r) (compares o x y) (Compares o x y)
      (value_at_variants.comparison o t l r values
      ∙ both_same (Option ℤ) (comparison o) (value_of l values) (Some x) (value_of r values)
      (Some y) is are)
      (compares_decides o x y)

  tell_compared : (o : CmpOp) (t : IntType) (e : Expr) (x n : ℤ) → value_of e values ≡ Some x
      → Tells values (Some (compared o t e n)) (Compares o x n)
  tell_compared o t e x n is =
      tell_comparison o t e (Const t n) x n is (value_at_variants.constant t n values)

  bin_is : (o : BinOp) (t : IntType) (l r : Expr) (x y : ℤ) → value_of l values ≡ Some x
      → value_of r values ≡ Some y → value_of (Bin o t l r) values ≡ bin_value o t x y
  bin_is o t l r x y is are =
      value_at_variants.binary o t l r values
      ∙ both_same (Option ℤ) (evaluated (bin_value o t)) (value_of l values) (Some x)
      (value_of r values) (Some y) is are

  -- ---- outside 0 to most

  -- a value of a narrow type is one of int
  narrow_fits : (t : IntType) (v : ℤ) → nat_lt (width t) (width ty.I32) ≡ true → IsInRange t v
      → IsInRange ty.I32 v
  narrow_fits ty.Bool v h r = (omega (arith, ints, r.0, r.1), omega (arith, ints, r.0, r.1))
  narrow_fits ty.I8 v h r = (omega (arith, ints, r.0, r.1), omega (arith, ints, r.0, r.1))
  narrow_fits ty.U8 v h r = (omega (arith, ints, r.0, r.1), omega (arith, ints, r.0, r.1))
  narrow_fits ty.I16 v h r = (omega (arith, ints, r.0, r.1), omega (arith, ints, r.0, r.1))
  narrow_fits ty.U16 v h r = (omega (arith, ints, r.0, r.1), omega (arith, ints, r.0, r.1))
  narrow_fits ty.I32 v h r = absurd (cc)
  narrow_fits ty.U32 v h r = absurd (cc)
  narrow_fits ty.I64 v h r = absurd (cc)
  narrow_fits ty.U64 v h r = absurd (cc)

  not_negative : (t : IntType) (v : ℤ) → is_signed t ≡ false → IsInRange t v → pos 0 ≤ℤ v
  not_negative t v h r =
      subst (λ (b : Bool). (if b then neg_ℤ (pos (2 ^ (width t - 1))) else pos 0) ≤ℤ v) h r.0

  outside_at_tells : (t : IntType) (e : Expr) (most : ℕ) (v : ℤ) → value_of e values ≡ Some v
      → IsInRange t v → Tells values (Some (outside_at t e most)) (IsOutside (suc most) v)
  outside_at_tells t e most v is r = by (is_signed t) refl
    where
      high : (Compares cmp.Gt v (pos most)) ↔ (pos (suc most) ≤ℤ v)
      high = (λ h. omega (arith, ints, h), λ h. omega (arith, ints, h))

      above : Tells values (Some (compared cmp.Gt t e (pos most))) (pos (suc most) ≤ℤ v)
      above =
          tell_same values (Some (compared cmp.Gt t e (pos most))) (Compares cmp.Gt v (pos most))
          (pos (suc most) ≤ℤ v) (tell_compared cmp.Gt t e v (pos most) is) high

      by : (b : Bool) → is_signed t ≡ b
          → Tells values (Some (if b
          then Or (compared cmp.Lt t e (pos 0)) (compared cmp.Gt t e (pos most))
          else compared cmp.Gt t e (pos most))) (IsOutside (suc most) v)
      by true h =
          tell_or values (compared cmp.Lt t e (pos 0)) (compared cmp.Gt t e (pos most))
          (v <ℤ pos 0) (pos (suc most) ≤ℤ v) (tell_compared cmp.Lt t e v (pos 0) is) (λ n. above)
      by false h =
          let low = not_negative t v h r in
          tell_same values (Some (compared cmp.Gt t e (pos most))) (pos (suc most) ≤ℤ v)
          (IsOutside (suc most) v) above
          (λ k. inr k, λ s. elim s [ inl k ↦ absurd (omega (arith, ints, low, k)) | inr k ↦ k ])

  pub outside_tells : (e : Expr) (most : ℕ) (v : ℤ) → value_of e values ≡ Some v
      → IsInRange (type_of e) v → Tells values (Some (outside e most)) (IsOutside (suc most) v)
  outside_tells e most v is r = by (nat_lt (width (type_of e)) (width ty.I32)) refl
    where
      by : (b : Bool) → nat_lt (width (type_of e)) (width ty.I32) ≡ b
          → Tells values
          (Some (outside_at (if b then ty.I32 else type_of e) (if b then Cast ty.I32 e else e)
          most))
          (IsOutside (suc most) v)
      by true h =
          let fits = narrow_fits (type_of e) v h r in
          outside_at_tells ty.I32 (Cast ty.I32 e) most v
          (value_at_variants.cast ty.I32 e values ∙ ap (option_map (wrapped ty.I32)) is
          ∙ ap Some (wrapped_of_range ty.I32 v fits))
          fits
      by false h = outside_at_tells (type_of e) e most v is r

  -- ---- traps

  width_is : (t : IntType) → suc (width t - 1) ≡ width t
  width_is ty.Bool = refl
  width_is ty.I8 = refl
  width_is ty.U8 = refl
  width_is ty.I16 = refl
  width_is ty.U16 = refl
  width_is ty.I32 = refl
  width_is ty.U32 = refl
  width_is ty.I64 = refl
  width_is ty.U64 = refl

  amount_tells : (t : IntType) (e : Expr) (v : ℤ) → value_of e values ≡ Some v
      → IsInRange (type_of e) v
      → Tells values (Some (outside e (width t - 1))) (IsOutside (width t) v)
  amount_tells t e v is r =
      subst (λ n. Tells values (Some (outside e (width t - 1))) (IsOutside n v)) (width_is t)
      (outside_tells e (width t - 1) v is r)

  pub own_trap_tells : (o : BinOp) (t : IntType) (e : Expr) (v : ℤ) → value_of e values ≡ Some v
      → IsInRange (type_of e) v → Tells values (own_trap o t e) (HasNoValue o t v)
  own_trap_tells bin.Add t e v is r = tell_none values (HasNoValue bin.Add t v) (λ h. h)
  own_trap_tells bin.Sub t e v is r = tell_none values (HasNoValue bin.Sub t v) (λ h. h)
  own_trap_tells bin.Mul t e v is r = tell_none values (HasNoValue bin.Mul t v) (λ h. h)
  own_trap_tells bin.Div t e v is r = tell_compared cmp.Eq t e v (pos 0) is
  own_trap_tells bin.Rem t e v is r = tell_compared cmp.Eq t e v (pos 0) is
  own_trap_tells bin.BitAnd t e v is r = tell_none values (HasNoValue bin.BitAnd t v) (λ h. h)
  own_trap_tells bin.BitOr t e v is r = tell_none values (HasNoValue bin.BitOr t v) (λ h. h)
  own_trap_tells bin.BitXor t e v is r = tell_none values (HasNoValue bin.BitXor t v) (λ h. h)
  own_trap_tells bin.Shl t e v is r = amount_tells t e v is r
  own_trap_tells bin.Shr t e v is r = amount_tells t e v is r

  -- the number 0 has the value 0
  zero_value : (e : Expr) → is_constant_zero (out-Expr e) ≡ true → value_of e values ≡ Some (pos 0)
  zero_value e h =
      ap (λ d. value_of d values) (sym (roll-out-Expr e)) ∙ value_rolled values (out-Expr e)
      ∙ at (out-Expr e) h
    where
      at : (x : Expr-F Expr) → is_constant_zero x ≡ true
          → value_step values (values_in values x) ≡ Some (pos 0)
      at (Expr-F.Const t n) k = ap Some ((Decides-int_eq n (pos 0)).0 k)
      at (Expr-F.Read t base len index) k = absurd (cc)
      at (Expr-F.Un o t arg) k = absurd (cc)
      at (Expr-F.Bin o t left right) k = absurd (cc)
      at (Expr-F.Cmp o t left right) k = absurd (cc)
      at (Expr-F.Cast t arg) k = absurd (cc)
      at (Expr-F.And left right) k = absurd (cc)
      at (Expr-F.Or left right) k = absurd (cc)
      at (Expr-F.Not arg) k = absurd (cc)
      at (Expr-F.Cond t test first second) k = absurd (cc)

  one_cell : (len : ℕ) (index : Expr) → is_one_cell len index ≡ true
      → (len ≡ 1) × (is_constant_zero (out-Expr index) ≡ true)
  one_cell len index h = by (len == 1) (is_constant_zero (out-Expr index)) refl refl h
    where
      by : (b c : Bool) → (len == 1) ≡ b → is_constant_zero (out-Expr index) ≡ c → (b && c) ≡ true
          → (len ≡ 1) × (is_constant_zero (out-Expr index) ≡ true)
      by true true e f k = (grind (arith, nat_tests, e), f)
      by true false e f k = absurd (cc)
      by false true e f k = absurd (cc)
      by false false e f k = absurd (cc)

  same_number : (v w : ℤ) (o : Option ℤ) → o ≡ Some v → o ≡ Some w → v ≡ w
  same_number v w o h k = let both : Some v ≡ Some w = sym h ∙ k in cc

  pub index_trap_tells : (len : ℕ) (index : Expr) (v : ℤ) → 1 ≤ len → value_of index values ≡ Some v
      → IsInRange (type_of index) v → Tells values (index_trap len index) (IsOutside len v)
  index_trap_tells len index v some is r = by (is_one_cell len index) refl
    where
      by : (b : Bool) → is_one_cell len index ≡ b
          → Tells values (if b then None else Some (outside index (len - 1))) (IsOutside len v)
      by true h =
          let one = one_cell len index h in
          let count = one.0 in
          let none : v ≡ pos 0 = same_number v (pos 0) (value_of index values) is
          (zero_value index one.1) in
          tell_none values (IsOutside len v) (λ s. elim s [
            | inl k ↦ absurd (omega (arith, ints, none, k))
            | inr k ↦ absurd (omega (arith, ints, none, count, k))
          ])
      by false h =
          let whole : suc (len - 1) ≡ len = omega (arith, some) in
          subst (λ n. Tells values (Some (outside index (len - 1))) (IsOutside n v)) whole
          (outside_tells index (len - 1) v is r)

  -- ---- overflows

  tell_past : (past : CmpOp) (o : BinOp) (end : ℤ) (t : IntType) (a b : Expr) (x y z : ℤ)
      → value_of a values ≡ Some x → value_of b values ≡ Some y → bin_value o t end y ≡ Some z
      → Tells values (Some (is_past past o end t a b)) (Compares past x z)
  tell_past past o end t a b x y z is are limit =
      tell_comparison past t a (Bin o t (Const t end) b) x z is
      (bin_is o t (Const t end) b end y (value_at_variants.constant t end values) are ∙ limit)

  module _ (t : IntType) (ends : Ends t) (a b : Expr) (x y : ℤ) (is : value_of a values ≡ Some x)
      (are : value_of b values ≡ Some y) (in_x : IsInRange t x) where
    add_tells : IsInRange t y → Tells values (Some (add_wraps t a b)) (IsBeyond t (x +ℤ y))
    add_tells in_y =
        tell_same values (Some (add_wraps t a b))
        (((pos 0 <ℤ y) × ((greatest t -ℤ y) <ℤ x)) ⊎ ((y <ℤ pos 0) × (x <ℤ (least t -ℤ y))))
        (IsBeyond t (x +ℤ y))
        (tell_or values
        (And (compared cmp.Gt t b (pos 0)) (is_past cmp.Gt bin.Sub (greatest t) t a b))
        (And (compared cmp.Lt t b (pos 0)) (is_past cmp.Lt bin.Sub (least t) t a b))
        ((pos 0 <ℤ y) × ((greatest t -ℤ y) <ℤ x)) ((y <ℤ pos 0) × (x <ℤ (least t -ℤ y)))
        (tell_and values (compared cmp.Gt t b (pos 0))
        (is_past cmp.Gt bin.Sub (greatest t) t a b) (pos 0 <ℤ y) ((greatest t -ℤ y) <ℤ x)
        (tell_compared cmp.Gt t b y (pos 0) are)
        (λ h. tell_past cmp.Gt bin.Sub (greatest t) t a b x y (greatest t -ℤ y) is are
        (ap Some (left_of_greatest t ends y in_y h))))
        (λ n. tell_and values (compared cmp.Lt t b (pos 0))
        (is_past cmp.Lt bin.Sub (least t) t a b) (y <ℤ pos 0) (x <ℤ (least t -ℤ y))
        (tell_compared cmp.Lt t b y (pos 0) are)
        (λ h. tell_past cmp.Lt bin.Sub (least t) t a b x y (least t -ℤ y) is are
        (ap Some (left_of_least t ends y in_y h)))))
        (sum_beyond t ends x y in_x in_y)

    sub_tells : IsInRange t y → Tells values (Some (sub_wraps t a b)) (IsBeyond t (x -ℤ y))
    sub_tells in_y =
        tell_same values (Some (sub_wraps t a b))
        (((y <ℤ pos 0) × ((greatest t +ℤ y) <ℤ x)) ⊎ ((pos 0 <ℤ y) × (x <ℤ (least t +ℤ y))))
        (IsBeyond t (x -ℤ y))
        (tell_or values
        (And (compared cmp.Lt t b (pos 0)) (is_past cmp.Gt bin.Add (greatest t) t a b))
        (And (compared cmp.Gt t b (pos 0)) (is_past cmp.Lt bin.Add (least t) t a b))
        ((y <ℤ pos 0) × ((greatest t +ℤ y) <ℤ x)) ((pos 0 <ℤ y) × (x <ℤ (least t +ℤ y)))
        (tell_and values (compared cmp.Lt t b (pos 0))
        (is_past cmp.Gt bin.Add (greatest t) t a b) (y <ℤ pos 0) ((greatest t +ℤ y) <ℤ x)
        (tell_compared cmp.Lt t b y (pos 0) are)
        (λ h. tell_past cmp.Gt bin.Add (greatest t) t a b x y (greatest t +ℤ y) is are
        (ap Some (left_above t ends y in_y h))))
        (λ n. tell_and values (compared cmp.Gt t b (pos 0))
        (is_past cmp.Lt bin.Add (least t) t a b) (pos 0 <ℤ y) (x <ℤ (least t +ℤ y))
        (tell_compared cmp.Gt t b y (pos 0) are)
        (λ h. tell_past cmp.Lt bin.Add (least t) t a b x y (least t +ℤ y) is are
        (ap Some (left_below t ends y in_y h)))))
        (difference_beyond t ends x y in_x in_y)

    divided : (y r : ℤ) → y ≢ pos 0 → divided_by y r ≡ Some r
    divided y r h = by (int_eq y (pos 0)) refl
      where
        by : (c : Bool) → int_eq y (pos 0) ≡ c → (if c then None else Some r) ≡ Some r
        by true e = absurd (h ((Decides-int_eq y (pos 0)).0 e))
        by false e = refl

    -- the product divided by y
    abbrev back : ℤ
    back = wrapped t (int_div (wrapped t (x *ℤ y)) y)

    abbrev Minus : Type 0
    Minus = (y ≡ negsuc 0) × (x ≡ least t)

    abbrev Other : Type 0
    Other = (y ≢ pos 0) × (y ≢ negsuc 0)

    abbrev Lost : Type 0
    Lost = back ≢ x

    mul_tells : IsInRange t y → Tells values (Some (mul_wraps t a b)) (IsBeyond t (x *ℤ y))
    mul_tells in_y =
        tell_same values (Some (mul_wraps t a b)) (Minus ⊎ (Other × Lost)) (IsBeyond t (x *ℤ y))
        (tell_or values (And (compared cmp.Eq t b (negsuc 0)) (compared cmp.Eq t a (least t)))
        (And (And (compared cmp.Ne t b (pos 0)) (compared cmp.Ne t b (negsuc 0)))
        (is_lost bin.Mul bin.Div t a b)) Minus (Other × Lost)
        (tell_and values (compared cmp.Eq t b (negsuc 0)) (compared cmp.Eq t a (least t))
        (y ≡ negsuc 0) (x ≡ least t) (tell_compared cmp.Eq t b y (negsuc 0) are)
        (λ h. tell_compared cmp.Eq t a x (least t) is))
        (λ n. tell_and values
        (And (compared cmp.Ne t b (pos 0)) (compared cmp.Ne t b (negsuc 0)))
        (is_lost bin.Mul bin.Div t a b) Other Lost
        (tell_and values (compared cmp.Ne t b (pos 0)) (compared cmp.Ne t b (negsuc 0))
        (y ≢ pos 0) (y ≢ negsuc 0) (tell_compared cmp.Ne t b y (pos 0) are)
        (λ h. tell_compared cmp.Ne t b y (negsuc 0) are))
        (λ h. tell_comparison cmp.Ne t (Bin bin.Div t (Bin bin.Mul t a b) b) a back x
        (bin_is bin.Div t (Bin bin.Mul t a b) b (wrapped t (x *ℤ y)) y
        (bin_is bin.Mul t a b x y is are) are
        ∙ divided y back h.0)
        is)))
        (product_beyond t ends x y in_x in_y)

    div_tells : Tells values (Some (div_wraps t a b))
        (IsSomeAnd (divided_by y (int_div x y)) (IsBeyond t))
    div_tells =
        tell_same values (Some (div_wraps t a b)) ((x ≡ least t) × (y ≡ negsuc 0))
        (IsSomeAnd (divided_by y (int_div x y)) (IsBeyond t))
        (tell_and values (compared cmp.Eq t a (least t)) (compared cmp.Eq t b (negsuc 0))
        (x ≡ least t) (y ≡ negsuc 0) (tell_compared cmp.Eq t a x (least t) is)
        (λ h. tell_compared cmp.Eq t b y (negsuc 0) are))
        (by (int_eq y (pos 0)) refl)
      where
        by : (c : Bool) → int_eq y (pos 0) ≡ c
            → ((x ≡ least t) × (y ≡ negsuc 0))
            ↔ IsSomeAnd (if c then None else Some (int_div x y)) (IsBeyond t)
        by true e =
            let none = (Decides-int_eq y (pos 0)).0 e in
            (λ p. let minus = p.1 in absurd (omega (arith, ints, none, minus)), λ h. absurd h)
        by false e =
            quotient_beyond t ends x y in_x
            (λ z. let hit = (Decides-int_eq y (pos 0)).1 z in cc)

    -- x shifted by n, and back
    abbrev returned : ℕ → ℤ
    returned n = int_div_euclid (wrapped t (x *ℤ pos (2 ^ n))) (pos (2 ^ n))

    shl_tells : IsInRange (type_of b) y → Tells values (Some (shl_wraps t a b))
        (IsSomeAnd (option_map (λ n. x *ℤ pos (2 ^ n)) (amount_of t y)) (IsBeyond t))
    shl_tells in_y = by y are in_y
      where
        inside : (n : ℕ) → (IsOutside (width t) (pos n) → ⊥) → n < width t
        inside n h = elim (below_or_not n (width t)) [
          | inl k ↦ k
          | inr k ↦ absurd (h (inr (omega (arith, ints, k))))
        ]
          where
            below_or_not : (n m : ℕ) → (n < m) ⊎ (m ≤ n)
            below_or_not n m = cases (nat_lt n m) refl
              where
                cases : (c : Bool) → nat_lt n m ≡ c → (n < m) ⊎ (m ≤ n)
                cases true e = inl (grind (arith, nat_tests, e))
                cases false e = inr (grind (arith, nat_tests, e))

        amount_is : (n : ℕ) → n < width t → amount_of t (pos n) ≡ Some n
        amount_is n h =
            let below : nat_lt n (width t) ≡ true = grind (arith, nat_tests, h) in
            ap (λ (c : Bool). if c then Some n else None) below

        not_outside : (n : ℕ) → n < width t → IsOutside (width t) (pos n) → ⊥
        not_outside n h s = elim s [
          | inl k ↦ absurd (omega (arith, ints, k))
          | inr k ↦ absurd (omega (arith, ints, h, k))
        ]

        by : (y : ℤ) → value_of b values ≡ Some y → IsInRange (type_of b) y
            → Tells values (Some (shl_wraps t a b))
            (IsSomeAnd (option_map (λ n. x *ℤ pos (2 ^ n)) (amount_of t y)) (IsBeyond t))
        by (negsuc n) is_y in_y =
            tell_same values (Some (shl_wraps t a b))
            ((IsOutside (width t) (negsuc n) → ⊥) × ⊥) ⊥
            (tell_and values (Not (outside b (width t - 1))) (is_lost bin.Shl bin.Shr t a b)
            (IsOutside (width t) (negsuc n) → ⊥) ⊥
            (tell_not values (outside b (width t - 1)) (IsOutside (width t) (negsuc n))
            (amount_tells t b (negsuc n) is_y in_y))
            (λ h. absurd (h (inl (omega (arith, ints))))))
            (λ p. p.1, λ z. absurd z)
        by (pos n) is_y in_y =
            tell_same values (Some (shl_wraps t a b))
            ((IsOutside (width t) (pos n) → ⊥) × (returned n ≢ x))
            (IsSomeAnd (option_map (λ k. x *ℤ pos (2 ^ k)) (amount_of t (pos n))) (IsBeyond t))
            (tell_and values (Not (outside b (width t - 1))) (is_lost bin.Shl bin.Shr t a b)
            (IsOutside (width t) (pos n) → ⊥) (returned n ≢ x)
            (tell_not values (outside b (width t - 1)) (IsOutside (width t) (pos n))
            (amount_tells t b (pos n) is_y in_y))
            (λ h. let amount = amount_is n (inside n h) in
            tell_comparison cmp.Ne t (Bin bin.Shr t (Bin bin.Shl t a b) b) a (returned n) x
            (bin_is bin.Shr t (Bin bin.Shl t a b) b (wrapped t (x *ℤ pos (2 ^ n))) (pos n)
            (bin_is bin.Shl t a b x (pos n) is is_y
            ∙ ap (option_map (λ k. wrapped t (x *ℤ pos (2 ^ k)))) amount) is_y
            ∙ ap (option_map (λ k. int_div_euclid (wrapped t (x *ℤ pos (2 ^ n))) (pos (2 ^ k))))
            amount)
            is))
            (same (nat_lt n (width t)) refl)
          where
            same : (c : Bool) → nat_lt n (width t) ≡ c
                → ((IsOutside (width t) (pos n) → ⊥) × (returned n ≢ x))
                ↔ IsSomeAnd (option_map (λ k. x *ℤ pos (2 ^ k)) (if c then Some n else None))
                (IsBeyond t)
            same true e =
                let small : n < width t = grind (arith, nat_tests, e) in
                let shifted = shift_beyond t ends x n in_x small in
                (λ p. shifted.0 p.1, λ k. (not_outside n small, shifted.1 k))
            same false e =
                let large : width t ≤ n = grind (arith, nat_tests, e) in
                (λ p. p.0 (inr (omega (arith, ints, large))), λ k. absurd k)

  -- of an operator, where the type is signed
  signed_tells : (o : BinOp) (t : IntType) → Ends t → (a b : Expr) (x y : ℤ)
      → value_of a values ≡ Some x → value_of b values ≡ Some y → IsInRange t x
      → IsInRange (type_of b) y → (is_shift o ≡ false → type_of b ≡ t)
      → Tells values (signed_wraps o t a b) (IsSomeAnd (exact_bin o t x y) (IsBeyond t))
  signed_tells bin.Add t ends a b x y is are r s u =
      add_tells t ends a b x y is are r (subst (λ v. IsInRange v y) (u refl) s)
  signed_tells bin.Sub t ends a b x y is are r s u =
      sub_tells t ends a b x y is are r (subst (λ v. IsInRange v y) (u refl) s)
  signed_tells bin.Mul t ends a b x y is are r s u =
      mul_tells t ends a b x y is are r (subst (λ v. IsInRange v y) (u refl) s)
  signed_tells bin.Div t ends a b x y is are r s u = div_tells t ends a b x y is are r
  signed_tells bin.Rem t ends a b x y is are r s u = tell_none values ⊥ (λ h. h)
  signed_tells bin.BitAnd t ends a b x y is are r s u = tell_none values ⊥ (λ h. h)
  signed_tells bin.BitOr t ends a b x y is are r s u = tell_none values ⊥ (λ h. h)
  signed_tells bin.BitXor t ends a b x y is are r s u = tell_none values ⊥ (λ h. h)
  signed_tells bin.Shl t ends a b x y is are r s u = shl_tells t ends a b x y is are r s
  signed_tells bin.Shr t ends a b x y is are r s u = tell_none values ⊥ (λ h. h)

  pub bin_wraps_tells : (o : BinOp) (t : IntType) (a b : Expr) (x y : ℤ)
      → value_of a values ≡ Some x → value_of b values ≡ Some y → IsInRange t x
      → IsInRange (type_of b) y → (is_shift o ≡ false → type_of b ≡ t)
      → Tells values (bin_wraps o t a b)
      (IsTrue (is_signed t) × IsSomeAnd (exact_bin o t x y) (IsBeyond t))
  bin_wraps_tells o t a b x y is are r s u = by (is_signed t) refl
    where
      by : (c : Bool) → is_signed t ≡ c
          → Tells values (if c then signed_wraps o t a b else None)
          (IsTrue c × IsSomeAnd (exact_bin o t x y) (IsBeyond t))
      by true h =
          tell_same values (signed_wraps o t a b) (IsSomeAnd (exact_bin o t x y) (IsBeyond t))
          (IsTrue true × IsSomeAnd (exact_bin o t x y) (IsBeyond t))
          (signed_tells o t (signed_ends t h) a b x y is are r s u)
          (λ k. (refl, k), λ p. p.1)
      by false h =
          tell_none values (IsTrue false × IsSomeAnd (exact_bin o t x y) (IsBeyond t))
          (λ p. let hit = p.0 in cc)

  pub un_wraps_tells : (o : UnOp) (t : IntType) (a : Expr) (x : ℤ) → value_of a values ≡ Some x
      → IsInRange t x
      → Tells values (un_wraps o t a)
      (IsTrue (is_signed t) × IsSomeAnd (exact_un o x) (IsBeyond t))
  un_wraps_tells un.Flip t a x is r =
      tell_none values (IsTrue (is_signed t) × IsSomeAnd (exact_un un.Flip x) (IsBeyond t))
      (λ p. p.1)
  un_wraps_tells un.Neg t a x is r = by (is_signed t) refl
    where
      by : (c : Bool) → is_signed t ≡ c
          → Tells values (if c then Some (compared cmp.Eq t a (least t)) else None)
          (IsTrue c × IsBeyond t (neg_ℤ x))
      by true h =
          tell_same values (Some (compared cmp.Eq t a (least t))) (x ≡ least t)
          (IsTrue true × IsBeyond t (neg_ℤ x)) (tell_compared cmp.Eq t a x (least t) is)
          (let same = negation_beyond t (signed_ends t h) x r in
          (λ k. (refl, same.0 k), λ p. same.1 p.1))
      by false h =
          tell_none values (IsTrue false × IsBeyond t (neg_ℤ x)) (λ p. let hit = p.0 in cc)
