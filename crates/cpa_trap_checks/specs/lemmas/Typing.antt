-- Checks are well typed, and of type int.
use Rattle.std.proofs.Common.{◌≡◌, ℕ, zero, suc, ◌+◌, ◌-◌, ◌^◌, ◌<◌, ◌≤◌, nat_lt, ℤ, pos, negsuc}
use Rattle.std.proofs.Common.{Bool, true, false, IsTrue, List, length, None, Some, refl, sym, subst}
use Rattle.std.proofs.Common.{arith}
use Rattle.std.specs.Prelude.{if◌then◌else◌}
use Rattle.std.proofs.lemmas.Int.{ints}
use Rattle.std.proofs.lemmas.Option.{slice_get_within}
use Rattle.cpa_ints.specs.declared.integers.IntType.{IntType}
use Rattle.cpa_ints.specs.declared.integers.IntType.TheVariants as ty
use Rattle.cpa_ints.specs.Integers.{width, is_signed, least, greatest, IsInRange}
use Rattle.cpa_ints.specs.lemmas.WrapLaws.{zero_within}
use Rattle.cpa_expr.specs.declared.tree.UnOp.{UnOp}
use Rattle.cpa_expr.specs.declared.tree.BinOp.{BinOp}
use Rattle.cpa_expr.specs.declared.tree.CmpOp.{CmpOp}
use Rattle.cpa_expr.specs.declared.tree.UnOp.TheVariants as un
use Rattle.cpa_expr.specs.declared.tree.BinOp.TheVariants as bin
use Rattle.cpa_expr.specs.declared.tree.CmpOp.TheVariants as cmp
use Rattle.cpa_expr.specs.declared.tree.Expr.{Expr}
use Rattle.cpa_expr.specs.declared.tree.Expr.TheVariants.{Const, Read, Un, Bin, Cmp, Cast, And, Or}
use Rattle.cpa_expr.specs.declared.tree.Expr.TheVariants.{Not, Cond}
use Rattle.cpa_expr.specs.Shape.{type_of, is_arithmetic, is_shift, AreCells, IsTyped}
use Rattle.cpa_expr.specs.Laws.{type_at_variants, typed_at_variants}
use Rattle.cpa_expr.specs.Induction.{Cases, by_variants}
use Rattle.cpa_trap_checks.specs.Nodes.{is_one_cell}
use Rattle.cpa_trap_checks.specs.Checks.{Check, either, where_nonzero, unless, as_expr, picked}
use Rattle.cpa_trap_checks.specs.Checks.{compared, outside_at, outside, own_trap, index_trap}
use Rattle.cpa_trap_checks.specs.Checks.{is_past, is_lost, signed_wraps, bin_wraps, un_wraps}
use Rattle.cpa_trap_checks.specs.Checks.{over_then, trap_check, over_check, checked}
use Rattle.cpa_trap_checks.specs.Tells.{IsTest, IsCheck}
use Rattle.cpa_trap_checks.specs.lemmas.Ends.{Ends, signed_ends}
use Rattle.cpa_trap_checks.specs.lemmas.Shapes.{trap_constant, trap_read, trap_unary, trap_binary}
use Rattle.cpa_trap_checks.specs.lemmas.Shapes.{trap_comparison, trap_cast, trap_conjunction}
use Rattle.cpa_trap_checks.specs.lemmas.Shapes.{trap_disjunction, trap_negation, trap_conditional}
use Rattle.cpa_trap_checks.specs.lemmas.Shapes.{over_constant, over_read, over_unary, over_binary}
use Rattle.cpa_trap_checks.specs.lemmas.Shapes.{over_comparison, over_cast, over_conjunction}
use Rattle.cpa_trap_checks.specs.lemmas.Shapes.{over_disjunction, over_negation, over_conditional}

-- a number from 0 to below 2^31 is one of each type that is not narrow
wide_fits : (t : IntType) (n : ℕ) → nat_lt (width t) (width ty.I32) ≡ false → n < 2 ^ 31
    → IsInRange t (pos n)
wide_fits ty.Bool n h k = absurd (cc)
wide_fits ty.I8 n h k = absurd (cc)
wide_fits ty.U8 n h k = absurd (cc)
wide_fits ty.I16 n h k = absurd (cc)
wide_fits ty.U16 n h k = absurd (cc)
wide_fits ty.I32 n h k = (omega (arith, ints), omega (arith, ints, k))
wide_fits ty.U32 n h k = (omega (arith, ints), omega (arith, ints, k))
wide_fits ty.I64 n h k = (omega (arith, ints), omega (arith, ints, k))
wide_fits ty.U64 n h k = (omega (arith, ints), omega (arith, ints, k))

-- a width less 1
narrow : (t : IntType) → width t - 1 < 2 ^ 31
narrow ty.Bool = omega arith
narrow ty.I8 = omega arith
narrow ty.U8 = omega arith
narrow ty.I16 = omega arith
narrow ty.U16 = omega arith
narrow ty.I32 = omega arith
narrow ty.U32 = omega arith
narrow ty.I64 = omega arith
narrow ty.U64 = omega arith

least_fits : (t : IntType) → IsInRange t (least t)
least_fits t =
    let z = zero_within t in
    let low = z.0 in
    let high = z.1 in
    (omega (arith, ints), omega (arith, ints, low, high))

greatest_fits : (t : IntType) → IsInRange t (greatest t)
greatest_fits t =
    let z = zero_within t in
    let low = z.0 in
    let high = z.1 in
    (omega (arith, ints, low, high), omega (arith, ints))

minus_fits : (t : IntType) → Ends t → IsInRange t (negsuc 0)
minus_fits t ends =
    let top = ends.greatest_is in
    let bottom = ends.least_is in
    (omega (arith, ints, bottom), omega (arith, ints, top))

module _ (cells : List IntType) where
  -- an array has no more cells than there are
  within : (base len : ℕ) (t : IntType) → 1 ≤ len → AreCells cells base len t → len ≤ length cells
  within base zero t some are = absurd (omega (arith, some))
  within base (suc n) t some are =
      let inside = slice_get_within cells (base + n) t (are n (omega arith)) in
      omega (arith, inside)

  number_typed : (t : IntType) (n : ℤ) → IsInRange t n → IsTyped cells (Const t n)
  number_typed t n r = (typed_at_variants.constant cells t n).1 r

  or_test : (a b : Expr) → IsTest cells a → IsTest cells b → IsTest cells (Or a b)
  or_test a b h k =
      ((typed_at_variants.disjunction cells a b).1 (h.0, k.0), type_at_variants.disjunction a b)

  and_test : (a b : Expr) → IsTyped cells a → IsTest cells b → IsTest cells (And a b)
  and_test a b h k =
      ((typed_at_variants.conjunction cells a b).1 (h, k.0), type_at_variants.conjunction a b)

  not_test : (a : Expr) → IsTyped cells a → IsTest cells (Not a)
  not_test a h = ((typed_at_variants.negation cells a).1 h, type_at_variants.negation a)

  comparison_test : (o : CmpOp) (t : IntType) (a b : Expr) → type_of a ≡ t → type_of b ≡ t
      → IsTyped cells a → IsTyped cells b → IsTest cells (Cmp o t a b)
  comparison_test o t a b h k l m = (
    (typed_at_variants.comparison cells o t a b).1 (h, k, l, m),
    type_at_variants.comparison o t a b,
  )

  compared_test : (o : CmpOp) (t : IntType) (e : Expr) (n : ℤ) → type_of e ≡ t → IsTyped cells e
      → IsInRange t n → IsTest cells (compared o t e n)
  compared_test o t e n is typed r =
      comparison_test o t e (Const t n) is (type_at_variants.constant t n) typed
      (number_typed t n r)

  -- ---- checks of checks

  pub either_check : (a b : Check) → IsCheck cells a → IsCheck cells b → IsCheck cells (either a b)
  either_check None b h k = k
  either_check (Some a) None h k = h
  either_check (Some a) (Some b) h k = or_test a b h k

  where_check : (e : Expr) (c : Check) → IsTyped cells e → IsCheck cells c
      → IsCheck cells (where_nonzero e c)
  where_check e None h k = tt
  where_check e (Some c) h k = and_test e c h k

  unless_check : (d c : Check) → IsCheck cells d → IsCheck cells c → IsCheck cells (unless d c)
  unless_check None c h k = k
  unless_check (Some d) c h k = where_check (Not d) c (not_test d h.0).0 k

  zero_test : IsTest cells (Const ty.I32 (pos 0))
  zero_test = (
    number_typed ty.I32 (pos 0) (omega (arith, ints), omega (arith, ints)),
    type_at_variants.constant ty.I32 (pos 0),
  )

  as_expr_test : (c : Check) → IsCheck cells c → IsTest cells (as_expr c)
  as_expr_test None h = zero_test
  as_expr_test (Some c) h = h

  chosen_test : (e a b : Expr) → IsTyped cells e → IsTest cells a → IsTest cells b
      → IsTest cells (Cond ty.I32 e a b)
  chosen_test e a b h k l = (
    (typed_at_variants.conditional cells ty.I32 e a b).1 (k.1, l.1, h, k.0, l.0),
    type_at_variants.conditional ty.I32 e a b,
  )

  picked_check : (e : Expr) (a b : Check) → IsTyped cells e → IsCheck cells a → IsCheck cells b
      → IsCheck cells (picked e a b)
  picked_check e None None h k l = tt
  picked_check e None (Some b) h k l = chosen_test e (as_expr None) b h (as_expr_test None tt) l
  picked_check e (Some a) None h k l = chosen_test e a (as_expr None) h k (as_expr_test None tt)
  picked_check e (Some a) (Some b) h k l = chosen_test e a b h k l

  -- ---- a node's own tests

  outside_at_test : (t : IntType) (e : Expr) (most : ℕ) → type_of e ≡ t → IsTyped cells e
      → IsInRange t (pos most) → IsTest cells (outside_at t e most)
  outside_at_test t e most is typed r = by (is_signed t)
    where
      by : (b : Bool) → IsTest cells (if b
          then Or (compared cmp.Lt t e (pos 0)) (compared cmp.Gt t e (pos most))
          else compared cmp.Gt t e (pos most))
      by true =
          or_test (compared cmp.Lt t e (pos 0)) (compared cmp.Gt t e (pos most))
          (compared_test cmp.Lt t e (pos 0) is typed (zero_within t))
          (compared_test cmp.Gt t e (pos most) is typed r)
      by false = compared_test cmp.Gt t e (pos most) is typed r

  outside_test : (e : Expr) (most : ℕ) → IsTyped cells e → most < 2 ^ 31
      → IsTest cells (outside e most)
  outside_test e most typed small = by (nat_lt (width (type_of e)) (width ty.I32)) refl
    where
      by : (b : Bool) → nat_lt (width (type_of e)) (width ty.I32) ≡ b
          → IsTest cells (outside_at (if b then ty.I32 else type_of e)
          (if b then Cast ty.I32 e else e) most)
      by true h =
          outside_at_test ty.I32 (Cast ty.I32 e) most (type_at_variants.cast ty.I32 e)
          ((typed_at_variants.cast cells ty.I32 e).1 typed)
          (omega (arith, ints), omega (arith, ints, small))
      by false h =
          outside_at_test (type_of e) e most refl typed (wide_fits (type_of e) most h small)

  own_trap_check : (o : BinOp) (t : IntType) (e : Expr) → IsTyped cells e
      → (is_shift o ≡ false → type_of e ≡ t) → IsCheck cells (own_trap o t e)
  own_trap_check bin.Add t e h k = tt
  own_trap_check bin.Sub t e h k = tt
  own_trap_check bin.Mul t e h k = tt
  own_trap_check bin.Div t e h k = compared_test cmp.Eq t e (pos 0) (k refl) h (zero_within t)
  own_trap_check bin.Rem t e h k = compared_test cmp.Eq t e (pos 0) (k refl) h (zero_within t)
  own_trap_check bin.BitAnd t e h k = tt
  own_trap_check bin.BitOr t e h k = tt
  own_trap_check bin.BitXor t e h k = tt
  own_trap_check bin.Shl t e h k = outside_test e (width t - 1) h (narrow t)
  own_trap_check bin.Shr t e h k = outside_test e (width t - 1) h (narrow t)

  pub index_check : (len : ℕ) (index : Expr) → IsTyped cells index → 1 ≤ len → len ≤ length cells
      → length cells < 2 ^ 31 → IsCheck cells (index_trap len index)
  index_check len index typed some within few = by (is_one_cell len index)
    where
      by : (b : Bool) → IsCheck cells (if b then None else Some (outside index (len - 1)))
      by true = tt
      by false = outside_test index (len - 1) typed (omega (arith, some, within, few))

  module _ (t : IntType) (ends : Ends t) (arithmetic : IsTrue (is_arithmetic t)) (a b : Expr)
      (typed_a : IsTyped cells a) (typed_b : IsTyped cells b) (same_a : type_of a ≡ t) where
    binary_typed : (o : BinOp) (l r : Expr) → type_of l ≡ t → IsTyped cells l → IsTyped cells r
        → (is_shift o ≡ false → type_of r ≡ t) → IsTyped cells (Bin o t l r)
    binary_typed o l r same h k same_r =
        (typed_at_variants.binary cells o t l r).1 (arithmetic, same, same_r, h, k)

    past_test : (past : CmpOp) (o : BinOp) (end : ℤ) → IsInRange t end → type_of b ≡ t
        → IsTest cells (is_past past o end t a b)
    past_test past o end r same_b =
        comparison_test past t a (Bin o t (Const t end) b) same_a
        (type_at_variants.binary o t (Const t end) b) typed_a
        (binary_typed o (Const t end) b (type_at_variants.constant t end) (number_typed t end r)
        typed_b (λ h. same_b))

    lost_test : (o back : BinOp) → (is_shift o ≡ false → type_of b ≡ t)
        → (is_shift back ≡ false → type_of b ≡ t) → IsTest cells (is_lost o back t a b)
    lost_test o back h k =
        comparison_test cmp.Ne t (Bin back t (Bin o t a b) b) a
        (type_at_variants.binary back t (Bin o t a b) b) same_a
        (binary_typed back (Bin o t a b) b (type_at_variants.binary o t a b)
        (binary_typed o a b same_a typed_a typed_b h) typed_b k) typed_a

    number_test : (o : CmpOp) (n : ℤ) → IsInRange t n → type_of b ≡ t
        → IsTest cells (compared o t b n)
    number_test o n r same_b = compared_test o t b n same_b typed_b r

    end_test : (o : CmpOp) → IsTest cells (compared o t a (least t))
    end_test o = compared_test o t a (least t) same_a typed_a (least_fits t)

    signed_check : (o : BinOp) → (is_shift o ≡ false → type_of b ≡ t)
        → IsCheck cells (signed_wraps o t a b)
    signed_check bin.Add h =
        let same = h refl in
        or_test (And (compared cmp.Gt t b (pos 0)) (is_past cmp.Gt bin.Sub (greatest t) t a b))
        (And (compared cmp.Lt t b (pos 0)) (is_past cmp.Lt bin.Sub (least t) t a b))
        (and_test (compared cmp.Gt t b (pos 0)) (is_past cmp.Gt bin.Sub (greatest t) t a b)
        (number_test cmp.Gt (pos 0) (zero_within t) same).0
        (past_test cmp.Gt bin.Sub (greatest t) (greatest_fits t) same))
        (and_test (compared cmp.Lt t b (pos 0)) (is_past cmp.Lt bin.Sub (least t) t a b)
        (number_test cmp.Lt (pos 0) (zero_within t) same).0
        (past_test cmp.Lt bin.Sub (least t) (least_fits t) same))
    signed_check bin.Sub h =
        let same = h refl in
        or_test (And (compared cmp.Lt t b (pos 0)) (is_past cmp.Gt bin.Add (greatest t) t a b))
        (And (compared cmp.Gt t b (pos 0)) (is_past cmp.Lt bin.Add (least t) t a b))
        (and_test (compared cmp.Lt t b (pos 0)) (is_past cmp.Gt bin.Add (greatest t) t a b)
        (number_test cmp.Lt (pos 0) (zero_within t) same).0
        (past_test cmp.Gt bin.Add (greatest t) (greatest_fits t) same))
        (and_test (compared cmp.Gt t b (pos 0)) (is_past cmp.Lt bin.Add (least t) t a b)
        (number_test cmp.Gt (pos 0) (zero_within t) same).0
        (past_test cmp.Lt bin.Add (least t) (least_fits t) same))
    signed_check bin.Mul h =
        let same = h refl in
        let minus = minus_fits t ends in
        or_test (And (compared cmp.Eq t b (negsuc 0)) (compared cmp.Eq t a (least t)))
        (And (And (compared cmp.Ne t b (pos 0)) (compared cmp.Ne t b (negsuc 0)))
        (is_lost bin.Mul bin.Div t a b))
        (and_test (compared cmp.Eq t b (negsuc 0)) (compared cmp.Eq t a (least t))
        (number_test cmp.Eq (negsuc 0) minus same).0 (end_test cmp.Eq))
        (and_test (And (compared cmp.Ne t b (pos 0)) (compared cmp.Ne t b (negsuc 0)))
        (is_lost bin.Mul bin.Div t a b)
        (and_test (compared cmp.Ne t b (pos 0)) (compared cmp.Ne t b (negsuc 0))
        (number_test cmp.Ne (pos 0) (zero_within t) same).0
        (number_test cmp.Ne (negsuc 0) minus same)).0
        (lost_test bin.Mul bin.Div (λ k. same) (λ k. same)))
    signed_check bin.Div h =
        and_test (compared cmp.Eq t a (least t)) (compared cmp.Eq t b (negsuc 0))
        (end_test cmp.Eq).0 (number_test cmp.Eq (negsuc 0) (minus_fits t ends) (h refl))
    signed_check bin.Rem h = tt
    signed_check bin.BitAnd h = tt
    signed_check bin.BitOr h = tt
    signed_check bin.BitXor h = tt
    signed_check bin.Shl h =
        and_test (Not (outside b (width t - 1))) (is_lost bin.Shl bin.Shr t a b)
        (not_test (outside b (width t - 1)) (outside_test b (width t - 1) typed_b (narrow t)).0).0
        (lost_test bin.Shl bin.Shr (λ k. absurd (cc)) (λ k. absurd (cc)))
    signed_check bin.Shr h = tt

  bin_check : (o : BinOp) (t : IntType) (a b : Expr) → IsTyped cells (Bin o t a b)
      → IsCheck cells (bin_wraps o t a b)
  bin_check o t a b typed = by (is_signed t) refl
    where
      by : (c : Bool) → is_signed t ≡ c → IsCheck cells (if c then signed_wraps o t a b else None)
      by true h =
          let parts = (typed_at_variants.binary cells o t a b).0 typed in
          signed_check t (signed_ends t h) parts.0 a b parts.3 parts.4 parts.1 o parts.2
      by false h = tt

  un_check : (o : UnOp) (t : IntType) (a : Expr) → IsTyped cells (Un o t a)
      → IsCheck cells (un_wraps o t a)
  un_check un.Flip t a typed = tt
  un_check un.Neg t a typed = by (is_signed t)
    where
      by : (c : Bool) → IsCheck cells (if c then Some (compared cmp.Eq t a (least t)) else None)
      by true =
          let parts = (typed_at_variants.unary cells un.Neg t a).0 typed in
          compared_test cmp.Eq t a (least t) parts.1 parts.2 (least_fits t)
      by false = tt

  -- ---- expressions

  pub record AreChecks (e : Expr) : Type 0 where
    pub trap : IsCheck cells (trap_check e)
    pub over : IsCheck cells (over_check e)

  pub then_check : (e : Expr) (later : Check) → AreChecks e → IsCheck cells later
      → IsCheck cells (over_then (checked e) later)
  then_check e later h k =
      either_check (over_check e) (unless (trap_check e) later) h.over
      (unless_check (trap_check e) later h.trap k)

  as_checks : (e : Expr) (c d : Check) → trap_check e ≡ c → over_check e ≡ d → IsCheck cells c
      → IsCheck cells d → AreChecks e
  as_checks e c d is are h k =
      record { trap = subst (IsCheck cells) (sym is) h; over = subst (IsCheck cells) (sym are) k }

  module _ (few : length cells < 2 ^ 31) where
    abbrev Fits : Expr → Type 0
    Fits e = IsTyped cells e → AreChecks e

    fits_variants : Cases Fits
    fits_variants = record {
      constant = λ t n typed.
          as_checks (Const t n) None None (trap_constant t n) (over_constant t n) tt tt;
      read = λ t base len index h typed.
          let parts = (typed_at_variants.read cells t base len index).0 typed in
          let checks = h parts.2 in
          as_checks (Read t base len index) (either (trap_check index) (index_trap len index))
          (over_check index) (trap_read t base len index) (over_read t base len index)
          (either_check (trap_check index) (index_trap len index) checks.trap
          (index_check len index parts.2 parts.0 (within base len t parts.0 parts.1) few))
          checks.over;
      unary = λ o t arg h typed.
          let checks = h ((typed_at_variants.unary cells o t arg).0 typed).2 in
          as_checks (Un o t arg) (trap_check arg) (over_then (checked arg) (un_wraps o t arg))
          (trap_unary o t arg) (over_unary o t arg) checks.trap
          (then_check arg (un_wraps o t arg) checks (un_check o t arg typed));
      binary = λ o t left right h k typed.
          let parts = (typed_at_variants.binary cells o t left right).0 typed in
          let of_left = h parts.3 in
          let of_right = k parts.4 in
          as_checks (Bin o t left right)
          (either (trap_check left) (either (trap_check right) (own_trap o t right)))
          (over_then (checked left) (over_then (checked right) (bin_wraps o t left right)))
          (trap_binary o t left right) (over_binary o t left right)
          (either_check (trap_check left) (either (trap_check right) (own_trap o t right))
          of_left.trap
          (either_check (trap_check right) (own_trap o t right) of_right.trap
          (own_trap_check o t right parts.4 parts.2)))
          (then_check left (over_then (checked right) (bin_wraps o t left right)) of_left
          (then_check right (bin_wraps o t left right) of_right
          (bin_check o t left right typed)));
      comparison = λ o t left right h k typed.
          let parts = (typed_at_variants.comparison cells o t left right).0 typed in
          let of_left = h parts.2 in
          let of_right = k parts.3 in
          as_checks (Cmp o t left right) (either (trap_check left) (trap_check right))
          (over_then (checked left) (over_check right)) (trap_comparison o t left right)
          (over_comparison o t left right)
          (either_check (trap_check left) (trap_check right) of_left.trap of_right.trap)
          (then_check left (over_check right) of_left of_right.over);
      cast = λ t arg h typed.
          let checks = h ((typed_at_variants.cast cells t arg).0 typed) in
          as_checks (Cast t arg) (trap_check arg) (over_check arg) (trap_cast t arg)
          (over_cast t arg) checks.trap checks.over;
      conjunction = λ left right h k typed.
          let parts = (typed_at_variants.conjunction cells left right).0 typed in
          let of_left = h parts.0 in
          let of_right = k parts.1 in
          as_checks (And left right)
          (either (trap_check left) (where_nonzero left (trap_check right)))
          (over_then (checked left) (where_nonzero left (over_check right)))
          (trap_conjunction left right) (over_conjunction left right)
          (either_check (trap_check left) (where_nonzero left (trap_check right)) of_left.trap
          (where_check left (trap_check right) parts.0 of_right.trap))
          (then_check left (where_nonzero left (over_check right)) of_left
          (where_check left (over_check right) parts.0 of_right.over));
      disjunction = λ left right h k typed.
          let parts = (typed_at_variants.disjunction cells left right).0 typed in
          let of_left = h parts.0 in
          let of_right = k parts.1 in
          let zero = (not_test left parts.0).0 in
          as_checks (Or left right)
          (either (trap_check left) (where_nonzero (Not left) (trap_check right)))
          (over_then (checked left) (where_nonzero (Not left) (over_check right)))
          (trap_disjunction left right) (over_disjunction left right)
          (either_check (trap_check left) (where_nonzero (Not left) (trap_check right)) of_left.trap
          (where_check (Not left) (trap_check right) zero of_right.trap))
          (then_check left (where_nonzero (Not left) (over_check right)) of_left
          (where_check (Not left) (over_check right) zero of_right.over));
      negation = λ arg h typed.
          let checks = h ((typed_at_variants.negation cells arg).0 typed) in
          as_checks (Not arg) (trap_check arg) (over_check arg) (trap_negation arg)
          (over_negation arg) checks.trap checks.over;
      conditional = λ t test first second h k l typed.
          let parts = (typed_at_variants.conditional cells t test first second).0 typed in
          let of_test = h parts.2 in
          let of_first = k parts.3 in
          let of_second = l parts.4 in
          as_checks (Cond t test first second)
          (either (trap_check test) (picked test (trap_check first) (trap_check second)))
          (over_then (checked test) (picked test (over_check first) (over_check second)))
          (trap_conditional t test first second) (over_conditional t test first second)
          (either_check (trap_check test) (picked test (trap_check first) (trap_check second))
          of_test.trap
          (picked_check test (trap_check first) (trap_check second) parts.2 of_first.trap
          of_second.trap))
          (then_check test (picked test (over_check first) (over_check second)) of_test
          (picked_check test (over_check first) (over_check second) parts.2 of_first.over
          of_second.over));
    }

-- the checks of a well-typed expression are well typed, and of type int
pub checks_typed : (cells : List IntType) (e : Expr) → length cells < 2 ^ 31 → IsTyped cells e
    → AreChecks cells e
checks_typed cells e few = by_variants (Fits cells few) (fits_variants cells few) e

pub trap_typed : (cells : List IntType) (e : Expr) → length cells < 2 ^ 31 → IsTyped cells e
    → IsCheck cells (trap_check e)
trap_typed cells e few typed = (checks_typed cells e few typed).trap

pub over_typed : (cells : List IntType) (e : Expr) → length cells < 2 ^ 31 → IsTyped cells e
    → IsCheck cells (over_check e)
over_typed cells e few typed = (checks_typed cells e few typed).over
