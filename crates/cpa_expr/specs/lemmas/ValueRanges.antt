-- A value lies in the range of its expression's type.
use Rattle.std.proofs.Common.{◌≡◌, ℕ, zero, suc, ◌+◌, ◌/◌, ◌%◌, ◌^◌, ◌≤◌, ◌<◌, nat_lt, ℤ, pos}
use Rattle.std.proofs.Common.{negsuc, ◌+ℤ◌, ◌-ℤ◌, ◌*ℤ◌, neg_ℤ, ◌≤ℤ◌, int_div, int_rem, unsigned_abs}
use Rattle.std.proofs.Common.{Bool, true, false, not, List, [], ◌∷◌, Option, None, Some, slice_get}
use Rattle.std.proofs.Common.{option_map, option_and_then, IfSome, bit_and, bit_or, bit_xor, refl}
use Rattle.std.proofs.Common.{sym, subst, arith}
use Rattle.std.specs.Prelude.{if◌then◌else◌}
use Rattle.std.specs.Int.{int_div_euclid}
use Rattle.std.specs.Ordering.{int_eq}
use Rattle.std.proofs.lemmas.Int.{ints, quot-rem}
use Rattle.std.proofs.Math.Nat.{div-le_self, mod-le}
use Rattle.std.proofs.lemmas.Bool.Decides.{nat_tests}
use Rattle.cpa_ints.specs.declared.integers.IntType.{IntType}
use Rattle.cpa_ints.specs.declared.integers.IntType.TheVariants as ty
use Rattle.cpa_ints.specs.Integers.{IsInRange}
use Rattle.cpa_ints.specs.Bits.{bits_of}
use Rattle.cpa_ints.specs.Wrapping.{wrapped}
use Rattle.cpa_ints.specs.lemmas.WrapLaws.{zero_within}
use Rattle.cpa_ints.specs.lemmas.Arithmetic.{wrapped_in_range}
use Rattle.cpa_expr.specs.declared.tree.UnOp.{UnOp}
use Rattle.cpa_expr.specs.declared.tree.UnOp.TheVariants as un
use Rattle.cpa_expr.specs.declared.tree.BinOp.{BinOp}
use Rattle.cpa_expr.specs.declared.tree.BinOp.TheVariants as bin
use Rattle.cpa_expr.specs.declared.tree.Expr.{Expr, roll-Expr}
use Rattle.cpa_expr.specs.declared.tree.Expr.TheOpen.{Expr-F}
use Rattle.cpa_expr.specs.declared.tree.Expr.TheFolds.{map-Expr}
use Rattle.cpa_expr.specs.Shape.{OfParts, AreCells, node_type, type_of, IsTypedHere, IsTyped}
use Rattle.cpa_expr.specs.Values.{un_value, amount_of, divided_by, bin_value, compares, truth}
use Rattle.cpa_expr.specs.Values.{is_nonzero, truth_of, cell_at, evaluated, value_step, value_of}
use Rattle.cpa_expr.specs.Cells.{AreValues}
use Rattle.cpa_expr.specs.lemmas.Parts.{by_parts, every_rolled}
use Rattle.cpa_expr.specs.lemmas.Layers.{values_in, value_rolled, type_rolled}

-- a value, if there is one, lies in the range
abbrev InRange : IntType → Option ℤ → Type 0
InRange t o = IfSome o (IsInRange t)

-- ---- the operators

truth_in_range : (b : Bool) → IsInRange ty.I32 (truth b)
truth_in_range true = (omega (arith, ints), omega (arith, ints))
truth_in_range false = (omega (arith, ints), omega (arith, ints))

-- between 0 and a number of the range
toward_zero : (t : IntType) (a r : ℤ) → IsInRange t a → (pos 0 ≤ℤ r) × (r ≤ℤ a) → IsInRange t r
toward_zero t a r h b =
    let z = zero_within t in let l = h.0 in let g = h.1 in let low = b.0 in let high = b.1 in
    let x = z.0 in let y = z.1 in (omega (arith, ints), omega (arith, ints))

above_least : (t : IntType) (a r : ℤ) → IsInRange t a → (a ≤ℤ r) × (r ≤ℤ pos 0) → IsInRange t r
above_least t a r h b =
    let z = zero_within t in let l = h.0 in let g = h.1 in let low = b.0 in let high = b.1 in
    let x = z.0 in let y = z.1 in (omega (arith, ints), omega (arith, ints))

lowered : (k n : ℕ) → k ≤ suc n → (negsuc n ≤ℤ neg_ℤ (pos k)) × (neg_ℤ (pos k) ≤ℤ pos 0)
lowered zero n h = (omega (arith, ints), omega (arith, ints))
lowered (suc k) n h = (omega (arith, ints), omega (arith, ints))

rem_in_range : (t : IntType) (a b : ℤ) → IsInRange t a → IsInRange t (int_rem a b)
rem_in_range t (pos n) b h =
    toward_zero t (pos n) (int_rem (pos n) b) h (
      omega (arith, ints),
      omega (arith, ints, mod-le n (unsigned_abs b)),
    )
rem_in_range t (negsuc n) b h =
    above_least t (negsuc n) (int_rem (negsuc n) b) h
    (lowered (suc n % unsigned_abs b) n (mod-le (suc n) (unsigned_abs b)))

rest_in_range : (t : IntType) (a b : ℤ) → IsInRange t a → IsInRange t (a -ℤ int_div a b *ℤ b)
rest_in_range t a b h =
    let whole = quot-rem a b in
    let rest : int_rem a b ≡ a -ℤ int_div a b *ℤ b = omega (arith, ints, whole) in
    subst (IsInRange t) rest (rem_in_range t a b h)

floor_in_range : (t : IntType) (a : ℤ) (m : ℕ) → IsInRange t a →
    IsInRange t (int_div_euclid a (pos m))
floor_in_range t (pos n) m h =
    toward_zero t (pos n) (pos (n / m)) h (
      omega (arith, ints),
      omega (arith, ints, div-le_self n m),
    )
floor_in_range t (negsuc n) m h =
    above_least t (negsuc n) (negsuc (n / m)) h (
      omega (arith, ints, div-le_self n m),
      omega (arith, ints),
    )

un_in_range : (o : UnOp) (t : IntType) (a : ℤ) → IsInRange t (un_value o t a)
un_in_range un.Neg t a = wrapped_in_range t (neg_ℤ a)
un_in_range un.Flip t a = wrapped_in_range t (neg_ℤ a -ℤ pos 1)

divided_in_range : (t : IntType) (b r : ℤ) → IsInRange t r → InRange t (divided_by b r)
divided_in_range t b r h = by (int_eq b (pos 0))
  where
    by : (c : Bool) → InRange t (if c then None else Some r)
    by true = tt
    by false = h

mapped_in_range : (T : Type 0) (t : IntType) (f : T → ℤ) (o : Option T) →
    ((n : T) → IsInRange t (f n)) → InRange t (option_map f o)
mapped_in_range T t f None h = tt
mapped_in_range T t f (Some n) h = h n

bin_in_range : (o : BinOp) (t : IntType) (a b : ℤ) → IsInRange t a → InRange t (bin_value o t a b)
bin_in_range bin.Add t a b h = wrapped_in_range t (a +ℤ b)
bin_in_range bin.Sub t a b h = wrapped_in_range t (a -ℤ b)
bin_in_range bin.Mul t a b h = wrapped_in_range t (a *ℤ b)
bin_in_range bin.Div t a b h =
    divided_in_range t b (wrapped t (int_div a b)) (wrapped_in_range t (int_div a b))
bin_in_range bin.Rem t a b h = divided_in_range t b (a -ℤ int_div a b *ℤ b) (rest_in_range t a b h)
bin_in_range bin.BitAnd t a b h = wrapped_in_range t (pos (bit_and (bits_of t a) (bits_of t b)))
bin_in_range bin.BitOr t a b h = wrapped_in_range t (pos (bit_or (bits_of t a) (bits_of t b)))
bin_in_range bin.BitXor t a b h = wrapped_in_range t (pos (bit_xor (bits_of t a) (bits_of t b)))
bin_in_range bin.Shl t a b h =
    mapped_in_range ℕ t (λ n. wrapped t (a *ℤ pos (2 ^ n))) (amount_of t b) (λ n.
    wrapped_in_range t (a *ℤ pos (2 ^ n)))
bin_in_range bin.Shr t a b h =
    mapped_in_range ℕ t (λ n. int_div_euclid a (pos (2 ^ n))) (amount_of t b) (λ n.
    floor_in_range t a (2 ^ n) h)

both_in_range : (s t : IntType) (f : ℤ → ℤ → Option ℤ) (o p : Option ℤ) → InRange s o →
    ((a b : ℤ) → IsInRange s a → InRange t (f a b)) → InRange t (evaluated f o p)
both_in_range s t f None p h k = tt
both_in_range s t f (Some a) None h k = tt
both_in_range s t f (Some a) (Some b) h k = k a b h

truth_of_in_range : (o : Option ℤ) → InRange ty.I32 (truth_of o)
truth_of_in_range o =
    mapped_in_range ℤ ty.I32 (λ a. truth (is_nonzero a)) o (λ a. truth_in_range (is_nonzero a))

picked_in_range : (t : IntType) (c : Bool) (o p : Option ℤ) → InRange t o → InRange t p →
    InRange t (if c then o else p)
picked_in_range t true o p h k = h
picked_in_range t false o p h k = k

tested_in_range : (t : IntType) (o p q : Option ℤ) → InRange t p → InRange t q →
    InRange t (option_and_then (λ a. if is_nonzero a then p else q) o)
tested_in_range t None p q h k = tt
tested_in_range t (Some a) p q h k = picked_in_range t (is_nonzero a) p q h k

-- ---- a read

value_at : (ts : List IntType) (vs : List ℤ) → AreValues ts vs → (k : ℕ) (t : IntType) →
    slice_get ts k ≡ Some t → InRange t (slice_get vs k)
value_at [] [] h k t e = tt
value_at [] (v ∷ vs) h k t e = absurd h
value_at (s ∷ ts) [] h k t e = absurd h
value_at (s ∷ ts) (v ∷ vs) h zero t e = let same : s ≡ t = cc in subst (λ u. IsInRange u v) same h.0
value_at (s ∷ ts) (v ∷ vs) h (suc k) t e = value_at ts vs h.1 k t e

read_in_range : (cells : List IntType) (values : List ℤ) (base len : ℕ) (t : IntType) →
    AreValues cells values → AreCells cells base len t
    → (o : Option ℤ) → InRange t (option_and_then (cell_at values base len) o)
read_in_range cells values base len t h c None = tt
read_in_range cells values base len t h c (Some (negsuc i)) = tt
read_in_range cells values base len t h c (Some (pos i)) = by (nat_lt i len) refl
  where
    by : (b : Bool) → nat_lt i len ≡ b → InRange t (if b then slice_get values (base + i) else None)
    by false e = tt
    by true e =
        let below : i < len = grind (arith, nat_tests) in
        value_at cells values h (base + i) t (c i below)

-- ---- the nodes

module _ (cells : List IntType) (values : List ℤ) (fit : AreValues cells values) where
  abbrev Ranged : Expr → Type 0
  Ranged e = IsTyped cells e → InRange (type_of e) (value_of e values)

  at_type : (e : Expr) (t : IntType) → type_of e ≡ t → InRange (type_of e) (value_of e values) →
      InRange t (value_of e values)
  at_type e t is h = subst (λ u. InRange u (value_of e values)) is h

  layer_in_range : (x : Expr-F Expr) → OfParts Ranged x → IsTypedHere cells x →
      OfParts (IsTyped cells) x →
      InRange (node_type (map-Expr Expr IntType type_of x)) (value_step values (values_in values x))
  layer_in_range (Expr-F.Const t n) h here q = here
  layer_in_range (Expr-F.Read t base len index) h here q =
      read_in_range cells values base len t fit here.1 (value_of index values)
  layer_in_range (Expr-F.Un o t arg) h here q =
      mapped_in_range ℤ t (un_value o t) (value_of arg values) (un_in_range o t)
  layer_in_range (Expr-F.Bin o t left right) h here q =
      both_in_range t t (bin_value o t) (value_of left values) (value_of right values)
      (at_type left t here.1 (h.0 q.0)) (bin_in_range o t)
  layer_in_range (Expr-F.Cmp o t left right) h here q =
      both_in_range t ty.I32 (λ a b. Some (truth (compares o a b))) (value_of left values)
      (value_of right values) (at_type left t here.0 (h.0 q.0)) (λ a b r.
      truth_in_range (compares o a b))
  layer_in_range (Expr-F.Cast t arg) h here q =
      mapped_in_range ℤ t (wrapped t) (value_of arg values) (wrapped_in_range t)
  layer_in_range (Expr-F.And left right) h here q =
      tested_in_range ty.I32 (value_of left values) (truth_of (value_of right values))
      (Some (pos 0)) (truth_of_in_range (value_of right values)) (truth_in_range false)
  layer_in_range (Expr-F.Or left right) h here q =
      tested_in_range ty.I32 (value_of left values) (Some (pos 1))
      (truth_of (value_of right values)) (truth_in_range true)
      (truth_of_in_range (value_of right values))
  layer_in_range (Expr-F.Not arg) h here q =
      mapped_in_range ℤ ty.I32 (λ a. truth (not (is_nonzero a))) (value_of arg values) (λ a.
      truth_in_range (not (is_nonzero a)))
  layer_in_range (Expr-F.Cond t test first second) h here q =
      tested_in_range t (value_of test values) (value_of first values) (value_of second values)
      (at_type first t here.0 ((h.1).0 (q.1).0))
      (at_type second t here.1 (((h.1).1).0 ((q.1).1).0))

  range_at : (x : Expr-F Expr) → OfParts Ranged x → Ranged (roll-Expr x)
  range_at x h r =
      let q = every_rolled (IsTypedHere cells) x r in
      subst (λ t. InRange t (value_of (roll-Expr x) values)) (sym (type_rolled x))
      (subst (λ o. InRange (node_type (map-Expr Expr IntType type_of x)) o)
      (sym (value_rolled values x)) (layer_in_range x h q.0 q.1))

pub value_in_range : (cells : List IntType) (e : Expr) (values : List ℤ) → IsTyped cells e →
    AreValues cells values → IfSome (value_of e values) (IsInRange (type_of e))
value_in_range cells e values typed fit =
    by_parts (Ranged cells values fit) (range_at cells values fit) e typed
