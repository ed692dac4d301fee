-- Operations on reduced numbers wrap to the same as those on the numbers themselves.
use Rattle.std.proofs.Common.{◌≡◌, ◌≢◌, ◌^◌, ◌≤◌, sym, ap, subst, ◌∙◌, arith, ℤ, pos, negsuc, ◌+ℤ◌}
use Rattle.std.proofs.Common.{◌-ℤ◌, ◌*ℤ◌, neg_ℤ, ◌≤ℤ◌, ◌<ℤ◌, unsigned_abs, FitsSigned, to_z, of_z}
use Rattle.std.proofs.Common.{to_z-of_z}
use Rattle.std.proofs.lemmas.Int.{ints, fits_signed_mul}
use Rattle.cpa_ints.specs.declared.integers.IntType.{IntType}
use Rattle.cpa_ints.specs.declared.integers.IntType.TheVariants as ty
use Rattle.cpa_ints.specs.Integers.{width, IsInRange}
use Rattle.cpa_ints.specs.Wrapping.{wrapped}
use Rattle.cpa_ints.specs.lemmas.WrapLaws.{is_boolean, truth}
use Rattle.cpa_ints.specs.lemmas.Arithmetic.{wrapped_in_range, wrapped_sum, wrapped_product}
use Rattle.cpa_ints.specs.lemmas.Arithmetic.{wrapped_negation, wrapped_narrower}
use mathlib.Core.Logic.{⊎_elim}
use mir.Syntax.{w128}

width_bound : (t : IntType) → width t ≤ 64
width_bound ty.Bool = omega arith
width_bound ty.I8 = omega arith
width_bound ty.U8 = omega arith
width_bound ty.I16 = omega arith
width_bound ty.U16 = omega arith
width_bound ty.I32 = omega arith
width_bound ty.U32 = omega arith
width_bound ty.I64 = omega arith
width_bound ty.U64 = omega arith

-- to wrap to 64 bits first changes nothing, but before Bool
pub wrapped_of_long : (t : IntType) → t ≢ ty.Bool → (n : ℤ) →
    wrapped t (wrapped ty.I64 n) ≡ wrapped t n
wrapped_of_long t h n = wrapped_narrower t ty.I64 h (width_bound t) n

-- a and b may be replaced by numbers that wrap alike
module _ (t : IntType) where
  pub alike_negated : (r a : ℤ) → wrapped t r ≡ wrapped t a →
      wrapped t (neg_ℤ r) ≡ wrapped t (neg_ℤ a)
  alike_negated r a e =
      wrapped_negation t r ∙ ap (λ z. wrapped t (neg_ℤ z)) e ∙ sym (wrapped_negation t a)

  pub alike_product : (r s a b : ℤ) → wrapped t r ≡ wrapped t a → wrapped t s ≡ wrapped t b →
      wrapped t (r *ℤ s) ≡ wrapped t (a *ℤ b)
  alike_product r s a b e f =
      wrapped_product t r s ∙ ap (λ z. wrapped t (z *ℤ wrapped t s)) e
      ∙ ap (λ z. wrapped t (wrapped t a *ℤ z)) f ∙ sym (wrapped_product t a b)

  alike_sum : t ≢ ty.Bool → (r s a b : ℤ) → wrapped t r ≡ wrapped t a → wrapped t s ≡ wrapped t b →
      wrapped t (r +ℤ s) ≡ wrapped t (a +ℤ b)
  alike_sum h r s a b e f =
      wrapped_sum t h r s ∙ ap (λ z. wrapped t (z +ℤ wrapped t s)) e
      ∙ ap (λ z. wrapped t (wrapped t a +ℤ z)) f ∙ sym (wrapped_sum t h a b)

-- numbers of 65 bits and less fit, and come back from their 128 bits
abbrev pub Small : ℤ → Type 0
Small z = (neg_ℤ (pos (2 ^ 65)) ≤ℤ z) × (z ≤ℤ pos (2 ^ 65))

small_fits : (z : ℤ) → Small z → FitsSigned w128 z
small_fits (pos n) s = let high = s.1 in record { sfits = omega (arith, ints) }
small_fits (negsuc n) s = let low = s.0 in record { sfits = omega (arith, ints) }

abbrev pub back : ℤ → ℤ
back z = to_z w128 (of_z w128 z)

pub comes_back : (z : ℤ) → FitsSigned w128 z → back z ≡ z
comes_back z f = to_z-of_z {w = w128} f

abbrev pub Reduced : ℤ → Type 0
Reduced z = (neg_ℤ (pos (2 ^ 63)) ≤ℤ z) × (z <ℤ pos (2 ^ 63))

pub reduced_back : (z : ℤ) → Reduced z → back z ≡ z
reduced_back z r =
    let low = r.0 in let high = r.1 in
    comes_back z (small_fits z (omega (arith, ints), omega (arith, ints)))

-- what `wrap` gives for -r, where r is a reduced for -a
pub wrap_negated : (t : IntType) (a r w : ℤ) → FitsSigned w128 a → FitsSigned w128 w → Reduced r
    → wrapped t r ≡ wrapped t (back a) → w ≡ wrapped t (back (pos 0 -ℤ back r)) →
    back w ≡ wrapped t (neg_ℤ a)
wrap_negated t a r w fa fw red alike is =
    let low = red.0 in
    let high = red.1 in
    let less : pos 0 -ℤ r ≡ neg_ℤ r = omega (arith, ints) in
    let inner : back (pos 0 -ℤ back r) ≡ neg_ℤ r =
    ap (λ z. back (pos 0 -ℤ z)) (reduced_back r red) ∙ ap back less
    ∙ comes_back (neg_ℤ r) (small_fits (neg_ℤ r) (omega (arith, ints), omega (arith, ints))) in
    comes_back w fw ∙ is ∙ ap (wrapped t) inner
    ∙ alike_negated t r a (alike ∙ ap (wrapped t) (comes_back a fa))

product_fits : (r s : ℤ) → Reduced r → Reduced s → FitsSigned w128 (r *ℤ s)
product_fits r s p q =
    fits_signed_mul w128 r s (2 ^ 63) (2 ^ 63) (within r p) (within s q) (omega arith)
  where
    within : (z : ℤ) → Reduced z → unsigned_abs z ≤ 2 ^ 63
    within (pos n) r = let high = r.1 in omega (arith, ints)
    within (negsuc n) r = let low = r.0 in omega (arith, ints)

pub wrap_product : (t : IntType) (a b r s w : ℤ) → FitsSigned w128 a → FitsSigned w128 b →
    FitsSigned w128 w → Reduced r → Reduced s
    → wrapped t r ≡ wrapped t (back a) → wrapped t s ≡ wrapped t (back b) →
    w ≡ wrapped t (back (back r *ℤ back s)) → back w ≡ wrapped t (a *ℤ b)
wrap_product t a b r s w fa fb fw p q e f is =
    let inner : back (back r *ℤ back s) ≡ r *ℤ s =
    ap (λ z. back (z *ℤ back s)) (reduced_back r p) ∙ ap (λ z. back (r *ℤ z)) (reduced_back s q)
    ∙ comes_back (r *ℤ s) (product_fits r s p q) in
    comes_back w fw ∙ is ∙ ap (wrapped t) inner
    ∙ alike_product t r s a b (e ∙ ap (wrapped t) (comes_back a fa)) (f
    ∙ ap (wrapped t) (comes_back b fb))

bool_of : (a r : ℤ) → a ≢ pos 0 → wrapped ty.Bool r ≡ wrapped ty.Bool a → r ≢ pos 0
bool_of a r h e z =
    let one = (truth a).1 h in let none = (truth r).0 z in absurd (omega (arith, ints))

-- what is known of a sum that does not fit: at Bool it is 1, as the sum of the reduced numbers is
pub record IsFar (a b : ℤ) : Type 0 where
  pub second : b ≢ pos 0
  pub whole : a +ℤ b ≢ pos 0

pub far_sum : (a b : ℤ) → FitsSigned w128 a → (FitsSigned w128 (a +ℤ b) → ⊥) → IsFar a b
far_sum a b fa far = record {
  second =
      λ e. let same : a ≡ a +ℤ b = omega (arith, ints) in far (subst (FitsSigned w128) same fa);
  whole = λ e. far (subst (FitsSigned w128) (sym e) (record { sfits = omega arith }));
}

pub far_difference : (a b : ℤ) → FitsSigned w128 a → (FitsSigned w128 (a -ℤ b) → ⊥) →
    IsFar a (neg_ℤ b)
far_difference a b fa far = far_sum a (neg_ℤ b) fa far

far_sum_of : (t : IntType) (r s a b : ℤ) → IsFar a b → (t ≡ ty.Bool → pos 0 ≤ℤ r) →
    (t ≡ ty.Bool → pos 0 ≤ℤ s)
    → wrapped t r ≡ wrapped t a → wrapped t s ≡ wrapped t b →
    wrapped t (r +ℤ s) ≡ wrapped t (a +ℤ b)
far_sum_of t r s a b far pr ps e f = ⊎_elim boolean (λ h. alike_sum t h r s a b e f) (is_boolean t)
  where
    boolean : t ≡ ty.Bool → wrapped t (r +ℤ s) ≡ wrapped t (a +ℤ b)
    boolean is =
        let hs = bool_of b s far.second (subst (λ u. wrapped u s ≡ wrapped u b) is f) in
        let qr = pr is in
        let qs = ps is in
        let some : r +ℤ s ≢ pos 0 = λ z. absurd (omega (arith, ints, hs)) in
        subst (λ u. wrapped u (r +ℤ s) ≡ wrapped u (a +ℤ b)) (sym is) ((truth (r +ℤ s)).1 some
        ∙ sym ((truth (a +ℤ b)).1 far.whole))

pub sum_fits : (r s : ℤ) → Reduced r → Small s → FitsSigned w128 (back r +ℤ back s)
sum_fits r s p q =
    let a = p.0 in
    let b = p.1 in
    let d = q.0 in
    let e = q.1 in
    subst (FitsSigned w128) (ap (λ z. z +ℤ s) (sym (reduced_back r p))
    ∙ ap (λ z. back r +ℤ z) (sym (comes_back s (small_fits s q))))
    (twice (r +ℤ s) (omega (arith, ints)) (omega (arith, ints)))
  where
    twice : (z : ℤ) → neg_ℤ (pos (2 ^ 66)) ≤ℤ z → z ≤ℤ pos (2 ^ 66) → FitsSigned w128 z
    twice (pos n) low high = record { sfits = omega (arith, ints) }
    twice (negsuc n) low high = record { sfits = omega (arith, ints) }

pub reduced_small : (z : ℤ) → Reduced z → Small z
reduced_small z r = let low = r.0 in let high = r.1 in (omega (arith, ints), omega (arith, ints))

pub range_small : (t : IntType) (z : ℤ) → IsInRange t z → Small z
range_small ty.Bool z r =
    let low = r.0 in let high = r.1 in (omega (arith, ints), omega (arith, ints))
range_small ty.I8 z r =
    let low = r.0 in let high = r.1 in (omega (arith, ints), omega (arith, ints))
range_small ty.U8 z r =
    let low = r.0 in let high = r.1 in (omega (arith, ints), omega (arith, ints))
range_small ty.I16 z r =
    let low = r.0 in let high = r.1 in (omega (arith, ints), omega (arith, ints))
range_small ty.U16 z r =
    let low = r.0 in let high = r.1 in (omega (arith, ints), omega (arith, ints))
range_small ty.I32 z r =
    let low = r.0 in let high = r.1 in (omega (arith, ints), omega (arith, ints))
range_small ty.U32 z r =
    let low = r.0 in let high = r.1 in (omega (arith, ints), omega (arith, ints))
range_small ty.I64 z r =
    let low = r.0 in let high = r.1 in (omega (arith, ints), omega (arith, ints))
range_small ty.U64 z r =
    let low = r.0 in let high = r.1 in (omega (arith, ints), omega (arith, ints))

-- a wrapped number is small, and not negative at Bool
pub wrapped_small : (t : IntType) (n : ℤ) → Small (wrapped t n)
wrapped_small t n = range_small t (wrapped t n) (wrapped_in_range t n)

pub wrapped_boolean : (t : IntType) (n : ℤ) → t ≡ ty.Bool → pos 0 ≤ℤ wrapped t n
wrapped_boolean t n is = subst (λ u. pos 0 ≤ℤ wrapped u n) (sym is) ((wrapped_in_range ty.Bool n).0)

-- what `wrap` gives for the sum of a reduced a and of a small s that wraps like b, where a + b does
-- not fit
pub wrap_far_sum : (t : IntType) (a b r s w : ℤ) → IsFar a b → FitsSigned w128 w → Reduced r →
    Small s
    → (t ≡ ty.Bool → pos 0 ≤ℤ r) → (t ≡ ty.Bool → pos 0 ≤ℤ s)
    → wrapped t r ≡ wrapped t a → wrapped t s ≡ wrapped t b →
    w ≡ wrapped t (back (back r +ℤ back s)) → back w ≡ wrapped t (a +ℤ b)
wrap_far_sum t a b r s w far fw p q pr ps e f is =
    let inner : back (back r +ℤ back s) ≡ r +ℤ s =
    comes_back (back r +ℤ back s) (sum_fits r s p q) ∙ ap (λ z. z +ℤ back s) (reduced_back r p)
    ∙ ap (λ z. r +ℤ z) (comes_back s (small_fits s q)) in
    comes_back w fw ∙ is ∙ ap (wrapped t) inner ∙ far_sum_of t r s a b far pr ps e f
