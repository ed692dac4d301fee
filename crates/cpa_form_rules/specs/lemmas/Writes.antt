-- What a write adds says that the store is set at the index to the value.
use Rattle.std.proofs.Common.{◌≡◌, ℕ, ◌+◌, ◌<◌, ◌^◌, nat_lt, ℤ, pos, negsuc, Bool, true, false}
use Rattle.std.proofs.Common.{List, Option, None, Some, slice_get, option_and_then, option_map}
use Rattle.std.proofs.Common.{refl, sym, ap, ◌∙◌, subst, arith, ◌⊎◌, inl, inr}
use Rattle.std.specs.Prelude.{if◌then◌else◌}
use Rattle.std.proofs.lemmas.Int.{ints}
use Rattle.std.proofs.lemmas.Bool.Decides.{nat_tests}
use Rattle.cpa_ints.specs.declared.integers.IntType.{IntType}
use Rattle.cpa_ints.specs.declared.integers.IntType.TheVariants as ty
use Rattle.cpa_ints.specs.Wrapping.{wrapped}
use Rattle.cpa_ints.specs.lemmas.Arithmetic.{wrapped_of_range}
use Rattle.cpa_expr.specs.declared.tree.CmpOp.TheVariants as cmp
use Rattle.cpa_expr.specs.declared.tree.Expr.{Expr}
use Rattle.cpa_expr.specs.declared.tree.Expr.TheVariants.{Const, Read, Cmp, Cast, Or}
use Rattle.std.specs.Ordering.{int_eq}
use Rattle.cpa_expr.specs.Values.{truth, is_nonzero, truth_of, logical_or, cell_at, value_of}
use Rattle.cpa_expr.specs.Values.{HasTruth}
use Rattle.cpa_expr.specs.Values.{comparison}
use Rattle.cpa_expr.specs.Cells.{scalar_read}
use Rattle.cpa_expr.specs.Laws.{value_at_variants, a_scalar_is_its_cell}
use Rattle.cpa_form_rules.specs.Drafts.{kept_unless}
use Rattle.cpa_form_rules.specs.lemmas.Models.{IsYes, equal_back, equal_forth}

-- ---- a read of an array

pub read_back : (t : IntType) (base len : ℕ) (index : Expr) (values : List ℤ) (w : ℤ)
    → value_of (Read t base len index) values ≡ Some w
    → (k : ℕ) × (k < len) × (value_of index values ≡ Some (pos k))
    × (slice_get values (base + k) ≡ Some w)
read_back t base len index values w is =
    by (value_of index values) (sym (value_at_variants.read t base len index values) ∙ is)
  where
    by : (o : Option ℤ) → option_and_then (cell_at values base len) o ≡ Some w
        → (k : ℕ) × (k < len) × (o ≡ Some (pos k)) × (slice_get values (base + k) ≡ Some w)
    by None h = absurd (cc)
    by (Some (negsuc k)) h = absurd (cc)
    by (Some (pos k)) h = inside (nat_lt k len) refl h
      where
        inside : (b : Bool) → nat_lt k len ≡ b
            → (if b then slice_get values (base + k) else None) ≡ Some w
            → (m : ℕ) × (m < len) × (Some (pos k) ≡ Some (pos m))
            × (slice_get values (base + m) ≡ Some w)
        inside true e h = (k, grind (arith, nat_tests, e), refl, h)
        inside false e h = absurd (cc)

pub read_forth : (t : IntType) (base len : ℕ) (index : Expr) (values : List ℤ) (k : ℕ) (w : ℤ)
    → k < len → value_of index values ≡ Some (pos k) → slice_get values (base + k) ≡ Some w
    → value_of (Read t base len index) values ≡ Some w
read_forth t base len index values k w below index_is is =
    value_at_variants.read t base len index values
    ∙ (ap (option_and_then (cell_at values base len)) index_is
    ∙ (ap (λ b. if b then slice_get values (base + k) else None) (less k len below) ∙ is))
  where
    less : (k len : ℕ) → k < len → nat_lt k len ≡ true
    less k len h = grind (arith, nat_tests, h)

-- ---- a cell that keeps its value unless the index names it

-- 32-bit numbers stay what they are at 64 bits
stays : (k : ℕ) → k < 2 ^ 63 → wrapped ty.I64 (pos k) ≡ pos k
stays k h = wrapped_of_range ty.I64 (pos k) (omega (arith, ints), omega (arith, ints, h))

abbrev named_here : Expr → ℕ → Expr
named_here index i = Cmp cmp.Eq ty.I64 (Cast ty.I64 index) (Const ty.I64 (pos i))

-- one of two is true
or_back : (a b : Expr) (values : List ℤ) → HasTruth values (Or a b) true
    → HasTruth values a true ⊎ HasTruth values b true
or_back a b values h =
    by (value_of a values) (value_of b values)
    (subst IsYes (value_at_variants.disjunction a b values) h)
  where
    right : (p : Option ℤ) → IsYes (truth_of p) → IsYes p
    right None h = h
    right (Some v) h = sure (is_nonzero v) h
      where
        sure : (c : Bool) → is_nonzero (truth c) ≡ true → c ≡ true
        sure true h = refl
        sure false h = absurd (cc)

    by : (o p : Option ℤ) → IsYes (logical_or o p) → IsYes o ⊎ IsYes p
    by None p h = absurd h
    by (Some v) p h = first (is_nonzero v) refl h
      where
        first : (c : Bool) → is_nonzero v ≡ c → IsYes (if c then Some (pos 1) else truth_of p)
            → (is_nonzero v ≡ true) ⊎ IsYes p
        first true e h = inl e
        first false e h = inr (right p h)

or_left_forth : (a b : Expr) (values : List ℤ) → HasTruth values a true
    → HasTruth values (Or a b) true
or_left_forth a b values h =
    subst IsYes (sym (value_at_variants.disjunction a b values)) (by (value_of a values) h)
  where
    by : (o : Option ℤ) → IsYes o → IsYes (logical_or o (value_of b values))
    by None h = absurd h
    by (Some v) h =
        subst (λ c. IsYes (if c then Some (pos 1) else truth_of (value_of b values))) (sym h) refl

or_right_forth : (a b : Expr) (values : List ℤ) (v : ℤ) → value_of a values ≡ Some v
    → HasTruth values b true → HasTruth values (Or a b) true
or_right_forth a b values v is h =
    subst IsYes (sym (value_at_variants.disjunction a b values
    ∙ ap (λ o. logical_or o (value_of b values)) is)) (by (is_nonzero v) (value_of b values) h)
  where
    by : (c : Bool) (p : Option ℤ) → IsYes p → IsYes (if c then Some (pos 1) else truth_of p)
    by true p h = refl
    by false None h = absurd h
    by false (Some w) h = subst (λ c. IsYes (Some (truth c))) (sym h) refl

module _ (t : IntType) (new old i : ℕ) (index : Expr) (values : List ℤ) (k : ℕ)
    (small : k < 2 ^ 63) (index_is : value_of index values ≡ Some (pos k)) where
  -- the number at the index's cell, at 64 bits
  wide : value_of (Cast ty.I64 index) values ≡ Some (pos k)
  wide = value_at_variants.cast ty.I64 index values
      ∙ (ap (λ o. option_map (wrapped ty.I64) o) index_is ∙ ap Some (stays k small))

  pub kept_back : HasTruth values (kept_unless t new old index i) true
      → ((v : ℤ) × (slice_get values new ≡ Some v) × (slice_get values old ≡ Some v)) ⊎ (k ≡ i)
  kept_back h =
      elim (or_back (Cmp cmp.Eq t (scalar_read t new) (scalar_read t old)) (named_here index i)
      values h) [
        | inl same ↦
            let both = equal_back t (scalar_read t new) (scalar_read t old) values same in
            inl (
              both.0,
              sym (a_scalar_is_its_cell.value t new values) ∙ both.1,
              sym (a_scalar_is_its_cell.value t old values) ∙ both.2,
            )
        | inr here ↦
            let both = equal_back ty.I64 (Cast ty.I64 index) (Const ty.I64 (pos i)) values here in
            let same : Some (pos k) ≡ Some (pos i) =
            sym wide ∙ (both.1 ∙ (sym both.2 ∙ value_at_variants.constant ty.I64 (pos i) values)) in
            inr (number k i same)
      ]
    where
      number : (k i : ℕ) → Some (pos k) ≡ Some (pos i) → k ≡ i
      number k i e = cc

  pub kept_same : (v : ℤ) → slice_get values new ≡ Some v → slice_get values old ≡ Some v
      → HasTruth values (kept_unless t new old index i) true
  kept_same v is are =
      or_left_forth (Cmp cmp.Eq t (scalar_read t new) (scalar_read t old)) (named_here index i)
      values (equal_forth t (scalar_read t new) (scalar_read t old) values v
      (a_scalar_is_its_cell.value t new values ∙ is) (a_scalar_is_its_cell.value t old values ∙
      are))

  pub kept_here : (v w : ℤ) → slice_get values new ≡ Some v → slice_get values old ≡ Some w → k ≡ i
      → HasTruth values (kept_unless t new old index i) true
  kept_here v w is are same =
      or_right_forth (Cmp cmp.Eq t (scalar_read t new) (scalar_read t old)) (named_here index i)
      values (truth (int_eq v w))
      (value_at_variants.comparison cmp.Eq t (scalar_read t new) (scalar_read t old) values
      ∙ (ap (λ o. comparison cmp.Eq o (value_of (scalar_read t old) values))
      (a_scalar_is_its_cell.value t new values ∙ is)
      ∙ ap (comparison cmp.Eq (Some v)) (a_scalar_is_its_cell.value t old values ∙ are)))
      (equal_forth ty.I64 (Cast ty.I64 index) (Const ty.I64 (pos i)) values (pos k) wide
      (value_at_variants.constant ty.I64 (pos i) values ∙ ap (λ n. Some (pos n)) (sym same)))
