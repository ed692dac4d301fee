-- What the test of a trap tells.
use Rattle.std.proofs.Common.{◌≡◌, ℕ, zero, suc, ◌+◌, ◌-◌, ◌^◌, ◌<◌, ◌≤◌, nat_lt, nat_le, ℤ}
use Rattle.std.proofs.Common.{pos, negsuc, ◌-ℤ◌, ◌*ℤ◌, ◌≤ℤ◌, int_div, Bool, true, false, not, List}
use Rattle.std.proofs.Common.{[], ◌∷◌, length, Option, None, Some, IfSome, slice_get, option_map}
use Rattle.std.proofs.Common.{option_and_then, refl, sym, ap, ◌∙◌, subst, arith}
use Rattle.std.specs.Prelude.{if◌then◌else◌, int_le}
use Rattle.std.specs.Int.{int_div_euclid}
use Rattle.std.specs.Ordering.{int_eq}
use Rattle.std.proofs.lemmas.Int.{ints}
use Rattle.std.proofs.lemmas.Bool.Decides.{nat_tests}
use Rattle.cpa_ints.specs.declared.integers.IntType.{IntType}
use Rattle.cpa_ints.specs.declared.integers.IntType.TheVariants as ty
use Rattle.cpa_ints.specs.Integers.{width, IsInRange}
use Rattle.cpa_ints.specs.Wrapping.{wrapped, IsWrapOf}
use Rattle.cpa_ints.specs.lemmas.Arithmetic.{wrapped_of_range}
use Rattle.cpa_ints.specs.lemmas.WrapLaws.{wrap_unique}
use Rattle.cpa_expr.specs.declared.tree.BinOp.{BinOp}
use Rattle.cpa_expr.specs.declared.tree.BinOp.TheVariants as bin
use Rattle.cpa_expr.specs.declared.tree.CmpOp.{CmpOp}
use Rattle.cpa_expr.specs.declared.tree.CmpOp.TheVariants as cmp
use Rattle.cpa_expr.specs.declared.tree.Expr.{Expr}
use Rattle.cpa_expr.specs.declared.tree.Expr.TheVariants.{Const, Read, Un, Bin, Cmp, Cast, And, Or}
use Rattle.cpa_expr.specs.declared.tree.Expr.TheVariants.{Not, Cond}
use Rattle.cpa_expr.specs.Shape.{AreCells, type_of, IsTyped}
use Rattle.cpa_expr.specs.Values.{un_value, amount_of, divided_by, bin_value, truth, is_nonzero}
use Rattle.cpa_expr.specs.Values.{truth_of, cell_at, evaluated, comparison, logical_and, logical_or}
use Rattle.cpa_expr.specs.Values.{logical_not, conditional, value_of}
use Rattle.cpa_expr.specs.Cells.{AreValues}
use Rattle.cpa_expr.specs.Laws.{value_at_variants, typed_at_variants, values_lie_in_range}
use Rattle.cpa_expr.specs.Induction.{Cases, by_variants}
use Rattle.cpa_expr.specs.lemmas.CellsRead.{both_same}
use Rattle.cpa_form_renaming.specs.TrapTests.{is_trap, is_outside, right_test, trap_test}
use Rattle.cpa_form_renaming.specs.TrapTests.{tested}
use Rattle.cpa_form_renaming.specs.lemmas.TestShapes.{test_constant, test_read, test_unary}
use Rattle.cpa_form_renaming.specs.lemmas.TestShapes.{test_binary}
use Rattle.cpa_form_renaming.specs.lemmas.TestShapes.{test_comparison, test_cast, test_and}
use Rattle.cpa_form_renaming.specs.lemmas.TestShapes.{test_or}
use Rattle.cpa_form_renaming.specs.lemmas.TestShapes.{test_not, test_cond, narrow, short}

-- the value of a test: 1 where there is none, and else 0
abbrev told : Option ℤ → Option ℤ
told o = Some (truth (is_trap o))

truth_again : (b : Bool) → truth_of (Some (truth b)) ≡ Some (truth b)
truth_again true = refl
truth_again false = refl

-- a number does not lie from 0 to n - 1
abbrev lies_outside : ℤ → ℕ → Bool
lies_outside (pos k) n = not (nat_lt k n)
lies_outside (negsuc k) n = true

not_below : (k n : ℕ) → nat_le n k ≡ not (nat_lt k n)
not_below k n = by (nat_lt k n) refl
  where
    by : (b : Bool) → nat_lt k n ≡ b → nat_le n k ≡ not b
    by true e = by_other (nat_le n k) refl
      where
        by_other : (c : Bool) → nat_le n k ≡ c → c ≡ false
        by_other true f = absurd (grind (arith, nat_tests, e, f))
        by_other false f = refl
    by false e = grind (arith, nat_tests, e)

-- no type has numbers below -2^63 or above 2^64 - 1
bounded : (t : IntType) (v : ℤ) → IsInRange t v
    → (negsuc (2 ^ 63 - 1) ≤ℤ v) × (v ≤ℤ pos (2 ^ 64 - 1))
bounded ty.Bool v h = (omega (arith, ints, h.0, h.1), omega (arith, ints, h.0, h.1))
bounded ty.I8 v h = (omega (arith, ints, h.0, h.1), omega (arith, ints, h.0, h.1))
bounded ty.U8 v h = (omega (arith, ints, h.0, h.1), omega (arith, ints, h.0, h.1))
bounded ty.I16 v h = (omega (arith, ints, h.0, h.1), omega (arith, ints, h.0, h.1))
bounded ty.U16 v h = (omega (arith, ints, h.0, h.1), omega (arith, ints, h.0, h.1))
bounded ty.I32 v h = (omega (arith, ints, h.0, h.1), omega (arith, ints, h.0, h.1))
bounded ty.U32 v h = (omega (arith, ints, h.0, h.1), omega (arith, ints, h.0, h.1))
bounded ty.I64 v h = (omega (arith, ints, h.0, h.1), omega (arith, ints, h.0, h.1))
bounded ty.U64 v h = (omega (arith, ints, h.0, h.1), omega (arith, ints, h.0, h.1))

-- a negative number, as one of 64 bits without a sign
negative_wraps : (k : ℕ) → k < 2 ^ 63
    → (m : ℕ) × (2 ^ 63 ≤ m) × (wrapped ty.U64 (negsuc k) ≡ pos m)
negative_wraps k small =
    let m = 2 ^ 64 - suc k in
    let is : IsWrapOf ty.U64 (negsuc k) (pos m) = record {
      in_range = (omega (arith, ints), omega (arith, ints, small));
      truth = λ e. absurd (cc);
      congruent = λ e. (negsuc 0, omega (arith, ints, small));
    } in
    (m, omega (arith, small), sym (wrap_unique ty.U64 (negsuc k) (pos m) is))

at_least : (t : IntType) (v : ℤ) (n : ℕ) → IsInRange t v → n < 2 ^ 63
    → int_le (pos n) (wrapped ty.U64 v) ≡ lies_outside v n
at_least t (pos k) n within small =
    let bounds = bounded t (pos k) within in
    let same : wrapped ty.U64 (pos k) ≡ pos k =
    wrapped_of_range ty.U64 (pos k) (omega (arith, ints), omega (arith, ints, bounds.1)) in
    ap (int_le (pos n)) same ∙ not_below k n
at_least t (negsuc k) n within small =
    let bounds = bounded t (negsuc k) within in
    let low = negative_wraps k (omega (arith, ints, bounds.0)) in
    let far = low.1 in
    ap (int_le (pos n)) low.2 ∙ above n low.0 (omega (arith, far, small))
  where
    above : (n m : ℕ) → n ≤ m → nat_le n m ≡ true
    above n m h = grind (arith, nat_tests, h)

outside_value : (e : Expr) (store : List ℤ) (t : IntType) (v : ℤ) (n : ℕ)
    → value_of e store ≡ Some v → IsInRange t v → n < 2 ^ 63
    → value_of (is_outside e n) store ≡ Some (truth (lies_outside v n))
outside_value e store t v n is within small =
    value_at_variants.comparison cmp.Ge ty.U64 (Cast ty.U64 e) (Const ty.U64 (pos n)) store
    ∙ both_same (Option ℤ) (comparison cmp.Ge) (value_of (Cast ty.U64 e) store)
    (Some (wrapped ty.U64 v)) (value_of (Const ty.U64 (pos n)) store) (Some (pos n))
    (value_at_variants.cast ty.U64 e store ∙ ap (option_map (wrapped ty.U64)) is)
    (value_at_variants.constant ty.U64 (pos n) store)
    ∙ ap (λ b. Some (truth b)) (at_least t v n within small)

amount_traps : (f : ℕ → ℤ) (t : IntType) (v : ℤ)
    → is_trap (option_map f (amount_of t v)) ≡ lies_outside v (width t)
amount_traps f t (negsuc k) = refl
amount_traps f t (pos k) = by (nat_lt k (width t))
  where
    by : (b : Bool) → is_trap (option_map f (if b then Some k else None)) ≡ not b
    by true = refl
    by false = refl

divided_traps : (b r : ℤ) → is_trap (divided_by b r) ≡ not (is_nonzero b)
divided_traps b r = by (int_eq b (pos 0))
  where
    by : (c : Bool) → is_trap (if c then None else Some r) ≡ not (not c)
    by true = refl
    by false = refl

module _ (cells : List IntType) (store : List ℤ) (few : length cells < 2 ^ 63)
    (fit : AreValues cells store) where
  abbrev Tells : Expr → Type 0
  Tells e = IsTyped cells e → value_of (trap_test e) store ≡ told (value_of e store)

  ranged : (e : Expr) (v : ℤ) → IsTyped cells e → value_of e store ≡ Some v
      → IsInRange (type_of e) v
  ranged e v h is =
      subst (λ o. IfSome o (IsInRange (type_of e))) is (values_lie_in_range cells e store h fit)

  or_is : (a b : Expr) (o p : Option ℤ) → value_of a store ≡ o → value_of b store ≡ p
      → value_of (Or a b) store ≡ logical_or o p
  or_is a b o p is are =
      value_at_variants.disjunction a b store
      ∙ both_same (Option ℤ) logical_or (value_of a store) o (value_of b store) p is are

  and_is : (a b : Expr) (o p : Option ℤ) → value_of a store ≡ o → value_of b store ≡ p
      → value_of (And a b) store ≡ logical_and o p
  and_is a b o p is are =
      value_at_variants.conjunction a b store
      ∙ both_same (Option ℤ) logical_and (value_of a store) o (value_of b store) p is are

  -- the right operand of an operator, where the left one has a value
  right_tells : (o : BinOp) (t : IntType) (e : Expr) (a : ℤ) → Tells e → IsTyped cells e
      → value_of (right_test o t (tested e)) store
      ≡ told (option_and_then (λ b. bin_value o t a b) (value_of e store))
  right_tells o t e a h typed = by o (value_of e store) refl (h typed)
    where
      zero_by : (q : Option ℤ) (r : ℤ → ℤ) → value_of e store ≡ q
          → value_of (trap_test e) store ≡ told q
          → value_of (Or (trap_test e) (Not e)) store
          ≡ told (option_and_then (λ b. divided_by b (r b)) q)
      zero_by q r is test =
          or_is (trap_test e) (Not e) (told q) (logical_not q) test
          (value_at_variants.negation e store ∙ ap logical_not is)
          ∙ last q
        where
          last : (q : Option ℤ) → logical_or (told q) (logical_not q)
              ≡ told (option_and_then (λ b. divided_by b (r b)) q)
          last None = refl
          last (Some b) =
              truth_again (not (is_nonzero b))
              ∙ ap (λ c. Some (truth c)) (sym (divided_traps b (r b)))

      outside_by : (q : Option ℤ) (n : ℕ) (f : ℤ → Option ℤ) → value_of e store ≡ q
          → n < 2 ^ 63 → ((b : ℤ) → is_trap (f b) ≡ lies_outside b n)
          → value_of (trap_test e) store ≡ told q
          → value_of (Or (trap_test e) (is_outside e n)) store ≡ told (option_and_then f q)
      outside_by None n f is small each test =
          or_is (trap_test e) (is_outside e n) (told None) (value_of (is_outside e n) store) test
          refl
      outside_by (Some b) n f is small each test =
          or_is (trap_test e) (is_outside e n) (told (Some b))
          (Some (truth (lies_outside b n))) test
          (outside_value e store (type_of e) b n is (ranged e b typed is) small)
          ∙ (truth_again (lies_outside b n) ∙ ap (λ c. Some (truth c)) (sym (each b)))

      by : (o : BinOp) (q : Option ℤ) → value_of e store ≡ q
          → value_of (trap_test e) store ≡ told q
          → value_of (right_test o t (tested e)) store
          ≡ told (option_and_then (λ b. bin_value o t a b) q)
      by bin.Add None is test = test
      by bin.Add (Some b) is test = test
      by bin.Sub None is test = test
      by bin.Sub (Some b) is test = test
      by bin.Mul None is test = test
      by bin.Mul (Some b) is test = test
      by bin.BitAnd None is test = test
      by bin.BitAnd (Some b) is test = test
      by bin.BitOr None is test = test
      by bin.BitOr (Some b) is test = test
      by bin.BitXor None is test = test
      by bin.BitXor (Some b) is test = test
      by bin.Div q is test = zero_by q (λ b. wrapped t (int_div a b)) is test
      by bin.Rem q is test = zero_by q (λ b. a -ℤ int_div a b *ℤ b) is test
      by bin.Shl q is test =
          outside_by q (width t) (bin_value bin.Shl t a) is (narrow cells few t)
          (amount_traps (λ n. wrapped t (a *ℤ pos (2 ^ n))) t) test
      by bin.Shr q is test =
          outside_by q (width t) (bin_value bin.Shr t a) is (narrow cells few t)
          (amount_traps (λ n. int_div_euclid a (pos (2 ^ n))) t) test

  -- a cell of an array is there
  cell_traps : (base len : ℕ) (t : IntType) (v : ℤ) → AreCells cells base len t
      → is_trap (cell_at store base len v) ≡ lies_outside v len
  cell_traps base len t (negsuc k) are = refl
  cell_traps base len t (pos k) are = by (nat_lt k len) refl
    where
      there : (ts : List IntType) (vs : List ℤ) → AreValues ts vs → (i : ℕ) (u : IntType)
          → slice_get ts i ≡ Some u → is_trap (slice_get vs i) ≡ false
      there [] vs h i u e = absurd (cc)
      there (s ∷ ts) [] h i u e = absurd h
      there (s ∷ ts) (w ∷ vs) h zero u e = refl
      there (s ∷ ts) (w ∷ vs) h (suc i) u e = there ts vs h.1 i u e

      by : (b : Bool) → nat_lt k len ≡ b
          → is_trap (if b then slice_get store (base + k) else None) ≡ not b
      by false e = refl
      by true e =
          let below : k < len = grind (arith, nat_tests, e) in
          there cells store fit (base + k) t (are k below)

  test_value : {test : Expr} (e : Expr) (o : Option ℤ) → trap_test e ≡ test
      → value_of e store ≡ o → value_of test store ≡ told o
      → value_of (trap_test e) store ≡ told (value_of e store)
  test_value e o is value h =
      ap (λ d. value_of d store) is ∙ (h ∙ ap told (sym value))

  tells_variants : Cases Tells
  tells_variants = record {
    constant = λ t n typed.
        test_value (Const t n) (Some n) (test_constant t n)
        (value_at_variants.constant t n store)
        (value_at_variants.constant ty.I32 (pos 0) store);
    read = λ t base len index h typed.
        let parts = (typed_at_variants.read cells t base len index).0 typed in
        test_value (Read t base len index)
        (option_and_then (cell_at store base len) (value_of index store))
        (test_read t base len index) (value_at_variants.read t base len index store)
        (read_tells t base len index (value_of index store) parts.0 parts.1 parts.2 refl
        (h parts.2));
    unary = λ o t arg h typed.
        test_value (Un o t arg) (option_map (un_value o t) (value_of arg store))
        (test_unary o t arg) (value_at_variants.unary o t arg store)
        (h ((typed_at_variants.unary cells o t arg).0 typed).2
        ∙ mapped (un_value o t) (value_of arg store));
    binary = λ o t left right h k typed.
        let parts = (typed_at_variants.binary cells o t left right).0 typed in
        test_value (Bin o t left right)
        (evaluated (bin_value o t) (value_of left store) (value_of right store))
        (test_binary o t left right) (value_at_variants.binary o t left right store)
        (or_is (trap_test left) (right_test o t (tested right)) (told (value_of left store))
        (value_of (right_test o t (tested right)) store) (h parts.3) refl
        ∙ pairs (bin_value o t) (value_of left store) (value_of right store)
        (value_of (right_test o t (tested right)) store)
        (λ a. right_tells o t right a k parts.4));
    comparison = λ o t left right h k typed.
        let parts = (typed_at_variants.comparison cells o t left right).0 typed in
        test_value (Cmp o t left right)
        (comparison o (value_of left store) (value_of right store))
        (test_comparison o t left right) (value_at_variants.comparison o t left right store)
        (or_is (trap_test left) (trap_test right) (told (value_of left store))
        (told (value_of right store)) (h parts.2) (k parts.3)
        ∙ compared o (value_of left store) (value_of right store));
    cast = λ t arg h typed.
        test_value (Cast t arg) (option_map (wrapped t) (value_of arg store))
        (test_cast t arg) (value_at_variants.cast t arg store)
        (h ((typed_at_variants.cast cells t arg).0 typed)
        ∙ mapped (wrapped t) (value_of arg store));
    conjunction = λ left right h k typed.
        let parts = (typed_at_variants.conjunction cells left right).0 typed in
        test_value (And left right) (logical_and (value_of left store) (value_of right store))
        (test_and left right) (value_at_variants.conjunction left right store)
        (or_is (trap_test left) (And left (trap_test right)) (told (value_of left store))
        (logical_and (value_of left store) (told (value_of right store))) (h parts.0)
        (and_is left (trap_test right) (value_of left store) (told (value_of right store)) refl
        (k parts.1))
        ∙ conjoined (value_of left store) (value_of right store));
    disjunction = λ left right h k typed.
        let parts = (typed_at_variants.disjunction cells left right).0 typed in
        test_value (Or left right) (logical_or (value_of left store) (value_of right store))
        (test_or left right) (value_at_variants.disjunction left right store)
        (or_is (trap_test left) (And (Not left) (trap_test right)) (told (value_of left store))
        (logical_and (logical_not (value_of left store)) (told (value_of right store)))
        (h parts.0)
        (and_is (Not left) (trap_test right) (logical_not (value_of left store))
        (told (value_of right store)) (value_at_variants.negation left store) (k parts.1))
        ∙ disjoined (value_of left store) (value_of right store));
    negation = λ arg h typed.
        test_value (Not arg) (logical_not (value_of arg store))
        (test_not arg) (value_at_variants.negation arg store)
        (h ((typed_at_variants.negation cells arg).0 typed)
        ∙ mapped (λ a. truth (not (is_nonzero a))) (value_of arg store));
    conditional = λ t test first second h k l typed.
        let parts = (typed_at_variants.conditional cells t test first second).0 typed in
        test_value (Cond t test first second)
        (conditional (value_of test store) (value_of first store) (value_of second store))
        (test_cond t test first second)
        (value_at_variants.conditional t test first second store)
        (or_is (trap_test test) (Cond ty.I32 test (trap_test first) (trap_test second))
        (told (value_of test store))
        (conditional (value_of test store) (told (value_of first store))
        (told (value_of second store))) (h parts.2)
        (value_at_variants.conditional ty.I32 test (trap_test first) (trap_test second) store
        ∙ both_same (Option ℤ) (conditional (value_of test store))
        (value_of (trap_test first) store) (told (value_of first store))
        (value_of (trap_test second) store) (told (value_of second store)) (k parts.3)
        (l parts.4))
        ∙ chosen (value_of test store) (value_of first store) (value_of second store));
  }
    where
      mapped : (f : ℤ → ℤ) (o : Option ℤ) → told o ≡ told (option_map f o)
      mapped f None = refl
      mapped f (Some v) = refl

      pairs : (f : ℤ → ℤ → Option ℤ) (o p q : Option ℤ)
          → ((a : ℤ) → q ≡ told (option_and_then (λ b. f a b) p))
          → logical_or (told o) q ≡ told (evaluated f o p)
      pairs f None p q h = refl
      pairs f (Some a) p q h =
          ap truth_of (h a) ∙ truth_again (is_trap (option_and_then (λ b. f a b) p))

      compared : (o : CmpOp) (p q : Option ℤ)
          → logical_or (told p) (told q) ≡ told (comparison o p q)
      compared o None q = refl
      compared o (Some a) None = refl
      compared o (Some a) (Some b) = refl

      conjoined : (p q : Option ℤ)
          → logical_or (told p) (logical_and p (told q)) ≡ told (logical_and p q)
      conjoined None q = refl
      conjoined (Some a) q = by (is_nonzero a) q
        where
          by : (b : Bool) (q : Option ℤ)
              → truth_of (if b then truth_of (told q) else Some (pos 0))
              ≡ told (if b then truth_of q else Some (pos 0))
          by true None = refl
          by true (Some c) = refl
          by false q = refl

      disjoined : (p q : Option ℤ)
          → logical_or (told p) (logical_and (logical_not p) (told q)) ≡ told (logical_or p q)
      disjoined None q = refl
      disjoined (Some a) q = by (is_nonzero a) q
        where
          by : (b : Bool) (q : Option ℤ)
              → truth_of (if is_nonzero (truth (not b)) then truth_of (told q) else Some (pos 0))
              ≡ told (if b then Some (pos 1) else truth_of q)
          by true q = refl
          by false None = refl
          by false (Some c) = refl

      chosen : (p q r : Option ℤ)
          → logical_or (told p) (conditional p (told q) (told r)) ≡ told (conditional p q r)
      chosen None q r = refl
      chosen (Some a) q r = by (is_nonzero a) q r
        where
          by : (b : Bool) (q r : Option ℤ)
              → truth_of (if b then told q else told r) ≡ told (if b then q else r)
          by true None r = refl
          by true (Some c) r = refl
          by false q None = refl
          by false q (Some c) = refl

      read_tells : (t : IntType) (base len : ℕ) (index : Expr) (o : Option ℤ) → 1 ≤ len
          → AreCells cells base len t → IsTyped cells index → value_of index store ≡ o
          → value_of (trap_test index) store ≡ told o
          → value_of (Or (trap_test index) (is_outside index len)) store
          ≡ told (option_and_then (cell_at store base len) o)
      read_tells t base len index None some are typed is test =
          or_is (trap_test index) (is_outside index len) (told None)
          (value_of (is_outside index len) store) test refl
      read_tells t base len index (Some v) some are typed is test =
          or_is (trap_test index) (is_outside index len) (told (Some v))
          (Some (truth (lies_outside v len))) test
          (outside_value index store (type_of index) v len is (ranged index v typed is)
          (short cells few base len t some are))
          ∙ (truth_again (lies_outside v len)
          ∙ ap (λ c. Some (truth c)) (sym (cell_traps base len t v are)))

pub value : (cells : List IntType) (e : Expr) (store : List ℤ) → length cells < 2 ^ 63
    → IsTyped cells e → AreValues cells store
    → value_of (trap_test e) store ≡ told (value_of e store)
value cells e store few typed fit =
    by_variants (Tells cells store few fit) (tells_variants cells store few fit) e typed
