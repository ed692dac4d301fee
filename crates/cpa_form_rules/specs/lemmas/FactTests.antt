-- Facts on a store are their tests, and fail where a denial is true.
use Rattle.std.proofs.Common.{◌≡◌, ◌<◌, ◌^◌, ℤ, ◌≤ℤ◌, Bool, true, false, not, List, [], ◌∷◌}
use Rattle.std.proofs.Common.{length, Option, None, Some, slice_get, refl, sym, ap, ◌∙◌, subst}
use Rattle.std.proofs.Common.{arith}
use Rattle.std.specs.Prelude.{IsSomeAnd, int_le, pos, if◌then◌else◌}
use Rattle.std.specs.List.{AllByRecursion}
use Rattle.std.proofs.lemmas.Int.{ints}
use Rattle.cpa_ints.specs.declared.integers.IntType.{IntType}
use Rattle.cpa_expr.specs.declared.tree.CmpOp.TheVariants as cmp
use Rattle.cpa_expr.specs.declared.tree.Expr.{Expr}
use Rattle.cpa_expr.specs.declared.tree.Expr.TheVariants.{Const, Cmp, And}
use Rattle.cpa_expr.specs.Shape.{IsTyped}
use Rattle.cpa_expr.specs.Values.{truth, is_nonzero, truth_of, comparison, logical_and, logical_or}
use Rattle.cpa_expr.specs.Values.{HasTruth}
use Rattle.cpa_expr.specs.Values.{logical_not, value_of}
use Rattle.cpa_expr.specs.Cells.{AreValues, scalar_read}
use Rattle.cpa_expr.specs.Laws.{value_at_variants, a_scalar_is_its_cell}
use Rattle.cpa_facts.specs.declared.fact.Fact.{Fact}
use Rattle.cpa_facts.specs.declared.fact.Fact.TheVariants.{At, Stack, Equals, Within, Truth}
use Rattle.cpa_form_renaming.specs.declared.places.Place.{Place}
use Rattle.cpa_form_renaming.specs.TrapTests.{is_trap, trap_test}
use Rattle.cpa_form_renaming.specs.Laws.{trap_tests_tell}
use Rattle.cpa_form_rules.specs.Runs.{StoreFactHolds}
use Rattle.cpa_form_rules.specs.Tests.{type_at, fact_tests, tests_of, other_than, denied}
use Rattle.cpa_form_rules.specs.lemmas.Lists.{all_parts, all_both}
use Rattle.cpa_form_rules.specs.lemmas.Models.{Wanted, equal_back, equal_forth}

-- ---- what tests say

some_same : {A : Type 0} (a b : A) → Some a ≡ Some b → a ≡ b
some_same a b e = cc

-- one number is at most the other
at_most_back : (t : IntType) (a b : Expr) (store : List ℤ) (v w : ℤ) → value_of a store ≡ Some v
    → value_of b store ≡ Some w → HasTruth store (Cmp cmp.Le t a b) true → int_le v w ≡ true
at_most_back t a b store v w is are h =
    sure (int_le v w) (subst (λ o. IsSomeAnd o (λ n. is_nonzero n ≡ true))
    (value_at_variants.comparison cmp.Le t a b store
    ∙ (ap (λ o. comparison cmp.Le o (value_of b store)) is ∙ ap (comparison cmp.Le (Some v)) are))
    h)
  where
    sure : (c : Bool) → is_nonzero (truth c) ≡ true → c ≡ true
    sure true h = refl
    sure false h = absurd (cc)

at_most_forth : (t : IntType) (a b : Expr) (store : List ℤ) (v w : ℤ) → value_of a store ≡ Some v
    → value_of b store ≡ Some w → int_le v w ≡ true → HasTruth store (Cmp cmp.Le t a b) true
at_most_forth t a b store v w is are h =
    subst (λ o. IsSomeAnd o (λ n. is_nonzero n ≡ true))
    (sym (value_at_variants.comparison cmp.Le t a b store
    ∙ (ap (λ o. comparison cmp.Le o (value_of b store)) is
    ∙ (ap (comparison cmp.Le (Some v)) are ∙ ap (λ c. Some (truth c)) h)))) refl

both_back : (a b : Expr) (store : List ℤ) → HasTruth store (And a b) true
    → HasTruth store a true × HasTruth store b true
both_back a b store h =
    by (value_of a store) (value_of b store)
    (subst (λ o. IsSomeAnd o (λ n. is_nonzero n ≡ true)) (value_at_variants.conjunction a b store)
    h)
  where
    right : (p : Option ℤ) → IsSomeAnd (truth_of p) (λ n. is_nonzero n ≡ true)
        → IsSomeAnd p (λ n. is_nonzero n ≡ true)
    right None h = h
    right (Some v) h = sure (is_nonzero v) h
      where
        sure : (c : Bool) → is_nonzero (truth c) ≡ true → c ≡ true
        sure true h = refl
        sure false h = absurd (cc)

    by : (o p : Option ℤ) → IsSomeAnd (logical_and o p) (λ n. is_nonzero n ≡ true)
        → IsSomeAnd o (λ n. is_nonzero n ≡ true) × IsSomeAnd p (λ n. is_nonzero n ≡ true)
    by None p h = absurd h
    by (Some v) p h = first (is_nonzero v) refl h
      where
        first : (c : Bool) → is_nonzero v ≡ c
            → IsSomeAnd (if c then truth_of p else Some (pos 0)) (λ n. is_nonzero n ≡ true)
            → (is_nonzero v ≡ true) × IsSomeAnd p (λ n. is_nonzero n ≡ true)
        first true e h = (e, right p h)
        first false e h = absurd (cc)

both_forth : (a b : Expr) (store : List ℤ) → HasTruth store a true → HasTruth store b true
    → HasTruth store (And a b) true
both_forth a b store h k =
    subst (λ o. IsSomeAnd o (λ n. is_nonzero n ≡ true))
    (sym (value_at_variants.conjunction a b store))
    (by (value_of a store) (value_of b store) h k)
  where
    by : (o p : Option ℤ) → IsSomeAnd o (λ n. is_nonzero n ≡ true)
        → IsSomeAnd p (λ n. is_nonzero n ≡ true)
        → IsSomeAnd (logical_and o p) (λ n. is_nonzero n ≡ true)
    by None p h k = absurd h
    by (Some v) None h k = absurd k
    by (Some v) (Some w) h k =
        subst (λ c. IsSomeAnd (if c then truth_of (Some w) else Some (pos 0))
        (λ n. is_nonzero n ≡ true)) (sym h)
        (subst (λ c. is_nonzero (truth c) ≡ true) (sym k) refl)

-- ---- facts

at_most_is : (v w : ℤ) → int_le v w ≡ true → v ≤ℤ w
at_most_is v w h = grind (arith, ints)

is_at_most : (v w : ℤ) → v ≤ℤ w → int_le v w ≡ true
is_at_most v w h = grind (arith, ints)

pub fact_back : (places : List Place) (store : List ℤ) (fact : Fact)
    → AllByRecursion (Wanted store) (fact_tests places fact) → StoreFactHolds store fact
fact_back places store (At point) h = tt
fact_back places store (Stack sites) h = tt
fact_back places store (Equals cell value) h =
    let t = type_at places cell in
    let same = equal_back t (scalar_read t cell) (Const t value) store h.0 in
    sym (a_scalar_is_its_cell.value t cell store) ∙ (same.1
    ∙ (sym same.2 ∙ value_at_variants.constant t value store))
fact_back places store (Within cell lo hi) h =
    let t = type_at places cell in
    let parts = both_back (Cmp cmp.Le t (Const t lo) (scalar_read t cell))
    (Cmp cmp.Le t (scalar_read t cell) (Const t hi)) store h.0 in
    by (slice_get store cell) refl parts.0 parts.1
  where
    by : (o : Option ℤ) → slice_get store cell ≡ o
        → HasTruth store (Cmp cmp.Le (type_at places cell) (Const (type_at places cell) lo)
        (scalar_read (type_at places cell) cell)) true
        → HasTruth store (Cmp cmp.Le (type_at places cell)
        (scalar_read (type_at places cell) cell) (Const (type_at places cell) hi)) true
        → IsSomeAnd o (λ v. (lo ≤ℤ v) × (v ≤ℤ hi))
    by None is h k =
        let t = type_at places cell in
        absurd (nothing (subst (λ o. IsSomeAnd o (λ n. is_nonzero n ≡ true))
        (value_at_variants.comparison cmp.Le t (Const t lo) (scalar_read t cell) store
        ∙ (ap (λ o. comparison cmp.Le o (value_of (scalar_read t cell) store))
        (value_at_variants.constant t lo store)
        ∙ ap (comparison cmp.Le (Some lo)) (a_scalar_is_its_cell.value t cell store ∙ is))) h))
      where
        nothing : IsSomeAnd (comparison cmp.Le (Some lo) None) (λ n. is_nonzero n ≡ true) → ⊥
        nothing h = h
    by (Some v) is h k =
        let t = type_at places cell in
        let here = a_scalar_is_its_cell.value t cell store ∙ is in (
          at_most_is lo v (at_most_back t (Const t lo) (scalar_read t cell) store lo v
              (value_at_variants.constant t lo store) here h),
          at_most_is v hi (at_most_back t (scalar_read t cell) (Const t hi) store v hi here
              (value_at_variants.constant t hi store) k),
        )
fact_back places store (Truth expr holds) h = h.0

pub fact_forth : (places : List Place) (store : List ℤ) (fact : Fact) → StoreFactHolds store fact
    → AllByRecursion (Wanted store) (fact_tests places fact)
fact_forth places store (At point) h = tt
fact_forth places store (Stack sites) h = tt
fact_forth places store (Equals cell value) h =
    let t = type_at places cell in (
      equal_forth t (scalar_read t cell) (Const t value) store value
          (a_scalar_is_its_cell.value t cell store ∙ h) (value_at_variants.constant t value store),
      tt,
    )
fact_forth places store (Within cell lo hi) h = by (slice_get store cell) refl h
  where
    by : (o : Option ℤ) → slice_get store cell ≡ o → IsSomeAnd o (λ v. (lo ≤ℤ v) × (v ≤ℤ hi))
        → AllByRecursion (Wanted store) (fact_tests places (Within cell lo hi))
    by None is h = absurd h
    by (Some v) is h =
        let t = type_at places cell in
        let here = a_scalar_is_its_cell.value t cell store ∙ is in (
          both_forth (Cmp cmp.Le t (Const t lo) (scalar_read t cell))
              (Cmp cmp.Le t (scalar_read t cell) (Const t hi)) store
              (at_most_forth t (Const t lo) (scalar_read t cell) store lo v
              (value_at_variants.constant t lo store) here (is_at_most lo v h.0))
              (at_most_forth t (scalar_read t cell) (Const t hi) store v hi here
              (value_at_variants.constant t hi store) (is_at_most v hi h.1)),
          tt,
        )
fact_forth places store (Truth expr holds) h = (h, tt)

pub facts_back : (places : List Place) (store : List ℤ) (facts : List Fact)
    → AllByRecursion (Wanted store) (tests_of places facts)
    → AllByRecursion (StoreFactHolds store) facts
facts_back places store [] h = tt
facts_back places store (fact ∷ facts) h =
    let parts = all_parts (Wanted store) (fact_tests places fact) (tests_of places facts) h in
    (fact_back places store fact parts.0, facts_back places store facts parts.1)

pub facts_forth : (places : List Place) (store : List ℤ) (facts : List Fact)
    → AllByRecursion (StoreFactHolds store) facts
    → AllByRecursion (Wanted store) (tests_of places facts)
facts_forth places store [] h = tt
facts_forth places store (fact ∷ facts) h =
    all_both (Wanted store) (fact_tests places fact) (tests_of places facts)
    (fact_forth places store fact h.0) (facts_forth places store facts h.1)

-- ---- denials

-- the evaluation gives the truth
abbrev has : Option ℤ → Bool → Bool
has None holds = false
has (Some v) true = is_nonzero v
has (Some v) false = not (is_nonzero v)

abbrev other_value : Option ℤ → Bool → Option ℤ
other_value o true = logical_not o
other_value o false = o

-- the test of a trap, and the other truth
denial_at : (o : Option ℤ) (holds : Bool)
    → logical_or (Some (truth (is_trap o))) (other_value o holds) ≡ Some (truth (not (has o holds)))
denial_at None holds = refl
denial_at (Some v) true = by (is_nonzero v)
  where
    by : (c : Bool) → truth_of (Some (truth (not c))) ≡ Some (truth (not c))
    by true = refl
    by false = refl
denial_at (Some v) false = by (is_nonzero v)
  where
    by : (c : Bool) → Some (truth c) ≡ Some (truth (not (not c)))
    by true = refl
    by false = refl

has_is : (o : Option ℤ) (holds : Bool) → has o holds ≡ true
    → IsSomeAnd o (λ v. is_nonzero v ≡ holds)
has_is None holds h = absurd (cc)
has_is (Some v) true h = h
has_is (Some v) false h = by (is_nonzero v) h
  where
    by : (c : Bool) → not c ≡ true → c ≡ false
    by true h = absurd (cc)
    by false h = refl

is_has : (o : Option ℤ) (holds : Bool) → IsSomeAnd o (λ v. is_nonzero v ≡ holds)
    → has o holds ≡ true
is_has None holds h = absurd h
is_has (Some v) true h = h
is_has (Some v) false h = ap not h

-- what the denial of a test says
pub record Denies (store : List ℤ) (one : Expr × Bool) : Type 0 where
  pub told : Bool
  pub value : value_of (denied one).0 store ≡ Some (truth told)
  pub true_fails : told ≡ true → Wanted store one → ⊥
  pub false_holds : told ≡ false → Wanted store one

pub denied_is : (types : List IntType) (store : List ℤ) (one : Expr × Bool)
    → length types < 2 ^ 63 → IsTyped types one.0 → AreValues types store → Denies store one
denied_is types store one few typed fit =
    let o = value_of one.0 store in
    record {
      told = not (has o one.1);
      value = value_at_variants.disjunction (trap_test one.0) (other_than one.1 one.0) store
          ∙ (ap (λ p. logical_or p (value_of (other_than one.1 one.0) store))
          (trap_tests_tell.value types one.0 store few typed fit)
          ∙ (ap (logical_or (Some (truth (is_trap o)))) (other one.1 one.0)
          ∙ denial_at o one.1));
      true_fails = λ t h. contrary (has o one.1) t (is_has o one.1 h);
      false_holds = λ f. has_is o one.1 (reverse (has o one.1) f);
    }
  where
    other : (holds : Bool) (e : Expr)
        → value_of (other_than holds e) store ≡ other_value (value_of e store) holds
    other true e = value_at_variants.negation e store
    other false e = refl

    contrary : (c : Bool) → not c ≡ true → c ≡ true → ⊥
    contrary true t h = absurd (cc)
    contrary false t h = absurd (cc)

    reverse : (c : Bool) → not c ≡ false → c ≡ true
    reverse true f = refl
    reverse false f = absurd (cc)
