-- What the check of a trap tells.
use Rattle.std.proofs.Common.{◌≡◌, ◌↔◌, ◌⊎◌, inl, inr, ℕ, ◌≤◌, ℤ, List, Option, None, Some, IsSome}
use Rattle.std.proofs.Common.{IsSomeAnd, IfSome, refl, sym, subst}
use Rattle.cpa_ints.specs.declared.integers.IntType.{IntType}
use Rattle.cpa_ints.specs.Integers.{IsInRange}
use Rattle.cpa_expr.specs.declared.tree.BinOp.{BinOp}
use Rattle.cpa_expr.specs.declared.tree.Expr.{Expr}
use Rattle.cpa_expr.specs.declared.tree.Expr.TheVariants.{Const, Read, Un, Bin, Cmp, Cast, And, Or}
use Rattle.cpa_expr.specs.declared.tree.Expr.TheVariants.{Not, Cond}
use Rattle.cpa_expr.specs.Shape.{type_of, IsTyped}
use Rattle.cpa_expr.specs.Values.{value_of}
use Rattle.cpa_expr.specs.Evaluations.{IsTruthy, IsZero}
use Rattle.cpa_expr.specs.Traps.{IsOutside, HasNoValue, TrapsHere, Traps}
use Rattle.cpa_expr.specs.Cells.{AreValues}
use Rattle.cpa_expr.specs.Laws.{typed_at_variants, values_lie_in_range, no_value_is_a_trap}
use Rattle.cpa_expr.specs.Induction.{Cases, by_variants}
use Rattle.cpa_trap_checks.specs.Checks.{Check, either, where_nonzero, picked, own_trap, index_trap}
use Rattle.cpa_trap_checks.specs.Checks.{trap_check}
use Rattle.cpa_trap_checks.specs.Tells.{Tells}
use Rattle.cpa_trap_checks.specs.lemmas.Deciding.{tell_same, tell_none, tell_either}
use Rattle.cpa_trap_checks.specs.lemmas.Deciding.{tell_where_nonzero, tell_where_zero, tell_picked}
use Rattle.cpa_trap_checks.specs.lemmas.Meetings.{meets_constant, meets_read, meets_unary}
use Rattle.cpa_trap_checks.specs.lemmas.Meetings.{meets_binary, meets_comparison, meets_cast}
use Rattle.cpa_trap_checks.specs.lemmas.Meetings.{meets_conjunction, meets_disjunction}
use Rattle.cpa_trap_checks.specs.lemmas.Meetings.{meets_negation, meets_conditional}
use Rattle.cpa_trap_checks.specs.lemmas.OwnTests.{own_trap_tells, index_trap_tells}
use Rattle.cpa_trap_checks.specs.lemmas.Shapes.{trap_constant, trap_read, trap_unary, trap_binary}
use Rattle.cpa_trap_checks.specs.lemmas.Shapes.{trap_comparison, trap_cast, trap_conjunction}
use Rattle.cpa_trap_checks.specs.lemmas.Shapes.{trap_disjunction, trap_negation, trap_conditional}

-- what can not be is left out of a choice
pub or_nothing : (A B : Type 0) → (A ↔ (⊥ ⊎ B)) → B ↔ A
or_nothing A B i =
    (λ b. i.1 (inr b), λ a. elim (i.0 a) [ inl z ↦ absurd z | inr b ↦ b ])

module _ (cells : List IntType) (values : List ℤ) (fit : AreValues cells values) where
  abbrev T : Expr → Type 0
  T = Traps values

  pub value_ranges : (e : Expr) (t : IntType) (v : ℤ) → IsTyped cells e → type_of e ≡ t
      → value_of e values ≡ Some v → IsInRange t v
  value_ranges e t v typed same is =
      subst (λ u. IsInRange u v) same
      (subst (λ o. IfSome o (IsInRange (type_of e))) is
      (values_lie_in_range cells e values typed fit))

  -- an expression that does not trap has a value, and one that has a value does not trap
  pub value_there : (e : Expr) → IsTyped cells e → (T e → ⊥)
      → (v : ℤ) × (value_of e values ≡ Some v)
  value_there e typed h = by (value_of e values) refl
    where
      by : (o : Option ℤ) → value_of e values ≡ o → (v : ℤ) × (value_of e values ≡ Some v)
      by None is = absurd (h ((no_value_is_a_trap cells e values typed fit).0 is))
      by (Some v) is = (v, is)

  pub traps_or_some : (e : Expr) → IsTyped cells e → T e ⊎ IsSome (value_of e values)
  traps_or_some e typed = by (value_of e values) refl
    where
      by : (o : Option ℤ) → value_of e values ≡ o → T e ⊎ IsSome (value_of e values)
      by None is = inl ((no_value_is_a_trap cells e values typed fit).0 is)
      by (Some v) is = inr (subst IsSome (sym is) refl)

  pub some_not_traps : (e : Expr) → IsTyped cells e → IsSome (value_of e values) → T e → ⊥
  some_not_traps e typed some t =
      let none = (no_value_is_a_trap cells e values typed fit).1 t in
      let gone = subst IsSome none some in
      absurd (cc)

  pub index_tells : (len : ℕ) (index : Expr) → 1 ≤ len → IsTyped cells index → (T index → ⊥)
      → Tells values (index_trap len index) (IsSomeAnd (value_of index values) (IsOutside len))
  index_tells len index some typed h =
      let there = value_there index typed h in
      subst (λ o. Tells values (index_trap len index) (IsSomeAnd o (IsOutside len))) (sym there.1)
      (index_trap_tells values len index there.0 some there.1
      (value_ranges index (type_of index) there.0 typed refl there.1))

  right_tells : (o : BinOp) (t : IntType) (right : Expr) → IsTyped cells right → (T right → ⊥)
      → Tells values (own_trap o t right) (IsSomeAnd (value_of right values) (HasNoValue o t))
  right_tells o t right typed h =
      let there = value_there right typed h in
      subst (λ p. Tells values (own_trap o t right) (IsSomeAnd p (HasNoValue o t))) (sym there.1)
      (own_trap_tells values o t right there.0 there.1
      (value_ranges right (type_of right) there.0 typed refl there.1))

  abbrev Tested : Expr → Type 0
  Tested e = IsTyped cells e → Tells values (trap_check e) (T e)

  as_check : (e : Expr) (c : Check) (A : Type 0) → trap_check e ≡ c → Tells values c A
      → (A ↔ T e) → Tells values (trap_check e) (T e)
  as_check e c A is h i =
      subst (λ d. Tells values d (T e)) (sym is) (tell_same values c A (T e) h i)

  -- the parts of a choice of two operands, one of which may trap, or the node by itself
  operands : (e left right : Expr) (Own : Type 0) → IsTyped cells left
      → (T e ↔ ((IsSome (value_of left values) × Own) ⊎ T left
      ⊎ (IsSome (value_of left values) × T right)))
      → (T left ⊎ T right ⊎ Own) ↔ T e
  operands e left right Own typed i = (
    λ s. elim s [
      | inl h ↦ i.1 (inr (inl h))
      | inr r ↦ elim (traps_or_some left typed) [
        | inl h ↦ i.1 (inr (inl h))
        | inr some ↦ elim r [
          | inl h ↦ i.1 (inr (inr (some, h)))
          | inr own ↦ i.1 (inl (some, own))
        ]
      ]
    ],
    λ t. elim (i.0 t) [
      | inl own ↦ inr (inr own.1)
      | inr r ↦ elim r [
        | inl h ↦ inl h
        | inr h ↦ inr (inl h.1)
      ]
    ],
  )

  compared_operands : (e left right : Expr) → IsTyped cells left
      → (T e ↔ (⊥ ⊎ T left ⊎ (IsSome (value_of left values) × T right)))
      → (T left ⊎ T right) ↔ T e
  compared_operands e left right typed i = (
    λ s. elim s [
      | inl h ↦ i.1 (inr (inl h))
      | inr h ↦ elim (traps_or_some left typed) [
        | inl k ↦ i.1 (inr (inl k))
        | inr some ↦ i.1 (inr (inr (some, h)))
      ]
    ],
    λ t. elim (i.0 t) [
      | inl z ↦ absurd z
      | inr r ↦ elim r [
        | inl h ↦ inl h
        | inr h ↦ inr h.1
      ]
    ],
  )

  tested_variants : Cases Tested
  tested_variants = record {
    constant = λ t n typed.
        as_check (Const t n) None ⊥ (trap_constant t n) (tell_none values ⊥ (λ z. z))
        (λ z. absurd z, (meets_constant values (TrapsHere values) t n).0);
    read = λ t base len index h typed.
        let parts = (typed_at_variants.read cells t base len index).0 typed in
        let own = IsSomeAnd (value_of index values) (IsOutside len) in
        let met = meets_read values (TrapsHere values) t base len index in
        as_check (Read t base len index) (either (trap_check index) (index_trap len index))
        (T index ⊎ own) (trap_read t base len index)
        (tell_either values (trap_check index) (index_trap len index) (T index) own (h parts.2)
        (λ n. index_tells len index parts.0 parts.2 n)) (
          λ s. elim s [ inl k ↦ met.1 (inr k) | inr k ↦ met.1 (inl k) ],
          λ m. elim (met.0 m) [ inl k ↦ inr k | inr k ↦ inl k ],
        );
    unary = λ o t arg h typed.
        as_check (Un o t arg) (trap_check arg) (T arg) (trap_unary o t arg)
        (h ((typed_at_variants.unary cells o t arg).0 typed).2)
        (or_nothing (T (Un o t arg)) (T arg) (meets_unary values (TrapsHere values) o t arg));
    binary = λ o t left right h k typed.
        let parts = (typed_at_variants.binary cells o t left right).0 typed in
        let own = IsSomeAnd (value_of right values) (HasNoValue o t) in
        as_check (Bin o t left right)
        (either (trap_check left) (either (trap_check right) (own_trap o t right)))
        (T left ⊎ T right ⊎ own) (trap_binary o t left right)
        (tell_either values (trap_check left) (either (trap_check right) (own_trap o t right))
        (T left) (T right ⊎ own) (h parts.3)
        (λ n. tell_either values (trap_check right) (own_trap o t right) (T right) own
        (k parts.4) (λ m. right_tells o t right parts.4 m)))
        (operands (Bin o t left right) left right own parts.3
        (meets_binary values (TrapsHere values) o t left right));
    comparison = λ o t left right h k typed.
        let parts = (typed_at_variants.comparison cells o t left right).0 typed in
        as_check (Cmp o t left right) (either (trap_check left) (trap_check right))
        (T left ⊎ T right) (trap_comparison o t left right)
        (tell_either values (trap_check left) (trap_check right) (T left) (T right) (h parts.2)
        (λ n. k parts.3))
        (compared_operands (Cmp o t left right) left right parts.2
        (meets_comparison values (TrapsHere values) o t left right));
    cast = λ t arg h typed.
        as_check (Cast t arg) (trap_check arg) (T arg) (trap_cast t arg)
        (h ((typed_at_variants.cast cells t arg).0 typed))
        (or_nothing (T (Cast t arg)) (T arg) (meets_cast values (TrapsHere values) t arg));
    conjunction = λ left right h k typed.
        let parts = (typed_at_variants.conjunction cells left right).0 typed in
        let later = IsTruthy values left × T right in
        as_check (And left right)
        (either (trap_check left) (where_nonzero left (trap_check right))) (T left ⊎ later)
        (trap_conjunction left right)
        (tell_either values (trap_check left) (where_nonzero left (trap_check right)) (T left) later
        (h parts.0)
        (λ n. let there = value_there left parts.0 n in
        tell_where_nonzero values left (trap_check right) there.0 (T right) there.1
        (λ t. k parts.1)))
        (or_nothing (T (And left right)) (T left ⊎ later)
        (meets_conjunction values (TrapsHere values) left right));
    disjunction = λ left right h k typed.
        let parts = (typed_at_variants.disjunction cells left right).0 typed in
        let later = IsZero values left × T right in
        as_check (Or left right)
        (either (trap_check left) (where_nonzero (Not left) (trap_check right))) (T left ⊎ later)
        (trap_disjunction left right)
        (tell_either values (trap_check left) (where_nonzero (Not left) (trap_check right)) (T left)
        later (h parts.0)
        (λ n. let there = value_there left parts.0 n in
        tell_where_zero values left (trap_check right) there.0 (T right) there.1
        (λ t. k parts.1)))
        (or_nothing (T (Or left right)) (T left ⊎ later)
        (meets_disjunction values (TrapsHere values) left right));
    negation = λ arg h typed.
        as_check (Not arg) (trap_check arg) (T arg) (trap_negation arg)
        (h ((typed_at_variants.negation cells arg).0 typed))
        (or_nothing (T (Not arg)) (T arg) (meets_negation values (TrapsHere values) arg));
    conditional = λ t test first second h k l typed.
        let parts = (typed_at_variants.conditional cells t test first second).0 typed in
        let later = (IsTruthy values test × T first) ⊎ (IsZero values test × T second) in
        as_check (Cond t test first second)
        (either (trap_check test) (picked test (trap_check first) (trap_check second)))
        (T test ⊎ later) (trap_conditional t test first second)
        (tell_either values (trap_check test) (picked test (trap_check first) (trap_check second))
        (T test) later (h parts.2)
        (λ n. let there = value_there test parts.2 n in
        tell_picked values test (trap_check first) (trap_check second) there.0 (T first) (T second)
        there.1 (λ t. k parts.3) (λ z. l parts.4)))
        (or_nothing (T (Cond t test first second)) (T test ⊎ later)
        (meets_conditional values (TrapsHere values) t test first second));
  }

-- the check of a trap is 1 exactly where the expression traps, and else 0
pub trap_tells : (cells : List IntType) (e : Expr) (values : List ℤ) → IsTyped cells e
    → AreValues cells values → Tells values (trap_check e) (Traps values e)
trap_tells cells e values typed fit =
    by_variants (Tested cells values fit) (tested_variants cells values fit) e typed
