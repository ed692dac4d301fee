-- What the check of an overflow tells.
use Rattle.std.proofs.Common.{◌≡◌, ◌↔◌, ◌⊎◌, inl, inr, ℤ, pos, List, Option, None, Some, IsTrue}
use Rattle.std.proofs.Common.{IsSome, IsSomeAnd, option_and_then, refl, sym, subst}
use Rattle.cpa_ints.specs.declared.integers.IntType.{IntType}
use Rattle.cpa_ints.specs.Integers.{is_signed}
use Rattle.cpa_expr.specs.declared.tree.UnOp.{UnOp}
use Rattle.cpa_expr.specs.declared.tree.BinOp.{BinOp}
use Rattle.cpa_expr.specs.declared.tree.Expr.{Expr}
use Rattle.cpa_expr.specs.declared.tree.Expr.TheVariants.{Const, Read, Un, Bin, Cmp, Cast, And, Or}
use Rattle.cpa_expr.specs.declared.tree.Expr.TheVariants.{Not, Cond}
use Rattle.cpa_expr.specs.Shape.{type_of, IsTyped}
use Rattle.cpa_expr.specs.Values.{evaluated, value_of}
use Rattle.cpa_expr.specs.Evaluations.{IsTruthy, IsZero}
use Rattle.cpa_expr.specs.Traps.{Traps}
use Rattle.cpa_expr.specs.Cells.{AreValues}
use Rattle.cpa_expr.specs.Laws.{typed_at_variants}
use Rattle.cpa_expr.specs.Induction.{Cases, by_variants}
use Rattle.cpa_expr.specs.lemmas.CellsRead.{both_same}
use Rattle.cpa_trap_checks.specs.Wraps.{IsBeyond, exact_un, exact_bin, WrapsHere, Wraps}
use Rattle.cpa_trap_checks.specs.Checks.{Check, unless, where_nonzero, picked, un_wraps, bin_wraps}
use Rattle.cpa_trap_checks.specs.Checks.{over_then, trap_check, over_check, checked}
use Rattle.cpa_trap_checks.specs.Tells.{Tells}
use Rattle.cpa_trap_checks.specs.lemmas.Deciding.{tell_same, tell_none, tell_either, tell_unless}
use Rattle.cpa_trap_checks.specs.lemmas.Deciding.{tell_where_nonzero, tell_where_zero, tell_picked}
use Rattle.cpa_trap_checks.specs.lemmas.Meetings.{meets_constant, meets_read, meets_unary}
use Rattle.cpa_trap_checks.specs.lemmas.Meetings.{meets_binary, meets_comparison, meets_cast}
use Rattle.cpa_trap_checks.specs.lemmas.Meetings.{meets_conjunction, meets_disjunction}
use Rattle.cpa_trap_checks.specs.lemmas.Meetings.{meets_negation, meets_conditional}
use Rattle.cpa_trap_checks.specs.lemmas.OwnTests.{bin_wraps_tells, un_wraps_tells}
use Rattle.cpa_trap_checks.specs.lemmas.Shapes.{over_constant, over_read, over_unary, over_binary}
use Rattle.cpa_trap_checks.specs.lemmas.Shapes.{over_comparison, over_cast, over_conjunction}
use Rattle.cpa_trap_checks.specs.lemmas.Shapes.{over_disjunction, over_negation, over_conditional}
use Rattle.cpa_trap_checks.specs.lemmas.TrapValues.{or_nothing, value_ranges, value_there}
use Rattle.cpa_trap_checks.specs.lemmas.TrapValues.{some_not_traps, trap_tells}

-- an exact result has both operands
evaluated_some : (f : ℤ → ℤ → Option ℤ) (p q : Option ℤ) (Q : ℤ → Type 0)
    → IsSomeAnd (evaluated f p q) Q → IsSome p × IsSome q
evaluated_some f None q Q h = absurd h
evaluated_some f (Some a) None Q h = absurd h
evaluated_some f (Some a) (Some b) Q h = (refl, refl)

mapped_some : (f : ℤ → Option ℤ) (p : Option ℤ) (Q : ℤ → Type 0)
    → IsSomeAnd (option_and_then f p) Q → IsSome p
mapped_some f None Q h = absurd h
mapped_some f (Some a) Q h = refl

module _ (cells : List IntType) (values : List ℤ) (fit : AreValues cells values) where
  abbrev W : Expr → Type 0
  W = Wraps values

  abbrev HasValue : Expr → Type 0
  HasValue e = IsSome (value_of e values)

  -- an overflow of a part, or of what comes after it where it has a value
  pub then_tells : (e : Expr) (later : Check) (L : Type 0) → IsTyped cells e
      → Tells values (over_check e) (W e)
      → ((v : ℤ) → value_of e values ≡ Some v → Tells values later L)
      → Tells values (over_then (checked e) later) (W e ⊎ (HasValue e × L))
  then_tells e later L typed h k =
      tell_either values (over_check e) (unless (trap_check e) later) (W e) (HasValue e × L) h
      (λ n. tell_same values (unless (trap_check e) later) ((Traps values e → ⊥) × L)
      (HasValue e × L)
      (tell_unless values (trap_check e) later (Traps values e) L
      (trap_tells cells e values typed fit)
      (λ m. let there = value_there cells values fit e typed m in k there.0 there.1)) (
        λ s. let there = value_there cells values fit e typed s.0 in
            (subst IsSome (sym there.1) refl, s.1),
        λ s. (some_not_traps cells values fit e typed s.0, s.1),
      ))

  abbrev Tested : Expr → Type 0
  Tested e = IsTyped cells e → Tells values (over_check e) (W e)

  as_check : (e : Expr) (c : Check) (A : Type 0) → over_check e ≡ c → Tells values c A
      → (A ↔ W e) → Tells values (over_check e) (W e)
  as_check e c A is h i =
      subst (λ d. Tells values d (W e)) (sym is) (tell_same values c A (W e) h i)

  operands : (e left right : Expr) (Own : Type 0) → (Own → HasValue left × HasValue right)
      → (W e ↔ (Own ⊎ W left ⊎ (HasValue left × W right)))
      → (W left ⊎ (HasValue left × (W right ⊎ (HasValue right × Own)))) ↔ W e
  operands e left right Own have i = (
    λ s. elim s [
      | inl h ↦ i.1 (inr (inl h))
      | inr h ↦ elim h.1 [
        | inl k ↦ i.1 (inr (inr (h.0, k)))
        | inr k ↦ i.1 (inl k.1)
      ]
    ],
    λ w. elim (i.0 w) [
      | inl own ↦ inr ((have own).0, inr ((have own).1, own))
      | inr r ↦ elim r [
        | inl h ↦ inl h
        | inr h ↦ inr (h.0, inl h.1)
      ]
    ],
  )

  -- a part whose value decides what is evaluated next
  first_of_all : (e left : Expr) (Later : Type 0) → (Later → HasValue left)
      → (W e ↔ (⊥ ⊎ W left ⊎ Later)) → (W left ⊎ (HasValue left × Later)) ↔ W e
  first_of_all e left Later have i = (
    λ s. elim s [
      | inl h ↦ i.1 (inr (inl h))
      | inr h ↦ i.1 (inr (inr h.1))
    ],
    λ w. elim (i.0 w) [
      | inl z ↦ absurd z
      | inr r ↦ elim r [
        | inl h ↦ inl h
        | inr h ↦ inr (have h, h)
      ]
    ],
  )

  truthy_has : (e : Expr) → IsTruthy values e → HasValue e
  truthy_has e t = by (value_of e values) t
    where
      by : (o : Option ℤ) → IsSomeAnd o (λ a. (a ≡ pos 0) → ⊥) → IsSome o
      by None h = absurd h
      by (Some a) h = refl

  zero_has : (e : Expr) → IsZero values e → HasValue e
  zero_has e z = subst IsSome (sym z) refl

  abbrev OwnBinary : BinOp → IntType → Expr → Expr → Type 0
  OwnBinary o t left right =
      IsTrue (is_signed t)
      × IsSomeAnd (evaluated (exact_bin o t) (value_of left values) (value_of right values))
      (IsBeyond t)

  binary_tells : (o : BinOp) (t : IntType) (left right : Expr) (x y : ℤ)
      → IsTyped cells (Bin o t left right) → value_of left values ≡ Some x
      → value_of right values ≡ Some y
      → Tells values (bin_wraps o t left right) (OwnBinary o t left right)
  binary_tells o t left right x y typed is are =
      let parts = (typed_at_variants.binary cells o t left right).0 typed in
      let both : evaluated (exact_bin o t) (value_of left values) (value_of right values)
      ≡ exact_bin o t x y = both_same (Option ℤ) (evaluated (exact_bin o t))
      (value_of left values) (Some x) (value_of right values) (Some y) is are in
      subst (λ r. Tells values (bin_wraps o t left right)
      (IsTrue (is_signed t) × IsSomeAnd r (IsBeyond t))) (sym both)
      (bin_wraps_tells values o t left right x y is are
      (value_ranges cells values fit left t x parts.3 parts.1 is)
      (value_ranges cells values fit right (type_of right) y parts.4 refl are) parts.2)

  abbrev OwnUnary : UnOp → IntType → Expr → Type 0
  OwnUnary o t arg =
      IsTrue (is_signed t)
      × IsSomeAnd (option_and_then (exact_un o) (value_of arg values)) (IsBeyond t)

  unary_tells : (o : UnOp) (t : IntType) (arg : Expr) (x : ℤ) → IsTyped cells (Un o t arg)
      → value_of arg values ≡ Some x → Tells values (un_wraps o t arg) (OwnUnary o t arg)
  unary_tells o t arg x typed is =
      let parts = (typed_at_variants.unary cells o t arg).0 typed in
      subst (λ r. Tells values (un_wraps o t arg)
      (IsTrue (is_signed t) × IsSomeAnd (option_and_then (exact_un o) r) (IsBeyond t))) (sym is)
      (un_wraps_tells values o t arg x is
      (value_ranges cells values fit arg t x parts.2 parts.1 is))

  tested_variants : Cases Tested
  tested_variants = record {
    constant = λ t n typed.
        as_check (Const t n) None ⊥ (over_constant t n) (tell_none values ⊥ (λ z. z))
        (λ z. absurd z, (meets_constant values (WrapsHere values) t n).0);
    read = λ t base len index h typed.
        as_check (Read t base len index) (over_check index) (W index) (over_read t base len index)
        (h ((typed_at_variants.read cells t base len index).0 typed).2)
        (or_nothing (W (Read t base len index)) (W index)
        (meets_read values (WrapsHere values) t base len index));
    unary = λ o t arg h typed.
        let own = OwnUnary o t arg in
        let met = meets_unary values (WrapsHere values) o t arg in
        let parts = (typed_at_variants.unary cells o t arg).0 typed in
        as_check (Un o t arg) (over_then (checked arg) (un_wraps o t arg))
        (W arg ⊎ (HasValue arg × own)) (over_unary o t arg)
        (then_tells arg (un_wraps o t arg) own parts.2 (h parts.2)
        (λ v is. unary_tells o t arg v typed is)) (
          λ s. elim s [ inl k ↦ met.1 (inr k) | inr k ↦ met.1 (inl k.1) ],
          λ m. elim (met.0 m) [
            | inl k ↦ inr (mapped_some (exact_un o) (value_of arg values) (IsBeyond t) k.1, k)
            | inr k ↦ inl k
          ],
        );
    binary = λ o t left right h k typed.
        let own = OwnBinary o t left right in
        let parts = (typed_at_variants.binary cells o t left right).0 typed in
        as_check (Bin o t left right)
        (over_then (checked left) (over_then (checked right) (bin_wraps o t left right)))
        (W left ⊎ (HasValue left × (W right ⊎ (HasValue right × own))))
        (over_binary o t left right)
        (then_tells left (over_then (checked right) (bin_wraps o t left right))
        (W right ⊎ (HasValue right × own)) parts.3 (h parts.3)
        (λ x is. then_tells right (bin_wraps o t left right) own parts.4 (k parts.4)
        (λ y are. binary_tells o t left right x y typed is are)))
        (operands (Bin o t left right) left right own
        (λ w. evaluated_some (exact_bin o t) (value_of left values) (value_of right values)
        (IsBeyond t) w.1)
        (meets_binary values (WrapsHere values) o t left right));
    comparison = λ o t left right h k typed.
        let parts = (typed_at_variants.comparison cells o t left right).0 typed in
        as_check (Cmp o t left right) (over_then (checked left) (over_check right))
        (W left ⊎ (HasValue left × W right)) (over_comparison o t left right)
        (then_tells left (over_check right) (W right) parts.2 (h parts.2) (λ x is. k parts.3))
        (or_nothing (W (Cmp o t left right)) (W left ⊎ (HasValue left × W right))
        (meets_comparison values (WrapsHere values) o t left right));
    cast = λ t arg h typed.
        as_check (Cast t arg) (over_check arg) (W arg) (over_cast t arg)
        (h ((typed_at_variants.cast cells t arg).0 typed))
        (or_nothing (W (Cast t arg)) (W arg) (meets_cast values (WrapsHere values) t arg));
    conjunction = λ left right h k typed.
        let parts = (typed_at_variants.conjunction cells left right).0 typed in
        let later = IsTruthy values left × W right in
        as_check (And left right)
        (over_then (checked left) (where_nonzero left (over_check right)))
        (W left ⊎ (HasValue left × later)) (over_conjunction left right)
        (then_tells left (where_nonzero left (over_check right)) later parts.0 (h parts.0)
        (λ x is. tell_where_nonzero values left (over_check right) x (W right) is
        (λ t. k parts.1)))
        (first_of_all (And left right) left later (λ l. truthy_has left l.0)
        (meets_conjunction values (WrapsHere values) left right));
    disjunction = λ left right h k typed.
        let parts = (typed_at_variants.disjunction cells left right).0 typed in
        let later = IsZero values left × W right in
        as_check (Or left right)
        (over_then (checked left) (where_nonzero (Not left) (over_check right)))
        (W left ⊎ (HasValue left × later)) (over_disjunction left right)
        (then_tells left (where_nonzero (Not left) (over_check right)) later parts.0 (h parts.0)
        (λ x is. tell_where_zero values left (over_check right) x (W right) is (λ t. k parts.1)))
        (first_of_all (Or left right) left later (λ l. zero_has left l.0)
        (meets_disjunction values (WrapsHere values) left right));
    negation = λ arg h typed.
        as_check (Not arg) (over_check arg) (W arg) (over_negation arg)
        (h ((typed_at_variants.negation cells arg).0 typed))
        (or_nothing (W (Not arg)) (W arg) (meets_negation values (WrapsHere values) arg));
    conditional = λ t test first second h k l typed.
        let parts = (typed_at_variants.conditional cells t test first second).0 typed in
        let later = (IsTruthy values test × W first) ⊎ (IsZero values test × W second) in
        as_check (Cond t test first second)
        (over_then (checked test) (picked test (over_check first) (over_check second)))
        (W test ⊎ (HasValue test × later)) (over_conditional t test first second)
        (then_tells test (picked test (over_check first) (over_check second)) later parts.2
        (h parts.2)
        (λ x is. tell_picked values test (over_check first) (over_check second) x (W first)
        (W second) is (λ t. k parts.3) (λ z. l parts.4)))
        (first_of_all (Cond t test first second) test later
        (λ s. elim s [ inl p ↦ truthy_has test p.0 | inr p ↦ zero_has test p.0 ])
        (meets_conditional values (WrapsHere values) t test first second));
  }

-- the check of an overflow is 1 exactly where the evaluation overflows, and else 0
pub over_tells : (cells : List IntType) (e : Expr) (values : List ℤ) → IsTyped cells e
    → AreValues cells values → Tells values (over_check e) (Wraps values e)
over_tells cells e values typed fit =
    by_variants (Tested cells values fit) (tested_variants cells values fit) e typed
