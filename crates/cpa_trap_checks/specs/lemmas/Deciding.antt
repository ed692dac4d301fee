-- What checks that are put together tell.
use Rattle.std.proofs.Common.{◌≡◌, ◌≢◌, ◌↔◌, ◌⊎◌, inl, inr, ℤ, pos, Bool, true, false, not, List}
use Rattle.std.proofs.Common.{Option, None, Some, IsSomeAnd, refl, sym, ap, subst, ◌∙◌, zero}
use Rattle.std.specs.Prelude.{if◌then◌else◌}
use Rattle.std.specs.Ordering.{int_eq}
use Rattle.std.proofs.lemmas.Bool.Decides.{Decides-int_eq}
use Rattle.cpa_ints.specs.declared.integers.IntType.TheVariants as ty
use Rattle.cpa_expr.specs.declared.tree.Expr.{Expr}
use Rattle.cpa_expr.specs.declared.tree.Expr.TheVariants.{And, Or, Not, Cond}
use Rattle.cpa_expr.specs.Values.{truth, is_nonzero, truth_of, logical_and, logical_or, logical_not}
use Rattle.cpa_expr.specs.Values.{conditional, value_of}
use Rattle.cpa_expr.specs.Evaluations.{IsTruthy, IsZero}
use Rattle.cpa_expr.specs.Laws.{value_at_variants}
use Rattle.cpa_expr.specs.lemmas.CellsRead.{both_same}
use Rattle.cpa_trap_checks.specs.Checks.{Check, either, where_nonzero, unless, as_expr, picked}
use Rattle.cpa_trap_checks.specs.Tells.{Tells, tells, tells_not}

-- a number is 0 or another
zero_or_other : (v : ℤ) → (v ≡ pos 0) ⊎ ((v ≢ pos 0) × (is_nonzero v ≡ true))
zero_or_other v = by (int_eq v (pos 0)) refl
  where
    by : (b : Bool) → int_eq v (pos 0) ≡ b → (v ≡ pos 0) ⊎ ((v ≢ pos 0) × (is_nonzero v ≡ true))
    by true e = inl ((Decides-int_eq v (pos 0)).0 e)
    by false e = inr (λ z. let t = (Decides-int_eq v (pos 0)).1 z in cc, ap not e)

some_is_not : Some (pos 0) ≡ Some (pos 1) → ⊥
some_is_not e = cc

module _ (values : List ℤ) where
  pub tell_same : (c : Check) (A B : Type 0) → Tells values c A → (A ↔ B) → Tells values c B
  tell_same c A B (tells v h) i = tells v (i.0 h)
  tell_same c A B (tells_not v h) i = tells_not v (λ b. h (i.1 b))

  pub none_tells : (A : Type 0) → Tells values None A → A → ⊥
  none_tells A (tells v h) a = some_is_not v
  none_tells A (tells_not v h) a = h a

  pub tell_none : (A : Type 0) → (A → ⊥) → Tells values None A
  tell_none A h = tells_not refl h

  -- ---- expressions

  or_value : (a b : Expr) (o p : Option ℤ) → value_of a values ≡ o → value_of b values ≡ p
      → value_of (Or a b) values ≡ logical_or o p
  or_value a b o p is are =
      value_at_variants.disjunction a b values
      ∙ both_same (Option ℤ) logical_or (value_of a values) o (value_of b values) p is are

  and_value : (a b : Expr) (o p : Option ℤ) → value_of a values ≡ o → value_of b values ≡ p
      → value_of (And a b) values ≡ logical_and o p
  and_value a b o p is are =
      value_at_variants.conjunction a b values
      ∙ both_same (Option ℤ) logical_and (value_of a values) o (value_of b values) p is are

  not_value : (a : Expr) (o : Option ℤ) → value_of a values ≡ o
      → value_of (Not a) values ≡ logical_not o
  not_value a o is = value_at_variants.negation a values ∙ ap logical_not is

  pub tell_or : (a b : Expr) (A B : Type 0) → Tells values (Some a) A
      → ((A → ⊥) → Tells values (Some b) B) → Tells values (Some (Or a b)) (A ⊎ B)
  tell_or a b A B (tells v h) k =
      tells (or_value a b (Some (pos 1)) (value_of b values) v refl) (inl h)
  tell_or a b A B (tells_not v h) k = by (k h)
    where
      by : Tells values (Some b) B → Tells values (Some (Or a b)) (A ⊎ B)
      by (tells w l) = tells (or_value a b (Some (pos 0)) (Some (pos 1)) v w) (inr l)
      by (tells_not w l) =
          tells_not (or_value a b (Some (pos 0)) (Some (pos 0)) v w)
          (λ s. elim s [ inl i ↦ h i | inr i ↦ l i ])

  pub tell_and : (a b : Expr) (A B : Type 0) → Tells values (Some a) A
      → (A → Tells values (Some b) B) → Tells values (Some (And a b)) (A × B)
  tell_and a b A B (tells_not v h) k =
      tells_not (and_value a b (Some (pos 0)) (value_of b values) v refl) (λ s. h s.0)
  tell_and a b A B (tells v h) k = by (k h)
    where
      by : Tells values (Some b) B → Tells values (Some (And a b)) (A × B)
      by (tells w l) = tells (and_value a b (Some (pos 1)) (Some (pos 1)) v w) (h, l)
      by (tells_not w l) =
          tells_not (and_value a b (Some (pos 1)) (Some (pos 0)) v w) (λ s. l s.1)

  pub tell_not : (a : Expr) (A : Type 0) → Tells values (Some a) A
      → Tells values (Some (Not a)) (A → ⊥)
  tell_not a A (tells v h) = tells_not (not_value a (Some (pos 1)) v) (λ k. k h)
  tell_not a A (tells_not v h) = tells (not_value a (Some (pos 0)) v) h

  -- ---- what the value of an expression decides

  pub truthy : (e : Expr) (v : ℤ) → value_of e values ≡ Some v → v ≢ pos 0 → IsTruthy values e
  truthy e v is other = subst (λ o. IsSomeAnd o (λ a. a ≢ pos 0)) (sym is) other

  pub not_both : (e : Expr) → IsTruthy values e → IsZero values e → ⊥
  not_both e t z = subst (λ o. IsSomeAnd o (λ a. a ≢ pos 0)) z t refl

  and_other : (e c : Expr) (v : ℤ) (o : Option ℤ) → value_of e values ≡ Some v
      → is_nonzero v ≡ true → value_of c values ≡ o → value_of (And e c) values ≡ truth_of o
  and_other e c v o is other are =
      and_value e c (Some v) o is are
      ∙ ap (λ b. if b then truth_of o else Some (pos 0)) other

  -- a check that counts where the expression is nonzero
  pub tell_where_nonzero : (e : Expr) (c : Check) (v : ℤ) (A : Type 0)
      → value_of e values ≡ Some v → (IsTruthy values e → Tells values c A)
      → Tells values (where_nonzero e c) (IsTruthy values e × A)
  tell_where_nonzero e None v A is k =
      tell_none (IsTruthy values e × A) (λ s. none_tells A (k s.0) s.1)
  tell_where_nonzero e (Some c) v A is k = by (zero_or_other v)
    where
      by : (v ≡ pos 0) ⊎ ((v ≢ pos 0) × (is_nonzero v ≡ true))
          → Tells values (Some (And e c)) (IsTruthy values e × A)
      by (inl z) =
          tells_not (and_value e c (Some (pos 0)) (value_of c values) (is ∙ ap Some z) refl)
          (λ s. not_both e s.0 (is ∙ ap Some z))
      by (inr o) = told (k (truthy e v is o.0))
        where
          told : Tells values (Some c) A → Tells values (Some (And e c)) (IsTruthy values e × A)
          told (tells w h) =
              tells (and_other e c v (Some (pos 1)) is o.1 w) (truthy e v is o.0, h)
          told (tells_not w h) =
              tells_not (and_other e c v (Some (pos 0)) is o.1 w) (λ s. h s.1)

  -- the negation of an expression is nonzero exactly where the expression is zero
  not_truthy : (e : Expr) (v : ℤ) → value_of e values ≡ Some v
      → IsTruthy values (Not e) ↔ IsZero values e
  not_truthy e v is = by (zero_or_other v)
    where
      by : (v ≡ pos 0) ⊎ ((v ≢ pos 0) × (is_nonzero v ≡ true))
          → IsTruthy values (Not e) ↔ IsZero values e
      by (inl z) = (
        λ t. is ∙ ap Some z,
        λ n. truthy (Not e) (pos 1) (not_value e (Some (pos 0)) n) (λ q. cc),
      )
      by (inr o) =
          let none : value_of (Not e) values ≡ Some (pos 0) = not_value e (Some v) is
          ∙ ap (λ b. Some (truth (not b))) o.1 in (
            λ t. absurd (not_both (Not e) t none),
            λ n. absurd (not_both e (truthy e v is o.0) n),
          )

  not_has : (e : Expr) (v : ℤ) → value_of e values ≡ Some v
      → value_of (Not e) values ≡ Some (truth (not (is_nonzero v)))
  not_has e v is = not_value e (Some v) is

  -- a check that counts where the expression is zero
  pub tell_where_zero : (e : Expr) (c : Check) (v : ℤ) (A : Type 0)
      → value_of e values ≡ Some v → (IsZero values e → Tells values c A)
      → Tells values (where_nonzero (Not e) c) (IsZero values e × A)
  tell_where_zero e c v A is k =
      let same = not_truthy e v is in
      tell_same (where_nonzero (Not e) c) (IsTruthy values (Not e) × A) (IsZero values e × A)
      (tell_where_nonzero (Not e) c (truth (not (is_nonzero v))) A (not_has e v is)
      (λ t. k (same.0 t)))
      (λ s. (same.0 s.0, s.1), λ s. (same.1 s.0, s.1))

  -- ---- checks

  pub tell_either : (a b : Check) (A B : Type 0) → Tells values a A
      → ((A → ⊥) → Tells values b B) → Tells values (either a b) (A ⊎ B)
  tell_either None b A B h k =
      let never = none_tells A h in
      tell_same b B (A ⊎ B) (k never)
      (λ i. inr i, λ s. elim s [ inl i ↦ absurd (never i) | inr i ↦ i ])
  tell_either (Some a) None A B h k = by h
    where
      by : Tells values (Some a) A → Tells values (Some a) (A ⊎ B)
      by (tells v i) = tells v (inl i)
      by (tells_not v i) =
          tells_not v (λ s. elim s [ inl j ↦ i j | inr j ↦ none_tells B (k i) j ])
  tell_either (Some a) (Some b) A B h k = tell_or a b A B h k

  pub tell_unless : (d c : Check) (D C : Type 0) → Tells values d D
      → ((D → ⊥) → Tells values c C) → Tells values (unless d c) ((D → ⊥) × C)
  tell_unless None c D C h k =
      let never = none_tells D h in
      tell_same c C ((D → ⊥) × C) (k never) (λ i. (never, i), λ s. s.1)
  tell_unless (Some d) None D C h k =
      tell_none ((D → ⊥) × C) (λ s. none_tells C (k s.0) s.1)
  tell_unless (Some d) (Some c) D C h k =
      tell_and (Not d) c (D → ⊥) C (tell_not d D h) k

  -- a check as an expression
  as_expr_tells : (c : Check) (A : Type 0) → Tells values c A → Tells values (Some (as_expr c)) A
  as_expr_tells None A h =
      tells_not (value_at_variants.constant ty.I32 (pos 0) values) (none_tells A h)
  as_expr_tells (Some c) A h = h

  chosen_value : (e y n : Expr) (v : ℤ) → value_of e values ≡ Some v
      → value_of (Cond ty.I32 e y n) values
      ≡ (if is_nonzero v then value_of y values else value_of n values)
  chosen_value e y n v is =
      value_at_variants.conditional ty.I32 e y n values
      ∙ ap (λ o. conditional o (value_of y values) (value_of n values)) is

  -- one of two checks, picked by an expression
  chosen : (e y n : Expr) (v : ℤ) (A B : Type 0) → value_of e values ≡ Some v
      → (IsTruthy values e → Tells values (Some y) A)
      → (IsZero values e → Tells values (Some n) B)
      → Tells values (Some (Cond ty.I32 e y n)) ((IsTruthy values e × A) ⊎ (IsZero values e × B))
  chosen e y n v A B is k l = by (zero_or_other v)
    where
      by : (v ≡ pos 0) ⊎ ((v ≢ pos 0) × (is_nonzero v ≡ true))
          → Tells values (Some (Cond ty.I32 e y n))
          ((IsTruthy values e × A) ⊎ (IsZero values e × B))
      by (inl z) = told (l is_zero)
        where
          is_zero : IsZero values e
          is_zero = is ∙ ap Some z

          whole : value_of (Cond ty.I32 e y n) values ≡ value_of n values
          whole = chosen_value e y n (pos 0) is_zero

          told : Tells values (Some n) B → Tells values (Some (Cond ty.I32 e y n))
              ((IsTruthy values e × A) ⊎ (IsZero values e × B))
          told (tells w h) = tells (whole ∙ w) (inr (is_zero, h))
          told (tells_not w h) =
              tells_not (whole ∙ w) (λ s. elim s [
                | inl i ↦ not_both e i.0 is_zero
                | inr i ↦ h i.1
              ])
      by (inr o) = told (k other)
        where
          other : IsTruthy values e
          other = truthy e v is o.0

          whole : value_of (Cond ty.I32 e y n) values ≡ value_of y values
          whole =
              chosen_value e y n v is
              ∙ ap (λ b. if b then value_of y values else value_of n values) o.1

          told : Tells values (Some y) A → Tells values (Some (Cond ty.I32 e y n))
              ((IsTruthy values e × A) ⊎ (IsZero values e × B))
          told (tells w h) = tells (whole ∙ w) (inl (other, h))
          told (tells_not w h) =
              tells_not (whole ∙ w) (λ s. elim s [
                | inl i ↦ h i.1
                | inr i ↦ not_both e other i.0
              ])

  pub tell_picked : (e : Expr) (y n : Check) (v : ℤ) (A B : Type 0) → value_of e values ≡ Some v
      → (IsTruthy values e → Tells values y A) → (IsZero values e → Tells values n B)
      → Tells values (picked e y n) ((IsTruthy values e × A) ⊎ (IsZero values e × B))
  tell_picked e None None v A B is k l =
      tell_none ((IsTruthy values e × A) ⊎ (IsZero values e × B)) (λ s. elim s [
        | inl i ↦ none_tells A (k i.0) i.1
        | inr i ↦ none_tells B (l i.0) i.1
      ])
  tell_picked e None (Some n) v A B is k l =
      chosen e (as_expr None) n v A B is (λ t. as_expr_tells None A (k t)) l
  tell_picked e (Some y) None v A B is k l =
      chosen e y (as_expr None) v A B is k (λ z. as_expr_tells None B (l z))
  tell_picked e (Some y) (Some n) v A B is k l = chosen e y n v A B is k l
