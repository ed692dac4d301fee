-- What the evaluation of each variant meets: the node itself, or what its parts meet where they are
-- evaluated.
use Rattle.std.proofs.Common.{◌≡◌, ◌↔◌, ◌⊎◌, inl, inr, ℕ, ℤ, List, IsSome, refl, sym, ap, subst}
use Rattle.std.proofs.Common.{◌∙◌}
use Rattle.cpa_ints.specs.declared.integers.IntType.{IntType}
use Rattle.cpa_expr.specs.declared.tree.UnOp.{UnOp}
use Rattle.cpa_expr.specs.declared.tree.BinOp.{BinOp}
use Rattle.cpa_expr.specs.declared.tree.CmpOp.{CmpOp}
use Rattle.cpa_expr.specs.declared.tree.Expr.{Expr, out-Expr, roll-Expr}
use Rattle.cpa_expr.specs.declared.tree.Expr.TheViews.{out-roll-Expr}
use Rattle.cpa_expr.specs.declared.tree.Expr.TheVariants.{Const, Read, Un, Bin, Cmp, Cast, And, Or}
use Rattle.cpa_expr.specs.declared.tree.Expr.TheVariants.{Not, Cond, rolls-Const, rolls-Read}
use Rattle.cpa_expr.specs.declared.tree.Expr.TheVariants.{rolls-Un, rolls-Bin, rolls-Cmp}
use Rattle.cpa_expr.specs.declared.tree.Expr.TheVariants.{rolls-Cast, rolls-And, rolls-Or}
use Rattle.cpa_expr.specs.declared.tree.Expr.TheVariants.{rolls-Not, rolls-Cond}
use Rattle.cpa_expr.specs.declared.tree.Expr.TheOpen.{Expr-F}
use Rattle.cpa_expr.specs.Values.{value_of}
use Rattle.cpa_expr.specs.Evaluations.{IsTruthy, IsZero, Evaluates, Meets, at_node, in_part}

module _ (values : List ℤ) (P : Expr-F Expr → Type 0) where
  abbrev M : Expr → Type 0
  M = Meets values P

  -- a part that is evaluated meets one
  abbrev InPart : Expr-F Expr → Type 0
  InPart x = (p : Expr) × Evaluates values x p × M p

  apart : (e : Expr) → M e → P (out-Expr e) ⊎ InPart (out-Expr e)
  apart e (at_node d h) = inl h
  apart e (in_part d p ev m) = inr (p, ev, m)

  together : (e : Expr) → P (out-Expr e) ⊎ InPart (out-Expr e) → M e
  together e (inl h) = at_node e h
  together e (inr h) = in_part e h.0 h.1 h.2

  at : (e : Expr) (x : Expr-F Expr) → roll-Expr x ≡ e → M e ↔ (P x ⊎ InPart x)
  at e x is =
      subst (λ y. M e ↔ (P y ⊎ InPart y)) (ap out-Expr (sym is) ∙ out-roll-Expr x)
      (apart e, together e)

  as_part : (p q : Expr) → p ≡ q → M p → M q
  as_part p q is m = subst M is m

  pub meets_constant : (t : IntType) (n : ℤ) → M (Const t n) ↔ P (Expr-F.Const t n)
  meets_constant t n =
      let both = at (Const t n) (Expr-F.Const t n) (rolls-Const t n) in
      (λ m. elim (both.0 m) [ inl h ↦ h | inr h ↦ absurd h.1 ], λ h. both.1 (inl h))

  -- the node x has one part, which is evaluated
  one : (e arg : Expr) (x : Expr-F Expr) → roll-Expr x ≡ e
      → ((p : Expr) → Evaluates values x p ↔ (p ≡ arg)) → M e ↔ (P x ⊎ M arg)
  one e arg x is parts =
      let both = at e x is in (
        λ m. elim (both.0 m) [
          | inl h ↦ inl h
          | inr h ↦ inr (as_part h.0 arg ((parts h.0).0 h.1) h.2)
        ],
        λ h. elim h [
          | inl k ↦ both.1 (inl k)
          | inr k ↦ both.1 (inr (arg, (parts arg).1 refl, k))
        ],
      )

  -- the node x has two parts; the second one is evaluated where G holds
  two : (e left right : Expr) (x : Expr-F Expr) (G : Type 0) → roll-Expr x ≡ e
      → ((p : Expr) → Evaluates values x p ↔ ((p ≡ left) ⊎ (G × (p ≡ right))))
      → M e ↔ (P x ⊎ M left ⊎ (G × M right))
  two e left right x G is parts =
      let both = at e x is in (
        λ m. elim (both.0 m) [
          | inl h ↦ inl h
          | inr h ↦ elim ((parts h.0).0 h.1) [
            | inl k ↦ inr (inl (as_part h.0 left k h.2))
            | inr k ↦ inr (inr (k.0, as_part h.0 right k.1 h.2))
          ]
        ],
        λ h. elim h [
          | inl k ↦ both.1 (inl k)
          | inr k ↦ elim k [
            | inl m ↦ both.1 (inr (left, (parts left).1 (inl refl), m))
            | inr m ↦ both.1 (inr (right, (parts right).1 (inr (m.0, refl)), m.1))
          ]
        ],
      )

  pub meets_read : (t : IntType) (base len : ℕ) (index : Expr)
      → M (Read t base len index) ↔ (P (Expr-F.Read t base len index) ⊎ M index)
  meets_read t base len index =
      one (Read t base len index) index (Expr-F.Read t base len index)
      (rolls-Read t base len index) (λ p. (λ h. h, λ h. h))

  pub meets_unary : (o : UnOp) (t : IntType) (arg : Expr)
      → M (Un o t arg) ↔ (P (Expr-F.Un o t arg) ⊎ M arg)
  meets_unary o t arg =
      one (Un o t arg) arg (Expr-F.Un o t arg) (rolls-Un o t arg) (λ p. (λ h. h, λ h. h))

  pub meets_binary : (o : BinOp) (t : IntType) (left right : Expr)
      → M (Bin o t left right)
      ↔ (P (Expr-F.Bin o t left right) ⊎ M left ⊎ (IsSome (value_of left values) × M right))
  meets_binary o t left right =
      two (Bin o t left right) left right (Expr-F.Bin o t left right)
      (IsSome (value_of left values)) (rolls-Bin o t left right) (λ p. (λ h. h, λ h. h))

  pub meets_comparison : (o : CmpOp) (t : IntType) (left right : Expr)
      → M (Cmp o t left right)
      ↔ (P (Expr-F.Cmp o t left right) ⊎ M left ⊎ (IsSome (value_of left values) × M right))
  meets_comparison o t left right =
      two (Cmp o t left right) left right (Expr-F.Cmp o t left right)
      (IsSome (value_of left values)) (rolls-Cmp o t left right) (λ p. (λ h. h, λ h. h))

  pub meets_cast : (t : IntType) (arg : Expr)
      → M (Cast t arg) ↔ (P (Expr-F.Cast t arg) ⊎ M arg)
  meets_cast t arg =
      one (Cast t arg) arg (Expr-F.Cast t arg) (rolls-Cast t arg) (λ p. (λ h. h, λ h. h))

  pub meets_conjunction : (left right : Expr)
      → M (And left right)
      ↔ (P (Expr-F.And left right) ⊎ M left ⊎ (IsTruthy values left × M right))
  meets_conjunction left right =
      two (And left right) left right (Expr-F.And left right) (IsTruthy values left)
      (rolls-And left right) (λ p. (λ h. h, λ h. h))

  pub meets_disjunction : (left right : Expr)
      → M (Or left right)
      ↔ (P (Expr-F.Or left right) ⊎ M left ⊎ (IsZero values left × M right))
  meets_disjunction left right =
      two (Or left right) left right (Expr-F.Or left right) (IsZero values left)
      (rolls-Or left right) (λ p. (λ h. h, λ h. h))

  pub meets_negation : (arg : Expr) → M (Not arg) ↔ (P (Expr-F.Not arg) ⊎ M arg)
  meets_negation arg =
      one (Not arg) arg (Expr-F.Not arg) (rolls-Not arg) (λ p. (λ h. h, λ h. h))

  pub meets_conditional : (t : IntType) (test first second : Expr)
      → M (Cond t test first second)
      ↔ (P (Expr-F.Cond t test first second) ⊎ M test
      ⊎ (IsTruthy values test × M first) ⊎ (IsZero values test × M second))
  meets_conditional t test first second =
      let both = at (Cond t test first second) (Expr-F.Cond t test first second)
      (rolls-Cond t test first second) in (
        λ m. elim (both.0 m) [
          | inl h ↦ inl h
          | inr h ↦ elim h.1 [
            | inl k ↦ inr (inl (as_part h.0 test k h.2))
            | inr k ↦ elim k [
              | inl l ↦ inr (inr (inl (l.0, as_part h.0 first l.1 h.2)))
              | inr l ↦ inr (inr (inr (l.0, as_part h.0 second l.1 h.2)))
            ]
          ]
        ],
        λ h. elim h [
          | inl k ↦ both.1 (inl k)
          | inr k ↦ elim k [
            | inl m ↦ both.1 (inr (test, inl refl, m))
            | inr l ↦ elim l [
              | inl m ↦ both.1 (inr (first, inr (inl (m.0, refl)), m.1))
              | inr m ↦ both.1 (inr (second, inr (inr (m.0, refl)), m.1))
            ]
          ]
        ],
      )
