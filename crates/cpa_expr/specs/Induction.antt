-- Induction on expressions, variant by variant: what holds of each variant where it holds of the
-- parts holds of every expression.
use Rattle.std.specs.Prelude.{ℕ, ℤ}
use Rattle.std.proofs.Common.{sym, subst}
use Rattle.cpa_ints.specs.declared.integers.IntType.{IntType}
use Rattle.cpa_expr.specs.declared.tree.UnOp.{UnOp}
use Rattle.cpa_expr.specs.declared.tree.BinOp.{BinOp}
use Rattle.cpa_expr.specs.declared.tree.CmpOp.{CmpOp}
use Rattle.cpa_expr.specs.declared.tree.Expr.{Expr, roll-Expr}
use Rattle.cpa_expr.specs.declared.tree.Expr.TheVariants.{Const, Read, Un, Bin, Cmp, Cast, And, Or}
use Rattle.cpa_expr.specs.declared.tree.Expr.TheVariants.{Not, Cond, rolls-Const, rolls-Read}
use Rattle.cpa_expr.specs.declared.tree.Expr.TheVariants.{rolls-Un, rolls-Bin, rolls-Cmp}
use Rattle.cpa_expr.specs.declared.tree.Expr.TheVariants.{rolls-Cast, rolls-And, rolls-Or}
use Rattle.cpa_expr.specs.declared.tree.Expr.TheVariants.{rolls-Not, rolls-Cond}
use Rattle.cpa_expr.specs.declared.tree.Expr.TheOpen.{Expr-F}
use Rattle.cpa_expr.specs.Shape.{OfParts}
use Rattle.cpa_expr.specs.lemmas.Parts.{by_parts}

pub record Cases (P : Expr → Type 0) : Type 0 where
  pub constant : (t : IntType) (n : ℤ) → P (Const t n)
  pub read : (t : IntType) (base len : ℕ) (index : Expr) → P index → P (Read t base len index)
  pub unary : (o : UnOp) (t : IntType) (arg : Expr) → P arg → P (Un o t arg)
  pub binary : (o : BinOp) (t : IntType) (left right : Expr)
      → P left → P right → P (Bin o t left right)
  pub comparison : (o : CmpOp) (t : IntType) (left right : Expr)
      → P left → P right → P (Cmp o t left right)
  pub cast : (t : IntType) (arg : Expr) → P arg → P (Cast t arg)
  pub conjunction : (left right : Expr) → P left → P right → P (And left right)
  pub disjunction : (left right : Expr) → P left → P right → P (Or left right)
  pub negation : (arg : Expr) → P arg → P (Not arg)
  pub conditional : (t : IntType) (test first second : Expr)
      → P test → P first → P second → P (Cond t test first second)

module _ (P : Expr → Type 0) (cases : Cases P) where
  layer : (x : Expr-F Expr) → OfParts P x → P (roll-Expr x)
  layer (Expr-F.Const t n) h = subst P (sym (rolls-Const t n)) (cases.constant t n)
  layer (Expr-F.Read t base len index) h =
      subst P (sym (rolls-Read t base len index)) (cases.read t base len index h.0)
  layer (Expr-F.Un o t arg) h = subst P (sym (rolls-Un o t arg)) (cases.unary o t arg h.0)
  layer (Expr-F.Bin o t left right) h =
      subst P (sym (rolls-Bin o t left right)) (cases.binary o t left right h.0 (h.1).0)
  layer (Expr-F.Cmp o t left right) h =
      subst P (sym (rolls-Cmp o t left right)) (cases.comparison o t left right h.0 (h.1).0)
  layer (Expr-F.Cast t arg) h = subst P (sym (rolls-Cast t arg)) (cases.cast t arg h.0)
  layer (Expr-F.And left right) h =
      subst P (sym (rolls-And left right)) (cases.conjunction left right h.0 (h.1).0)
  layer (Expr-F.Or left right) h =
      subst P (sym (rolls-Or left right)) (cases.disjunction left right h.0 (h.1).0)
  layer (Expr-F.Not arg) h = subst P (sym (rolls-Not arg)) (cases.negation arg h.0)
  layer (Expr-F.Cond t test first second) h =
      subst P (sym (rolls-Cond t test first second))
      (cases.conditional t test first second h.0 (h.1).0 ((h.1).1).0)

  pub by_variants : (e : Expr) → P e
  by_variants = by_parts P layer
