-- Which nodes the evaluation of an expression meets, up to where it traps. The right side of && and
-- ||, and an end of a conditional, are evaluated by the value of the first part alone (C11 6.5.13
-- to 6.5.15). Of two operands the left one is evaluated first (this project's own).
use Rattle.std.specs.Prelude.{◌≡◌, ◌≢◌, ◌⊎◌, ℤ, pos, List, Some, IsSome, IsSomeAnd}
use Rattle.cpa_expr.specs.declared.tree.Expr.{Expr, out-Expr}
use Rattle.cpa_expr.specs.declared.tree.Expr.TheOpen.{Expr-F}
use Rattle.cpa_expr.specs.Values.{value_of}

-- the expression has a value other than 0
abbrev pub IsTruthy : List ℤ → Expr → Type 0
IsTruthy values e = IsSomeAnd (value_of e values) (λ a. a ≢ pos 0)

-- the expression has the value 0
abbrev pub IsZero : List ℤ → Expr → Type 0
IsZero values e = value_of e values ≡ Some (pos 0)

-- to evaluate the node is to evaluate the part
abbrev pub Evaluates : List ℤ → Expr-F Expr → Expr → Type 0
Evaluates values (Expr-F.Const t n) p = ⊥
Evaluates values (Expr-F.Read t base len index) p = p ≡ index
Evaluates values (Expr-F.Un o t arg) p = p ≡ arg
Evaluates values (Expr-F.Bin o t left right) p =
    (p ≡ left) ⊎ (IsSome (value_of left values) × (p ≡ right))
Evaluates values (Expr-F.Cmp o t left right) p =
    (p ≡ left) ⊎ (IsSome (value_of left values) × (p ≡ right))
Evaluates values (Expr-F.Cast t arg) p = p ≡ arg
Evaluates values (Expr-F.And left right) p = (p ≡ left) ⊎ (IsTruthy values left × (p ≡ right))
Evaluates values (Expr-F.Or left right) p = (p ≡ left) ⊎ (IsZero values left × (p ≡ right))
Evaluates values (Expr-F.Not arg) p = p ≡ arg
Evaluates values (Expr-F.Cond t test first second) p =
    (p ≡ test) ⊎ (IsTruthy values test × (p ≡ first)) ⊎ (IsZero values test × (p ≡ second))

-- the evaluation meets a node such that P: the node itself, or one in a part that it evaluates
pub data Meets (values : List ℤ) (P : Expr-F Expr → Type 0) : Expr → Type 0 where
  at_node : (e : Expr) → P (out-Expr e) → Meets values P e
  in_part : (e part : Expr)
      → Evaluates values (out-Expr e) part → Meets values P part → Meets values P e
