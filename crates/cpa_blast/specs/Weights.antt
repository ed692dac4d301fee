-- The weight of an expression (this project's own): about how many gates it takes, by which a
-- budget bounds a query before any gate is made.
use Rattle.std.specs.Prelude.{ℕ, ◌+◌, ◌*◌, ◌==◌, sum, if◌then◌else◌}
use Rattle.cpa_ints.specs.declared.integers.IntType.{IntType}
use Rattle.cpa_ints.specs.Integers.{width}
use Rattle.cpa_expr.specs.declared.tree.BinOp.{BinOp}
use Rattle.cpa_expr.specs.declared.tree.BinOp.TheVariants as op
use Rattle.cpa_expr.specs.declared.tree.Expr.{Expr}
use Rattle.cpa_expr.specs.declared.tree.Expr.TheOpen.{Expr-F}
use Rattle.cpa_expr.specs.declared.tree.Expr.TheFolds.{fold-Expr}
use Rattle.cpa_expr.specs.Shape.{parts}

-- one row of gates; one for each bit; or one for each of eight bits of an amount
abbrev pub bin_weight : BinOp → IntType → ℕ
bin_weight op.Add t = width t
bin_weight op.Sub t = width t
bin_weight op.Mul t = width t * width t
bin_weight op.Div t = width t * width t
bin_weight op.Rem t = width t * width t
bin_weight op.BitAnd t = width t
bin_weight op.BitOr t = width t
bin_weight op.BitXor t = width t
bin_weight op.Shl t = 8 * width t
bin_weight op.Shr t = 8 * width t

-- a scalar is there, and of an array each bit of each cell may be chosen
abbrev pub read_weight : IntType → ℕ → ℕ
read_weight t len = if len == 1 then 0 else len * width t

-- what a node adds to the weights of its parts; the width is that of its type, and of a comparison
-- that of its operands
abbrev pub own_weight : {A : Type 0} → Expr-F A → ℕ
own_weight (Expr-F.Const t n) = 0
own_weight (Expr-F.Read t base len index) = read_weight t len
own_weight (Expr-F.Un o t arg) = width t
own_weight (Expr-F.Bin o t left right) = bin_weight o t
own_weight (Expr-F.Cmp o t left right) = width t
own_weight (Expr-F.Cast t arg) = 1
own_weight (Expr-F.And left right) = 1
own_weight (Expr-F.Or left right) = 1
own_weight (Expr-F.Not arg) = 1
own_weight (Expr-F.Cond t test first second) = width t

-- a node, with the weight of each part in its place
abbrev pub weight_step : Expr-F ℕ → ℕ
weight_step node = own_weight node + sum (parts node)

abbrev pub weight : Expr → ℕ
weight = fold-Expr ℕ weight_step
