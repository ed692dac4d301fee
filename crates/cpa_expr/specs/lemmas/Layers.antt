-- What is said of an expression, at a node.
use Rattle.std.proofs.Common.{◌≡◌, ℕ, ℤ, Bool, List, Option}
use Rattle.cpa_ints.specs.declared.integers.IntType.{IntType}
use Rattle.cpa_expr.specs.declared.tree.Expr.{Expr, roll-Expr}
use Rattle.cpa_expr.specs.declared.tree.Expr.TheOpen.{Expr-F}
use Rattle.cpa_expr.specs.declared.tree.Expr.TheFolds.{map-Expr, fold-roll-Expr}
use Rattle.cpa_expr.specs.Shape.{node_type, type_of, size_step, size, height_step, height}
use Rattle.cpa_expr.specs.Values.{value_step, value_of}
use Rattle.cpa_expr.specs.Cells.{reads_step, may_read}

-- the value of each part
abbrev pub values_in : List ℤ → Expr-F Expr → Expr-F (Option ℤ)
values_in values = map-Expr Expr (Option ℤ) (λ e. value_of e values)

pub value_rolled : (values : List ℤ) (x : Expr-F Expr) →
    value_of (roll-Expr x) values ≡ value_step values (values_in values x)
value_rolled values x = fold-roll-Expr (Option ℤ) (value_step values) x

pub type_rolled : (x : Expr-F Expr) →
    type_of (roll-Expr x) ≡ node_type (map-Expr Expr IntType type_of x)
type_rolled x = fold-roll-Expr IntType node_type x

pub size_rolled : (x : Expr-F Expr) → size (roll-Expr x) ≡ size_step (map-Expr Expr ℕ size x)
size_rolled x = fold-roll-Expr ℕ size_step x

pub height_rolled : (x : Expr-F Expr) →
    height (roll-Expr x) ≡ height_step (map-Expr Expr ℕ height x)
height_rolled x = fold-roll-Expr ℕ height_step x

pub reads_rolled : (cell : ℕ) (x : Expr-F Expr) →
    may_read (roll-Expr x) cell ≡ reads_step cell (map-Expr Expr Bool (λ e. may_read e cell) x)
reads_rolled cell x = fold-roll-Expr Bool (reads_step cell) x
