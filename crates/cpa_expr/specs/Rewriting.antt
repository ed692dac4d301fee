-- What a rewriting makes of an expression (this project's own).
use Rattle.std.specs.Prelude.{ℕ}
use Rattle.cpa_expr.specs.declared.tree.Expr.{Expr}
use Rattle.cpa_expr.specs.declared.replacing.Rewriting.{Rewriting as RewritingOf}
use Rattle.cpa_expr.specs.declared.replacing.Rewriting.TheVariants as of
use Rattle.cpa_expr.specs.Shape.{size}
use Rattle.cpa_expr.specs.Cells.{replaced}

abbrev pub image : RewritingOf → Expr → Expr
image of.Keep e = e
image (of.Replace cell by) e = replaced e cell by.now

-- how many nodes may take the place of one
abbrev pub weight : RewritingOf → ℕ
weight of.Keep = 0
weight (of.Replace cell by) = size by.now
