-- A text is that of one expression (this project's own).
use Rattle.std.specs.Prelude.{◌≡◌}
use Rattle.cpa_expr.specs.declared.tree.Expr.{Expr}
use Rattle.cpa_expr.specs.Spelling.{expr_text}
use Rattle.cpa_expr_text.specs.Reading.{Fits}

abbrev pub TextIsOfOne : Type 0
TextIsOfOne = (a b : Expr) → Fits a → Fits b → expr_text a ≡ expr_text b → a ≡ b
