-- The parts of a node as a list (this project's own).
use Rattle.std.specs.Prelude.{List, [], ◌∷◌}
use Rattle.cpa_expr.specs.declared.tree.Expr.{Expr}
use Rattle.cpa_expr.specs.declared.parts.Parts.{Parts as PartsOf}
use Rattle.cpa_expr.specs.declared.parts.Parts.TheVariants as of

abbrev pub part_list : PartsOf → List Expr
part_list of.None = []
part_list (of.One a) = a.now ∷ []
part_list (of.Two a b) = a.now ∷ b.now ∷ []
part_list (of.Three a b c) = a.now ∷ b.now ∷ c.now ∷ []
