-- What the edges of an automaton name (this project's own).
use Rattle.std.specs.Prelude.{◌<◌, ◌≤◌, length, ⊤}
use Rattle.cpa_expr.specs.Shape.{type_of, AreCells}
use Rattle.cpa_model.specs.declared.automaton.Act.{Act}
use Rattle.cpa_model.specs.declared.automaton.Act.TheVariants as act
use Rattle.cpa_model.specs.declared.automaton.Edge.{Edge}
use Rattle.cpa_model.specs.declared.automaton.Cfa.{Cfa}
use Rattle.cpa_model.specs.Expressions.{types_of, IsExpr}

-- the act names what the automaton has, and its expressions are well typed over the cells
abbrev pub IsActOf : Cfa → Act → Type 0
IsActOf cfa act.Skip = ⊤
IsActOf cfa (act.Assign base len index value) =
    (1 ≤ len) × IsExpr cfa.cells index × IsExpr cfa.cells value
    × AreCells (types_of cfa.cells) base len (type_of value)
IsActOf cfa (act.Assume test holds) = IsExpr cfa.cells test
IsActOf cfa (act.Input cell) = cell < length cfa.cells
IsActOf cfa (act.Call site) = site < cfa.points
IsActOf cfa (act.Return site) = site < cfa.points

pub record IsEdgeOf (cfa : Cfa) (edge : Edge) : Type 0 where
  pub from : edge.from < cfa.points
  pub to : edge.to < cfa.points
  pub act : IsActOf cfa edge.act
