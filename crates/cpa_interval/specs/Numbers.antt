-- The numbers at which widening stops: each constant of an automaton's acts, with the number before
-- it and the one behind it (widening with thresholds: Blanchet et al., PLDI 2003, section 7.1.2;
-- which numbers, this project's own).
use Rattle.std.specs.Prelude.{ℤ, pos, ◌+ℤ◌, ◌-ℤ◌, List, [], ◌∷◌, ◌++◌}
use Rattle.std.specs.Int.{w128, saturate_signed}
use Rattle.cpa_expr.specs.declared.tree.Expr.{Expr}
use Rattle.cpa_expr.specs.declared.tree.Expr.TheOpen.{Expr-F}
use Rattle.cpa_expr.specs.declared.tree.Expr.TheFolds.{fold-Expr}
use Rattle.cpa_expr.specs.Shape.{parts}
use Rattle.cpa_model.specs.declared.automaton.Act.{Act}
use Rattle.cpa_model.specs.declared.automaton.Act.TheVariants as act
use Rattle.cpa_model.specs.declared.automaton.Edge.{Edge}
use Rattle.cpa_model.specs.declared.automaton.Cfa.{Cfa}

-- a number with the one before it and the one behind it, which stop where 128 bits end, beyond
-- every type
abbrev pub neighbours : ℤ → List ℤ
neighbours c =
    saturate_signed w128 (c -ℤ pos 1) ∷ c ∷ saturate_signed w128 (c +ℤ pos 1) ∷ []

-- all items of these lists, one list after another
abbrev pub joined : List (List ℤ) → List ℤ
joined [] = []
joined (l ∷ ls) = l ++ joined ls

-- a node, with the numbers of each part in its place
abbrev pub near_step : Expr-F (List ℤ) → List ℤ
near_step (Expr-F.Const t n) = neighbours n
near_step node = joined (parts node)

-- those of the constants of an expression
abbrev pub near_of : Expr → List ℤ
near_of = fold-Expr (List ℤ) near_step

-- those of these expressions
abbrev pub near_parts : List Expr → List ℤ
near_parts [] = []
near_parts (e ∷ es) = near_of e ++ near_parts es

abbrev pub near_act : Act → List ℤ
near_act (act.Assign base len index value) = near_of index ++ near_of value
near_act (act.Assume test holds) = near_of test
near_act other = []

abbrev pub near_along : List Edge → List ℤ
near_along [] = []
near_along (g ∷ gs) = near_act g.act ++ near_along gs

-- those of the constants of an automaton
abbrev pub near : Cfa → List ℤ
near cfa = near_along cfa.edges
