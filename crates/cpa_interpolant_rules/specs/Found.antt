-- Interpolants of a whole path that keep within a budget (the budget is this project's own).
use Rattle.std.specs.Prelude.{ℕ, ◌≤◌, ⊤, List, [], ◌∷◌}
use Rattle.std.specs.List.{AllByRecursion}
use Rattle.cpa_expr.specs.declared.tree.Expr.{Expr}
use Rattle.cpa_model.specs.declared.program.Cell.{Cell}
use Rattle.cpa_model.specs.declared.automaton.Act.{Act}
use Rattle.cpa_model.specs.Expressions.{IsExpr}
use Rattle.cpa_interpolant_rules.specs.Interpolants.{ArePathInterpolants, one}
use Rattle.cpa_interpolant_rules.specs.Parts.{before_cut, behind_cut, weight_of}

-- What the two parts of a path weigh together at the cut behind e and the edge with the act a,
-- before these edges.
abbrev pub weight_at : List Cell → Expr → Act → List Act → ℕ
weight_at cells e a acts = weight_of (before_cut cells e a) (behind_cut cells acts)

-- behind e the parts of each cut weigh at most so much, for as many cuts as there are expressions
abbrev pub AreLight : List Cell → ℕ → List Act → Expr → List Expr → Type 0
AreLight cells gates acts e [] = ⊤
AreLight cells gates [] e (f ∷ fs) = ⊥
AreLight cells gates (a ∷ acts) e (f ∷ fs) =
    (weight_at cells e a acts ≤ gates) × AreLight cells gates acts f fs

-- the first cut weighs at most so much
abbrev pub IsLight : List Cell → ℕ → List Act → Type 0
IsLight cells gates [] = ⊤
IsLight cells gates (a ∷ acts) = weight_at cells one a acts ≤ gates

-- interpolants of the whole path, well typed over the cells of the program, the two parts of each
-- cut no heavier than is allowed
pub record AreFound (cells : List Cell) (gates : ℕ) (acts : List Act) (exprs : List Expr) : Type 0
  where
    pub are : ArePathInterpolants cells acts exprs
    pub light : AreLight cells gates acts one are.interpolants.behind
    pub typed : AllByRecursion (IsExpr cells) exprs
