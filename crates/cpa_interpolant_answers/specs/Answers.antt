-- What comes of one cut of a path: the expression behind it (interpolants along a path: McMillan,
-- CAV 2006), or why there is none (the bounds are this project's own).
use Rattle.std.specs.Prelude.{◌≡◌, ℕ, ◌<◌, ◌≤◌, ℤ, true, false, List, [], ◌∷◌}
use Rattle.cpa_cnf.specs.declared.formula.Cnf.{Cnf}
use Rattle.cpa_cnf.specs.declared.formula.Line.{Line}
use Rattle.cpa_sat.specs.Outcomes.{IsRefutedWithin, IsSpent}
use Rattle.cpa_expr.specs.declared.tree.Expr.{Expr}
use Rattle.cpa_expr.specs.Values.{HasTruth}
use Rattle.cpa_model.specs.declared.program.Cell.{Cell}
use Rattle.cpa_model.specs.declared.automaton.Act.{Act}
use Rattle.cpa_model.specs.declared.automaton.Cfa.{Cfa}
use Rattle.cpa_model.specs.Expressions.{IsExpr}
use Rattle.cpa_interpolant_bits.specs.Limits.{is_large}
use Rattle.cpa_interpolant_rules.specs.Stores.{RunsFrom}
use Rattle.cpa_interpolant_rules.specs.Interpolants.{IsNext, zero}
use Rattle.cpa_interpolant_rules.specs.Parts.{before_cut, behind_cut}
use Rattle.cpa_interpolant_cuts.specs.Cuts.{formula_of, expr_of}
use Rattle.cpa_interpolant_rules.specs.Found.{weight_at}
use Rattle.cpa_interpolant_answers.specs.declared.answer.Answer.{Answer}
use Rattle.cpa_interpolant_answers.specs.declared.answer.Answer.TheVariants.{Next, Run, Learnt}
use Rattle.cpa_interpolant_answers.specs.declared.answer.Answer.TheVariants.{Gates, Large}

-- At the cut behind e and the edge with the act a, before these edges: the joined formula of its
-- two parts, and the expression of the last partial of lines that refute it.
abbrev pub formula_at : Cfa → Expr → Act → List Act → Cnf
formula_at cfa e a acts =
    formula_of cfa.cells (before_cut cfa.cells e a) (behind_cut cfa.cells acts)

abbrev pub expr_at : Cfa → Expr → Act → List Act → List Line → Expr
expr_at cfa e a acts lines =
    expr_of cfa.cells (before_cut cfa.cells e a) (behind_cut cfa.cells acts) lines

-- The expression of these lines, not too large; behind the last edge it is 0.
abbrev pub IsExprBehind : Cfa → Expr → Act → List Act → List Line → Expr → Type 0
IsExprBehind cfa e a [] lines f = f ≡ zero
IsExprBehind cfa e a (b ∷ acts) lines f =
    (f ≡ expr_at cfa e a (b ∷ acts) lines) × (is_large f ≡ false)

-- the cut is done within the budgets: lines that refute its formula give the expression f
pub record IsDone (cfa : Cfa) (learnt gates : ℕ) (e : Expr) (a : Act) (acts : List Act)
    (f : Expr) : Type 0 where
  pub weighs : weight_at cfa.cells e a acts ≤ gates
  pub lines : List Line
  pub refuted : IsRefutedWithin (formula_at cfa e a acts) learnt lines
  pub expr : IsExprBehind cfa e a acts lines f

-- a run of stores goes along the edges from a store where the expression is nonzero
pub record HasRun (cells : List Cell) (acts : List Act) (e : Expr) : Type 0 where
  pub store : List ℤ
  pub holds : HasTruth store e true
  pub run : RunsFrom cells acts store

-- all lines that are allowed, over the cut's formula
pub record IsLearnt (cfa : Cfa) (learnt gates : ℕ) (e : Expr) (a : Act) (acts : List Act)
    (lines : List Line) : Type 0 where
  pub weighs : weight_at cfa.cells e a acts ≤ gates
  pub spent : IsSpent (formula_at cfa e a acts) learnt lines

-- the weight of the cut's parts, which is more than is allowed
pub record IsHeavy (cfa : Cfa) (gates : ℕ) (e : Expr) (a : Act) (acts : List Act)
    (weight : ℕ) : Type 0 where
  pub is : weight ≡ weight_at cfa.cells e a acts
  pub more : gates < weight

-- lines that refute the cut's formula, of which the expression is too large
pub record IsLarge (cfa : Cfa) (learnt gates : ℕ) (e : Expr) (a : Act) (acts : List Act)
    (lines : List Line) : Type 0 where
  pub weighs : weight_at cfa.cells e a acts ≤ gates
  pub refuted : IsRefutedWithin (formula_at cfa e a acts) learnt lines
  pub large : is_large (expr_at cfa e a acts lines) ≡ true

-- the expression behind the cut: the next interpolant of the path, over the cells of the program
pub record IsNextBehind (cfa : Cfa) (learnt gates : ℕ) (e : Expr) (a : Act) (acts : List Act)
    (f : Expr) : Type 0 where
  pub done : IsDone cfa learnt gates e a acts f
  pub next : IsNext cfa.cells a acts e f
  pub expr : IsExpr cfa.cells f

abbrev pub IsAnswer : Cfa → ℕ → ℕ → Expr → Act → List Act → Answer → Type 0
IsAnswer cfa learnt gates e a acts (Next f) = IsNextBehind cfa learnt gates e a acts f
IsAnswer cfa learnt gates e a acts Run =
    (weight_at cfa.cells e a acts ≤ gates) × HasRun cfa.cells (a ∷ acts) e
IsAnswer cfa learnt gates e a acts (Learnt lines) =
    IsLearnt cfa learnt gates e a acts lines.items
IsAnswer cfa learnt gates e a acts (Gates weight) = IsHeavy cfa gates e a acts weight
IsAnswer cfa learnt gates e a acts (Large lines) =
    IsLarge cfa learnt gates e a acts lines.items
