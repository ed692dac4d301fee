-- Interpolants along a path, cut after cut (McMillan, Lazy Abstraction with Interpolants, CAV
-- 2006), or why there are none (the bounds are this project's own).
use Rattle.std.specs.Prelude.{◌≡◌, ℕ, ⊤, List, [], ◌∷◌, drop, length}
use Rattle.cpa_expr.specs.declared.tree.Expr.{Expr}
use Rattle.cpa_model.specs.declared.automaton.Act.{Act}
use Rattle.cpa_model.specs.declared.automaton.Cfa.{Cfa}
use Rattle.cpa_query.specs.Queries.{IsModel}
use Rattle.cpa_interpolant_rules.specs.Interpolants.{AreInterpolants, last_of}
use Rattle.cpa_interpolant_rules.specs.Interpolants.{one}
use Rattle.cpa_interpolant_rules.specs.Parts.{behind_cut}
use Rattle.cpa_interpolant_rules.specs.Found.{IsLight, AreFound}
use Rattle.cpa_interpolant_answers.specs.Answers.{IsDone, IsLearnt, IsHeavy}
use Rattle.cpa_interpolant_answers.specs.Answers.{IsLarge}
use Rattle.cpa_interpolant.specs.declared.outcome.Along.{Along}
use Rattle.cpa_interpolant.specs.declared.outcome.Along.TheVariants.{Cuts, Model, Learnt, Gates}
use Rattle.cpa_interpolant.specs.declared.outcome.Along.TheVariants.{Large}

-- behind e the cuts of the next edges are done, for as many as there are expressions
abbrev pub AreDone : Cfa → ℕ → ℕ → List Act → Expr → List Expr → Type 0
AreDone cfa learnt gates acts e [] = ⊤
AreDone cfa learnt gates [] e (f ∷ fs) = ⊥
AreDone cfa learnt gates (a ∷ acts) e (f ∷ fs) =
    IsDone cfa learnt gates e a acts f × AreDone cfa learnt gates acts f fs

-- Interpolants before the first edges, each cut of which is done within the budgets. At the next
-- cut, behind the last expression, this edge and before these edges, it comes to a stop.
pub record Stops (cfa : Cfa) (learnt gates : ℕ) (acts : List Act) (exprs : List Expr) (cut : ℕ)
    (stop : Expr → Act → List Act → Type 0) : Type 0 where
  pub are : AreInterpolants cfa.cells acts exprs
  pub done : AreDone cfa learnt gates acts one are.behind
  pub count : cut ≡ length exprs
  pub act : Act
  pub behind : List Act
  pub next : drop (length are.behind) acts ≡ act ∷ behind
  pub stops : stop (last_of one are.behind) act behind

-- Interpolants of the path, by whatever they were found; a store that is a model of the path's
-- query from any store; or interpolants up to a cut, where all lines are written that are allowed,
-- whose two parts weigh more than is allowed, or whose expression is too large.
abbrev pub IsAlong : Cfa → List Act → ℕ → ℕ → Along → Type 0
IsAlong cfa acts learnt gates (Cuts exprs) = AreFound cfa.cells gates acts exprs.items
IsAlong cfa acts learnt gates (Model store) =
    IsLight cfa.cells gates acts × IsModel (behind_cut cfa.cells acts).query store.values
IsAlong cfa acts learnt gates (Learnt exprs cut lines) =
    Stops cfa learnt gates acts exprs.items cut
    (λ e a behind. IsLearnt cfa learnt gates e a behind lines.items)
IsAlong cfa acts learnt gates (Gates exprs cut weight) =
    Stops cfa learnt gates acts exprs.items cut (λ e a behind. IsHeavy cfa gates e a behind weight)
IsAlong cfa acts learnt gates (Large exprs cut lines) =
    Stops cfa learnt gates acts exprs.items cut
    (λ e a behind. IsLarge cfa learnt gates e a behind lines.items)
