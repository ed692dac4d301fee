-- What holds on the way over the cuts of a path (this project's own).
use Rattle.std.specs.Prelude.{◌≡◌, ℕ, suc, ℤ, ⊤, List, [], ◌∷◌, drop, length}
use Rattle.cpa_expr.specs.declared.tree.Expr.{Expr}
use Rattle.cpa_model.specs.declared.program.Cell.{Cell}
use Rattle.cpa_model.specs.declared.automaton.Act.{Act}
use Rattle.cpa_model.specs.declared.automaton.Cfa.{Cfa}
use Rattle.cpa_interpolant_rules.specs.Stores.{RunsFrom}
use Rattle.cpa_interpolant_rules.specs.Interpolants.{last_of, one}
use Rattle.cpa_interpolant_answers.specs.Answers.{IsAnswer, IsNextBehind}
use Rattle.cpa_interpolant_answers.specs.declared.answer.Answer.{Answer}
use Rattle.cpa_interpolant_answers.specs.declared.answer.Answer.TheVariants as answer
use Rattle.cpa_interpolant.specs.Along.{IsAlong}
use Rattle.cpa_interpolant.specs.declared.walking.Walk.{Walk}
use Rattle.cpa_interpolant.specs.declared.walking.Walk.TheVariants as walk

-- behind e the expressions behind the next edges, for as many as there are
abbrev pub AreBehind : Cfa → ℕ → ℕ → List Act → Expr → List Expr → Type 0
AreBehind cfa learnt gates acts e [] = ⊤
AreBehind cfa learnt gates [] e (f ∷ fs) = ⊥
AreBehind cfa learnt gates (a ∷ acts) e (f ∷ fs) =
    IsNextBehind cfa learnt gates e a acts f × AreBehind cfa learnt gates acts f fs

-- the expressions before the first edges: 1, and one behind each cut so far
pub record IsWalked (cfa : Cfa) (learnt gates : ℕ) (acts : List Act) (exprs : List Expr) : Type 0
  where
    pub behind : List Expr
    pub are : exprs ≡ one ∷ behind
    pub cuts : AreBehind cfa learnt gates acts one behind

-- the answer at the next cut
pub record IsNextAnswer (cfa : Cfa) (learnt gates : ℕ) (acts : List Act) (exprs : List Expr)
    (answer : Answer) : Type 0 where
  pub walked : IsWalked cfa learnt gates acts exprs
  pub act : Act
  pub rest : List Act
  pub next : drop (length walked.behind) acts ≡ act ∷ rest
  pub is : IsAnswer cfa learnt gates (last_of one walked.behind) act rest answer

-- where a run goes through a cut, stores lead along the edges
abbrev pub RunsIfRun : List Cell → List Act → Answer → Type 0
RunsIfRun cells acts answer.Run = (first : List ℤ) × RunsFrom cells acts first
RunsIfRun cells acts _ = ⊤

-- one expression more, or the end
abbrev pub IsStep : Cfa → List Act → ℕ → ℕ → ℕ → Walk → Type 0
IsStep cfa acts learnt gates count (walk.On exprs) =
    IsWalked cfa learnt gates acts exprs.items × (length exprs.items ≡ suc count)
IsStep cfa acts learnt gates count (walk.Ended along) = IsAlong cfa acts learnt gates along
