-- From the place on there are steps; the weight is that of the edges from there on.
use Rattle.std.proofs.Common.{◌≡◌, ◌≤◌, ℕ, List, drop, length}
use Rattle.cpa_expr.specs.declared.tree.Expr.{Expr}
use Rattle.cpa_model.specs.declared.automaton.Cfa.{Cfa}
use Rattle.cpa_folds.specs.Along.{acts_along}
use Rattle.cpa_interpolant_rules.specs.Parts.{behind_cut}
use Rattle.cpa_interpolant_words.specs.Words.{AreStepsIn}
use Rattle.cpa_interpolant_words.proofs.checking.are_steps.Given as goal

pub record IsBack (cfa : Cfa) (gates : ℕ) (edges : List ℕ) (exprs : List Expr)
    (place weight : ℕ) : Type 0 where
  pub steps : AreStepsIn cfa gates (drop place edges) (drop place exprs)
  pub weighs : weight ≡ (behind_cut cfa.cells (acts_along cfa (drop place edges))).weight
  pub inside : place ≤ length edges

abbrev pub invariant-loop-place : goal.invariant-loop-place
invariant-loop-place l = IsBack l.cfa l.limits.gates l.edges l.exprs l.place l.weight

abbrev pub decreases-loop-place : goal.decreases-loop-place
decreases-loop-place l = l.place
