-- Which predicates a precision has after a path that has no run: interpolants along the path
-- (refinement by interpolants: POPL 2004; McMillan, CAV 2006), and else what the path carries (this
-- project's own).
use Rattle.std.specs.Prelude.{◌≡◌, ℕ}
use Rattle.std.specs.List.{filter}
use Rattle.cpa_model.specs.declared.automaton.Cfa.{Cfa}
use Rattle.cpa_model.specs.declared.automaton.Path.{Path}
use Rattle.cpa_iface.specs.declared.precisions.Precision.{Precision}
use Rattle.cpa_folds.specs.Along.{acts_along}
use Rattle.cpa_folds.specs.Carried.{reads_some}
use Rattle.cpa_predicate.specs.declared.asking.Budgets.{Budgets}
use Rattle.cpa_predicate.specs.Refining.{with_preds, with_carried}
use Rattle.cpa_interpolant.specs.declared.outcome.Along.{Along}
use Rattle.cpa_interpolant.specs.declared.outcome.Along.TheVariants.{Cuts, Model, Learnt, Gates}
use Rattle.cpa_interpolant.specs.declared.outcome.Along.TheVariants.{Large}
use Rattle.cpa_interpolant.specs.Along.{IsAlong}
use Rattle.cpa_craig.specs.Craigs.{spent_more}

-- by what came of the cuts of the path: the interpolants that read a cell are predicates, too, each
-- once; where there are no interpolants, what the path carries
abbrev pub refined_by : Cfa → Path → Along → Precision → Precision
refined_by cfa path (Cuts exprs) p = with_preds (filter reads_some exprs.items) p
refined_by cfa path (Model store) p = with_carried cfa path p
refined_by cfa path (Learnt exprs cut lines) p = with_carried cfa path p
refined_by cfa path (Gates exprs cut weight) p = with_carried cfa path p
refined_by cfa path (Large exprs cut lines) p = with_carried cfa path p

-- at how many cuts it stopped
abbrev pub stops_in : Along → ℕ
stops_in (Cuts exprs) = 0
stops_in (Model store) = 0
stops_in (Learnt exprs cut lines) = 1
stops_in (Gates exprs cut weight) = 1
stops_in (Large exprs cut lines) = 1

-- The new precision is by what came of the path's cuts within the budgets, and a stop was counted.
pub record IsRefined (cfa : Cfa) (path : Path) (before after : Budgets) (old new : Precision)
    : Type 0 where
  pub along : Along
  pub came : IsAlong cfa (acts_along cfa path.edges) before.learnt before.gates along
  pub precision : new ≡ refined_by cfa path along old
  pub budgets : after ≡ spent_more (stops_in along) before
