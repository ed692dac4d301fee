-- The law of interpolants along a path. Below the statement, its lemma.
use Rattle.std.specs.Prelude.{◌≡◌, List}
use Rattle.cpa_expr.specs.declared.tree.Expr.{Expr}
use Rattle.cpa_model.specs.declared.program.Cell.{Cell}
use Rattle.cpa_model.specs.declared.automaton.Act.{Act}
use Rattle.cpa_interpolant_rules.specs.Interpolants.{LeadOn, HasNoRun, last_of, zero}
use Rattle.cpa_interpolant_rules.specs.lemmas.Leading.{no_run}

-- Where each expression leads to the next by an edge, and the last is 0, there is no run from a
-- store where the first is nonzero. So it is from each of them on, along the edges that are left.
abbrev pub InterpolantsLeaveNoRun : Type 0
InterpolantsLeaveNoRun =
    (cells : List Cell) (acts : List Act) (e : Expr) (behind : List Expr)
    → LeadOn cells acts e behind → last_of e behind ≡ zero → HasNoRun cells acts e

pub interpolants_leave_no_run : InterpolantsLeaveNoRun
interpolants_leave_no_run = no_run
