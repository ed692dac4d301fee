-- The expressions that a path carries from its tests back to its start (weakest preconditions of
-- the tests: Dijkstra 1975; which of them are kept is this project's own).
use Rattle.std.specs.Prelude.{ℕ, ◌+◌, nat_le, nat_lt, ◌==◌, max, min, Bool, false, not, ◌&&◌, ◌||◌}
use Rattle.std.specs.Prelude.{if◌then◌else◌, List, [], ◌∷◌, ◌++◌}
use Rattle.std.specs.List.{filter, list_any}
use Rattle.cpa_expr.specs.declared.tree.Expr.{Expr, out-Expr}
use Rattle.cpa_expr.specs.declared.tree.Expr.TheOpen.{Expr-F}
use Rattle.cpa_expr.specs.declared.tree.Expr.TheFolds.{fold-Expr}
use Rattle.cpa_expr.specs.Cells.{is_zero, replaced}
use Rattle.cpa_expr.specs.Equality.{same_expr}
use Rattle.cpa_expr.specs.Shape.{parts, size, height}
use Rattle.cpa_model.specs.declared.automaton.Act.{Act}
use Rattle.cpa_model.specs.declared.automaton.Act.TheVariants.{Assign, Assume, Input}
use Rattle.cpa_model.specs.declared.automaton.Cfa.{Cfa}
use Rattle.cpa_model.specs.declared.automaton.Path.{Path}
use Rattle.cpa_folds.specs.Along.{acts_along}
use Rattle.cpa_folds.specs.declared.carrying.TheConstants.{MAX_CARRIED_SIZE}
use Rattle.cpa_folds.specs.declared.carrying.TheConstants.{MAX_CARRIED_HEIGHT}
use Rattle.cpa_folds.specs.declared.carrying.CarriedLists.{CarriedLists}

-- ---- which cells an expression reads

-- the node itself reads one of len cells from base on: its cells and these have one in common
abbrev pub reads_among_here : {A : Type 0} → ℕ → ℕ → Expr-F A → Bool
reads_among_here base len (Expr-F.Read t first count index) =
    nat_lt (max base first) (min (base + len) (first + count))
reads_among_here base len _ = false

-- some node of the expression reads one of len cells from base on
abbrev pub reads_among : ℕ → ℕ → Expr → Bool
reads_among base len =
    fold-Expr Bool (λ node. reads_among_here base len node || list_any (λ reads. reads)
    (parts node))

-- the node itself reads a cell
abbrev pub is_read : {A : Type 0} → Expr-F A → Bool
is_read (Expr-F.Read t first count index) = nat_lt 0 count
is_read _ = false

-- some node of the expression reads a cell
abbrev pub reads_some : Expr → Bool
reads_some = fold-Expr Bool (λ node. is_read node || list_any (λ reads. reads) (parts node))

-- ---- what is carried

-- the list with the expression at its end, if it does not hold it
abbrev pub with_new : Expr → List Expr → List Expr
with_new e es = if list_any (same_expr e) es then es else es ++ e ∷ []

-- both lists with the expression, if it reads a cell
abbrev pub with_both : Expr → CarriedLists → CarriedLists
with_both e now =
    if reads_some e
    then record { present = with_new e now.present; all = with_new e now.all }
    else now

-- what became of an expression is carried on only within these bounds
abbrev pub is_small : Expr → Bool
is_small e = nat_le (size e) MAX_CARRIED_SIZE && nat_le (height e) MAX_CARRIED_HEIGHT

abbrev pub with_small : Expr → CarriedLists → CarriedLists
with_small e now = if is_small e then with_both e now else now

-- and the expressions with the value in place of the cell, one after the other
abbrev pub with_replaced : ℕ → Expr → List Expr → CarriedLists → CarriedLists
with_replaced cell value [] now = now
with_replaced cell value (e ∷ es) now =
    with_replaced cell value es (with_small (replaced e cell value) now)

-- the present expressions that read one of len cells from base on, and without them
abbrev pub reading : ℕ → ℕ → CarriedLists → List Expr
reading base len now = filter (reads_among base len) now.present

abbrev pub without : ℕ → ℕ → CarriedLists → CarriedLists
without base len now =
    record now { present = filter (λ e. not (reads_among base len e)) now.present }

-- the write is to a cell that stands for itself
abbrev pub is_scalar : ℕ → Expr → Bool
is_scalar len index = len == 1 && is_zero (out-Expr index)

-- What is carried over an act, from what is carried behind it. A test comes to it. Where a cell is
-- written, the expressions that read it go, and each comes again with the value in its place. An
-- array that is written and an input take the expressions that read them away.
abbrev pub carried_over : Act → CarriedLists → CarriedLists
carried_over (Assume test holds) now = with_both test now
carried_over (Assign base len index value) now =
    if is_scalar len index
    then with_replaced base value (reading base 1 now) (without base 1 now)
    else without base len now
carried_over (Input cell) now = without cell 1 now
carried_over _ now = now

-- along acts, from the last to the first
abbrev pub carried_along : List Act → CarriedLists
carried_along [] = record { present = []; all = [] }
carried_along (a ∷ acts) = carried_over a (carried_along acts)

-- all expressions that the path carries, in the order in which they come
abbrev pub carried : Cfa → Path → List Expr
carried cfa path = (carried_along (acts_along cfa path.edges)).all
