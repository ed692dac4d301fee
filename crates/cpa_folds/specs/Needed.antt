-- The cells whose values decide whether a path has a run (this project's own).
use Rattle.std.specs.Prelude.{ℕ, nat_lt, Bool, true, false, ◌&&◌, ◌||◌, List, [], ◌∷◌, length}
use Rattle.std.specs.Prelude.{slice_get, Option, None, Some}
use Rattle.std.specs.List.{filter, list_any, range_with_len}
use Rattle.cpa_expr.specs.declared.tree.BinOp.{BinOp}
use Rattle.cpa_expr.specs.declared.tree.BinOp.TheVariants as op
use Rattle.cpa_expr.specs.declared.tree.Expr.{Expr}
use Rattle.cpa_expr.specs.declared.tree.Expr.TheOpen.{Expr-F}
use Rattle.cpa_expr.specs.declared.tree.Expr.TheFolds.{fold-Expr}
use Rattle.cpa_expr.specs.Cells.{may_read}
use Rattle.cpa_expr.specs.Shape.{parts}
use Rattle.cpa_model.specs.declared.automaton.Act.{Act}
use Rattle.cpa_model.specs.declared.automaton.Act.TheVariants.{Assign, Assume}
use Rattle.cpa_model.specs.declared.automaton.Edge.{Edge}
use Rattle.cpa_model.specs.declared.automaton.Cfa.{Cfa}
use Rattle.cpa_model.specs.declared.automaton.Path.{Path}

-- the operator traps for some operands
abbrev pub may_trap : BinOp → Bool
may_trap op.Div = true
may_trap op.Rem = true
may_trap op.Shl = true
may_trap op.Shr = true
may_trap _ = false

-- the node itself may trap: such an operator, or the read of an array
abbrev pub stops_here : {A : Type 0} → Expr-F A → Bool
stops_here (Expr-F.Bin o t left right) = may_trap o
stops_here (Expr-F.Read t base len index) = nat_lt 1 len
stops_here _ = false

-- a node, with whether each part may stop an execution in its place
abbrev pub stops_step : Expr-F Bool → Bool
stops_step node = stops_here node || list_any (λ stops. stops) (parts node)

-- some node of the expression may trap
abbrev pub may_stop : Expr → Bool
may_stop = fold-Expr Bool stops_step

-- the write counts: it is to a cell that is needed after it, or to an array, or its index or value
-- may trap
abbrev pub counts : ℕ → ℕ → Expr → Expr → (ℕ → Bool) → Bool
counts base len index value after =
    list_any after (range_with_len base len) || nat_lt 1 len || may_stop index || may_stop value

-- The cells that an act adds to those that are needed after it: those that a test may read, and
-- those that the index and the value of a write that counts may read.
abbrev pub adds : Act → (ℕ → Bool) → ℕ → Bool
adds (Assume test holds) after cell = may_read test cell
adds (Assign base len index value) after cell =
    counts base len index value after && (may_read index cell || may_read value cell)
adds _ after cell = false

-- the same for the edge of an automaton, where it is there; of the automaton's cells
abbrev pub edge_adds : Cfa → Option Edge → (ℕ → Bool) → ℕ → Bool
edge_adds cfa None after cell = false
edge_adds cfa (Some edge) after cell = nat_lt cell (length cfa.cells) && adds edge.act after cell

-- The cell is needed along these edges. The edges are taken from the last to the first, and no cell
-- is taken out.
abbrev pub is_needed : Cfa → List ℕ → ℕ → Bool
is_needed cfa [] cell = false
is_needed cfa (edge ∷ edges) cell =
    is_needed cfa edges cell || edge_adds cfa (slice_get cfa.edges edge) (is_needed cfa edges) cell

-- the cells of the automaton that are needed along the path, ascending
abbrev pub needed : Cfa → Path → List ℕ
needed cfa path = filter (is_needed cfa path.edges) (range_with_len 0 (length cfa.cells))
