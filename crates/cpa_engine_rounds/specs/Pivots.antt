-- From where a round begins after a refinement: before the first edge that writes a cell that is
-- newly kept (lazy abstraction, POPL 2002, section 2, on cells; the choice of the pivot is this
-- project's own).
use Rattle.std.specs.Prelude.{ℕ, ◌==◌, nat_lt, Bool, false, not, ◌&&◌, ◌||◌, List}
use Rattle.std.specs.Prelude.{[]}
use Rattle.std.specs.Prelude.{◌∷◌, length, if◌then◌else◌, drop}
use Rattle.std.specs.List.{list_any, list_all, range_with_len, prefix_len}
use Rattle.cpa_expr.specs.declared.tree.Expr.{out-Expr}
use Rattle.cpa_expr.specs.Cells.{is_within, is_zero, may_read}
use Rattle.cpa_model.specs.declared.automaton.Act.{Act}
use Rattle.cpa_model.specs.declared.automaton.Act.TheVariants as act
use Rattle.cpa_iface.specs.declared.precisions.Precision.{Precision}
use Rattle.cpa_reached.specs.Members.{is_in}

-- one precision keeps the cell newly: it tracks it as the other one does not, or a predicate behind
-- those of the other one may read it
abbrev pub keeps_newly : Precision → Precision → ℕ → Bool
keeps_newly p q cell =
    (is_in cell q.tracked && not (is_in cell p.tracked))
    || list_any (λ e. may_read e cell) (drop (length p.preds) q.preds)

-- some precision keeps the cell newly
abbrev pub is_new : List Precision → List Precision → ℕ → Bool
is_new [] new cell = false
is_new (p ∷ old) [] cell = false
is_new (p ∷ old) (q ∷ new) cell = keeps_newly p q cell || is_new old new cell

-- the act may read the cell: an expression of it may, or it writes an array of more than one cell,
-- of which this is one
abbrev pub reads : Act → ℕ → Bool
reads (act.Assign base len index value) cell =
    may_read index cell || may_read value cell || (nat_lt 1 len && is_within base len cell)
reads (act.Assume test holds) cell = may_read test cell
reads _ cell = false

-- the act writes the cell, as a scalar or as an input
abbrev pub sets : Act → ℕ → Bool
sets (act.Assign base len index value) cell =
    (base == cell) && (len == 1) && is_zero (out-Expr index)
sets (act.Input own) cell = own == cell
sets _ cell = false

-- some act sets the cell before any reads it; the same act reads before it writes
abbrev pub is_set_first : List Act → ℕ → Bool
is_set_first [] cell = false
is_set_first (a ∷ acts) cell = not (reads a cell) && (sets a cell || is_set_first acts cell)

-- of so many cells, those that are newly kept
abbrev pub new_of : ℕ → List Precision → List Precision → ℕ → Bool
new_of cells old new cell = is_new old new cell && nat_lt cell cells

-- of so many cells, each one of these is set first
abbrev pub all_set_first : ℕ → (ℕ → Bool) → List Act → Bool
all_set_first cells some acts =
    list_all (λ cell. not (some cell) || is_set_first acts cell) (range_with_len 0 cells)

-- the act may write one of these cells
abbrev pub writes_some : (ℕ → Bool) → Act → Bool
writes_some some (act.Assign base len index value) = list_any some (range_with_len base len)
writes_some some (act.Input own) = some own
writes_some some _ = false

-- how many acts come before the first that writes one of these cells
abbrev pub before_write : (ℕ → Bool) → List Act → ℕ
before_write some acts = prefix_len (λ a. not (writes_some some a)) acts

-- How many acts come before the pivot: those before the first that writes one of these cells. None,
-- where one of the cells is not set first, or none is written.
abbrev pub acts_before : ℕ → (ℕ → Bool) → List Act → ℕ
acts_before cells some acts =
    if all_set_first cells some acts && nat_lt (before_write some acts) (length acts)
    then before_write some acts else 0
