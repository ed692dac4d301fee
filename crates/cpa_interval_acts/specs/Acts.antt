-- What an act makes of the bounds of cells (this project's own).
use Rattle.std.specs.Prelude.{ℕ, zero, suc, ◌+◌, ◌==◌, nat_lt, if◌then◌else◌, List, Option, None}
use Rattle.std.specs.Prelude.{Some, slice_get, slice_set, option_map, option_and_then}
use Rattle.cpa_expr.specs.declared.tree.CmpOp.TheVariants as cmp
use Rattle.cpa_expr.specs.declared.tree.Expr.{Expr}
use Rattle.cpa_model.specs.declared.program.Cell.{Cell}
use Rattle.cpa_model.specs.declared.automaton.Act.{Act}
use Rattle.cpa_model.specs.declared.automaton.Act.TheVariants as act
use Rattle.cpa_interval_bounds.specs.declared.bounds.Bounds.{Bounds}
use Rattle.cpa_interval_bounds.specs.declared.elements.Places.{Places}
use Rattle.cpa_interval_bounds.specs.Bounds.{range_of, hull}
use Rattle.cpa_interval_bounds.specs.Elements.{places_of, named}
use Rattle.cpa_interval_bounds.specs.ExpressionBounds.{bounds_of}
use Rattle.cpa_interval_acts.specs.Cuts.{cut_side, assumed}

-- ---- writes

-- the cell has a number of these or one of its own
abbrev pub joined_at : ℕ → Bounds → Option Bounds → List Bounds → List Bounds
joined_at cell value None bs = bs
joined_at cell value (Some own) bs = slice_set bs cell (hull own value)

-- so have so many cells from this one on
abbrev pub joined_from : ℕ → ℕ → Bounds → List Bounds → List Bounds
joined_from first zero value bs = bs
joined_from first (suc n) value bs =
    joined_at (first + n) value (slice_get (joined_from first n value bs) (first + n))
    (joined_from first n value bs)

-- A write of such a number to one of these cells: one alone has it, and of several each may have
-- it or keep its own.
abbrev pub stored : Bounds → List Bounds → Places → List Bounds
stored value bs p =
    if p.count == 1 then slice_set bs p.first value else joined_from p.first p.count value bs

-- the cells that the index may name; nothing where it names none, or the index or the value traps
abbrev pub placed : ℕ → ℕ → Option Bounds → Option Bounds → List Bounds → Option (List Bounds)
placed base len (Some index) (Some value) bs = option_map (stored value bs) (named base len index)
placed base len index value bs = None

abbrev pub written : ℕ → ℕ → Expr → Expr → List Bounds → Option (List Bounds)
written base len index value bs = placed base len (bounds_of index bs) (bounds_of value bs) bs

-- the index of an array lies from 0 to its length less 1
abbrev pub indexed : ℕ → Expr → List Bounds → Option (List Bounds)
indexed len index bs =
    if nat_lt 1 len then cut_side cmp.Eq index (places_of len) bs else Some bs

abbrev pub assigned : ℕ → ℕ → Expr → Expr → List Bounds → Option (List Bounds)
assigned base len index value bs =
    option_and_then (written base len index value) (indexed len index bs)

-- ---- inputs

-- the cell, where it is there, may have each number of its type
abbrev pub freed : ℕ → Option Cell → List Bounds → List Bounds
freed cell None bs = bs
freed cell (Some c) bs = slice_set bs cell (range_of c.ty)

-- ---- acts

-- what the act makes of the bounds; nothing where it cannot be done
abbrev pub after_act : List Cell → Act → List Bounds → Option (List Bounds)
after_act cells (act.Assign base len index value) bs = assigned base len index value bs
after_act cells (act.Assume test holds) bs = assumed test holds bs
after_act cells (act.Input cell) bs = Some (freed cell (slice_get cells cell) bs)
after_act cells other bs = Some bs
