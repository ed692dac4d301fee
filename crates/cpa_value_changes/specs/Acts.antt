-- What an act makes of the known values of cells (this project's own).
use Rattle.std.specs.Prelude.{ℕ, zero, suc, ◌+◌, ℤ, pos, negsuc, nat_lt, int_le, Bool, true}
use Rattle.std.specs.Prelude.{false, not, ◌&&◌, ◌||◌, if◌then◌else◌, List, Option, None, Some, Ok}
use Rattle.std.specs.Prelude.{Err, slice_set}
use Rattle.cpa_ints.specs.Integers.{least, greatest}
use Rattle.cpa_expr.specs.declared.tree.CmpOp.{CmpOp}
use Rattle.cpa_expr.specs.declared.tree.CmpOp.TheVariants as cmp
use Rattle.cpa_expr.specs.declared.tree.Expr.{Expr, out-Expr}
use Rattle.cpa_expr.specs.declared.tree.Expr.TheOpen.{Expr-F}
use Rattle.cpa_expr.specs.Values.{is_nonzero}
use Rattle.cpa_model.specs.declared.automaton.Act.{Act}
use Rattle.cpa_model.specs.declared.automaton.Act.TheVariants as act
use Rattle.cpa_model.specs.Standing.{same_bool}
use Rattle.cpa_folds.specs.declared.scalars.Scalar.{Scalar}
use Rattle.cpa_folds.specs.Scalars.{scalar_of, read_of}
use Rattle.cpa_value_changes.specs.declared.acts.ScalarValue.{ScalarValue}
use Rattle.cpa_value_changes.specs.declared.known.Gap.TheVariants.{Unknown, Trap}
use Rattle.cpa_value_changes.specs.KnownValues.{Known, known_value}

-- the known values with no value for len cells from base on
abbrev pub forgotten : ℕ → ℕ → List (Option ℤ) → List (Option ℤ)
forgotten base zero cells = cells
forgotten base (suc len) cells = slice_set (forgotten base len cells) (base + len) None

-- the known value, where there is one
abbrev pub ok_of : Known → Option ℤ
ok_of (Ok v) = Some v
ok_of (Err gap) = None

-- the value traps
abbrev pub is_trap : Known → Bool
is_trap (Err Trap) = true
is_trap known = false

-- with this for the cell at an index, which has to be below len
abbrev pub written : ℕ → ℕ → ℤ → Option ℤ → List (Option ℤ) → Option (List (Option ℤ))
written base len (pos i) value cells =
    if nat_lt i len then Some (slice_set cells (base + i) value) else None
written base len (negsuc i) value cells = None

-- with this for the cell at a known index, or for no cell of the array
abbrev pub placed : ℕ → ℕ → Known → Option ℤ → List (Option ℤ) → Option (List (Option ℤ))
placed base len (Ok at) value cells = written base len at value cells
placed base len (Err gap) value cells = Some (forgotten base len cells)

-- A write: the cell gets the value where it is known, and loses its own otherwise; at an unknown
-- index all cells of the array do. Where the index or the value traps, there is nothing.
abbrev pub assigned : ℕ → ℕ → Known → Known → List (Option ℤ) → Option (List (Option ℤ))
assigned base len index value cells =
    if is_trap index || is_trap value then None else placed base len index (ok_of value) cells

-- what the equality of a side with this says of a tracked scalar
abbrev pub told : (ℕ → Bool) → Option Scalar → Known → Option ScalarValue
told tracked (Some read) (Ok v) =
    if tracked read.cell then Some (record { read = read; value = v }) else None
told tracked read known = None

abbrev pub first_told : Option ScalarValue → Option ScalarValue → Option ScalarValue
first_told (Some it) other = Some it
first_told None other = other

-- the scalar has the value; there is nothing where its type has not
abbrev pub set_told : Option ScalarValue → List (Option ℤ) → Option (List (Option ℤ))
set_told None cells = Some cells
set_told (Some it) cells =
    if int_le (least it.read.ty) it.value && int_le it.value (greatest it.read.ty)
    then Some (slice_set cells it.read.cell (Some it.value)) else None

-- both sides are equal: the left one is looked at first
abbrev pub equated : (ℕ → Bool) → Expr → Expr → List (Option ℤ) → Option (List (Option ℤ))
equated tracked left right cells =
    set_told
    (first_told (told tracked (read_of (out-Expr left)) (known_value right cells))
    (told tracked (read_of (out-Expr right)) (known_value left cells)))
    cells

-- a scalar is zero
abbrev pub zeroed : (ℕ → Bool) → Option Scalar → List (Option ℤ) → List (Option ℤ)
zeroed tracked None cells = cells
zeroed tracked (Some read) cells =
    if tracked read.cell then slice_set cells read.cell (Some (pos 0)) else cells

-- the comparison, where it holds or not, says that its sides are equal
abbrev pub says_equal : CmpOp → Bool → Bool
says_equal cmp.Eq holds = holds
says_equal cmp.Ne holds = not holds
says_equal o holds = false

-- what an unknown test says of cells where it holds, or does not
abbrev pub learned : (ℕ → Bool) → Expr-F Expr → Bool → List (Option ℤ) → Option (List (Option ℤ))
learned tracked (Expr-F.Cmp o t left right) holds cells =
    if says_equal o holds then equated tracked left right cells else Some cells
learned tracked (Expr-F.Read t base len index) holds cells =
    if holds then Some cells
    else Some (zeroed tracked (scalar_of (Expr-F.Read t base len index)) cells)
learned tracked node holds cells = Some cells

-- A test: a known one has to agree, and from an unknown one something is learned. Where it traps,
-- there is nothing.
abbrev pub assumed : (ℕ → Bool) → Expr → Bool → Known → List (Option ℤ) → Option (List (Option ℤ))
assumed tracked test holds (Err Trap) cells = None
assumed tracked test holds (Err Unknown) cells = learned tracked (out-Expr test) holds cells
assumed tracked test holds (Ok v) cells =
    if same_bool (is_nonzero v) holds then Some cells else None

-- what the act makes of the known values; nothing where it cannot be done
abbrev pub after_act : (ℕ → Bool) → Act → List (Option ℤ) → Option (List (Option ℤ))
after_act tracked (act.Assign base len index value) cells =
    assigned base len (known_value index cells) (known_value value cells) cells
after_act tracked (act.Assume test holds) cells =
    assumed tracked test holds (known_value test cells) cells
after_act tracked (act.Input cell) cells = Some (slice_set cells cell None)
after_act tracked other cells = Some cells
