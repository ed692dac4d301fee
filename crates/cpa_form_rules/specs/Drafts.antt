-- What a call adds to a query: cells, and wanted expressions over the query's cells and these (this
-- project's own).
use Rattle.std.specs.Prelude.{ℕ, zero, suc, ◌+◌, pos, ◌==◌, Bool, true, false, if◌then◌else◌, List}
use Rattle.std.specs.Prelude.{[], ◌∷◌, ◌++◌, length, map, slice_set}
use Rattle.std.specs.List.{list_all}
use Rattle.cpa_ints.specs.declared.integers.IntType.{IntType}
use Rattle.cpa_ints.specs.declared.integers.IntType.TheVariants as ty
use Rattle.cpa_expr.specs.declared.tree.CmpOp.TheVariants as cmp
use Rattle.cpa_expr.specs.declared.tree.Expr.{Expr}
use Rattle.cpa_expr.specs.declared.tree.Expr.TheVariants.{Const, Read, Cmp, Cast, Or}
use Rattle.cpa_expr.specs.Shape.{type_of}
use Rattle.cpa_expr.specs.Cells.{scalar_read}
use Rattle.cpa_query.specs.declared.query.Query.{Query}
use Rattle.cpa_query.specs.Queries.{reads}
use Rattle.cpa_form_renaming.specs.declared.places.Place.{Place}
use Rattle.cpa_form_renaming.specs.Places.{number_at}
use Rattle.cpa_form_renaming.specs.Renaming.{renamed, is_whole}
use Rattle.cpa_form_rules.specs.declared.drafts.Draft.{Draft}

-- the number of the next cell
abbrev pub next : Draft → ℕ
next draft = draft.first + length draft.cells

-- the query with the draft behind it
abbrev pub behind : Query → Draft → Query
behind query draft = record {
  cells = query.cells ++ draft.cells;
  wanted = query.wanted ++ draft.wanted;
}

-- with one more cell
abbrev pub fresh : IntType → Draft → Draft
fresh t draft = record draft { cells = draft.cells ++ t ∷ [] }

-- with one more wanted expression
abbrev pub want : Expr → Bool → Draft → Draft
want e holds draft = record draft { wanted = draft.wanted ++ (e, holds) ∷ [] }

-- with one more cell, which has the value of the expression
abbrev pub named : Expr → Draft → Draft
named e draft =
    want (Cmp cmp.Eq (type_of e) (scalar_read (type_of e) (next draft)) e) true
    (fresh (type_of e) draft)

-- ---- where the cells of a program stand, beside a draft

pub record Placed : Type 0 where
  pub draft : Draft
  pub places : List Place

abbrev pub placed : Draft → List Place → Placed
placed draft places = record { draft = draft; places = places }

abbrev pub place_at : ℕ → IntType → Place
place_at number t = record { number = number; ty = t }

abbrev pub with_place : Place → Placed → Placed
with_place place rest = placed rest.draft (place ∷ rest.places)

-- with a cell of its own for each cell that is marked, which has the value of the cell at its place
abbrev pub copied : List Bool → List Place → Draft → Placed
copied (true ∷ marks) (place ∷ places) draft =
    with_place (place_at (next draft) place.ty)
    (copied marks places (named (scalar_read place.ty place.number) draft))
copied (false ∷ marks) (place ∷ places) draft = with_place place (copied marks places draft)
copied _ _ draft = placed draft []

-- the expressions, asked of the program's cells
abbrev pub asked_of : List Place → List (Expr × Bool) → Query
asked_of places asked = record { cells = map (λ place. place.ty) places; wanted = asked }

-- The places at which the expressions can be read. Where an array that one of them reads does not
-- stand in one piece, each cell that they read gets a new place: the new ones follow each other.
abbrev pub settled : List (Expr × Bool) → List Place → Draft → Placed
settled asked places draft =
    if list_all (λ one. is_whole places one.0) asked then placed draft places
    else copied (reads (asked_of places asked)) places draft

-- each expression is wanted, at these places
abbrev pub want_all : List Place → List (Expr × Bool) → Draft → Draft
want_all places [] draft = draft
want_all places (one ∷ asked) draft =
    want_all places asked (want (renamed places one.0) one.1 draft)

-- ---- a write

-- the array of len cells from first on has the value at the index
abbrev pub written : ℕ → ℕ → Expr → Expr → Expr
written first len index value =
    Cmp cmp.Eq (type_of value) (Read (type_of value) first len index) value

-- a cell has the value of an older one, but where the number at the index's cell is i
abbrev pub kept_unless : IntType → ℕ → ℕ → Expr → ℕ → Expr
kept_unless t new old index i =
    Or (Cmp cmp.Eq t (scalar_read t new) (scalar_read t old))
    (Cmp cmp.Eq ty.I64 (Cast ty.I64 index) (Const ty.I64 (pos i)))

-- a new cell for each of the first i cells of an array at base, which keeps the old value where the
-- index does not name it
abbrev pub block : List Place → ℕ → IntType → Expr → ℕ → Draft → Draft
block places base t index zero draft = draft
block places base t index (suc i) draft =
    let before = block places base t index i draft in
    want (kept_unless t (next before) (number_at places (base + i)) index i) true (fresh t before)

-- the first i cells of an array stand at numbers that follow each other
abbrev pub moved : ℕ → ℕ → IntType → ℕ → List Place → List Place
moved base number t zero places = places
moved base number t (suc i) places =
    slice_set (moved base number t i places) (base + i) (place_at (number + i) t)

-- The write of a cell that stands for itself: a new cell has the value.
abbrev pub cell_written : ℕ → Expr → Expr → Placed → Placed
cell_written base index value at =
    placed (want (written (next at.draft) 1 index value) true (fresh (type_of value) at.draft))
    (moved base (next at.draft) (type_of value) 1 at.places)

-- The write of an array: a cell has the index, new cells keep the old values but there, and the
-- array of the new cells has the value at the index.
abbrev pub array_written : ℕ → ℕ → Expr → Expr → Placed → Placed
array_written base len index value at =
    let t = type_of value in let u = type_of index in
    let read = scalar_read u (next at.draft) in
    let begun = named index at.draft in
    placed (want (written (next begun) len read value) true
    (block at.places base t read len begun))
    (moved base (next begun) t len at.places)

abbrev pub assigned : ℕ → ℕ → Expr → Expr → Placed → Placed
assigned base len index value at =
    if len == 1
    then cell_written base (renamed at.places index) (renamed at.places value) at
    else array_written base len (renamed at.places index) (renamed at.places value) at
