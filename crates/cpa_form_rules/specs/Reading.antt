-- Which cells of a program an edge or an element reads (what an expression may read: specs/Cells of
-- cpa_expr; of an edge and of an element: this project's own).
use Rattle.std.specs.Prelude.{◌≡◌, ℕ, ◌<◌, ◌≤◌, ◌⊎◌, IsTrue, List, [], ◌∷◌, length}
use Rattle.cpa_expr.specs.Cells.{is_within, may_read}
use Rattle.cpa_model.specs.declared.automaton.Act.{Act}
use Rattle.cpa_model.specs.declared.automaton.Act.TheVariants as act
use Rattle.cpa_facts.specs.declared.fact.Fact.{Fact}
use Rattle.cpa_facts.specs.declared.fact.Fact.TheVariants.{At, Stack, Equals, Within, Truth}
use Rattle.cpa_model.specs.declared.facts.Elem.{Elem}
use Rattle.cpa_form_rules.specs.Runs.{Added, taken, holding, failing}
use Rattle.cpa_form_rules.specs.Forms.{Form, place_now}

-- an edge with this act reads the cell: an expression of it may read the cell, or the edge writes
-- an array of more than one cell, of which this is one
abbrev pub ActReads : Act → ℕ → Type 0
ActReads (act.Assign base len index value) cell =
    IsTrue (may_read index cell)
    ⊎ (IsTrue (may_read value cell) ⊎ ((1 < len) × IsTrue (is_within base len cell)))
ActReads (act.Assume test holds) cell = IsTrue (may_read test cell)
ActReads _ cell = ⊥

-- a fact on the store reads the cell; facts on the point and on the stack read none
abbrev pub FactReads : Fact → ℕ → Type 0
FactReads (At point) cell = ⊥
FactReads (Stack sites) cell = ⊥
FactReads (Equals own value) cell = cell ≡ own
FactReads (Within own lo hi) cell = cell ≡ own
FactReads (Truth expr holds) cell = IsTrue (may_read expr cell)

-- some of the facts reads the cell
abbrev pub SomeReads : List Fact → ℕ → Type 0
SomeReads [] cell = ⊥
SomeReads (fact ∷ facts) cell = FactReads fact cell ⊎ SomeReads facts cell

-- some of the elements reads the cell
abbrev pub SomeElemReads : List Elem → ℕ → Type 0
SomeElemReads [] cell = ⊥
SomeElemReads (elem ∷ elems) cell = SomeReads elem.facts cell ⊎ SomeElemReads elems cell

-- what is added reads the cell
abbrev pub AddedReads : Added → ℕ → Type 0
AddedReads (taken act) cell = ActReads act cell
AddedReads (holding elem) cell = SomeReads elem.facts cell
AddedReads (failing elems) cell = SomeElemReads elems cell

-- the cell of a query came behind the form, or it is the place in the form of a cell that what is
-- added reads
abbrev pub IsNewOrPlace : Form → Added → ℕ → Type 0
IsNewOrPlace form one number =
    (length form.query.cells ≤ number)
    ⊎ ((cell : ℕ) × AddedReads one cell × (number ≡ place_now form cell))
