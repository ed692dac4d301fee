-- The query of a beginning and of what was added, as a function of these (this project's own; the
-- weights too).
use Rattle.std.specs.Prelude.{ℕ, suc, ◌+◌, ◌*◌, ◌^◌, ◌-◌, min, ℤ, pos, Bool, true, List, [], ◌∷◌}
use Rattle.std.specs.Prelude.{◌++◌, length, map, take, sum, slice_get, slice_set, Option, None}
use Rattle.std.specs.Prelude.{Some, if◌then◌else◌}
use Rattle.std.specs.List.{flat_map}
use Rattle.cpa_ints.specs.Integers.{width}
use Rattle.cpa_expr.specs.declared.tree.CmpOp.TheVariants as cmp
use Rattle.cpa_expr.specs.declared.tree.Expr.{Expr}
use Rattle.cpa_expr.specs.declared.tree.Expr.TheVariants.{Const, Cmp}
use Rattle.cpa_expr.specs.Shape.{type_of}
use Rattle.cpa_expr.specs.Cells.{scalar_read}
use Rattle.cpa_model.specs.declared.program.Cell.{Cell}
use Rattle.cpa_model.specs.declared.automaton.Act.{Act}
use Rattle.cpa_model.specs.declared.automaton.Act.TheVariants as act
use Rattle.cpa_facts.specs.declared.fact.Fact.{Fact}
use Rattle.cpa_facts.specs.declared.fact.Fact.TheVariants.{At, Stack, Equals, Within, Truth}
use Rattle.cpa_model.specs.declared.facts.Elem.{Elem}
use Rattle.cpa_model.specs.Expressions.{types_of}
use Rattle.cpa_query.specs.declared.query.Query.{Query}
use Rattle.cpa_blast.specs.Weights.{weight}
use Rattle.cpa_form_renaming.specs.declared.places.Place.{Place}
use Rattle.cpa_form_renaming.specs.Places.{number_at}
use Rattle.cpa_form_rules.specs.declared.drafts.Draft.{Draft}
use Rattle.cpa_form_rules.specs.Runs.{Added, taken, holding, failing}
use Rattle.cpa_form_rules.specs.Drafts.{next, behind, fresh, Placed, placed, place_at, settled}
use Rattle.cpa_form_rules.specs.Drafts.{want_all, assigned}
use Rattle.cpa_form_rules.specs.Tests.{type_at, tests_of, denials_of, want_each}

-- A query, where the present value of each cell of the program stands in it, the cells of the
-- inputs in order, and the weight of what was added, or the greatest number of 64 bits where it is
-- more.
pub record Form : Type 0 where
  pub query : Query
  pub places : List Place
  pub inputs : List ℕ
  pub weight : ℕ

-- ---- the beginning

-- each cell has its start
abbrev pub starts : ℕ → List Cell → List (Expr × Bool)
starts number [] = []
starts number (cell ∷ cells) =
    (Cmp cmp.Eq cell.ty (scalar_read cell.ty number) (Const cell.ty cell.start), true)
    ∷ starts (suc number) cells

-- the places of cells that follow each other
abbrev pub places_from : ℕ → List Cell → List Place
places_from number [] = []
places_from number (cell ∷ cells) = place_at number cell.ty ∷ places_from (suc number) cells

-- a cell of the query for each of the program; at the initial store each has its start
abbrev pub begun : List Cell → Bool → Form
begun cells initial = record {
  query = record {
    cells = types_of cells;
    wanted = if initial then starts 0 cells else [];
  };
  places = places_from 0 cells;
  inputs = [];
  weight = 0;
}

-- ---- what is added

-- nothing yet, behind the query
abbrev pub draft_of : Form → Draft
draft_of form = record { first = length form.query.cells; cells = []; wanted = [] }

-- the form with the draft behind its query, and these places
abbrev pub joined : Form → Placed → Form
joined form at = record form {
  query = behind form.query at.draft;
  places = at.places;
}

-- the expressions have their truths at the present end
abbrev pub with_tests : List (Expr × Bool) → Form → Form
with_tests asked form =
    let at = settled asked form.places (draft_of form) in
    joined form (placed (want_all at.places asked at.draft) at.places)

-- of each element some fact on the store does not hold at the present end
abbrev pub with_failing : List Elem → Form → Form
with_failing elems form =
    let denials = map (λ elem. denials_of form.places elem.facts) elems in
    let at = settled (flat_map (λ tests. tests) denials) form.places (draft_of form) in
    joined form (placed (want_each at.places denials at.draft) at.places)

-- a write; each cell that may be written has a new place
abbrev pub with_write : ℕ → ℕ → Expr → Expr → Form → Form
with_write base len index value form =
    joined form (assigned base len index value
    (settled ((index, true) ∷ (value, true) ∷ []) form.places (draft_of form)))

-- an input: the cell's new place has any value
abbrev pub with_input : ℕ → Form → Form
with_input cell form =
    let t = type_at form.places cell in
    let draft = draft_of form in
    record (joined form (placed (fresh t draft)
    (slice_set form.places cell (place_at (next draft) t)))) {
      inputs = form.inputs ++ next draft ∷ [];
    }

abbrev pub with_act : Act → Form → Form
with_act (act.Assign base len index value) form = with_write base len index value form
with_act (act.Assume test holds) form = with_tests ((test, holds) ∷ []) form
with_act (act.Input cell) form = with_input cell form
with_act _ form = form

-- ---- weights

abbrev pub act_weight : Act → ℕ
act_weight (act.Assign base len index value) =
    weight index + weight value + len * width (type_of value)
act_weight (act.Assume test holds) = weight test + 1
act_weight _ = 0

abbrev pub fact_weight : List Place → Fact → ℕ
fact_weight places (At point) = 0
fact_weight places (Stack sites) = 0
fact_weight places (Equals cell value) = width (type_at places cell)
fact_weight places (Within cell lo hi) = 2 * width (type_at places cell)
fact_weight places (Truth expr holds) = weight expr + 1

abbrev pub elem_weight : List Place → Elem → ℕ
elem_weight places elem = sum (map (fact_weight places) elem.facts)

abbrev pub added_weight : List Place → Added → ℕ
added_weight places (taken act) = act_weight act
added_weight places (holding elem) = elem_weight places elem
added_weight places (failing elems) = sum (map (elem_weight places) elems)

-- the sum, or the greatest number of 64 bits
abbrev pub weighed : ℕ → Form → Form
weighed more form = record form { weight = min (form.weight + more) (2 ^ 64 - 1) }

-- ---- a form

abbrev pub with_added : Added → Form → Form
with_added (taken act) form = weighed (act_weight act) (with_act act form)
with_added (holding elem) form =
    weighed (elem_weight form.places elem) (with_tests (tests_of form.places elem.facts) form)
with_added (failing elems) form =
    weighed (sum (map (elem_weight form.places) elems)) (with_failing elems form)

-- the form with what was added, in order
abbrev pub form_from : Form → List Added → Form
form_from form [] = form
form_from form (one ∷ others) = form_from (with_added one form) others

-- the form of a beginning and of what was added
abbrev pub form_of : List Cell → Bool → List Added → Form
form_of cells initial added = form_from (begun cells initial) added

-- ---- what is read off a model

-- the value, or 0 where there is none
abbrev pub or_zero : Option ℤ → ℤ
or_zero None = pos 0
or_zero (Some v) = v

-- the value of a cell of the query
abbrev pub value_in : List ℤ → ℕ → ℤ
value_in values number = or_zero (slice_get values number)

-- the values of the program's cells at the beginning, and at the present end
abbrev pub first_store : Form → List ℤ → List ℤ
first_store form values = take (length form.places) values

abbrev pub last_store : Form → List ℤ → List ℤ
last_store form values = map (λ place. value_in values place.number) form.places

-- the inputs, in order
abbrev pub inputs_at : Form → List ℤ → List ℤ
inputs_at form values = map (value_in values) form.inputs

-- the cell of the query that has the present value of a cell of the program
abbrev pub place_now : Form → ℕ → ℕ
place_now form cell = number_at form.places cell
