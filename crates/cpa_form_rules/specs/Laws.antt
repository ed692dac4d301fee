-- The law of forms: the models of a form's query are the runs that meet what was added. Below the
-- statement stands its lemma.
use Rattle.std.specs.Prelude.{sum, true, ◌≡◌, ℕ, ◌<◌, ◌^◌, ℤ, Bool, List, [], ◌∷◌, length, map}
use Rattle.std.specs.Prelude.{slice_get, ◌++◌}
use Rattle.std.specs.List.{AllByRecursion, flat_map}
use Rattle.std.proofs.Common.{refl, sym, subst, arith, ap}
use Rattle.std.proofs.lemmas.List.{length-map, append-nil}
use Rattle.cpa_ints.specs.declared.integers.IntType.{IntType}
use Rattle.cpa_ints.specs.Integers.{IsInRange}
use Rattle.cpa_expr.specs.declared.tree.Expr.{Expr}
use Rattle.cpa_expr.specs.Cells.{AreValues}
use Rattle.cpa_model.specs.declared.program.Cell.{Cell}
use Rattle.cpa_model.specs.declared.automaton.Act.{Act}
use Rattle.cpa_model.specs.declared.automaton.Act.TheVariants as act
use Rattle.cpa_model.specs.declared.automaton.Cfa.{Cfa}
use Rattle.cpa_model.specs.declared.facts.Elem.{Elem}
use Rattle.cpa_model.specs.Acts.{IsActOf}
use Rattle.cpa_model.specs.Automata.{IsAutomaton}
use Rattle.cpa_model.specs.Expressions.{types_of}
use Rattle.cpa_model.specs.Facts.{IsElem}
use Rattle.cpa_query.specs.Queries.{IsQuery, IsModel}
use Rattle.cpa_form_rules.specs.Runs.{Added, taken, holding, failing, Begins, Runs}
use Rattle.cpa_form_rules.specs.Drafts.{Placed, placed, settled, want_all, assigned}
use Rattle.cpa_form_rules.specs.Tests.{type_at, tests_of, denials_of, want_each}
use Rattle.cpa_form_rules.specs.Forms.{draft_of, act_weight, elem_weight, Form, joined, weighed}
use Rattle.cpa_form_rules.specs.Forms.{with_added, form_of, first_store, last_store, inputs_at}
use Rattle.cpa_form_rules.specs.Forms.{place_now}
use Rattle.cpa_form_rules.specs.lemmas.Formed.{ActFits, AddedFits, formed}

-- an act of the automaton, or elements that are shaped for it
abbrev pub IsAddedOf : Cfa → Added → Type 0
IsAddedOf cfa (taken act) = IsActOf cfa act
IsAddedOf cfa (holding elem) = IsElem cfa.cells cfa.points elem
IsAddedOf cfa (failing elems) = AllByRecursion (IsElem cfa.cells cfa.points) elems

-- A form's query may be asked. A model of it is a run that meets what was added: it begins with the
-- first store, takes the inputs in order and ends with the last one; and each such run is there in
-- some model. The place of a cell has the cell's value in the last store.
pub record IsFormOf (cfa : Cfa) (initial : Bool) (added : List Added) (form : Form) : Type 0 where
  pub asked : IsQuery form.query
  pub begins : (values : List ℤ) → IsModel form.query values
      → Begins cfa.cells initial (first_store form values)
  pub run : (values : List ℤ) → IsModel form.query values
      → Runs cfa.cells added (first_store form values) (inputs_at form values)
      (last_store form values)
  pub model : (first inputs last : List ℤ) → Begins cfa.cells initial first
      → Runs cfa.cells added first inputs last
      → (values : List ℤ) × IsModel form.query values × (first_store form values ≡ first)
      × (inputs_at form values ≡ inputs) × (last_store form values ≡ last)
  pub place : (values : List ℤ) (cell : ℕ) → IsModel form.query values → cell < length cfa.cells
      → slice_get values (place_now form cell) ≡ slice_get (last_store form values) cell
  pub inside : (cell : ℕ) → cell < length cfa.cells
      → place_now form cell < length form.query.cells

abbrev pub FormsAreRuns : Type 0
FormsAreRuns =
    (cfa : Cfa) (initial : Bool) (added : List Added) → IsAutomaton cfa
    → AllByRecursion (IsAddedOf cfa) added → IsFormOf cfa initial added
    (form_of cfa.cells initial added)

-- ---- the lemma

pub starts_fit : (cells : List Cell) → AllByRecursion (λ (c : Cell). IsInRange c.ty c.start) cells
    → AreValues (types_of cells) (map (λ cell. cell.start) cells)
starts_fit [] h = tt
starts_fit (cell ∷ cells) h = (h.0, starts_fit cells h.1)

module _ (cfa : Cfa) (few : length (types_of cfa.cells) < 2 ^ 63) where
  pub act_fits : (a : Act) → IsActOf cfa a → ActFits cfa.cells cfa.points few a
  act_fits act.Skip is = tt
  act_fits (act.Assign base len index value) is = is
  act_fits (act.Assume test holds) is = is
  act_fits (act.Input cell) is = is
  act_fits (act.Call site) is = tt
  act_fits (act.Return site) is = tt

  pub added_fits : (added : List Added) → AllByRecursion (IsAddedOf cfa) added
      → AllByRecursion (AddedFits cfa.cells cfa.points few) added
  added_fits [] h = tt
  added_fits (taken a ∷ added) h = (act_fits a h.0, added_fits added h.1)
  added_fits (holding elem ∷ added) h = (h.0, added_fits added h.1)
  added_fits (failing elems ∷ added) h = (h.0, added_fits added h.1)

pub forms_are_runs : FormsAreRuns
forms_are_runs cfa initial added is are =
    let same = is.automaton.cells in
    let few_cells = is.well_formed.few_cells in
    let long = length-map cfa.cells (λ (c : Cell). c.ty) in
    let count = ap length same in
    let few : length (types_of cfa.cells) < 2 ^ 63 = omega (arith, few_cells, long, count) in
    let starts = starts_fit cfa.cells
    (subst (AllByRecursion (λ (c : Cell). IsInRange c.ty c.start)) (sym same)
    is.well_formed.starts) in
    let form = formed cfa.cells cfa.points few starts initial added (added_fits cfa few added are)
    in
    record {
      asked = form.fitted.asked;
      begins = form.begins;
      run = form.run;
      model = form.model;
      place = form.place;
      inside = form.inside;
    }

-- ---- one call more

-- what a call adds stands behind what was there
pub record AddsBehind (before after : Form) : Type 0 where
  pub cells : List IntType
  pub wanted : List (Expr × Bool)
  pub cells_are : after.query.cells ≡ before.query.cells ++ cells
  pub wanted_are : after.query.wanted ≡ before.query.wanted ++ wanted

abbrev pub CallsAddBehind : Type 0
CallsAddBehind = (one : Added) (form : Form) → AddsBehind form (with_added one form)

nothing_behind : (form : Form) (n : ℕ) → AddsBehind form (weighed n form)
nothing_behind form n = record {
  cells = [];
  wanted = [];
  cells_are = sym (append-nil form.query.cells);
  wanted_are = sym (append-nil form.query.wanted);
}

draft_behind : (form : Form) (at : Placed) (n : ℕ) → AddsBehind form (weighed n (joined form at))
draft_behind form at n = record {
  cells = at.draft.cells;
  wanted = at.draft.wanted;
  cells_are = refl;
  wanted_are = refl;
}

abbrev tests_placed : List (Expr × Bool) → Form → Placed
tests_placed asked form =
    let at = settled asked form.places (draft_of form) in
    placed (want_all at.places asked at.draft) at.places

abbrev failing_placed : List Elem → Form → Placed
failing_placed elems form =
    let denials = map (λ elem. denials_of form.places elem.facts) elems in
    let at = settled (flat_map (λ tests. tests) denials) form.places (draft_of form) in
    placed (want_each at.places denials at.draft) at.places

abbrev write_placed : ℕ → ℕ → Expr → Expr → Form → Placed
write_placed base len index value form =
    assigned base len index value
    (settled ((index, true) ∷ (value, true) ∷ []) form.places (draft_of form))

pub calls_add_behind : CallsAddBehind
calls_add_behind (taken act.Skip) form = nothing_behind form 0
calls_add_behind (taken (act.Assign base len index value)) form =
    draft_behind form (write_placed base len index value form)
    (act_weight (act.Assign base len index value))
calls_add_behind (taken (act.Assume test holds)) form =
    draft_behind form (tests_placed ((test, holds) ∷ []) form) (act_weight (act.Assume test holds))
calls_add_behind (taken (act.Input cell)) form = record {
  cells = type_at form.places cell ∷ [];
  wanted = [];
  cells_are = refl;
  wanted_are = refl;
}
calls_add_behind (taken (act.Call site)) form = nothing_behind form 0
calls_add_behind (taken (act.Return site)) form = nothing_behind form 0
calls_add_behind (holding elem) form =
    draft_behind form (tests_placed (tests_of form.places elem.facts) form)
    (elem_weight form.places elem)
calls_add_behind (failing elems) form =
    draft_behind form (failing_placed elems form) (sum (map (elem_weight form.places) elems))
