-- What further calls add to a form: it stands behind what was there, reads the places of that time
-- or what came later, and weighs what was added. Below each statement stands its lemma.
use Rattle.std.specs.Prelude.{◌≡◌, ◌↔◌, ℕ, ◌-◌, ◌^◌, ◌<◌, ℤ, ◌++◌, min, Bool, IsTrue, List, []}
use Rattle.std.specs.Prelude.{◌∷◌, length, map, sum}
use Rattle.std.specs.List.{AllByRecursion}
use Rattle.std.proofs.Common.{refl, sym, subst, arith, ap, ◌∙◌, zero-add}
use Rattle.std.proofs.lemmas.List.{length-map, append-nil, append_assoc}
use Rattle.cpa_ints.specs.Integers.{IsInRange}
use Rattle.cpa_expr.specs.declared.tree.Expr.{Expr}
use Rattle.cpa_expr.specs.Cells.{may_read, AreValues}
use Rattle.cpa_model.specs.declared.program.Cell.{Cell}
use Rattle.cpa_model.specs.declared.automaton.Cfa.{Cfa}
use Rattle.cpa_model.specs.Automata.{IsAutomaton}
use Rattle.cpa_model.specs.Expressions.{types_of}
use Rattle.cpa_form_rules.specs.Runs.{Added, Runs}
use Rattle.cpa_form_rules.specs.Forms.{Form, begun, with_added, form_from, form_of, places_from}
use Rattle.cpa_form_rules.specs.Forms.{added_weight}
use Rattle.cpa_form_rules.specs.Reading.{IsNewOrPlace}
use Rattle.cpa_form_rules.specs.Laws.{AddsBehind, IsAddedOf, calls_add_behind, starts_fit}
use Rattle.cpa_form_rules.specs.Laws.{added_fits}
use Rattle.cpa_form_rules.specs.lemmas.Beginnings.{begun_fitted}
use Rattle.cpa_form_rules.specs.lemmas.Formed.{AddedFits, call_is}
use Rattle.cpa_form_rules.specs.lemmas.LaterReads.{all_go, later_reads}
use Rattle.cpa_form_rules.specs.lemmas.Weights.{weighed_from}

-- after further calls the earlier cells and wanted expressions are there as they were, in front
abbrev pub FurtherCallsAddBehind : Type 0
FurtherCallsAddBehind = (form : Form) (added : List Added) → AddsBehind form (form_from form added)

-- Each cell that an expression reads which the call adds behind `before` came after the form, or it
-- is the place that a cell had in the form which the edge or the elements of the call read.
abbrev pub ReadsSeenFrom : Form → Form → Added → Type 0
ReadsSeenFrom form before one =
    (wanted : List (Expr × Bool))
    → (with_added one before).query.wanted ≡ before.query.wanted ++ wanted
    → AllByRecursion (λ (w : Expr × Bool). (number : ℕ) → IsTrue (may_read w.0 number)
    → IsNewOrPlace form one number) wanted

-- so it is of a form at any time, and a call at that time or after further calls
abbrev pub FurtherCallsRead : Type 0
FurtherCallsRead =
    (cfa : Cfa) (initial : Bool) (added later : List Added) (one : Added) → IsAutomaton cfa
    → AllByRecursion (IsAddedOf cfa) added → AllByRecursion (IsAddedOf cfa) later
    → IsAddedOf cfa one
    → ReadsSeenFrom (form_of cfa.cells initial added)
    (form_from (form_of cfa.cells initial added) later) one

-- The weight of a form is the sum over what was added, or the greatest number of 64 bits where the
-- sum is more. The types of the cells are those of their places at the beginning.
abbrev pub WeightsAreSums : Type 0
WeightsAreSums =
    (cfa : Cfa) (initial : Bool) (added : List Added) → IsAutomaton cfa
    → AllByRecursion (IsAddedOf cfa) added
    → (form_of cfa.cells initial added).weight
    ≡ min (sum (map (added_weight (places_from 0 cfa.cells)) added)) (2 ^ 64 - 1)

-- What is added in two goes is what is added at once: to the form, and to what runs meet.
pub record AddingGoesOn : Type 0 where
  pub form : (form : Form) (first second : List Added)
      → form_from form (first ++ second) ≡ form_from (form_from form first) second
  pub runs : (cells : List Cell) (first second : List Added) (from inputs to : List ℤ)
      → Runs cells (first ++ second) from inputs to
      ↔ ((between own others : List ℤ) × Runs cells first from own between
      × (inputs ≡ own ++ others) × Runs cells second between others to)

-- ---- the lemmas

pub further_calls_add_behind : FurtherCallsAddBehind
further_calls_add_behind form [] = record {
  cells = [];
  wanted = [];
  cells_are = sym (append-nil form.query.cells);
  wanted_are = sym (append-nil form.query.wanted);
}
further_calls_add_behind form (one ∷ added) =
    let here = calls_add_behind one form in
    let rest = further_calls_add_behind (with_added one form) added in
    record {
      cells = here.cells ++ rest.cells;
      wanted = here.wanted ++ rest.wanted;
      cells_are = rest.cells_are ∙ (ap (λ cs. cs ++ rest.cells) here.cells_are
          ∙ append_assoc form.query.cells here.cells rest.cells);
      wanted_are = rest.wanted_are ∙ (ap (λ ws. ws ++ rest.wanted) here.wanted_are
          ∙ append_assoc form.query.wanted here.wanted rest.wanted);
    }

-- the cells of an automaton are few, and their starts fit
record Shaped (cells : List Cell) : Type 0 where
  few : length (types_of cells) < 2 ^ 63
  starts : AreValues (types_of cells) (map (λ cell. cell.start) cells)

shaped : (cfa : Cfa) → IsAutomaton cfa → Shaped cfa.cells
shaped cfa is =
    let same = is.automaton.cells in
    let few_cells = is.well_formed.few_cells in
    let long = length-map cfa.cells (λ (c : Cell). c.ty) in
    let count = ap length same in
    record {
      few = omega (arith, few_cells, long, count);
      starts = starts_fit cfa.cells
          (subst (AllByRecursion (λ (c : Cell). IsInRange c.ty c.start)) (sym same)
          is.well_formed.starts);
    }

pub further_calls_read : FurtherCallsRead
further_calls_read cfa initial added later one is first behind fits =
    let so = shaped cfa is in
    let start = begun_fitted cfa.cells so.starts initial in
    let form = all_go cfa.cells cfa.points so.few (begun cfa.cells initial) added start
    (added_fits cfa so.few added first) in
    later_reads cfa.cells cfa.points so.few (form_of cfa.cells initial added) later one form.fitted
    (added_fits cfa so.few later behind) (added_fits cfa so.few (one ∷ []) (fits, tt)).0

pub weights_are_sums : WeightsAreSums
weights_are_sums cfa initial added is first =
    let so = shaped cfa is in
    weighed_from cfa.cells (AddedFits cfa.cells cfa.points so.few)
    (call_is cfa.cells cfa.points so.few) added (begun cfa.cells initial) 0
    (added_fits cfa so.few added first) (begun_fitted cfa.cells so.starts initial) (omega arith)
    ∙ ap (λ n. min n (2 ^ 64 - 1)) (zero-add (sum (map (added_weight (places_from 0 cfa.cells))
    added)))

goes_on : (form : Form) (first second : List Added)
    → form_from form (first ++ second) ≡ form_from (form_from form first) second
goes_on form [] second = refl
goes_on form (one ∷ first) second = goes_on (with_added one form) first second

module _ (cells : List Cell) (second : List Added) (to : List ℤ) where
  -- a run of both, by the store between them
  abbrev InTwo : List Added → List ℤ → List ℤ → Type 0
  InTwo first from inputs =
      (between own others : List ℤ) × Runs cells first from own between
      × (inputs ≡ own ++ others) × Runs cells second between others to

  in_two : (first : List Added) (from inputs : List ℤ)
      → Runs cells (first ++ second) from inputs to → InTwo first from inputs
  in_two [] from inputs h = (from, [], inputs, (refl, refl), refl, h)
  in_two (one ∷ first) from inputs h =
      let rest = in_two first h.0 h.2 h.5 in (
        rest.0,
        h.1 ++ rest.1,
        rest.2,
        (h.0, h.1, rest.1, h.3, refl, rest.3),
        h.4 ∙ (ap (λ l. h.1 ++ l) rest.4 ∙ sym (append_assoc h.1 rest.1 rest.2)),
        rest.5,
      )

  at_once : (first : List Added) (from inputs : List ℤ) → InTwo first from inputs
      → Runs cells (first ++ second) from inputs to
  at_once [] from inputs (between, own, others, here, is, rest) =
      subst (λ l. Runs cells second from l to)
      (sym (is ∙ ap (λ l. l ++ others) here.0))
      (subst (λ s. Runs cells second s others to) here.1 rest)
  at_once (one ∷ first) from inputs (between, own, others, here, is, rest) = (
    here.0,
    here.1,
    here.2 ++ others,
    here.3,
    is ∙ (ap (λ l. l ++ others) here.4 ∙ append_assoc here.1 here.2 others),
    at_once first here.0 (here.2 ++ others) (between, here.2, others, here.5, refl, rest),
  )

pub adding_goes_on : AddingGoesOn
adding_goes_on = record {
  form = goes_on;
  runs = λ cells first second from inputs to.
      (in_two cells second to first from inputs, at_once cells second to first from inputs);
}
