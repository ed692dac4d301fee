-- The models of a form's query are the runs that meet what was added.
use Rattle.std.proofs.Common.{◌≡◌, ℕ, zero, suc, ◌+◌, ◌<◌, ◌≤◌, ◌^◌, ℤ, Bool, List, [], ◌∷◌, ◌++◌}
use Rattle.std.proofs.Common.{map, take, length, Option, None, Some, slice_get, option_map, refl}
use Rattle.std.proofs.Common.{sym, ap, ◌∙◌, subst, arith}
use Rattle.std.specs.Prelude.{IsSomeAnd, slice_set, sum, ⊤}
use Rattle.std.specs.List.{AllByRecursion}
use Rattle.std.proofs.Math.Nat.{max-le}
use Rattle.std.proofs.lemmas.List.{length-map}
use Rattle.std.proofs.lemmas.Option.{slice_get_within, slice_get-map}
use Rattle.cpa_ints.specs.declared.integers.IntType.{IntType}
use Rattle.cpa_ints.specs.Integers.{IsInRange}
use Rattle.cpa_expr.specs.declared.tree.CmpOp.{CmpOp}
use Rattle.cpa_expr.specs.declared.tree.CmpOp.TheVariants as cmp
use Rattle.cpa_expr.specs.declared.tree.Expr.{Expr}
use Rattle.cpa_expr.specs.declared.tree.Expr.TheVariants.{Const, Cmp}
use Rattle.cpa_expr.specs.Shape.{type_of, height, AreCells, IsTyped}
use Rattle.cpa_expr.specs.declared.shape.TheConstants.{MAX_HEIGHT}
use Rattle.cpa_expr.specs.Cells.{AreValues, scalar_read}
use Rattle.cpa_expr.specs.Laws.{typed_at_variants, height_at_variants, type_at_variants}
use Rattle.cpa_expr.specs.Laws.{a_scalar_is_its_cell, a_constant_is_its_number}
use Rattle.cpa_model.specs.declared.program.Cell.{Cell}
use Rattle.cpa_model.specs.declared.automaton.Act.{Act}
use Rattle.cpa_model.specs.declared.automaton.Act.TheVariants as act
use Rattle.cpa_facts.specs.declared.fact.Fact.{Fact}
use Rattle.cpa_facts.specs.declared.fact.Fact.TheVariants.{At, Stack, Equals, Within, Truth}
use Rattle.cpa_model.specs.declared.facts.Elem.{Elem}
use Rattle.cpa_model.specs.Expressions.{types_of, IsExpr}
use Rattle.cpa_model.specs.Facts.{IsValueOf, IsFact, IsElem}
use Rattle.cpa_query.specs.Queries.{IsModel}
use Rattle.cpa_form_renaming.specs.declared.places.Place.{Place}
use Rattle.cpa_form_renaming.specs.Places.{number_at, Shows}
use Rattle.cpa_form_rules.specs.Runs.{Added, taken, holding, failing, Meets, Runs, StoreHolds}
use Rattle.cpa_form_rules.specs.Runs.{StoreFails, Begins}
use Rattle.cpa_form_rules.specs.Forms.{Form, begun, with_added, with_act, with_tests}
use Rattle.cpa_form_rules.specs.Forms.{with_failing}
use Rattle.cpa_form_rules.specs.Forms.{weighed, form_of, or_zero, value_in, first_store}
use Rattle.cpa_form_rules.specs.Forms.{last_store}
use Rattle.cpa_form_rules.specs.Forms.{inputs_at, place_now, act_weight, elem_weight}
use Rattle.cpa_form_rules.specs.Tests.{type_at, fact_tests, tests_of}
use Rattle.cpa_form_renaming.specs.lemmas.TestShapes.{short}
use Rattle.cpa_form_rules.specs.lemmas.Failures.{shows_tail}
use Rattle.cpa_form_rules.specs.lemmas.Heights.{test_height}
use Rattle.cpa_form_rules.specs.lemmas.Lists.{all_both}
use Rattle.cpa_form_rules.specs.lemmas.Models.{model_long}
use Rattle.cpa_form_rules.specs.lemmas.Copies.{Stand}
use Rattle.cpa_form_rules.specs.lemmas.FactTests.{facts_back, facts_forth}
use Rattle.cpa_form_rules.specs.lemmas.Calls.{Fitted, Call, Askable, tests_step, places_long}
use Rattle.cpa_form_rules.specs.lemmas.Steps.{failing_step}
use Rattle.cpa_form_rules.specs.lemmas.Changes.{type_there, input_step}
use Rattle.cpa_form_rules.specs.lemmas.Each.{write_step}
use Rattle.cpa_form_rules.specs.lemmas.Added.{still_call, nothing_step, assume_call, write_call}
use Rattle.cpa_form_rules.specs.lemmas.Whole.{Whole, whole}
use Rattle.cpa_form_rules.specs.lemmas.Beginnings.{begun_shows, begun_fitted, begun_back}
use Rattle.cpa_form_rules.specs.lemmas.Beginnings.{begun_forth}

-- ---- what is added to a form over the cells of a program

module _ (cells : List Cell) (points : ℕ) (few : length (types_of cells) < 2 ^ 63) where
  -- an act that names the cells, or elements that are shaped for them
  abbrev pub ActFits : Act → Type 0
  ActFits (act.Assign base len index value) =
      (1 ≤ len) × IsExpr cells index × IsExpr cells value
      × AreCells (types_of cells) base len (type_of value)
  ActFits (act.Assume test holds) = IsExpr cells test
  ActFits (act.Input cell) = cell < length cells
  ActFits other = ⊤

  abbrev pub AddedFits : Added → Type 0
  AddedFits (taken act) = ActFits act
  AddedFits (holding elem) = IsElem cells points elem
  AddedFits (failing elems) = AllByRecursion (IsElem cells points) elems

  module _ (form : Form) (fitted : Fitted cells form) where
    abbrev pub Low : Expr × Bool → Type 0
    Low one = IsTyped (types_of cells) one.0 × (height one.0 ≤ test_height)

    -- the type of a cell
    cell_type : (cell : ℕ) → cell < length form.places
        → slice_get (types_of cells) cell ≡ Some (type_at form.places cell)
    cell_type cell below =
        ap (λ ts. slice_get ts cell) (sym fitted.types) ∙ type_there form.places cell below

    -- the cell is there, with its type
    value_cell : (cell : ℕ) (v : ℤ) → IsValueOf cells cell v
        → (cell < length form.places) × IsInRange (type_at form.places cell) v
    value_cell cell v is = by (slice_get cells cell) refl is
      where
        by : (o : Option Cell) → slice_get cells cell ≡ o → IsSomeAnd o (λ c. IsInRange c.ty v)
            → (cell < length form.places) × IsInRange (type_at form.places cell) v
        by None e h = absurd h
        by (Some c) e h =
            let below = subst (λ n. cell < n)
            (sym (length-map cells (λ c. c.ty)) ∙ places_long cells form fitted)
            (slice_get_within cells cell c e) in
            let typed : Some c.ty ≡ Some (type_at form.places cell) =
            sym (slice_get-map (λ (d : Cell). d.ty) cells cell ∙ ap (option_map (λ d. d.ty)) e)
            ∙ cell_type cell below in
            let same : c.ty ≡ type_at form.places cell = cc in
            (below, subst (λ t. IsInRange t v) same h)

    in_range_value : (cell : ℕ) (v : ℤ) → cell < length form.places
        → IsInRange (type_at form.places cell) v → IsValueOf cells cell v
    in_range_value cell v below h = by (slice_get cells cell) refl
      where
        by : (o : Option Cell) → slice_get cells cell ≡ o → IsSomeAnd o (λ c. IsInRange c.ty v)
        by None e =
            let none : None ≡ Some (type_at form.places cell) =
            sym (slice_get-map (λ (d : Cell). d.ty) cells cell ∙ ap (option_map (λ d. d.ty)) e)
            ∙ cell_type cell below in absurd (cc)
        by (Some c) e =
            let typed : Some c.ty ≡ Some (type_at form.places cell) =
            sym (slice_get-map (λ (d : Cell). d.ty) cells cell ∙ ap (option_map (λ d. d.ty)) e)
            ∙ cell_type cell below in
            let same : type_at form.places cell ≡ c.ty = cc in
            subst (λ t. IsInRange t v) same h

    -- a comparison of a cell with a number
    compared : (o : CmpOp) (t : IntType) (a b : Expr) → IsTyped (types_of cells) a
        → IsTyped (types_of cells) b → type_of a ≡ t → type_of b ≡ t → height a ≤ MAX_HEIGHT
        → height b ≤ MAX_HEIGHT
        → IsTyped (types_of cells) (Cmp o t a b) × (height (Cmp o t a b) ≤ MAX_HEIGHT + 1)
    compared o t a b h k is are low also = (
      (typed_at_variants.comparison (types_of cells) o t a b).1 (is, are, h, k),
      subst (λ n. n ≤ MAX_HEIGHT + 1) (sym (height_at_variants.comparison o t a b))
          (let most = max-le low also in omega (arith, most)),
    )

    fact_low : (fact : Fact) → IsFact cells points fact
        → AllByRecursion Low (fact_tests form.places fact)
    fact_low (At point) is = tt
    fact_low (Stack sites) is = tt
    fact_low (Equals cell value) is =
        let there = value_cell cell value is in
        let t = type_at form.places cell in
        let scalar = (a_scalar_is_its_cell.expr (types_of cells) t cell).1 (cell_type cell there.0)
        in
        let constant = (a_constant_is_its_number (types_of cells) t value).1 there.1 in
        let both = compared cmp.Eq t (scalar_read t cell) (Const t value) scalar.typed
        constant.typed
        (a_scalar_is_its_cell.ty t cell) (type_at_variants.constant t value) scalar.height
        constant.height in
        ((both.0, let low = both.1 in omega (arith, low)), tt)
    fact_low (Within cell lo hi) is =
        let there = value_cell cell lo is.0 in
        let also = value_cell cell hi is.1 in
        let t = type_at form.places cell in
        let scalar = (a_scalar_is_its_cell.expr (types_of cells) t cell).1 (cell_type cell there.0)
        in
        let low_is = (a_constant_is_its_number (types_of cells) t lo).1 there.1 in
        let high_is = (a_constant_is_its_number (types_of cells) t hi).1 also.1 in
        let first = compared cmp.Le t (Const t lo) (scalar_read t cell) low_is.typed scalar.typed
        (type_at_variants.constant t lo) (a_scalar_is_its_cell.ty t cell) low_is.height
        scalar.height in
        let second = compared cmp.Le t (scalar_read t cell) (Const t hi) scalar.typed high_is.typed
        (a_scalar_is_its_cell.ty t cell) (type_at_variants.constant t hi) scalar.height
        high_is.height in
        let a = Cmp cmp.Le t (Const t lo) (scalar_read t cell) in
        let b = Cmp cmp.Le t (scalar_read t cell) (Const t hi) in (
          (
            (typed_at_variants.conjunction (types_of cells) a b).1 (first.0, second.0),
            subst (λ n. n ≤ test_height) (sym (height_at_variants.conjunction a b))
                (let most = max-le first.1 second.1 in omega (arith, most)),
          ),
          tt,
        )
    fact_low (Truth expr holds) is = ((is.typed, let low = is.height in omega (arith, low)), tt)

    pub facts_low : (facts : List Fact) → AllByRecursion (IsFact cells points) facts
        → AllByRecursion Low (tests_of form.places facts)
    facts_low [] h = tt
    facts_low (fact ∷ facts) h =
        all_both Low (fact_tests form.places fact) (tests_of form.places facts) (fact_low fact h.0)
        (facts_low facts h.1)

    pub low_askable : (asked : List (Expr × Bool)) → AllByRecursion Low asked
        → AllByRecursion (Askable cells form fitted) asked
    low_askable [] h = tt
    low_askable (one ∷ asked) h =
        ((h.0.0, let low = h.0.1 in omega (arith, low)), low_askable asked h.1)

    pub elems_low : (elems : List Elem) → AllByRecursion (IsElem cells points) elems
        → AllByRecursion (λ (elem : Elem). AllByRecursion Low (tests_of form.places elem.facts))
        elems
    elems_low [] h = tt
    elems_low (elem ∷ elems) h = (facts_low elem.facts h.0, elems_low elems h.1)

    -- ---- the calls

    weigh : (one : Added) (n : ℕ) (after : Form) → Call cells one form after
        → Call cells one form (weighed n after)
    weigh one n after call = record {
      fitted = record {
        asked = call.fitted.asked;
        stand = call.fitted.stand;
        types = call.fitted.types;
        many = call.fitted.many;
        inputs = call.fitted.inputs;
      };
      longer = call.longer;
      back = call.back;
      forth = call.forth;
    }

    holding_call : (elem : Elem) → IsElem cells points elem
        → Call cells (holding elem) form (with_tests (tests_of form.places elem.facts) form)
    holding_call elem is =
        let asked = tests_of form.places elem.facts in
        let step = tests_step cells form fitted asked (low_askable asked (facts_low elem.facts is))
        in
        still_call cells form fitted (holding elem) (λ store. StoreHolds store elem)
        (with_tests asked form) (record {
          keeps = step.keeps;
          longer = step.longer;
          same_inputs = refl;
          back = λ values model.
              let found = step.back values model in (
                found.0,
                found.1,
                found.2,
                λ store shows.
                    let here = found.3 store shows in
                    (here.0, facts_back form.places store elem.facts here.1),
              );
          forth = λ old store model shows holds.
              step.forth old store model shows (facts_forth form.places store elem.facts holds);
        })
        (λ store h. (h, refl, refl)) (λ store own new meets. (meets.0, meets.1, meets.2))

    failing_call : (elems : List Elem) → AllByRecursion (IsElem cells points) elems
        → Call cells (failing elems) form (with_failing elems form)
    failing_call elems is =
        let step = failing_step cells form fitted few elems (elems_low elems is) in
        still_call cells form fitted (failing elems) (λ store. AllByRecursion (StoreFails store)
        elems)
        (with_failing elems form) (record {
          keeps = step.keeps;
          longer = step.longer;
          same_inputs = refl;
          back = step.back;
          forth = step.forth;
        })
        (λ store h. (h, refl, refl)) (λ store own new meets. (meets.0, meets.1, meets.2))

    input_call : (cell : ℕ) → cell < length form.places
        → Call cells (taken (act.Input cell)) form (with_act (act.Input cell) form)
    input_call cell below =
        let step = input_step cells form fitted cell below in
        record {
          fitted = step.keeps;
          longer = step.longer;
          back = λ values model.
              let found = step.back values model in (
                found.0,
                found.1,
                found.2,
                λ store shows.
                    let here = found.3 store shows in (
                      slice_set store cell here.0,
                      here.0 ∷ [],
                      (here.0, in_range_value cell here.0 below here.1, refl, refl),
                      here.2,
                      here.3,
                    ),
              );
          forth = λ old store new own model shows meets.
              let made = step.forth old store meets.0 model shows (value_cell cell meets.0
              meets.1).1 in (
                made.0,
                made.1,
                made.2,
                subst (Shows (with_act (act.Input cell) form).places made.0) (sym meets.3) made.3,
                subst (λ vs. inputs_at (with_act (act.Input cell) form) made.0
                    ≡ inputs_at form old ++ vs) (sym meets.2) made.4,
              );
        }

    nothing_call : (one : Added)
        → ((store : List ℤ) → Meets cells one store [] store)
        → ((store own new : List ℤ) → Meets cells one store own new → (own ≡ []) × (new ≡ store))
        → Call cells one form form
    nothing_call one to from =
        still_call cells form fitted one (λ store. ⊤) form (nothing_step cells form fitted)
        (λ store h. to store) (λ store own new meets.
        let both = from store own new meets in (tt, both.0, both.1))

    act_call : (a : Act) → ActFits a → Call cells (taken a) form (with_act a form)
    act_call act.Skip is =
        nothing_call (taken act.Skip) (λ store. (refl, refl)) (λ store own new meets.
        (meets.0, meets.1))
    act_call (act.Assign base len index value) is =
        write_call cells form fitted base len index value
        (write_step cells form fitted base index value len is.0
        (short (types_of cells) few base len (type_of value) is.0 is.3)
        (is.1.typed, let low = is.1.height in omega (arith, low))
        (is.2.typed, let low = is.2.height in omega (arith, low)) is.3)
    act_call (act.Assume test holds) is = assume_call cells form fitted test holds is
    act_call (act.Input cell) is =
        input_call cell (subst (λ n. cell < n)
        (sym (length-map cells (λ c. c.ty)) ∙ places_long cells form fitted) is)
    act_call (act.Call site) is =
        nothing_call (taken (act.Call site)) (λ store. (refl, refl)) (λ store own new meets.
        (meets.0, meets.1))
    act_call (act.Return site) is =
        nothing_call (taken (act.Return site)) (λ store. (refl, refl)) (λ store own new meets.
        (meets.0, meets.1))

  pub call_is : (one : Added) (form : Form) → AddedFits one → Fitted cells form
      → Call cells one form (with_added one form)
  call_is (taken a) form is fitted =
      weigh form fitted (taken a) (act_weight a) (with_act a form) (act_call form fitted a is)
  call_is (holding elem) form is fitted =
      weigh form fitted (holding elem) (elem_weight form.places elem)
      (with_tests (tests_of form.places elem.facts) form) (holding_call form fitted elem is)
  call_is (failing elems) form is fitted =
      weigh form fitted (failing elems) (sum (map (elem_weight form.places) elems))
      (with_failing elems form) (failing_call form fitted elems is)

-- ---- what is read off a model

-- the places show the last store alone
pub shown_is : (places : List Place) (values store : List ℤ) → Shows places values store
    → store ≡ map (λ place. value_in values place.number) places
shown_is [] values [] shows = refl
shown_is [] values (v ∷ store) shows = let is = shows.long in absurd (omega (arith, is))
shown_is (p ∷ places) values [] shows = let is = shows.long in absurd (omega (arith, is))
shown_is (p ∷ places) values (v ∷ store) shows =
    let here : v ≡ value_in values p.number = sym (ap or_zero (shows.at 0 (omega arith))) in
    ap (λ w. w ∷ store) here
    ∙ ap (λ vs. value_in values p.number ∷ vs)
    (shown_is places values store (shows_tail p places values v store shows))

take_front : (xs ys : List ℤ) (n : ℕ) → n ≡ length xs → take n (xs ++ ys) ≡ xs
take_front [] ys n is = subst (λ m. take m ys ≡ []) (sym is) refl
take_front (x ∷ xs) ys zero is = absurd (omega (arith, is))
take_front (x ∷ xs) ys (suc n) is = ap (λ vs. x ∷ vs) (take_front xs ys n (omega (arith, is)))

place_inside : (cells : List IntType) (places : List Place) (cell : ℕ) → Stand cells places
    → cell < length places → number_at places cell < length cells
place_inside cells [] cell stand below = absurd (omega (arith, below))
place_inside cells (p ∷ places) zero stand below = slice_get_within cells p.number p.ty stand.0
place_inside cells (p ∷ places) (suc cell) stand below =
    place_inside cells places cell stand.1 (omega (arith, below))

-- ---- the law

pub record IsFormed (cells : List Cell) (initial : Bool) (added : List Added) (form : Form)
    : Type 0 where
  pub fitted : Fitted cells form
  pub begins : (values : List ℤ) → IsModel form.query values
      → Begins cells initial (first_store form values)
  pub run : (values : List ℤ) → IsModel form.query values
      → Runs cells added (first_store form values) (inputs_at form values)
      (last_store form values)
  pub model : (first inputs last : List ℤ) → Begins cells initial first
      → Runs cells added first inputs last
      → (values : List ℤ) × IsModel form.query values × (first_store form values ≡ first)
      × (inputs_at form values ≡ inputs) × (last_store form values ≡ last)
  pub place : (values : List ℤ) (cell : ℕ) → IsModel form.query values → cell < length cells
      → slice_get values (place_now form cell) ≡ slice_get (last_store form values) cell
  pub inside : (cell : ℕ) → cell < length cells
      → place_now form cell < length form.query.cells

module _ (cells : List Cell) (points : ℕ) (few : length (types_of cells) < 2 ^ 63)
    (fit : AreValues (types_of cells) (map (λ cell. cell.start) cells)) (initial : Bool)
    (added : List Added) (are : AllByRecursion (AddedFits cells points few) added) where
  abbrev last : Form
  last = form_of cells initial added

  abbrev start : Form
  start = begun cells initial

  all : Whole cells added start last
  all = whole cells (AddedFits cells points few) (call_is cells points few) added start are
      (begun_fitted cells fit initial)

  places_count : length last.places ≡ length cells
  places_count = sym (places_long cells last all.fitted) ∙ length-map cells (λ c. c.ty)

  -- a model as a run
  record IsRun (values : List ℤ) : Type 0 where
    old : List ℤ
    inputs : List ℤ
    store : List ℤ
    begins : Begins cells initial old
    first : first_store last values ≡ old
    runs : Runs cells added old inputs store
    shows : Shows last.places values store
    inputs_are : inputs_at last values ≡ inputs

  run_of : (values : List ℤ) → IsModel last.query values → IsRun values
  run_of values is =
      let found = all.back values is in
      let long = model_long start.query found.0 found.2 ∙ length-map cells (λ c. c.ty) in
      let here = found.3 found.0 (begun_shows cells found.0 long) in
      record {
        old = found.0;
        inputs = here.1;
        store = here.0;
        begins = begun_back cells fit initial found.0 found.2;
        first = ap (take (length last.places)) found.1.1
            ∙ take_front found.0 found.1.0 (length last.places) (places_count ∙ sym long);
        runs = here.2;
        shows = here.3;
        inputs_are = here.4;
      }

  pub formed : IsFormed cells initial added last
  formed = record {
    fitted = all.fitted;
    begins = λ values is.
        let run = run_of values is in subst (Begins cells initial) (sym run.first) run.begins;
    run = λ values is.
        let run = run_of values is in
        subst (λ f. Runs cells added f (inputs_at last values) (last_store last values))
        (sym run.first)
        (subst (λ i. Runs cells added run.old i (last_store last values)) (sym run.inputs_are)
        (subst (Runs cells added run.old run.inputs)
        (shown_is last.places values run.store run.shows) run.runs));
    model = λ first inputs store begins runs.
        let is = begun_forth cells fit initial first begins in
        let long = model_long start.query first is ∙ length-map cells (λ c. c.ty) in
        let made = all.forth first first store inputs is (begun_shows cells first long) runs in (
          made.0,
          made.2,
          ap (take (length last.places)) made.1.1
              ∙ take_front first made.1.0 (length last.places) (places_count ∙ sym long),
          made.4,
          sym (shown_is last.places made.0 store made.3),
        );
    place = λ values cell is below.
        let run = run_of values is in
        run.shows.at cell (subst (λ n. cell < n) (sym places_count) below)
        ∙ ap (λ s. slice_get s cell) (shown_is last.places values run.store run.shows);
    inside = λ cell below.
        place_inside last.query.cells last.places cell all.fitted.stand
        (subst (λ n. cell < n) (sym places_count) below);
  }
