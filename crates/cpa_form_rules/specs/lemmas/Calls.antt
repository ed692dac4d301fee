-- What each call does to the models of a form's query.
use Rattle.std.proofs.Common.{◌≡◌, ℕ, ◌<◌, ◌≤◌, ℤ, Bool, IsTrue, List, [], ◌∷◌, ◌++◌, map}
use Rattle.std.proofs.Common.{length, refl, sym, ap, ◌∙◌, subst, arith}
use Rattle.std.specs.List.{AllByRecursion}
use Rattle.std.proofs.lemmas.List.{append-nil, length-append, length-map}
use Rattle.cpa_ints.specs.declared.integers.IntType.{IntType}
use Rattle.cpa_expr.specs.declared.tree.Expr.{Expr}
use Rattle.cpa_expr.specs.Shape.{height, IsTyped}
use Rattle.cpa_model.specs.declared.program.Cell.{Cell}
use Rattle.cpa_model.specs.Expressions.{types_of}
use Rattle.cpa_query.specs.declared.query.Query.{Query}
use Rattle.cpa_query.specs.Queries.{IsQuery, IsModel}
use Rattle.cpa_form_renaming.specs.declared.places.Place.{Place}
use Rattle.cpa_form_renaming.specs.Places.{Shows}
use Rattle.cpa_form_renaming.specs.Renaming.{is_whole}
use Rattle.cpa_form_rules.specs.declared.drafts.Draft.{Draft}
use Rattle.cpa_form_rules.specs.Runs.{Added, Meets}
use Rattle.cpa_form_rules.specs.Drafts.{behind, Placed, placed, settled, want_all}
use Rattle.cpa_form_rules.specs.Forms.{Form, draft_of, joined, with_tests, or_zero, value_in}
use Rattle.cpa_form_rules.specs.Forms.{inputs_at}
use Rattle.cpa_form_rules.specs.lemmas.Heights.{inner_height}
use Rattle.cpa_form_rules.specs.lemmas.Lists.{Front}
use Rattle.cpa_form_rules.specs.lemmas.Models.{Wanted, Fine, all_cells, model_long}
use Rattle.cpa_form_rules.specs.lemmas.Copies.{Stand, types_at, shows_same, shows_types}
use Rattle.cpa_form_rules.specs.lemmas.Copies.{IsSettled}
use Rattle.cpa_form_rules.specs.lemmas.Copies.{settled_is, get_in_front}
use Rattle.cpa_form_rules.specs.lemmas.Wants.{Reads, fine_want_all, want_all_back}
use Rattle.cpa_form_rules.specs.lemmas.Wants.{want_all_forth}
use Rattle.cpa_form_rules.specs.lemmas.Wants.{want_all_model, cells_want_all}

-- a form over the cells of a program
pub record Fitted (cells : List Cell) (form : Form) : Type 0 where
  pub asked : IsQuery form.query
  pub stand : Stand form.query.cells form.places
  pub types : types_at form.places ≡ types_of cells
  pub many : length form.places ≤ length form.query.cells
  pub inputs : AllByRecursion (λ n. n < length form.query.cells) form.inputs

-- what a call does to the models
pub record Call (cells : List Cell) (one : Added) (before after : Form) : Type 0 where
  pub fitted : Fitted cells after
  pub longer : Front before.query.cells after.query.cells
  pub back : (values : List ℤ) → IsModel after.query values
      → (old : List ℤ) × Front old values × IsModel before.query old
      × ((store : List ℤ) → Shows before.places old store
      → (new own : List ℤ) × Meets cells one store own new × Shows after.places values new
      × (inputs_at after values ≡ inputs_at before old ++ own))
  pub forth : (old store new own : List ℤ) → IsModel before.query old
      → Shows before.places old store → Meets cells one store own new
      → (values : List ℤ) × Front old values × IsModel after.query values
      × Shows after.places values new × (inputs_at after values ≡ inputs_at before old ++ own)

-- ---- an empty draft

make_query : List IntType → List (Expr × Bool) → Query
make_query cells wanted = record { cells = cells; wanted = wanted }

pub behind_none : (form : Form) → behind form.query (draft_of form) ≡ form.query
behind_none form =
    ap (λ cells. record { cells = cells; wanted = form.query.wanted ++ [] }) (append-nil
    form.query.cells)
    ∙ ap (λ wanted. record { cells = form.query.cells; wanted = wanted })
    (append-nil form.query.wanted)

pub fine_none : (cells : List Cell) (form : Form) → Fitted cells form
    → Fine form.query (draft_of form)
fine_none cells form fitted = record {
  first = refl;
  asked = subst IsQuery (sym (behind_none form)) fitted.asked;
}

pub stand_none : (cells : List Cell) (form : Form) → Fitted cells form
    → Stand (all_cells form.query (draft_of form)) form.places
stand_none cells form fitted =
    subst (λ cs. Stand cs form.places) (sym (append-nil form.query.cells)) fitted.stand

pub places_long : (cells : List Cell) (form : Form) → Fitted cells form
    → length (types_of cells) ≡ length form.places
places_long cells form fitted =
    ap length (sym fitted.types) ∙ length-map form.places (λ p. p.ty)

-- ---- inputs stay

pub inputs_stay : (inputs : List ℕ) (old values : List ℤ)
    → AllByRecursion (λ n. n < length old) inputs → Front old values
    → map (value_in values) inputs ≡ map (value_in old) inputs
inputs_stay [] old values h front = refl
inputs_stay (n ∷ inputs) old values h front =
    ap (λ v. v ∷ map (value_in values) inputs) (ap or_zero (get_in_front old values n front h.0))
    ∙ ap (λ vs. value_in old n ∷ vs) (inputs_stay inputs old values h.1 front)

below_long : (inputs : List ℕ) (n m : ℕ) → n ≤ m → AllByRecursion (λ k. k < n) inputs
    → AllByRecursion (λ k. k < m) inputs
below_long [] n m most h = tt
below_long (k ∷ inputs) n m most h =
    let here = h.0 in (omega (arith, most, here), below_long inputs n m most h.1)

pub front_long : {A : Type 0} (xs zs : List A) → Front xs zs → length xs ≤ length zs
front_long xs zs front =
    let is = ap length front.1 ∙ length-append xs front.0 in omega (arith, is)

-- ---- a draft that is joined

module _ (cells : List Cell) (form : Form) (fitted : Fitted cells form) where
  abbrev pub q : Query
  q = form.query

  abbrev pub none : Draft
  none = draft_of form

  abbrev pub types : List IntType
  types = types_of cells

  -- the model of the form before
  pub before_is : (old : List ℤ) → IsModel (behind q none) old → IsModel q old
  before_is old is = subst (λ p. IsModel p old) (behind_none form) is

  pub behind_is : (old : List ℤ) → IsModel q old → IsModel (behind q none) old
  behind_is old is = subst (λ p. IsModel p old) (sym (behind_none form)) is

  pub fitted_joined : (at : Placed) → Fine q at.draft → Stand (all_cells q at.draft) at.places
      → types_at at.places ≡ types_at form.places → Fitted cells (joined form at)
  fitted_joined at fine stand same = record {
    asked = fine.asked;
    stand = stand;
    types = same ∙ fitted.types;
    many =
        let more = front_long q.cells (q.cells ++ at.draft.cells) (at.draft.cells, refl) in
        let long = sym (length-map at.places (λ p. p.ty)) ∙ (ap length same
        ∙ length-map form.places (λ p. p.ty)) in
        let most = fitted.many in omega (arith, more, long, most);
    inputs = below_long form.inputs (length q.cells) (length (q.cells ++ at.draft.cells))
        (front_long q.cells (q.cells ++ at.draft.cells) (at.draft.cells, refl)) fitted.inputs;
  }

  pub inputs_kept : (at : Placed) (old values : List ℤ) → IsModel q old → Front old values
      → inputs_at (joined form at) values ≡ inputs_at form old ++ []
  inputs_kept at old values is front =
      inputs_stay form.inputs old values
      (subst (λ n. AllByRecursion (λ k. k < n) form.inputs) (sym (model_long q old is))
      fitted.inputs) front
      ∙ sym (append-nil (inputs_at form old))

  -- ---- expressions that are asked of the program's cells

  abbrev pub Askable : Expr × Bool → Type 0
  Askable one = IsTyped types one.0 × (height one.0 ≤ inner_height)

  typed_there : (asked : List (Expr × Bool)) → AllByRecursion Askable asked
      → AllByRecursion (λ (one : Expr × Bool). IsTyped (types_at form.places) one.0) asked
  typed_there [] h = tt
  typed_there (one ∷ asked) h = (
    subst (λ ts. IsTyped ts one.0) (sym fitted.types) h.0.0,
    typed_there asked h.1,
  )

  all_read : (places : List Place) (asked : List (Expr × Bool)) → AllByRecursion Askable asked
      → AllByRecursion (λ (one : Expr × Bool). IsTrue (is_whole places one.0)) asked
      → AllByRecursion (λ (one : Expr × Bool). Reads places types one.0) asked
  all_read places [] h k = tt
  all_read places (one ∷ asked) h k = (
    record { readable = record { typed = h.0.0; whole = k.0 }; height = h.0.1 },
    all_read places asked h.1 k.1,
  )

  -- settled places: they show what the places showed
  pub record Settles (asked : List (Expr × Bool)) (at : Placed) : Type 0 where
    pub settled : IsSettled q none asked form.places at
    pub types_are : types_at at.places ≡ types
    pub long : length types ≡ length at.places
    pub shows : Shows at.places (all_cells q at.draft) types
    pub reads : AllByRecursion (λ (one : Expr × Bool). Reads at.places types one.0) asked

  pub settles : (asked : List (Expr × Bool)) → AllByRecursion Askable asked
      → Settles asked (settled asked form.places none)
  settles asked h =
      let at = settled asked form.places none in
      let is = settled_is q none form.places (fine_none cells form fitted)
      (stand_none cells form fitted) asked (typed_there asked h) in
      let same : types_at at.places ≡ types = is.replaces.types ∙ fitted.types in
      record {
        settled = is;
        types_are = same;
        long = ap length (sym same) ∙ length-map at.places (λ p. p.ty);
        shows = subst (Shows at.places (all_cells q at.draft)) same
            (shows_types (all_cells q at.draft) at.places is.replaces.stand);
        reads = all_read at.places asked h is.whole;
      }

  abbrev tests_draft : List (Expr × Bool) → Placed → Draft
  tests_draft asked at = want_all at.places asked at.draft

  -- what wanted tests do to the models
  pub record TestsStep (asked : List (Expr × Bool)) (after : Form) : Type 0 where
    pub keeps : Fitted cells after
    pub longer : Front q.cells after.query.cells
    pub back : (values : List ℤ) → IsModel after.query values
        → (old : List ℤ) × Front old values × IsModel q old
        × ((store : List ℤ) → Shows form.places old store
        → Shows after.places values store × AllByRecursion (Wanted store) asked)
    pub forth : (old store : List ℤ) → IsModel q old → Shows form.places old store
        → AllByRecursion (Wanted store) asked
        → (values : List ℤ) × Front old values × IsModel after.query values
        × Shows after.places values store

  pub tests_step : (asked : List (Expr × Bool)) → AllByRecursion Askable asked
      → TestsStep asked (with_tests asked form)
  tests_step asked h =
      let at = settled asked form.places none in
      let is = settles asked h in
      let d = tests_draft asked at in
      let fine = fine_want_all q at.places types is.long asked at.draft is.reads
      is.settled.replaces.fine is.shows in
      let same = cells_want_all q at.places types is.long asked at.draft in
      record {
        keeps = fitted_joined (placed d at.places) fine
            (subst (λ cs. Stand cs at.places) (sym same) is.settled.replaces.stand)
            is.settled.replaces.types;
        longer = (d.cells, refl);
        back = λ values model.
            let found = is.settled.replaces.back values
            (want_all_model q at.places types is.long asked at.draft values model) in (
              found.0,
              found.1,
              before_is found.0 found.2,
              λ store shows.
                  let same_there = found.3 in
                  let here = shows_same found.0 values store form.places at.places same_there
                  shows in (
                    here,
                    (want_all_back q at.places types is.long asked at.draft values store is.reads
                        here
                        model).1,
                  ),
            );
        forth = λ old store model shows wanted.
            let found = is.settled.replaces.forth old (behind_is old model) in
            let here = shows_same old found.0 store form.places at.places found.3 shows in (
              found.0,
              found.1,
              want_all_forth q at.places types is.long asked at.draft found.0 store
                  is.reads here found.2 wanted,
              here,
            );
      }
