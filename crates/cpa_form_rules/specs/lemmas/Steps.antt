-- What the calls do to the models: elements that fail, inputs and writes.
use Rattle.std.proofs.Common.{◌<◌, ◌≤◌, ◌^◌, ℤ, Bool, true, false, List, [], ◌∷◌, map, length, refl}
use Rattle.std.proofs.Common.{subst, arith}
use Rattle.std.specs.List.{AllByRecursion, flat_map}
use Rattle.std.proofs.Math.Nat.{max-le}
use Rattle.cpa_ints.specs.declared.integers.IntType.{IntType}
use Rattle.cpa_expr.specs.declared.tree.Expr.{Expr}
use Rattle.cpa_expr.specs.Shape.{height, IsTyped}
use Rattle.cpa_expr.specs.Cells.{AreValues}
use Rattle.cpa_expr.specs.Laws.{typed_at_variants, height_at_variants}
use Rattle.cpa_model.specs.declared.program.Cell.{Cell}
use Rattle.cpa_model.specs.declared.facts.Elem.{Elem}
use Rattle.cpa_model.specs.Expressions.{types_of}
use Rattle.cpa_query.specs.Queries.{IsModel}
use Rattle.cpa_form_renaming.specs.Places.{Shows}
use Rattle.cpa_form_renaming.specs.TrapTests.{trap_test}
use Rattle.cpa_form_renaming.specs.Laws.{trap_tests_tell}
use Rattle.cpa_form_rules.specs.Runs.{StoreFails}
use Rattle.cpa_form_rules.specs.Drafts.{behind, Placed, placed, settled}
use Rattle.cpa_form_rules.specs.Tests.{tests_of, other_than, denied, denials_of, want_each}
use Rattle.cpa_form_rules.specs.Forms.{Form, draft_of, with_failing}
use Rattle.cpa_form_rules.specs.lemmas.Heights.{inner_height, test_height, trap_height}
use Rattle.cpa_form_rules.specs.lemmas.Lists.{Front, front_of_front}
use Rattle.cpa_form_rules.specs.lemmas.Models.{all_cells, model_long}
use Rattle.cpa_form_rules.specs.lemmas.Copies.{stand_front, shows_same, same_front}
use Rattle.cpa_form_rules.specs.lemmas.Wants.{Reads}
use Rattle.cpa_form_rules.specs.lemmas.FactTests.{Denies, denied_is}
use Rattle.cpa_form_rules.specs.lemmas.Chains.{HasTold, SomeTold, each_kept, each_back}
use Rattle.cpa_form_rules.specs.lemmas.Chains.{each_forth}
use Rattle.cpa_form_rules.specs.lemmas.Calls.{Fitted, before_is, behind_is, fitted_joined}
use Rattle.cpa_form_rules.specs.lemmas.Calls.{Askable, Settles, settles}
use Rattle.cpa_form_rules.specs.lemmas.Failures.{shown_values, all_flat, flat_all, denials_told}
use Rattle.cpa_form_rules.specs.lemmas.Failures.{fails_told, told_fails}

module _ (cells : List Cell) (form : Form) (fitted : Fitted cells form)
    (few : length (types_of cells) < 2 ^ 63) where
  abbrev own_types : List IntType
  own_types = types_of cells

  -- a test of a height that leaves room for its denial
  abbrev pub Deniable : Expr × Bool → Type 0
  Deniable one = IsTyped own_types one.0 × (height one.0 ≤ test_height)

  denial_askable : (one : Expr × Bool) → Deniable one
      → IsTyped own_types (denied one).0 × (height (denied one).0 ≤ inner_height)
  denial_askable one h = (
    (typed_at_variants.disjunction own_types (trap_test one.0) (other_than one.1 one.0)).1 (
      trap_tests_tell.typed own_types one.0 few h.0,
      other_typed one.1 one.0 h.0,
    ),
    low one h,
  )
    where
      other_typed : (holds : Bool) (e : Expr) → IsTyped own_types e
          → IsTyped own_types (other_than holds e)
      other_typed true e h = (typed_at_variants.negation own_types e).1 h
      other_typed false e h = h

      other_low : (holds : Bool) (e : Expr) → height e ≤ test_height
          → height (other_than holds e) ≤ trap_height
      other_low true e h = let is = height_at_variants.negation e in omega (arith, is, h)
      other_low false e h = omega (arith, h)

      low : (one : Expr × Bool) → Deniable one → height (denied one).0 ≤ inner_height
      low one h =
          let is = height_at_variants.disjunction (trap_test one.0) (other_than one.1 one.0) in
          let test = trap_tests_tell.height one.0 in
          let low_test : height (trap_test one.0) ≤ trap_height = omega (arith, test, h.1) in
          let most = max-le low_test (other_low one.1 one.0 h.1) in omega (arith, is, most)

  denials_askable : (tests : List (Expr × Bool)) → AllByRecursion Deniable tests
      → AllByRecursion
      (λ (one : Expr × Bool). IsTyped own_types one.0 × (height one.0 ≤ inner_height))
      (map denied tests)
  denials_askable [] h = tt
  denials_askable (one ∷ tests) h = (denial_askable one h.0, denials_askable tests h.1)

  all_denied : (store : List ℤ) → AreValues own_types store → (tests : List (Expr × Bool))
      → AllByRecursion Deniable tests → AllByRecursion (Denies store) tests
  all_denied store fit [] h = tt
  all_denied store fit (one ∷ tests) h =
      (denied_is own_types store one few h.0.0 fit, all_denied store fit tests h.1)

  -- the store that the places show has values in range
  pub store_fits : (old store : List ℤ) → IsModel form.query old → Shows form.places old store
      → AreValues own_types store
  store_fits old store is shows =
      subst (λ ts. AreValues ts store) fitted.types
      (shown_values form.query.cells old form.places store is.values_are fitted.stand shows)

  abbrev pub denials : List Elem → List (List (Expr × Bool))
  denials elems = map (λ elem. denials_of form.places elem.facts) elems

  abbrev pub AllDeniable : List Elem → Type 0
  AllDeniable = AllByRecursion (λ (elem : Elem).
      AllByRecursion Deniable (tests_of form.places elem.facts))

  pub each_askable : (elems : List Elem) → AllDeniable elems
      → AllByRecursion (AllByRecursion
      (λ (one : Expr × Bool). IsTyped own_types one.0 × (height one.0 ≤ inner_height)))
      (denials elems)
  each_askable [] h = tt
  each_askable (elem ∷ elems) h =
      (denials_askable (tests_of form.places elem.facts) h.0, each_askable elems h.1)

  each_told : (store : List ℤ) → AreValues own_types store → (elems : List Elem) → AllDeniable elems
      → AllByRecursion (AllByRecursion (HasTold store)) (denials elems)
  each_told store fit [] h = tt
  each_told store fit (elem ∷ elems) h = (
    denials_told store (tests_of form.places elem.facts)
        (all_denied store fit (tests_of form.places elem.facts) h.0),
    each_told store fit elems h.1,
  )

  each_fails : (store : List ℤ) → AreValues own_types store → (elems : List Elem)
      → AllDeniable elems
      → AllByRecursion (SomeTold store) (denials elems) → AllByRecursion (StoreFails store) elems
  each_fails store fit [] h told = tt
  each_fails store fit (elem ∷ elems) h told = (
    told_fails store form.places elem.facts
        (all_denied store fit (tests_of form.places elem.facts) h.0) told.0,
    each_fails store fit elems h.1 told.1,
  )

  fails_each : (store : List ℤ) → AreValues own_types store → (elems : List Elem)
      → AllDeniable elems
      → AllByRecursion (StoreFails store) elems → AllByRecursion (SomeTold store) (denials elems)
  fails_each store fit [] h fails = tt
  fails_each store fit (elem ∷ elems) h fails = (
    fails_told store form.places elem.facts
        (all_denied store fit (tests_of form.places elem.facts) h.0) fails.0,
    fails_each store fit elems h.1 fails.1,
  )

  pub record FailingStep (elems : List Elem) (after : Form) : Type 0 where
    pub keeps : Fitted cells after
    pub longer : Front form.query.cells after.query.cells
    pub back : (values : List ℤ) → IsModel after.query values
        → (old : List ℤ) × Front old values × IsModel form.query old
        × ((store : List ℤ) → Shows form.places old store
        → Shows after.places values store × AllByRecursion (StoreFails store) elems)
    pub forth : (old store : List ℤ) → IsModel form.query old → Shows form.places old store
        → AllByRecursion (StoreFails store) elems
        → (values : List ℤ) × Front old values × IsModel after.query values
        × Shows after.places values store

  module _ (elems : List Elem) (deniable : AllDeniable elems) where
    abbrev lists : List (List (Expr × Bool))
    lists = denials elems

    abbrev at : Placed
    at = settled (flat_map (λ tests. tests) lists) form.places (draft_of form)

    are : Settles cells form fitted (flat_map (λ tests. tests) lists) at
    are = settles cells form fitted (flat_map (λ tests. tests) lists)
        (flat_all (Askable cells form fitted) lists (each_askable elems deniable))

    reads : AllByRecursion (AllByRecursion (λ (one : Expr × Bool).
        Reads at.places own_types one.0)) lists
    reads = all_flat (λ (one : Expr × Bool). Reads at.places own_types one.0) lists are.reads

    pub failing_step : FailingStep elems (with_failing elems form)
    failing_step =
        let q = form.query in
        let kept = each_kept q at.places own_types are.long are.types_are lists at.draft
        are.settled.replaces.fine are.settled.replaces.stand reads in
        let d = want_each at.places lists at.draft in
        record {
          keeps = fitted_joined cells form fitted (placed d at.places) kept.fine
              (stand_front (all_cells q at.draft) (all_cells q d) at.places kept.longer
              are.settled.replaces.stand) are.settled.replaces.types;
          longer = (d.cells, refl);
          back = λ values model.
              failing_back values model;
          forth = λ old store model shows fails.
              let found = are.settled.replaces.forth old (behind_is cells form fitted old model) in
              let here = shows_same old found.0 store form.places at.places found.3 shows in
              let fit = store_fits old store model shows in
              let made = each_forth q at.places own_types are.long are.types_are store lists
              at.draft
              are.settled.replaces.fine are.settled.replaces.stand reads
              (each_told store fit elems deniable) found.0 found.2 here
              (fails_each store fit elems deniable fails) in (
                made.0,
                front_of_front old found.0 made.0 found.1 made.1,
                made.2,
                shows_same found.0 made.0 store at.places at.places
                    (same_front (all_cells q at.draft) at.places found.0 made.0
                    are.settled.replaces.stand (model_long (behind q at.draft) found.0 found.2)
                    made.1)
                    here,
              );
        }
      where
        failing_back : (values : List ℤ) → IsModel (with_failing elems form).query values
            → (old : List ℤ) × Front old values × IsModel form.query old
            × ((store : List ℤ) → Shows form.places old store
            → Shows at.places values store × AllByRecursion (StoreFails store) elems)
        failing_back values model =
            let q = form.query in
            let first = each_back q at.places own_types are.long are.types_are lists at.draft
            are.settled.replaces.fine are.settled.replaces.stand reads values model in
            let found = are.settled.replaces.back first.0 first.2 in (
              found.0,
              front_of_front found.0 first.0 values found.1 first.1,
              before_is cells form fitted found.0 found.2,
              λ store shows.
                  let here = shows_same found.0 first.0 store form.places at.places found.3 shows in
                  let fit = store_fits found.0 store (before_is cells form fitted found.0 found.2)
                  shows
                  in (
                    shows_same first.0 values store at.places at.places
                        (same_front (all_cells q at.draft) at.places first.0 values
                        are.settled.replaces.stand
                        (model_long (behind q at.draft) first.0 first.2) first.1) here,
                    each_fails store fit elems deniable
                        (first.3 store here (each_told store fit elems deniable)),
                  ),
            )
