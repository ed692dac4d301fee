-- Each call does to the models what was added says.
use Rattle.std.proofs.Common.{◌≡◌, ℕ, ◌+◌, ◌<◌, ℤ, Bool, List, [], ◌∷◌, ◌++◌, map, refl, sym, ap}
use Rattle.std.proofs.Common.{◌∙◌, subst, arith}
use Rattle.std.specs.Prelude.{slice_set, ⊤}
use Rattle.std.specs.List.{AllByRecursion}
use Rattle.std.proofs.lemmas.List.{append-nil}
use Rattle.cpa_expr.specs.declared.tree.Expr.{Expr}
use Rattle.cpa_model.specs.declared.program.Cell.{Cell}
use Rattle.cpa_model.specs.declared.automaton.Act.TheVariants as act
use Rattle.cpa_model.specs.Expressions.{IsExpr}
use Rattle.cpa_query.specs.Queries.{IsModel}
use Rattle.cpa_form_renaming.specs.Places.{Shows}
use Rattle.cpa_form_rules.specs.Runs.{Added, taken, Meets}
use Rattle.cpa_form_rules.specs.Forms.{Form, with_act, inputs_at, value_in}
use Rattle.cpa_form_rules.specs.lemmas.Lists.{Front, front_itself}
use Rattle.cpa_form_rules.specs.lemmas.Models.{Wanted, model_long}
use Rattle.cpa_form_rules.specs.lemmas.Calls.{Fitted, Call, Askable, TestsStep, tests_step}
use Rattle.cpa_form_rules.specs.lemmas.Calls.{inputs_stay}
use Rattle.cpa_form_rules.specs.lemmas.Changes.{WriteStep}

module _ (cells : List Cell) (form : Form) (fitted : Fitted cells form) where
  -- a call that says something of the present store and leaves it
  pub record StillStep (P : List ℤ → Type 0) (after : Form) : Type 0 where
    pub keeps : Fitted cells after
    pub longer : Front form.query.cells after.query.cells
    pub same_inputs : after.inputs ≡ form.inputs
    pub back : (values : List ℤ) → IsModel after.query values
        → (old : List ℤ) × Front old values × IsModel form.query old
        × ((store : List ℤ) → Shows form.places old store → Shows after.places values store × P
        store)
    pub forth : (old store : List ℤ) → IsModel form.query old → Shows form.places old store
        → P store
        → (values : List ℤ) × Front old values × IsModel after.query values
        × Shows after.places values store

  kept_inputs : (inputs : List ℕ) → inputs ≡ form.inputs → (old values : List ℤ)
      → IsModel form.query old → Front old values
      → map (value_in values) inputs ≡ inputs_at form old ++ []
  kept_inputs inputs same old values is front =
      ap (map (value_in values)) same
      ∙ (inputs_stay form.inputs old values
      (subst (λ n. AllByRecursion (λ k. k < n) form.inputs) (sym (model_long form.query old is))
      fitted.inputs) front
      ∙ sym (append-nil (inputs_at form old)))

  pub still_call : (one : Added) (P : List ℤ → Type 0) (after : Form) → StillStep P after
      → ((store : List ℤ) → P store → Meets cells one store [] store)
      → ((store own new : List ℤ) → Meets cells one store own new
      → P store × (own ≡ []) × (new ≡ store))
      → Call cells one form after
  still_call one P after step to from = record {
    fitted = step.keeps;
    longer = step.longer;
    back = λ values is.
        let found = step.back values is in (
          found.0,
          found.1,
          found.2,
          λ store shows.
              let here = found.3 store shows in (
                store,
                [],
                to store here.1,
                here.0,
                kept_inputs after.inputs step.same_inputs found.0 values found.2 found.1,
              ),
        );
    forth = λ old store new own is shows meets.
        let what = from store own new meets in
        let made = step.forth old store is shows what.0 in (
          made.0,
          made.1,
          made.2,
          subst (Shows after.places made.0) (sym what.2) made.3,
          subst (λ vs. inputs_at after made.0 ≡ inputs_at form old ++ vs) (sym what.1)
              (kept_inputs after.inputs step.same_inputs old made.0 is made.1),
        );
  }

  -- ---- an edge that changes nothing

  pub nothing_step : StillStep (λ store. ⊤) form
  nothing_step = record {
    keeps = fitted;
    longer = front_itself form.query.cells;
    same_inputs = refl;
    back = λ values is. (values, front_itself values, is, λ store shows. (shows, tt));
    forth = λ old store is shows h. (old, front_itself old, is, shows);
  }

  -- ---- a test

  expr_askable : (e : Expr) (holds : Bool) → IsExpr cells e → Askable cells form fitted (e, holds)
  expr_askable e holds is = (is.typed, let low = is.height in omega (arith, low))

  tests_still : (asked : List (Expr × Bool)) (after : Form) → TestsStep cells form fitted asked
      after
      → after.inputs ≡ form.inputs → StillStep (λ store. AllByRecursion (Wanted store) asked) after
  tests_still asked after step same = record {
    keeps = step.keeps;
    longer = step.longer;
    same_inputs = same;
    back = step.back;
    forth = step.forth;
  }

  pub assume_call : (test : Expr) (holds : Bool) → IsExpr cells test
      → Call cells (taken (act.Assume test holds)) form (with_act (act.Assume test holds) form)
  assume_call test holds is =
      still_call (taken (act.Assume test holds))
      (λ store. AllByRecursion (Wanted store) ((test, holds) ∷ []))
      (with_act (act.Assume test holds) form)
      (tests_still ((test, holds) ∷ []) (with_act (act.Assume test holds) form)
      (tests_step cells form fitted ((test, holds) ∷ []) (expr_askable test holds is, tt)) refl)
      (λ store h. (refl, (h.0, refl)))
      (λ store own new meets. ((meets.1.0, tt), meets.0, meets.1.1))

  -- ---- a write

  pub write_call : (base len : ℕ) (index value : Expr)
      → WriteStep cells form fitted base len index value
      (with_act (act.Assign base len index value) form)
      → Call cells (taken (act.Assign base len index value)) form
      (with_act (act.Assign base len index value) form)
  write_call base len index value step = record {
    fitted = step.keeps;
    longer = step.longer;
    back = λ values is.
        let found = step.back values is in (
          found.0,
          found.1,
          found.2,
          λ store shows.
              let here = found.3 store shows in (
                slice_set store (base + here.0) here.1,
                [],
                (
                  refl,
                  record {
                    place = here.0;
                    written = here.1;
                    index_is = here.3;
                    value_is = here.4;
                    inside = here.2;
                    after = refl;
                  },
                ),
                here.5,
                kept_inputs form.inputs refl found.0 values found.2 found.1,
              ),
        );
    forth = λ old store new own is shows meets.
        let what = meets.1 in
        let made = step.forth old store what.place what.written is shows what.inside what.index_is
        what.value_is in (
          made.0,
          made.1,
          made.2,
          subst (Shows (with_act (act.Assign base len index value) form).places made.0)
              (sym what.after) made.3,
          subst (λ vs. map (value_in made.0) form.inputs ≡ inputs_at form old ++ vs) (sym meets.0)
              (kept_inputs form.inputs refl old made.0 is made.1),
        );
  }
