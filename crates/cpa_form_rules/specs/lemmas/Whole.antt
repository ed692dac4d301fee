-- A form of many calls: its models are the runs that meet what was added.
use Rattle.std.proofs.Common.{◌≡◌, ℤ, List, [], ◌∷◌, ◌++◌, refl, sym, ap, ◌∙◌, subst}
use Rattle.std.specs.List.{AllByRecursion}
use Rattle.std.proofs.lemmas.List.{append-nil, append_assoc}
use Rattle.cpa_model.specs.declared.program.Cell.{Cell}
use Rattle.cpa_query.specs.Queries.{IsModel}
use Rattle.cpa_form_renaming.specs.Places.{Shows}
use Rattle.cpa_form_rules.specs.Runs.{Added, Runs}
use Rattle.cpa_form_rules.specs.Forms.{Form, with_added, form_from, inputs_at}
use Rattle.cpa_form_rules.specs.lemmas.Lists.{Front, front_itself, front_of_front}
use Rattle.cpa_form_rules.specs.lemmas.Calls.{Fitted, Call}

module _ (cells : List Cell) where
  -- what all calls together do to the models
  pub record Whole (added : List Added) (form last : Form) : Type 0 where
    pub fitted : Fitted cells last
    pub longer : Front form.query.cells last.query.cells
    pub back : (values : List ℤ) → IsModel last.query values
        → (old : List ℤ) × Front old values × IsModel form.query old
        × ((store : List ℤ) → Shows form.places old store
        → (new inputs : List ℤ) × Runs cells added store inputs new × Shows last.places values new
        × (inputs_at last values ≡ inputs_at form old ++ inputs))
    pub forth : (old store new inputs : List ℤ) → IsModel form.query old
        → Shows form.places old store → Runs cells added store inputs new
        → (values : List ℤ) × Front old values × IsModel last.query values
        × Shows last.places values new
        × (inputs_at last values ≡ inputs_at form old ++ inputs)

  module _ (P : Added → Type 0)
      (call : (one : Added) (form : Form) → P one → Fitted cells form
      → Call cells one form (with_added one form)) where
    pub whole : (added : List Added) (form : Form) → AllByRecursion P added → Fitted cells form
        → Whole added form (form_from form added)
    whole [] form h fitted = record {
      fitted = fitted;
      longer = front_itself form.query.cells;
      back = λ values is. (
        values,
        front_itself values,
        is,
        λ store shows.
            (store, [], (refl, refl), shows, sym (append-nil (inputs_at form values))),
      );
      forth = λ old store new inputs is shows run. (
        old,
        front_itself old,
        is,
        subst (Shows form.places old) (sym run.1) shows,
        sym (append-nil (inputs_at form old))
            ∙ ap (λ vs. inputs_at form old ++ vs) (sym run.0),
      );
    }
    whole (one ∷ added) form h fitted =
        let next = with_added one form in
        let first = call one form h.0 fitted in
        let rest = whole added next h.1 first.fitted in
        record {
          fitted = rest.fitted;
          longer = front_of_front form.query.cells next.query.cells
              (form_from next added).query.cells first.longer rest.longer;
          back = λ values is.
              let mid = rest.back values is in
              let old = first.back mid.0 mid.2 in (
                old.0,
                front_of_front old.0 mid.0 values old.1 mid.1,
                old.2,
                λ store shows.
                    let here = old.3 store shows in
                    let there = mid.3 here.0 here.3 in (
                      there.0,
                      here.1 ++ there.1,
                      (here.0, here.1, there.1, here.2, refl, there.2),
                      there.3,
                      there.4 ∙ (ap (λ vs. vs ++ there.1) here.4
                          ∙ append_assoc (inputs_at form old.0) here.1 there.1),
                    ),
              );
          forth = λ old store new inputs is shows run.
              let here = first.forth old store run.0 run.1 is shows run.3 in
              let there = rest.forth here.0 run.0 new run.2 here.2 here.3 run.5 in (
                there.0,
                front_of_front old here.0 there.0 here.1 there.1,
                there.2,
                there.3,
                there.4 ∙ (ap (λ vs. vs ++ run.2) here.4
                    ∙ (append_assoc (inputs_at form old) run.1 run.2
                    ∙ ap (λ vs. inputs_at form old ++ vs) (sym run.4))),
              );
        }
