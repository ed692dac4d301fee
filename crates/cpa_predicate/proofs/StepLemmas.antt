-- The models of what is asked are the steps along the edge: a question whose query has no model is
-- answered for every store, and the other way round.
use Rattle.std.proofs.Common.{ℤ, Bool, false, List, [], ◌∷◌, refl, sym, subst, append-nil}
use Rattle.std.specs.Prelude.{◌⊎◌}
use Rattle.std.proofs.Common.{inl, inr}
use Rattle.cpa_expr.specs.declared.tree.Expr.{Expr}
use Rattle.cpa_expr.specs.Cells.{AreValues}
use Rattle.cpa_expr.specs.Values.{HasTruth}
use Rattle.cpa_facts.specs.declared.fact.Fact.TheVariants.{Truth}
use Rattle.cpa_model.specs.declared.facts.Elem.{Elem}
use Rattle.cpa_model.specs.declared.automaton.Edge.{Edge}
use Rattle.cpa_model.specs.declared.automaton.Cfa.{Cfa}
use Rattle.cpa_model.specs.Acts.{IsActOf}
use Rattle.cpa_model.specs.Automata.{IsAutomaton}
use Rattle.cpa_model.specs.Expressions.{IsExpr, types_of}
use Rattle.cpa_model.specs.Facts.{IsFact, IsElem}
use Rattle.cpa_model.specs.Steps.{StepsStore}
use Rattle.cpa_iface.specs.lemmas.CommonLaws.{kept_all}
use Rattle.cpa_query.specs.Queries.{IsQuery}
use Rattle.cpa_form_rules.specs.Forms.{first_store, last_store, inputs_at}
use Rattle.cpa_form_rules.specs.Laws.{FormsAreRuns, IsFormOf}
use Rattle.cpa_form_rules.specs.Runs.{Added, taken, holding, failing, StoreHolds, StoreFails}
use Rattle.cpa_form_rules.specs.Runs.{Runs}
use Rattle.cpa_form_rules.specs.Stores.{FailingIsNotHolding, StepsTakeInputs}
use Rattle.cpa_solver.specs.Decisions.{HasNoModel}
use Rattle.cpa_predicate.specs.Steps.{is_truth, truths, StepsFrom, NeverSteps, HasAfter}
use Rattle.cpa_predicate.specs.Questions.{step_form, lacking}

module _ (cfa : Cfa) (e : Elem) (g : Edge) (a : IsAutomaton cfa) (act : IsActOf cfa g.act)
    (shaped : IsElem cfa.cells cfa.points e) (forms : FormsAreRuns) (takes : StepsTakeInputs) where
  abbrev stepped : List Added
  stepped = holding (truths e) ∷ taken g.act ∷ []

  truths_fit : IsElem cfa.cells cfa.points (truths e)
  truths_fit = kept_all (IsFact cfa.cells cfa.points) is_truth e.facts shaped

  step_is : IsFormOf cfa false stepped (step_form cfa e g)
  step_is = forms cfa false stepped a (truths_fit, (act, tt))

  pub step_asked : IsQuery (step_form cfa e g).query
  step_asked = step_is.asked

  -- a step is a run
  step_runs : (old new : List ℤ) → StepsFrom cfa e g old new → (rest : List Added)
      → Runs cfa.cells rest new [] new
      → (inputs : List ℤ) × Runs cfa.cells (holding (truths e) ∷ taken g.act ∷ rest) old inputs new
  step_runs old new s rest behind =
      let own = (takes.step cfa.cells g.act old new).0 s.step in (
        own.0,
        (
          old,
          [],
          own.0,
          (s.truths, refl, refl),
          refl,
          (new, own.0, [], own.1, sym (append-nil own.0), behind),
        ),
      )

  -- and a run begins with one
  run_steps : (old inputs last : List ℤ) (rest : List Added)
      → AreValues (types_of cfa.cells) old
      → Runs cfa.cells (holding (truths e) ∷ taken g.act ∷ rest) old inputs last
      → (new others : List ℤ) × StepsFrom cfa e g old new × Runs cfa.cells rest new others last
  run_steps old inputs last rest values h = (
    h.5.0,
    h.5.2,
    record {
      values = values;
      truths = h.3.0;
      step = subst (λ s. StepsStore cfa.cells g.act s h.5.0) h.3.2
          ((takes.step cfa.cells g.act h.0 h.5.0).1 (h.5.1, h.5.3));
    },
    h.5.5,
  )

  -- where no model is a step, there is no step
  pub never_steps : HasNoModel (step_form cfa e g).query → NeverSteps cfa e g
  never_steps none old new s =
      let run = step_runs old new s [] (refl, refl) in
      let model = step_is.model old run.0 new s.values run.1 in
      none model.0 model.1

  pub no_step : NeverSteps cfa e g → HasNoModel (step_form cfa e g).query
  no_step never values model =
      let first = first_store (step_form cfa e g) values in
      let found = run_steps first (inputs_at (step_form cfa e g) values)
      (last_store (step_form cfa e g) values) [] (step_is.begins values model)
      (step_is.run values model) in
      never first found.0 found.2

  module _ (p : Expr) (holds : Bool) (typed : IsExpr cfa.cells p) (fails : FailingIsNotHolding)
    where
      abbrev alone : Elem
      alone = record { facts = Truth p holds ∷ [] }

      abbrev lacked : List Added
      lacked = holding (truths e) ∷ taken g.act ∷ failing (alone ∷ []) ∷ []

      lack_is : IsFormOf cfa false lacked (lacking p holds (step_form cfa e g))
      lack_is = forms cfa false lacked a (truths_fit, (act, (((typed, tt), tt), tt)))

      pub lack_asked : IsQuery (lacking p holds (step_form cfa e g)).query
      lack_asked = lack_is.asked

      pub has_after : HasNoModel (lacking p holds (step_form cfa e g)).query
          → HasAfter cfa e g p holds
      has_after none old new s = by (fails.either new alone)
        where
          by : StoreHolds new alone ⊎ StoreFails new alone → HasTruth new p holds
          by (inl has) = has.0
          by (inr lacks) =
              let run = step_runs old new s (failing (alone ∷ []) ∷ [])
              (new, [], [], ((lacks, tt), refl, refl), refl, (refl, refl)) in
              let model = lack_is.model old run.0 new s.values run.1 in
              absurd (none model.0 model.1)

      pub no_lack : HasAfter cfa e g p holds
          → HasNoModel (lacking p holds (step_form cfa e g)).query
      no_lack has values model =
          let form = lacking p holds (step_form cfa e g) in
          let first = first_store form values in
          let found = run_steps first (inputs_at form values) (last_store form values)
          (failing (alone ∷ []) ∷ []) (lack_is.begins values model) (lack_is.run values model) in
          (fails.fails found.0 alone).0 found.3.3.0.0 (has first found.0 found.2, tt)
