use Rattle.std.proofs.Common.{◌≡◌, ℕ, ℤ, true, List, refl, sym, ap, ◌∙◌, subst}
use Rattle.cpa_query.specs.declared.query.Query.{Query}
use Rattle.cpa_query.specs.Queries.{IsQuery, IsModel}
use Rattle.cpa_form_rules.specs.Forms.{Form, inputs_at, last_store}
use Rattle.cpa_form_rules.specs.Laws.{IsFormOf}
use Rattle.cpa_solver.specs.Decisions.{IsDecided}
use Rattle.cpa_path.specs.Paths.{added_along, path_form, HasStores}
use Rattle.cpa_path.proofs.Along.{stores_replay, no_stores}
use Rattle.cpa_path.proofs.Formed.{added_fit, model_stores, none_stores}
use Rattle.cpa_path.proofs.judging.asked.Goals as goal

pub decide-requires : goal.decide-requires
decide-requires c =
    let cfa = c.args.cfa.now in
    let path = c.args.path.now in
    let acts = added_fit cfa
    (λ n g at. c.edges_are_sound.ensures cfa n g c.requires.automaton at) path c.requires.path in
    let form : IsFormOf cfa true (added_along cfa path) (path_form cfa path) =
    c.forms_are_runs.ensures cfa true (added_along cfa path) c.requires.automaton acts in
    let same : c.in_ok-query.query ≡ (path_form cfa path).query =
    c.in_ok-query.ensures ∙ ap (λ (f : Form). f.query) c.in_ok-form.ensures in
    subst IsQuery (sym same) form.asked

pub returns-in-Model : goal.returns-in-Model
returns-in-Model c = λ gates light. (
  refl,
  λ P W A.
      let cfa = c.args.cfa.now in
      let path = c.args.path.now in
      let whole = path_form cfa path in
      let acts = added_fit cfa
      (λ n g at. c.edges_are_sound.ensures cfa n g c.requires.automaton at) path c.requires.path in
      let form : IsFormOf cfa true (added_along cfa path) whole =
      c.forms_are_runs.ensures cfa true (added_along cfa path) c.requires.automaton acts in
      let same : c.in_ok-query.query ≡ whole.query =
      c.in_ok-query.ensures ∙ ap (λ (f : Form). f.query) c.in_ok-form.ensures in
      let values = c.in-Model.store.values in
      let model : IsModel c.in_ok-query.query values =
      subst (IsDecided c.in_ok-query.query c.args.learnt) c.in-Model.is c.in_ok-decided.ensures in
      let inputs_are =
      c.in_ok-inputs-in-Model.ensures ∙ ap (λ (f : Form). inputs_at f values) c.in_ok-form.ensures
      in
      stores_replay P cfa (record {
        of = A;
        keeps = c.steps_keep_states.ensures P W;
        state = c.edges_are_steps.ensures.state cfa c.requires.automaton;
        first = c.edges_are_steps.ensures.initial P cfa A;
        steps = λ s t. (c.edges_are_steps.ensures.steps P cfa s t A).1;
      }) path c.in_ok-inputs-in-Model.inputs.items (last_store whole values)
      c.requires.wants.chains
      (subst (λ (xs : List ℤ). HasStores cfa path xs (last_store whole values)) (sym inputs_are)
      (model_stores cfa path values form
      (subst (λ (q : Query). IsModel q values) same model))),
)

pub returns-in-NoModel : goal.returns-in-NoModel
returns-in-NoModel c = λ gates light.
    let cfa = c.args.cfa.now in
    let path = c.args.path.now in
    let acts = added_fit cfa
    (λ n g at. c.edges_are_sound.ensures cfa n g c.requires.automaton at) path c.requires.path in
    let form : IsFormOf cfa true (added_along cfa path) (path_form cfa path) =
    c.forms_are_runs.ensures cfa true (added_along cfa path) c.requires.automaton acts in
    let same : c.in_ok-query.query ≡ (path_form cfa path).query =
    c.in_ok-query.ensures ∙ ap (λ (f : Form). f.query) c.in_ok-form.ensures in
    let decided =
    subst (IsDecided c.in_ok-query.query c.args.learnt) c.in-NoModel.is c.in_ok-decided.ensures in
    no_stores cfa path
    (none_stores cfa path form
    (λ values model. decided.1 values (subst (λ (q : Query). IsModel q values) (sym same) model)))
