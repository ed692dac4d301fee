-- The query is the path's; stores that lead along it are there in some model.
use Rattle.std.proofs.Common.{sym, ap, ◌∙◌, subst}
use Rattle.cpa_query.specs.declared.query.Query.{Query}
use Rattle.cpa_query.specs.Queries.{IsQuery, IsModel}
use Rattle.cpa_form_rules.specs.Forms.{Form}
use Rattle.cpa_solver.specs.Decisions.{IsDecided}
use Rattle.cpa_folds.specs.Along.{acts_along}
use Rattle.cpa_interpolant_rules.specs.lemmas.Keeping.{good_path}
use Rattle.cpa_interpolant_answers.proofs.Modelled.{asked, model_there}
use Rattle.cpa_interpolant_answers.proofs.modelling.model_of.Goals as goal

pub decide-requires : goal.decide-requires
decide-requires c =
    let cfa = c.args.cfa.now in
    let path = c.args.path.now in
    let good = good_path cfa (record {
      automaton = c.requires.automaton;
      sound = λ n g at. c.edges_are_sound.ensures cfa n g c.requires.automaton at;
      keep = c.steps_keep_states.ensures;
    }) path c.requires.path in
    subst IsQuery (sym (c.in_ok-query.ensures ∙ ap (λ (f : Form). f.query) c.in_ok-form.ensures))
    (asked c.forms_are_runs.ensures cfa c.requires.automaton (acts_along cfa path) good.fit)

pub unreachable-requires : goal.unreachable-requires
unreachable-requires c =
    let cfa = c.args.cfa.now in
    let path = c.args.path.now in
    let good = good_path cfa (record {
      automaton = c.requires.automaton;
      sound = λ n g at. c.edges_are_sound.ensures cfa n g c.requires.automaton at;
      keep = c.steps_keep_states.ensures;
    }) path c.requires.path in
    let same = c.in_ok-query.ensures ∙ ap (λ (f : Form). f.query) c.in_ok-form.ensures in
    let decided =
    subst (IsDecided c.in_ok-query.query 4294967295) c.in-NoModel.is c.in_ok-decided.ensures in
    let found = model_there c.forms_are_runs.ensures cfa c.requires.automaton
    (acts_along cfa path) good.fit c.requires.run.0 c.requires.run.1 in
    decided.1 found.0 (subst (λ (q : Query). IsModel q found.0) (sym same) found.1)
