-- The query is the path's.
use Rattle.std.proofs.Common.{sym, subst, false}
use Rattle.cpa_query.specs.Queries.{IsQuery, IsModel}
use Rattle.cpa_form_rules.specs.Forms.{Form}
use Rattle.cpa_folds.specs.Along.{acts_along}
use Rattle.cpa_interpolant_rules.specs.Parts.{added_behind}
use Rattle.cpa_interpolant_rules.specs.lemmas.Keeping.{good_path}
use Rattle.cpa_interpolant_rules.specs.lemmas.Taking.{all_taken}
use Rattle.cpa_interpolant_words.specs.Words.{IsAsked}
use Rattle.cpa_interpolant_words.proofs.looking.look.Goals as goal

pub ask-requires : goal.ask-requires
ask-requires c =
    let cfa = c.args.cfa.now in
    let acts = acts_along cfa c.args.path.now in
    let good = good_path cfa (record {
      automaton = c.requires.automaton;
      sound = λ n g at. c.edges_are_sound.ensures cfa n g c.requires.automaton at;
      keep = c.steps_keep_states.ensures;
    }) c.args.path.now c.requires.path in
    subst (λ (form : Form). IsQuery form.query) (sym c.in_ok-form.ensures)
    (c.forms_are_runs.ensures cfa false (added_behind acts) c.requires.automaton
    (all_taken cfa acts good.fit)).asked

pub returns-in-Sometimes : goal.returns-in-Sometimes
returns-in-Sometimes c =
    let values = c.in-Sometimes.store.values in
    let model =
    subst (IsAsked c.in_ok-form.form.query) c.in-Sometimes.is c.in_ok-asked.ensures in (
      c.in_ok-light.ensures c.if-not-light.false,
      subst (λ (form : Form). IsModel form.query values) c.in_ok-form.ensures model,
    )
