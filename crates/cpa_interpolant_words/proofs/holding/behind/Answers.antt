-- What is asked behind edges may be asked.
use Rattle.std.proofs.Common.{ap, ◌∙◌, sym, subst, true, List, [], ◌∷◌}
use Rattle.cpa_query.specs.Queries.{IsQuery}
use Rattle.cpa_model.specs.declared.facts.Elem.{Elem}
use Rattle.cpa_model.specs.declared.program.Cell.{Cell}
use Rattle.cpa_model.specs.Expressions.{IsExpr}
use Rattle.cpa_form_rules.specs.Forms.{Form, with_added}
use Rattle.cpa_form_rules.specs.Runs.{failing}
use Rattle.cpa_folds.specs.Along.{acts_along}
use Rattle.cpa_interpolant_rules.specs.lemmas.Keeping.{good_path}
use Rattle.cpa_interpolant_words.specs.Words.{alone}
use Rattle.cpa_interpolant_words.proofs.Steps.{behind_asked}
use Rattle.cpa_interpolant_words.proofs.holding.behind.Goals as goal

pub ask-requires : goal.ask-requires
ask-requires c =
    let cfa = c.args.cfa.now in
    let e = c.args.e.now in
    let good = good_path cfa (record {
      automaton = c.requires.automaton;
      sound = λ n g at. c.edges_are_sound.ensures cfa n g c.requires.automaton at;
      keep = c.steps_keep_states.ensures;
    }) c.args.edges.now c.requires.path in
    let typed = subst (λ (cs : List Cell). IsExpr cs e) c.as_slice.ensures
    (c.is_expr.ensures.0 c.if-not-is_expr.false) in
    subst (λ (form : Form). IsQuery form.query)
    (sym (c.in_ok-fails_now.ensures.ok
    ∙ (ap (λ (es : List Elem). with_added (failing es) c.in_ok-form.form)
    (c.deref.ensures.value ∙ c.in_ok-failing.ensures)
    ∙ ap (λ (f : Form). with_added (failing (alone e true ∷ [])) f) c.in_ok-form.ensures)))
    (behind_asked c.forms_are_runs.ensures cfa c.requires.automaton e typed
    c.adding_goes_on.ensures (acts_along cfa c.args.edges.now) good.fit)
