-- The form's query may be asked, and where it has no model, each step leads on.
use Rattle.std.proofs.Common.{sym, subst}
use Rattle.cpa_query.specs.Queries.{IsQuery}
use Rattle.cpa_form_rules.specs.Forms.{Form}
use Rattle.cpa_solver.specs.Decisions.{HasNoModel}
use Rattle.cpa_interpolant_rules.specs.lemmas.Keeping.{edge_there}
use Rattle.cpa_interpolant_words.specs.Words.{IsAsked}
use Rattle.cpa_interpolant_words.proofs.Steps.{against_asked, leads_on}
use Rattle.cpa_interpolant_words.proofs.checking.leads.Goals as goal

pub ask-requires : goal.ask-requires
ask-requires c =
    let cfa = c.args.cfa.now in
    let g = edge_there cfa c.args.edge c.requires.edge in
    let act = (c.edges_are_sound.ensures cfa c.args.edge g.0 c.requires.automaton g.1).act in
    subst (λ (form : Form). IsQuery form.query) (sym (c.in_ok-form.ensures g.0 g.1))
    (against_asked c.forms_are_runs.ensures cfa c.requires.automaton c.args.f.now
    c.requires.behind c.args.e.now g.0.act c.requires.before act)

pub returns-in-Never : goal.returns-in-Never
returns-in-Never c = λ g at yes.
    let cfa = c.args.cfa.now in
    let act = (c.edges_are_sound.ensures cfa c.args.edge g c.requires.automaton at).act in
    let none = subst (IsAsked c.in_ok-form.form.query) c.in-Never.is c.in_ok-asked.ensures in
    leads_on c.forms_are_runs.ensures cfa c.requires.automaton c.args.f.now c.requires.behind
    c.args.e.now g.act c.requires.before act c.steps_take_inputs.ensures
    c.failing_is_not_holding.ensures
    (subst (λ (form : Form). HasNoModel form.query) (c.in_ok-form.ensures g at) none)
