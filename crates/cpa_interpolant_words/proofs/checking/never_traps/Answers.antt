-- The form's query may be asked, and where it has no model, no store makes the expression trap.
use Rattle.std.proofs.Common.{sym, subst}
use Rattle.cpa_query.specs.Queries.{IsQuery}
use Rattle.cpa_form_rules.specs.Forms.{Form}
use Rattle.cpa_solver.specs.Decisions.{HasNoModel}
use Rattle.cpa_interpolant_words.specs.Words.{IsAsked}
use Rattle.cpa_interpolant_words.proofs.Steps.{trapping_asked, traps_never}
use Rattle.cpa_interpolant_words.proofs.checking.never_traps.Goals as goal

pub ask-requires : goal.ask-requires
ask-requires c =
    subst (λ (form : Form). IsQuery form.query) (sym c.in_ok-form.ensures)
    (trapping_asked c.forms_are_runs.ensures c.args.cfa.now c.requires.automaton c.args.f.now
    c.requires.expr)

pub returns-in-Never : goal.returns-in-Never
returns-in-Never c = λ yes.
    let none = subst (IsAsked c.in_ok-form.form.query) c.in-Never.is c.in_ok-asked.ensures in
    traps_never c.forms_are_runs.ensures c.args.cfa.now c.requires.automaton c.args.f.now
    c.requires.expr c.failing_is_not_holding.ensures
    (subst (λ (form : Form). HasNoModel form.query) c.in_ok-form.ensures none)
