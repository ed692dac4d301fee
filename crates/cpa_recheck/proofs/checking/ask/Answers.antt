use Rattle.std.proofs.Common.{subst}
use Rattle.cpa_solver.specs.Decisions.{IsDecided}
use Rattle.cpa_recheck.proofs.Shown.{may_ask, shown}
use Rattle.cpa_recheck.proofs.checking.ask.Goals as goal

pub decide-requires : goal.decide-requires
decide-requires c =
    may_ask c.args.cfa.now c.args.entries.now c.args.obligation c.args.form.now c.in_ok-query.query
    c.requires.automaton c.requires.shaped c.requires.form c.in_ok-query.ensures

pub returns-in-NoModel : goal.returns-in-NoModel
returns-in-NoModel c = λ es are.
    shown c.args.cfa.now c.args.entries.now es c.args.obligation c.args.form.now c.requires.form are
    c.unmodelled_is_met.ensures c.in_ok-query.query c.args.budget.now.learnt
    c.in-NoModel.lines.items c.requires.automaton c.requires.shaped c.in_ok-query.ensures
    (subst (IsDecided c.in_ok-query.query c.args.budget.now.learnt) c.in-NoModel.is
    c.in_ok-decided.ensures)
