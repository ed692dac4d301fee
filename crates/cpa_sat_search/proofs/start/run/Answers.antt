use Rattle.std.proofs.Common.{List, sym, subst}
use Rattle.cpa_cnf.specs.declared.formula.Line.{Line}
use Rattle.cpa_sat_search.specs.declared.engine.Turn.{Turn}
use Rattle.cpa_sat_search.specs.declared.engine.Turn.TheVariants.{Spent}
use Rattle.cpa_sat_search.specs.Endings.{AreWritten}
use Rattle.cpa_sat_search.specs.States.{IsTurned}
use Rattle.cpa_sat_search.proofs.Loading.{written}
use Rattle.cpa_sat_search.proofs.start.run.Goals as goal

pub returns-in-Spent : goal.returns-in-Spent
returns-in-Spent c =
    let cnf = c.args.cnf.now in
    let s = c.step.new.self in
    let end : IsTurned cnf c.args.learnt c.loop-search.search s Spent =
    subst (λ (t : Turn). IsTurned cnf c.args.learnt c.loop-search.search s t) c.in-Spent.is
    c.in_ok-step.ensures in
    subst (λ (log : List Line). AreWritten cnf c.args.learnt log) (sym c.lines-in-Spent.ensures)
    (written cnf c.args.learnt s end.0 end.1)
