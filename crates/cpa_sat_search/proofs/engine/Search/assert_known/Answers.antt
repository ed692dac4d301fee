use Rattle.std.proofs.Common.{◌≤◌, List, length, sym, ◌∙◌, subst}
use Rattle.cpa_cnf.specs.declared.formula.Line.{Line}
use Rattle.cpa_sat_search.proofs.Growth.{rank_rises}
use Rattle.cpa_sat_search.proofs.engine.Search.assert_known.Goals as goal

pub returns : goal.returns
returns c =
    let e = c.in_ok-backjump.ensures in (
      e.state,
      subst (λ (ls : List Line). length ls ≤ c.args.learnt) (sym e.lines) c.requires.within,
      rank_rises c.args.learnt c.args.self.now c.backjump.new.self e.lines (e.state.vars
          ∙ sym c.requires.state.vars) e.rises,
    )
