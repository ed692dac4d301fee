use Rattle.std.proofs.Common.{◌∙◌, ℕ, subst}
use Rattle.cpa_cnf.specs.Lines.{IsGoodLine}
use Rattle.cpa_cnf.specs.lemmas.Chains.{without_literals}
use Rattle.cpa_sat_search.proofs.Growth.{concluded}
use Rattle.cpa_sat_search.proofs.engine.Search.analyse.Goals as goal

pub returns-clause-learned : goal.returns-clause-learned
returns-clause-learned c =
    let s = c.args.self.now in
    let e = c.in_ok-line.ensures in
    let f = c.in_ok-jump.ensures in
    record {
      good = subst (λ (n : ℕ). IsGoodLine n s.arena c.in_ok-line.line) (f.vars
          ∙ c.requires.state.analysis_vars) e.line;
      sorted = e.sorted;
      jump = concluded s.trail c.analyse.new.analysis c.in_ok-line.line.clause c.in_ok-jump.jump
          f.jump e.literals without_literals;
    }
