use Rattle.std.proofs.Common.{◌∙◌}
use Rattle.cpa_sat_trail.specs.lemmas.Sound.{IsCutTo, sound_cut}
use Rattle.cpa_sat_search.proofs.engine.Search.restart.Goals as goal

pub returns-clause-state : goal.returns-clause-state
returns-clause-state c =
    let s = c.args.self.now in
    let st = c.requires in
    let e = c.cut.ensures in
    let count = c.first_decision-ground.result in
    let cut : IsCutTo s.trail c.cut.new.self count =
    record {
      fewer = c.first_decision-ground.ensures;
      trail = e.trail;
      vars = e.vars;
      lits =
          e.lits;
      reasons = e.reasons;
    } in
    record {
      sound = sound_cut s.arena s.trail c.cut.new.self count st.sound cut;
      vars = e.vars ∙ st.vars;
      analysis_vars = st.analysis_vars;
      idle = st.idle;
      clauses = st.clauses;
      few = st.few;
      good = st.good;
      fresh = st.fresh;
      filled = st.filled;
    }
