use Rattle.std.proofs.Common.{length, ◌∙◌}
use Rattle.cpa_sat_search.proofs.Growth.{trail_rises}
use Rattle.cpa_sat_search.proofs.engine.Search.decide.Goals as goal

pub returns : goal.returns
returns c =
    let st = c.requires.state in
    let e = c.in_ok-decide.ensures in (
      record {
        sound = e.sound;
        vars = e.vars ∙ st.vars;
        analysis_vars = st.analysis_vars;
        idle = st.idle;
        clauses = st.clauses;
        few = st.few;
        good = st.good;
        fresh = st.fresh;
        filled = st.filled;
      },
      c.requires.within,
      trail_rises c.args.learnt (length c.args.self.now.lines.items) c.args.self.now.trail
          c.decide.new.trail e.vars e.rises,
    )
