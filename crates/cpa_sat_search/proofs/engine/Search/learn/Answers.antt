use Rattle.std.proofs.Common.{◌≡◌, ◌+◌, ◌<◌, ◌≤◌, List, ℕ, length, ap, sym, ◌∙◌, arith}
use Rattle.std.proofs.lemmas.List.{length_push}
use Rattle.cpa_cnf.specs.declared.formula.Line.{Line}
use Rattle.cpa_sat_search.proofs.Growth.{rank_lines}
use Rattle.cpa_sat_search.proofs.engine.Search.learn.Goals as goal

up_to : (a b n : ℕ) → a ≡ b + 1 → b < n → a ≤ n
up_to a b n e h = omega arith

pub returns : goal.returns
returns c =
    let s = c.args.self.now in
    let t = c.reduce_watches.new.self in
    let log = s.lines.items in
    let r = c.in_ok-reduce_watches.ensures in
    let more : length t.lines.items ≡ length log + 1 =
    ap (λ (ls : List Line). length ls) (r.same.lines ∙ c.in_ok-restart.ensures.lines
    ∙ c.in_ok-backjump.ensures.lines ∙ c.in_ok-watch.ensures.same.lines ∙ c.in_ok-add.ensures.lines)
    ∙ length_push log c.args.line in
    let room : length log < c.args.learnt = omega arith in (
      r.state,
      up_to (length t.lines.items) (length log) c.args.learnt more room,
      rank_lines c.args.learnt s t more room (r.state.vars ∙ sym c.requires.state.vars),
    )
