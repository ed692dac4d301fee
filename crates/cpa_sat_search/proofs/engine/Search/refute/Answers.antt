use Rattle.std.proofs.Common.{◌≡◌, ◌+◌, ◌∷◌, [], ◌++◌, List, ℕ, length, sym, ap, ◌∙◌, subst, arith}
use Rattle.std.proofs.lemmas.List.{length_push}
use Rattle.cpa_cnf.specs.declared.formula.Line.{Line}
use Rattle.cpa_cnf.specs.Lines.{IsGoodLine, IsRefutation}
use Rattle.cpa_sat_search.proofs.Growth.{good_more, last_line}
use Rattle.cpa_sat_search.proofs.engine.Search.refute.Goals as goal

pub returns : goal.returns
returns c =
    let cnf = c.args.cnf.now in
    let s = c.args.self.now in
    let log = s.lines.items in
    let line = c.args.line in
    let r = c.requires in
    let items = c.in_ok-push.ensures.items in
    let more : length c.push.new.self.items ≡ length log + 1 =
    ap (λ (ls : List Line). length ls) items ∙ length_push log line in
    let refutes : IsRefutation cnf (log ++ line ∷ []) = record {
      good = good_more cnf log line r.state.good
          (subst (λ (cs : List (List ℕ)). IsGoodLine cnf.vars cs line) r.state.clauses r.good);
      last = last_line log line r.empty;
    } in
    (subst (λ (ls : List Line). IsRefutation cnf ls) (sym items) refutes, omega arith)
