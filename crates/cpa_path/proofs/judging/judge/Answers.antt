use Rattle.std.proofs.Common.{◌≡◌, ℕ, ◌≤◌, List, IfOk, sym, ◌∙◌, subst}
use Rattle.std.proofs.lemmas.Bool.{false≢true}
use Rattle.cpa_path.specs.Judgements.{IsJudged}
use Rattle.cpa_path.specs.Paths.{Chains, path_weight}
use Rattle.cpa_path.proofs.Along.{not_chained}
use Rattle.cpa_path.proofs.judging.judge.Goals as goal

pub returns-then-not-chained-clause-judged : goal.returns-then-not-chained-clause-judged
returns-then-not-chained-clause-judged c =
    let cfa = c.args.cfa.now in
    not_chained cfa c.args.path.now.edges
    (λ chains. false≢true (sym c.if-not-chained.true
    ∙ c.in_ok-chained.ensures.1 (subst (Chains cfa) (sym c.as_slice-edges.ensures) chains)))

pub returns-then-not-has_input-clause-judged : goal.returns-then-not-has_input-clause-judged
returns-then-not-has_input-clause-judged c =
    let cfa = c.args.cfa.now in
    let learnt = c.args.learnt in
    let gates = c.args.gates in
    subst (λ (es : List ℕ). IfOk c.walked.result (IsJudged cfa es learnt gates))
    c.as_slice-edges.ensures (c.walked.ensures learnt gates)

pub returns-clause-judged : goal.returns-clause-judged
returns-clause-judged c =
    let cfa = c.args.cfa.now in
    let learnt = c.args.learnt in
    let gates = c.args.gates in
    let same = c.as_slice-edges.ensures in
    let light : path_weight cfa c.args.path.now.edges ≤ gates =
    subst (λ (n : ℕ). n ≤ gates) c.path_weight-weight.ensures c.if-gates-weight.false in
    subst (λ (es : List ℕ). IfOk c.asked.result (IsJudged cfa es learnt gates)) same
    (c.asked.ensures gates
    (subst (λ (es : List ℕ). path_weight cfa es ≤ gates) (sym same) light))
