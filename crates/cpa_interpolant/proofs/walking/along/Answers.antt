-- The answer at each cut, with the expression before it.
use Rattle.std.proofs.Common.{ℕ, ◌+◌, ◌-◌, ◌<◌, List, length, take, drop, sym, subst, arith}
use Rattle.std.specs.List.{AllByRecursion}
use Rattle.cpa_folds.specs.Along.{acts_along}
use Rattle.cpa_interpolant.specs.Along.{IsAlong}
use Rattle.cpa_interpolant.specs.Walked.{IsWalked, IsStep}
use Rattle.cpa_interpolant.proofs.Walked.{at_next, expr_there, runs_if_run, later}
use Rattle.cpa_interpolant_rules.specs.lemmas.Paths.{whole_rest}
use Rattle.cpa_interpolant.proofs.walking.along.Goals as goal

pub answer_cut-requires-clause-expr : goal.answer_cut-requires-clause-expr
answer_cut-requires-clause-expr c =
    expr_there c.args.cfa.now c.args.learnt c.args.gates
    (acts_along c.args.cfa.now c.args.path.now.edges) c.loop-i.exprs.items c.loop-i.i
    c.index.result.now c.loop-i.invariant.0 c.loop-i.invariant.1 c.index.ensures

pub step-requires-clause-runs : goal.step-requires-clause-runs
step-requires-clause-runs c =
    let cfa = c.args.cfa.now in
    let learnt = c.args.learnt in
    let gates = c.args.gates in
    let edges = c.as_slice-edges.result.now in
    let i = c.loop-i.i in
    let exprs = c.loop-i.exprs.items in
    let walked = subst (λ (ns : List ℕ). IsWalked cfa learnt gates (acts_along cfa ns) exprs)
    (sym c.as_slice-edges.ensures) c.loop-i.invariant.0 in
    let inside = subst (AllByRecursion (λ n. n < length cfa.edges)) (sym c.as_slice-edges.ensures)
    c.requires.path in
    let at = at_next cfa learnt gates edges exprs i (i + 1)
    (take (length edges - (i + 1)) (drop (i + 1) edges)) c.index.result.now c.in_ok-found.found
    walked c.loop-i.invariant.1 inside c.loop-i-test.true (omega arith) (whole_rest edges (i + 1))
    c.index.ensures c.in_ok-found.ensures in
    runs_if_run cfa learnt gates (acts_along cfa edges) exprs c.in_ok-found.found at

pub returns-in-Ended : goal.returns-in-Ended
returns-in-Ended c =
    let cfa = c.args.cfa.now in
    let learnt = c.args.learnt in
    let gates = c.args.gates in
    let edges = c.as_slice-edges.result.now in
    let i = c.loop-i.i in
    let exprs = c.loop-i.exprs.items in
    let walked = subst (λ (ns : List ℕ). IsWalked cfa learnt gates (acts_along cfa ns) exprs)
    (sym c.as_slice-edges.ensures) c.loop-i.invariant.0 in
    let inside = subst (AllByRecursion (λ n. n < length cfa.edges)) (sym c.as_slice-edges.ensures)
    c.requires.path in
    let at = at_next cfa learnt gates edges exprs i (i + 1)
    (take (length edges - (i + 1)) (drop (i + 1) edges)) c.index.result.now c.in_ok-found.found
    walked c.loop-i.invariant.1 inside c.loop-i-test.true (omega arith) (whole_rest edges (i + 1))
    c.index.ensures c.in_ok-found.ensures in
    let step = subst (IsStep cfa (acts_along cfa edges) learnt gates (length exprs)) c.in-Ended.is
    (c.in_ok-more.ensures learnt gates at) in
    subst (λ (ns : List ℕ). IsAlong cfa (acts_along cfa ns) learnt gates c.in-Ended.along)
    c.as_slice-edges.ensures step

pub loop-i-preserved : goal.loop-i-preserved
loop-i-preserved c =
    let cfa = c.args.cfa.now in
    let learnt = c.args.learnt in
    let gates = c.args.gates in
    let edges = c.as_slice-edges.result.now in
    let i = c.loop-i.i in
    let exprs = c.loop-i.exprs.items in
    let walked = subst (λ (ns : List ℕ). IsWalked cfa learnt gates (acts_along cfa ns) exprs)
    (sym c.as_slice-edges.ensures) c.loop-i.invariant.0 in
    let inside = subst (AllByRecursion (λ n. n < length cfa.edges)) (sym c.as_slice-edges.ensures)
    c.requires.path in
    let at = at_next cfa learnt gates edges exprs i (i + 1)
    (take (length edges - (i + 1)) (drop (i + 1) edges)) c.index.result.now c.in_ok-found.found
    walked c.loop-i.invariant.1 inside c.loop-i-test.true (omega arith) (whole_rest edges (i + 1))
    c.index.ensures c.in_ok-found.ensures in
    let step = subst (IsStep cfa (acts_along cfa edges) learnt gates (length exprs)) c.in-On.is
    (c.in_ok-more.ensures learnt gates at) in (
      subst (λ (ns : List ℕ). IsWalked cfa learnt gates (acts_along cfa ns) c.in-On.more.items)
          c.as_slice-edges.ensures step.0,
      later (length c.in-On.more.items) (length exprs) i step.1 c.loop-i.invariant.1,
    )
