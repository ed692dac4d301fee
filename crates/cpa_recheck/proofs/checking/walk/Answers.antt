use Rattle.std.proofs.Common.{◌+◌, ◌∙◌, List, Vec, Global, ap, map, refl, subst, sym, take, arith}
use Rattle.std.specs.List.{AllZip}
use Rattle.cpa_cnf.specs.declared.formula.Line.{Line}
use Rattle.cpa_recheck.specs.Checks.{IsMetWithin, IsSettledFor, IsShown}
use Rattle.cpa_recheck.proofs.Shown.{mapped_push, one_more, one_shown, stopped_at, all_before}
use Rattle.cpa_recheck.proofs.Shown.{all_shown}
use Rattle.cpa_recheck.proofs.checking.walk.Goals as goal

pub returns-in-Open : goal.returns-in-Open
returns-in-Open c = λ es are.
    let cfa = c.args.cfa.now in
    let budget = c.args.budget.now in
    let o = c.obligation_at-obligation.result in
    let before = (c.loop-place.invariant es are).0 in (
      c.loop-place.place,
      refl,
      stopped_at cfa es budget c.args.run.now c.loop-place.place o c.in-Open.why
          c.obligation_at-obligation.ensures before
          (subst (IsSettledFor cfa es budget c.args.keeping o) c.in-Open.is
          (c.in_ok-settled.ensures es are)),
      before,
    )

pub loop-place-preserved : goal.loop-place-preserved
loop-place-preserved c = λ es are.
    let cfa = c.args.cfa.now in
    let budget = c.args.budget.now in
    let run = c.args.run.now in
    let place = c.loop-place.place in
    let o = c.obligation_at-obligation.result in
    let logs = c.loop-place.logs.items in
    let lines = c.in-Shown.lines in
    let here = subst (IsSettledFor cfa es budget c.args.keeping o) c.in-Shown.is
    (c.in_ok-settled.ensures es are) in
    let before = c.loop-place.invariant es are in
    let pushed = ap (map (λ (log : Vec Line Global). log.items)) c.in_ok-push-in-Shown.ensures.items
    ∙ mapped_push (λ (log : Vec Line Global). log.items) logs lines in (
      one_more (IsMetWithin cfa es budget) run place o c.obligation_at-obligation.ensures before.0
          here.0,
      λ kept. subst
          (λ (l : List (List Line)). AllZip (IsShown cfa es budget.learnt) (take (place + 1) run) l)
          (sym pushed)
          (one_shown cfa es budget.learnt run place o
          (map (λ (log : Vec Line Global). log.items) logs) lines.items
          c.obligation_at-obligation.ensures (before.1 kept) (here.1 kept)),
    )

pub returns : goal.returns
returns c = λ es are.
    let cfa = c.args.cfa.now in
    let budget = c.args.budget.now in
    let run = c.args.run.now in
    let place = c.loop-place.place in
    let all = c.loop-place.invariant es are in (
      all_before (IsMetWithin cfa es budget) run place (omega arith) all.0,
      λ kept. all_shown cfa es budget.learnt run place
          (map (λ (log : Vec Line Global). log.items) c.loop-place.logs.items) (omega arith)
          (all.1 kept),
    )
