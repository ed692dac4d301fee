use Rattle.std.proofs.Common.{◌≡◌, ◌+◌, ℕ, List, Some, None, cond, drop, get_or, subst, ap, sym}
use Rattle.std.proofs.Common.{◌∙◌, arith}
use Rattle.std.specs.Prelude.{◌↔◌}
use Rattle.std.proofs.lemmas.Bool.{false≢true}
use Rattle.std.proofs.lemmas.List.{drop_more}
use Rattle.cpa_path.specs.Paths.{Chains, ChainsFrom}
use Rattle.cpa_path.proofs.Linked.{chains_on, no_calls}
use Rattle.cpa_path.proofs.chaining.chains.Goals as goal

pub loop-number-preserved : goal.loop-number-preserved
loop-number-preserved c =
    let cfa = c.args.cfa.now in
    let xs = c.args.path.now in
    let at = c.loop-number in
    let i = at.number-index in
    let g = c.edge-edge.result.now in
    let from : g.from ≡ at.point = omega (arith, c.if-edge-point.false) in
    let here = drop_more xs i 0 c.loop-number-test.true in
    let before = subst (λ (ns : List ℕ). ChainsFrom cfa at.point at.calls.items ns ↔ Chains cfa xs)
    here at.invariant in
    let next = c.step_stack.new.sites.items in
    let after =
    sym c.in_ok-stepped.ensures.after
    ∙ ap (λ b. cond b (Some next) None) c.if-not-stepped.false in
    let on = chains_on cfa at.point (get_or xs i 0) at.calls.items (drop (i + 1) xs) g
    c.edge-edge.ensures next from after in
    (λ h. before.0 (on.0 h), λ h. on.1 (before.1 h))

pub returns-then-not-stepped : goal.returns-then-not-stepped
returns-then-not-stepped c =
    let cfa = c.args.cfa.now in
    let xs = c.args.path.now in
    let at = c.loop-number in
    let i = at.number-index in
    let here = drop_more xs i 0 c.loop-number-test.true in
    let before = subst (λ (ns : List ℕ). ChainsFrom cfa at.point at.calls.items ns ↔ Chains cfa xs)
    here at.invariant in
    let none =
    sym c.in_ok-stepped.ensures.after
    ∙ ap (λ b. cond b (Some c.step_stack.new.sites.items) None) c.if-not-stepped.true in (
      λ yes. absurd (false≢true yes),
      λ chains. absurd (no_calls cfa at.point (get_or xs i 0) at.calls.items (drop (i + 1) xs)
          c.edge-edge.result.now c.edge-edge.ensures none (before.1 chains)),
    )
