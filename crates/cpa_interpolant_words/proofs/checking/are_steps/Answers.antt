-- One edge more, from the last on.
use Rattle.std.proofs.Common.{◌≡◌, ◌+◌, ◌-◌, ◌^◌, ◌<◌, min, ℕ, drop, length, ap, ◌∙◌}
use Rattle.std.proofs.Common.{subst, arith}
use Rattle.cpa_folds.specs.Along.{acts_along}
use Rattle.cpa_interpolant_rules.specs.Parts.{behind_cut}
use Rattle.cpa_interpolant_rules.specs.lemmas.Keeping.{AreLaws}
use Rattle.cpa_interpolant_rules.specs.lemmas.Paths.{whole_rest}
use Rattle.cpa_interpolant_words.specs.Words.{IsStep, AreStepsIn}
use Rattle.cpa_interpolant_words.proofs.Whole.{none_back, one_back, weight_back, weighs_none}
use Rattle.cpa_interpolant_words.proofs.checking.are_steps.Goals as goal

pub loop-place-init : goal.loop-place-init
loop-place-init c = record {
  steps = none_back c.args.cfa.now c.args.limits.gates c.args.edges.now c.args.exprs.now
      c.requires.count;
  weighs = weighs_none c.args.cfa.now c.args.edges.now;
  inside = omega arith;
}

pub loop-place-preserved : goal.loop-place-preserved
loop-place-preserved c =
    let cfa = c.args.cfa.now in
    let edges = c.args.edges.now in
    let exprs = c.args.exprs.now in
    let gates = c.args.limits.gates in
    let place = c.loop-place.place in
    let p = place - 1 in
    let next : place ≡ p + 1 = omega arith in
    let less : p < length edges = omega arith in
    let g = c.edge.result.now in
    let laws : AreLaws cfa = record {
      automaton = c.requires.automaton;
      sound = λ n g at. c.edges_are_sound.ensures cfa n g c.requires.automaton at;
      keep = c.steps_keep_states.ensures;
    } in
    let step = subst
    (λ ns. IsStep cfa.cells gates c.index-exprs-place.result g.act (acts_along cfa ns)
    c.index-exprs-place-in-loop-place.result) (whole_rest edges (p + 1))
    (c.in_ok-found.ensures g c.edge.ensures c.if-not-found.false) in
    record {
      steps = one_back cfa gates edges exprs p g c.index-exprs-place.result
          c.index-exprs-place-in-loop-place.result less c.requires.count c.edge.ensures
          c.index-exprs-place.is c.index-exprs-place-in-loop-place.is step
          (subst (λ n. AreStepsIn cfa gates (drop n edges) (drop n exprs)) next
          c.loop-place.invariant.steps);
      weighs = weight_back c.weights_are_sums.ensures cfa laws edges p c.loop-place.weight
          c.saturating_add-weight.result g c.requires.path less c.edge.ensures
          (c.loop-place.invariant.weighs
          ∙ ap (λ n. (behind_cut cfa.cells (acts_along cfa (drop n edges))).weight) next)
          (c.saturating_add-weight.ensures
          ∙ ap (λ (n : ℕ). min (n + c.loop-place.weight) (2 ^ 64 - 1)) c.act_weight.ensures);
      inside = omega arith;
    }
