use Rattle.std.proofs.Common.{◌≡◌, ℕ, ◌+◌, ◌-◌, ◌^◌, min, List, drop, get_or, ap, sym, ◌∙◌, subst}
use Rattle.std.proofs.Common.{arith}
use Rattle.std.proofs.Math.ListN.{drop_of_length-le}
use Rattle.std.specs.List.{sum_by}
use Rattle.cpa_form_rules.specs.Forms.{act_weight}
use Rattle.cpa_folds.specs.Along.{acts_along}
use Rattle.std.proofs.lemmas.List.{drop_more}
use Rattle.cpa_path.proofs.Weighed.{weight_on, weight_all}
use Rattle.cpa_path.proofs.weighing.weight_along.Goals as goal
use Rattle.cpa_path.proofs.weighing.weight_along.Invariants.{IsSoFar}

pub loop-number-preserved : goal.loop-number-preserved
loop-number-preserved c =
    let cfa = c.args.cfa.now in
    let xs = c.args.path.now in
    let at = c.loop-number in
    let i = at.number-index in
    let m = 2 ^ 64 - 1 in
    let so = subst (λ (ns : List ℕ). IsSoFar cfa xs ns at.total)
    (drop_more xs i 0 c.loop-number-test.true) at.invariant in
    let sum = c.saturating_add-total.ensures ∙ ap (λ (w : ℕ). min (at.total + w) m)
    c.act_weight.ensures
    in
    record {
      whole = ap (λ (t : ℕ). min (t + sum_by act_weight (acts_along cfa (drop (i + 1) xs))) m) sum
          ∙ weight_on cfa (get_or xs i 0) (drop (i + 1) xs) c.edge.result.now at.total m
          c.edge.ensures
          ∙ so.whole;
      within = omega arith;
    }

pub returns : goal.returns
returns c =
    let at = c.loop-number in
    let weight : List ℕ → ℕ = λ ns. sum_by act_weight (acts_along c.args.cfa.now ns) in
    let rest = drop at.number-index c.args.path.now in
    let none : weight rest ≡ 0 =
    ap weight (drop_of_length-le c.args.path.now c.loop-number-test.false) in
    sym (weight_all at.total (2 ^ 64 - 1) (weight rest) none at.invariant.within)
    ∙ at.invariant.whole
