use Rattle.std.proofs.Common.{rules, ◌+◌, ◌-◌, ◌^◌, ◌∙◌, ℕ, min, ap, arith}
use Rattle.std.specs.Prelude.{slice_get}
use Rattle.cpa_recheck_weights.specs.Weights.{weight_in}
use Rattle.cpa_recheck_weights.proofs.Weighed.{one_sum, all_summed}
use Rattle.cpa_recheck_weights.proofs.weighing.total_of.Goals as goal

pub loop-number-preserved : goal.loop-number-preserved
loop-number-preserved c =
    let l = c.loop-number in
    one_sum (λ n. weight_in (slice_get c.args.weights.now n)) c.args.numbers.now l.number-index
    _ l.total _ (2 ^ 64 - 1) (omega arith) (search rules)
    (c.saturating_add-total.ensures
    ∙ ap (λ (n : ℕ). min (l.total + n) (2 ^ 64 - 1)) c.weight_at.ensures)
    l.invariant

pub returns : goal.returns
returns c =
    let l = c.loop-number in
    all_summed (λ n. weight_in (slice_get c.args.weights.now n)) c.args.numbers.now l.number-index
    l.total (2 ^ 64 - 1) (omega arith) l.invariant
