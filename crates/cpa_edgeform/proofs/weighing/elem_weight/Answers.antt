-- One weight more.
use Rattle.std.proofs.Common.{◌≡◌, ◌+◌, ◌-◌, ◌^◌, ◌∙◌, ℕ, min, ap, arith}
use Rattle.cpa_form_rules.specs.Forms.{fact_weight}
use Rattle.cpa_edgeform.proofs.Sums.{one_less}
use Rattle.cpa_edgeform.proofs.weighing.elem_weight.Goals as goal

pub loop-fact-preserved : goal.loop-fact-preserved
loop-fact-preserved c =
    let l = c.loop-fact in
    let weight = fact_weight c.args.places.now in
    let x = c.in-Some.fact.now in
    let most = 2 ^ 64 - 1 in
    let more : c.saturating_add-total.result ≡ min (l.total + min (weight x) most) most =
    c.saturating_add-total.ensures
    ∙ ap (λ (n : ℕ). min (l.total + n) most) c.fact_weight.ensures in (
      omega (arith, more),
      one_less weight l.fact-iterator c.next.new.self x l.total c.saturating_add-total.result most
          _ c.in-Some.ensures.steps more l.invariant.1,
    )
