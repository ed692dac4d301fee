use Rattle.std.proofs.Common.{List, Bool, ℕ, ◌≡◌, ◌≢◌, ◌+◌, ◌*◌, sym, subst, arith}
use Rattle.std.specs.Prelude.{IsTrue, ◌↔◌}
use Rattle.cpa_sat_trail.specs.declared.trail.TheConstants.{NO_PLACE}
use Rattle.cpa_sat_trail.specs.Trails.{place_of}
use Rattle.cpa_sat_trail.specs.Findings.{AreValues}
use Rattle.cpa_sat_trail.specs.lemmas.Values.{values_more}
use Rattle.cpa_sat_trail.proofs.finding.values.Goals as goal

pub loop-var-preserved : goal.loop-var-preserved
loop-var-preserved c =
    subst (λ (vs : List Bool). AreValues c.args.trail.now (c.loop-var.var + 1) vs)
    (sym c.in_ok-push.ensures.items)
    (values_more c.args.trail.now c.loop-var.var c.loop-var.values.items c.is_true.result
    c.loop-var.invariant
    (subst (λ x. IsTrue c.is_true.result ↔ (place_of c.args.trail.now x ≢ NO_PLACE))
    (double c.positive.result c.new.result c.loop-var.var c.positive.ensures c.new.ensures)
    c.is_true.ensures))
  where
    double : (p n v : ℕ) → p ≡ 2 * n → n ≡ v → p ≡ v * 2
    double p n v a b = omega arith
