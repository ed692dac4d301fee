use Rattle.std.proofs.Common.{ℕ, List, refl, subst, below_more, []}
use Rattle.std.specs.Prelude.{slice_index_or}
use Rattle.cpa_sat_trail.specs.Findings.{IsSatisfiedIn}
use Rattle.cpa_sat_trail.proofs.finding.unsatisfied.Goals as goal

pub loop-number-preserved : goal.loop-number-preserved
loop-number-preserved c =
    let t = c.args.trail.now in
    let P : ℕ → Type 0 = λ k. IsSatisfiedIn t (slice_index_or c.args.arena.now k []) in
    below_more P c.loop-number.number c.loop-number.invariant
    (subst P c.new-number.ensures
    (subst (λ (b : List ℕ). IsSatisfiedIn t b) c.clause.ensures
    (c.if-not-is_satisfied.ensures.yes refl)))
