use Rattle.std.proofs.Common.{◌≡◌, ℕ, refl}
use Rattle.cpa_cnf.specs.lemmas.Members.{has-at, more}
use Rattle.cpa_sat_trail.specs.declared.trail.TheConstants.{NO_PLACE}
use Rattle.cpa_sat_trail.specs.Trails.{place_of}
use Rattle.cpa_sat_trail.specs.lemmas.Values.{none_of}
use Rattle.cpa_sat_trail.proofs.finding.is_satisfied.Goals as goal

pub returns-then-is_true-clause-yes : goal.returns-then-is_true-clause-yes
returns-then-is_true-clause-yes c = λ _.
    let xs = c.args.clause.now in
    let k = c.loop-literal.literal-index in
    let x : ℕ = c.literal-item.result in (
      x,
      has-at xs k x c.loop-literal-test.true c.literal-item.is,
      c.if-is_true.ensures.0 refl,
    )

pub loop-literal-preserved : goal.loop-literal-preserved
loop-literal-preserved c =
    let xs = c.args.clause.now in
    let k = c.loop-literal.literal-index in
    let x : ℕ = c.literal-item.result in
    let P : ℕ → Type 0 = λ l. place_of c.args.trail.now l ≡ NO_PLACE in
    more P xs k x c.loop-literal-test.true c.literal-item.is
    c.loop-literal.invariant
    (none_of (place_of c.args.trail.now x) c.if-is_true.ensures.1)
