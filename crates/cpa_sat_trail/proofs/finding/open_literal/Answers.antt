use Rattle.std.proofs.Common.{◌≢◌, ℕ, refl}
use Rattle.cpa_cnf.specs.Literals.{opposite}
use Rattle.cpa_cnf.specs.lemmas.Members.{has-at, more}
use Rattle.cpa_cnf.specs.lemmas.Chains.{member_below}
use Rattle.cpa_sat_trail.specs.declared.trail.TheConstants.{NO_PLACE}
use Rattle.cpa_sat_trail.specs.Trails.{place_of}
use Rattle.cpa_sat_trail.specs.lemmas.Values.{none_of}
use Rattle.cpa_sat_trail.proofs.finding.open_literal.Goals as goal

pub returns-then-not-is_false-clause-some : goal.returns-then-not-is_false-clause-some
returns-then-not-is_false-clause-some c =
    let t = c.args.trail.now in
    let xs = c.args.clause.now in
    let k = c.loop-literal.literal-index in
    let x : ℕ = c.literal-item.result in
    let here = has-at xs k x c.loop-literal-test.true
    c.literal-item.is in
    record {
      range = member_below t.vars xs x c.requires.below here;
      not_true = c.requires.no_true x here;
      not_false = none_of (place_of t (opposite x)) c.if-not-is_false.ensures.1;
    }

pub loop-literal-preserved : goal.loop-literal-preserved
loop-literal-preserved c =
    let xs = c.args.clause.now in
    let k = c.loop-literal.literal-index in
    let x : ℕ = c.literal-item.result in
    let P : ℕ → Type 0 = λ l. place_of c.args.trail.now (opposite l) ≢ NO_PLACE in
    more P xs k x c.loop-literal-test.true c.literal-item.is
    c.loop-literal.invariant (c.if-not-is_false.ensures.0 refl)
