use Rattle.std.proofs.Common.{◌≢◌, ℕ}
use Rattle.cpa_cnf.specs.Literals.{opposite}
use Rattle.cpa_cnf.specs.lemmas.Members.{more}
use Rattle.cpa_sat_trail.specs.declared.trail.TheConstants.{NO_PLACE}
use Rattle.cpa_sat_trail.specs.Trails.{place_of}
use Rattle.cpa_sat_trail.proofs.propagation.free_literal.Goals as goal

pub loop-literal-preserved : goal.loop-literal-preserved
loop-literal-preserved c =
    let xs = c.args.clause.now in
    let k = c.loop-literal.literal-index in
    let x : ℕ = c.literal-item.result in
    let P : ℕ → Type 0 = λ l. l ≢ c.args.other
    → place_of c.args.trail.now (opposite l) ≢ NO_PLACE in
    more P xs k x c.loop-literal-test.true c.literal-item.is
    c.loop-literal.invariant c.if-is_free.ensures
