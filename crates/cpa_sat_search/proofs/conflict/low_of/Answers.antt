use Rattle.std.proofs.Common.{◌≡◌, ◌≢◌, ◌<◌, ◌≤◌, ℕ, true, arith}
use Rattle.cpa_cnf.specs.Literals.{opposite}
use Rattle.cpa_cnf.specs.Marking.{marked}
use Rattle.cpa_cnf.specs.lemmas.Members.{more}
use Rattle.cpa_sat_trail.specs.Trails.{place_of}
use Rattle.cpa_sat_search.proofs.conflict.low_of.Goals as goal

less_then : (a b m : ℕ) → a < b → b ≤ m → a < m
less_then a b m h k = omega arith

pub loop-literal-preserved : goal.loop-literal-preserved
loop-literal-preserved c =
    let a = c.args.analysis.now in
    let t = c.args.trail.now in
    let xs = c.deref-literal-items.result.now in
    let k = c.loop-literal.literal-index in
    let x : ℕ = c.literal-item.result in
    let inv = c.loop-literal.invariant in
    let P : ℕ → Type 0 = λ l. marked a.marks.items l ≡ true → l ≢ c.args.kept
    → place_of t (opposite l) < c.later-low.result in
    let e = c.later-low.ensures in (
      more P xs k x c.loop-literal-test.true c.literal-item.is
          (λ l h m ne. less_then _ _ _ (inv.0 l h m ne) e.left)
          (λ m ne. less_then _ _ _ (c.after.ensures.covers m ne) e.right),
      λ n o. e.least n (inv.1 n o) (c.after.ensures.least n o),
    )
