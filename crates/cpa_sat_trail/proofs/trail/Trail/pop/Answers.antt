use Rattle.std.proofs.Common.{◌≡◌, ◌-◌, ◌<◌, ℕ, refl, ap, ◌∙◌, subst, take, get_or, set, arith}
use Rattle.std.proofs.lemmas.List.{get_or_read}
use Rattle.cpa_sat_trail.specs.declared.trail.TheConstants.{NO_PLACE}
use Rattle.cpa_sat_trail.specs.Trails.{height}
use Rattle.cpa_sat_trail.specs.lemmas.TrailSteps.{popped}
use Rattle.cpa_sat_trail.proofs.trail.Trail.pop.Goals as goal

pub returns-clause-trail : goal.returns-clause-trail
returns-clause-trail c =
    let t = c.args.self.now in
    let count : c.len-last.result ≡ height t = c.len-last.ensures ∙ t.lits.ok.0 in
    let literal = c.index-literal.result.now in
    let some : 0 < height t = c.requires.some in
    let inside : height t - 1 < height t = below_last (height t) some in
    popped t _ literal c.requires.trail some
    (get_or_read t.lits.items (height t - 1) literal inside
    (subst (λ n. literal ≡ get_or t.lits.items (n - 1) literal) count c.index-literal.ensures)
    0)
    refl
    (c.truncate.ensures.items ∙ ap (λ n. take (n - 1) t.lits.items) count)
    (c.truncate-2.ensures.items ∙ ap (λ n. take (n - 1) t.reasons.items) count)
    (ap (λ i. set t.places.items i NO_PLACE) c.index.ensures)
  where
    below_last : (n : ℕ) → 0 < n → n - 1 < n
    below_last n h = omega arith
