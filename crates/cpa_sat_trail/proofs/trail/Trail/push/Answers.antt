use Rattle.std.proofs.Common.{refl, ap, ◌∙◌, set, length}
use Rattle.std.proofs.lemmas.List.{length_push}
use Rattle.cpa_sat_trail.specs.lemmas.TrailSteps.{pushed}
use Rattle.cpa_sat_trail.proofs.trail.Trail.push.Goals as goal

pub returns-clause-trail : goal.returns-clause-trail
returns-clause-trail c =
    let r = c.requires in
    let t = c.args.self.now in
    pushed t _ c.args.literal r.trail r.in_range r.not_true r.not_false refl
    c.in_ok-push.ensures.items
    (ap (λ xs. length xs) c.in_ok-push-2.ensures.items ∙ length_push t.reasons.items c.args.reason)
    (ap (λ i. set t.places.items i c.len-place.result) c.index.ensures
    ∙ ap (λ n. set t.places.items c.args.literal n) (c.len-place.ensures ∙ t.lits.ok.0))
