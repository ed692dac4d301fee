use Rattle.std.proofs.Common.{◌∙◌, ap}
use Rattle.cpa_expr.specs.declared.tree.Store.{Store}
use Rattle.cpa_recheck.proofs.Broken.{avoids_break, said_below}
use Rattle.cpa_recheck.proofs.breaking.standing.Goals as goal

pub returns : goal.returns
returns c = λ es are.
    let cfa = c.args.cfa.now in
    let xs = c.args.entries.now in
    let spots = c.args.spots.now in
    let spot = c.spot_at-spot.result.now in
    let at = c.spot_at-spot.ensures in
    avoids_break c.models_break.ensures cfa xs es c.args.form.now c.args.store.now.values
    c.requires.automaton c.requires.shaped are spots c.requires.spots c.args.entry spot at
    c.args.point c.in_ok-stack.stack c.first_of-first.result.values c.requires.named
    c.in_ok-stack.ensures.said
    (c.in_ok-stack.ensures.below cfa.points
    (said_below cfa xs spots c.args.entry spot c.requires.shaped c.requires.spots at))
    c.requires.form c.requires.model
    (ap (λ (s : Store). s.values) c.first_of-first.ensures ∙ c.in_ok-stores.ensures.first)
