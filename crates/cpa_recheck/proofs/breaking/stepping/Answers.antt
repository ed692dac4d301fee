use Rattle.std.proofs.Common.{◌∙◌, ap}
use Rattle.cpa_recheck_obligations.specs.Spots.{as_one, spots_of}
use Rattle.cpa_recheck.proofs.Broken.{leads_break, said_below}
use Rattle.cpa_recheck.proofs.breaking.stepping.Goals as goal

pub stacks_for-requires-clause-sites : goal.stacks_for-requires-clause-sites
stacks_for-requires-clause-sites c =
    said_below c.args.cfa.now c.args.entries.now c.args.spots.now c.args.entry
    c.spot_at-spot.result.now c.requires.shaped c.requires.spots c.spot_at-spot.ensures

pub returns : goal.returns
returns c = λ es are.
    let step = c.edge-step.result.now in
    leads_break c.models_break.ensures c.args.cfa.now c.args.entries.now es c.args.form.now
    c.args.store.now.values c.requires.automaton c.requires.shaped are c.args.spots.now
    c.requires.spots c.args.entry c.spot_at-spot.result.now c.spot_at-spot.ensures c.args.edge step
    c.in_ok-stacks.stacks.old c.in_ok-stacks.stacks.new c.in_ok-first.first.values
    c.in_ok-first.last.values c.requires.named c.edge-step.ensures
    (c.in_ok-stacks.ensures (as_one es) step (c.requires.spots ∙ ap spots_of are)
    c.edge-step.ensures)
    c.requires.form c.requires.model c.in_ok-first.ensures.first c.in_ok-first.ensures.last
