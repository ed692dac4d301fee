use Rattle.cpa_reached.specs.lemmas.MemberLaws.{live_in}
use Rattle.cpa_reached.proofs.Keys.{places_rise, found_at, at_within}
use Rattle.cpa_reached.proofs.finding.halved.Goals as goal

pub first_from-requires : goal.first_from-requires
first_from-requires c = places_rise c.args.entries.now c.requires.ascend

pub returns-clause-at : goal.returns-clause-at
returns-clause-at c =
    found_at c.args.entries.now c.args.number c.first_from.result c.requires.ascend
    c.first_from.ensures.before
    c.first_from.ensures.from (live_in c.args.entries.now c.args.number c.requires.live)

pub returns-clause-within : goal.returns-clause-within
returns-clause-within c =
    at_within c.args.entries.now c.args.number c.first_from.result
    (found_at c.args.entries.now c.args.number c.first_from.result c.requires.ascend
    c.first_from.ensures.before
    c.first_from.ensures.from (live_in c.args.entries.now c.args.number c.requires.live))
