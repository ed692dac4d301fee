use Rattle.std.proofs.Common.{sym}
use Rattle.cpa_iface.specs.lemmas.PlaceLaws.{found_behind}
use Rattle.cpa_interval.specs.Covers.{says}
use Rattle.cpa_interval.proofs.covers.behind_saying.Goals as goal

pub returns-in-Some-clause-said : goal.returns-in-Some-clause-said
returns-in-Some-clause-said c =
    sym (found_behind (says c.args.fact.now) c.args.facts.now c.args.from
    (sym c.in-Some.ensures.said))
