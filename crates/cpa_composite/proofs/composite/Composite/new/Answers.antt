use Rattle.std.proofs.Common.{map}
use Rattle.cpa_composite.proofs.Picking.{picked_length}
use Rattle.cpa_composite_covers.specs.lemmas.PickLaws.{within_meanings}
use Rattle.cpa_composite.proofs.composite.Composite.new.Goals as goal

pub returns-clause-size : goal.returns-clause-size
returns-clause-size g c =
    picked_length (map g.A.Analysis.meaning c.args.handed.items) c.args.picks.items
    (within_meanings g.A.Analysis.meaning c.args.handed.items c.args.picks.items c.requires)
