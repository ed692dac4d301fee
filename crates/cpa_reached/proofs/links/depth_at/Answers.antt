use Rattle.cpa_reached.proofs.Keys.{depth_there}
use Rattle.cpa_reached.proofs.links.depth_at.Goals as goal

pub returns : goal.returns
returns c = λ n at. depth_there c.args.links.now c.args.place n c.index-links-place.result
    c.requires.ascend at
