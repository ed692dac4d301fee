use Rattle.cpa_reached.proofs.Lowering.{namers_there}
use Rattle.cpa_reached.proofs.links.namers_at.Goals as goal

pub returns : goal.returns
returns c = λ n m at named.
    rw c.as_slice.ensures
    (namers_there c.args.links.now c.args.place n m c.index-links-place.result c.requires.ascend at
    named)
