use Rattle.cpa_reached.specs.declared.links.Link.{Link}
use Rattle.cpa_reached.specs.Kept.{renumbered}
use Rattle.cpa_reached.proofs.Renamed.{gave_way}
use Rattle.cpa_reached.proofs.renaming.renumber.Goals as goal

pub returns : goal.returns
returns c = λ n at.
    rw (c.push_reserved.ensures.items, c.remove-link.ensures.items)
    (gave_way (λ (l : Link). l.number) (renumbered c.args.number) c.args.links.now.items
    c.args.place n c.remove-link.result c.requires.ascend at c.remove-link.ensures.value)
