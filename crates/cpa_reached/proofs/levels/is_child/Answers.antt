use Rattle.std.proofs.Common.{◌∙◌, sym}
use Rattle.cpa_reached.specs.Kept.{has_parent_in}
use Rattle.cpa_reached.proofs.Choosing.{chosen_at, chosen_none}
use Rattle.cpa_reached.proofs.levels.is_child.Goals as goal

pub returns-in-Some : goal.returns-in-Some
returns-in-Some c =
    c.has_parent_in.ensures
    ∙ chosen_at (has_parent_in c.args.parents.now) c.args.entries.now c.in-Some.place c.args.number
    c.index-entries-place.result c.requires.entries c.in-Some.ensures.some
    c.index-entries-place.is

pub returns-in-None : goal.returns-in-None
returns-in-None c =
    sym (chosen_none (has_parent_in c.args.parents.now) c.args.entries.now c.args.number
    c.in-None.ensures.none)
