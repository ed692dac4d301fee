use Rattle.std.proofs.Common.{◌∙◌, sym}
use Rattle.cpa_reached.specs.Kept.{waits_again}
use Rattle.cpa_reached.proofs.Choosing.{chosen_at, chosen_none}
use Rattle.cpa_reached.proofs.opening.is_reopened.Goals as goal

pub returns-in-Some : goal.returns-in-Some
returns-in-Some c =
    c.waits_again.ensures.value
    ∙ chosen_at (waits_again c.args.gone.now c.args.pivot) c.args.entries.now c.in-Some.place
    c.args.number
    c.index-entries-place.result c.requires.entries c.in-Some.ensures.some
    c.index-entries-place.is

pub returns-in-None : goal.returns-in-None
returns-in-None c =
    sym (chosen_none (waits_again c.args.gone.now c.args.pivot) c.args.entries.now c.args.number
    c.in-None.ensures.none)
