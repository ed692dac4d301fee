use Rattle.std.proofs.Common.{◌∙◌}
use Rattle.cpa_reached.specs.Kept.{waits_again}
use Rattle.cpa_reached.proofs.Choosing.{chosen}
use Rattle.cpa_reached.proofs.Reopened.{listed_again}
use Rattle.cpa_reached.proofs.opening.reopened.Goals as goal

pub returns : goal.returns
returns c =
    let xs = c.args.entries.now in
    let gone = c.args.gone.now in
    let found = c.in_ok-found.found.items in
    let tree = c.requires.tree in
    c.keep_reopened.ensures
    ∙ chosen (waits_again gone c.args.pivot) xs found tree.ascend c.in_ok-found.ensures.ascend
    (listed_again xs c.args.links.now gone c.args.pivot found tree c.in_ok-found.ensures.pivot
    (λ n m there named. c.in_ok-found.ensures.all n m there named))
