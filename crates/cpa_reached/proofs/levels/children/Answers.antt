use Rattle.std.proofs.Common.{◌∙◌}
use Rattle.cpa_reached.specs.Kept.{has_parent_in}
use Rattle.cpa_reached.proofs.Choosing.{chosen}
use Rattle.cpa_reached.proofs.Lowering.{children_listed}
use Rattle.cpa_reached.proofs.levels.children.Goals as goal

pub returns : goal.returns
returns c =
    let xs = c.args.entries.now in
    let found = c.in_ok-found.found.items in
    let tree = c.requires.tree in
    c.keep_children.ensures
    ∙ chosen (has_parent_in c.args.parents.now) xs found tree.ascend c.in_ok-found.ensures.ascend
    (children_listed xs c.args.links.now c.args.parents.now found tree
    (λ n m there named. c.in_ok-found.ensures.all n m there named))
