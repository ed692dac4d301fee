use Rattle.std.proofs.Common.{◌∙◌}
use Rattle.c_types_jumps.proofs.Trees.{contains_end}
use Rattle.c_types_jumps.proofs.tree.contains.Goals as goal

pub returns : goal.returns
returns c = λ base based.
    let tree = c.args.tree.now in
    contains_end tree.first tree.next tree.nodes.items c.args.outer c.loop-inner.inner
    c.requires.tree.nodes c.requires.outer c.loop-inner-test.false base based
    ∙ c.loop-inner.invariant.same base
