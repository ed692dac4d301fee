use Rattle.std.proofs.Common.{ℕ, ap, ◌∙◌, arith}
use Rattle.c_types_jumps.specs.declared.tree.Node.{Node}
use Rattle.c_types_jumps.specs.Trees.{way_at, enters_way}
use Rattle.c_types_jumps.proofs.Trees.{node_read, over_step, up_step}
use Rattle.c_types_jumps.proofs.tree.step.Goals as goal

pub returns-then-outer-jump-clause-same : goal.returns-then-outer-jump-clause-same
returns-then-outer-jump-clause-same c = λ base.
    let tree = c.args.tree.now in
    let nodes = tree.nodes.items in
    let is = node_read nodes c.args.inner c.index.result.now c.requires.inner c.index.ensures in
    let jump = ap (λ (one : Node). one.jump) is in
    ap (λ (position : ℕ). enters_way base (way_at nodes position) (way_at nodes c.args.outer)) jump
    ∙ over_step tree.first tree.next nodes c.args.outer c.args.inner c.requires.tree.nodes
    c.requires.inner c.requires.outer (omega (arith, jump, c.if-outer-jump.true)) base

pub returns-clause-same : goal.returns-clause-same
returns-clause-same c = λ base.
    let tree = c.args.tree.now in
    let nodes = tree.nodes.items in
    let is = node_read nodes c.args.inner c.index-2.result.now c.requires.inner c.index-2.ensures in
    ap (λ (one : Node). enters_way base (way_at nodes one.parent) (way_at nodes c.args.outer)) is
    ∙ up_step tree.first tree.next nodes c.args.outer c.args.inner c.requires.tree.nodes
    c.requires.inner c.requires.outer base
