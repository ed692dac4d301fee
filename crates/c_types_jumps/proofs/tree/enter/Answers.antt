use Rattle.std.proofs.Common.{◌≡◌, ℕ, ◌+◌, ◌<◌, List, [], ◌∷◌, ◌++◌, sym, subst, arith, length}
use Rattle.c_types_jumps.specs.declared.tree.Node.{Node}
use Rattle.c_types_jumps.specs.Trees.{AreNodes, way_at, node_at}
use Rattle.c_types_jumps.proofs.Trees.{entered_by, far_within}
use Rattle.c_types_jumps.proofs.Trees.{jump_within}
use Rattle.c_types_jumps.proofs.tree.enter.Goals as goal

pub jump_below-requires-clause-near : goal.jump_below-requires-clause-near
jump_below-requires-clause-near c =
    let tree = c.args.tree.now in
    subst (λ (nodes : List Node). (node_at nodes tree.here).jump < length nodes)
    (sym c.deref.ensures.value)
    (jump_within tree.first tree.next tree.nodes.items tree.here c.requires.tree.nodes
    c.requires.tree.here)

pub jump_below-requires-clause-far : goal.jump_below-requires-clause-far
jump_below-requires-clause-far c =
    let tree = c.args.tree.now in
    subst (λ (nodes : List Node).
    (node_at nodes (node_at nodes tree.here).jump).jump < length nodes)
    (sym c.deref.ensures.value)
    (far_within tree.first tree.next tree.nodes.items tree.here c.requires.tree.nodes
    c.requires.tree.here)

pub returns-clause-tree : goal.returns-clause-tree
returns-clause-tree c =
    let tree = c.args.tree.now in
    let is = entered_by tree c.args.number c.jump_below.result c.index.result.now
    c.deref.result.now c.push.new.self.items c.requires.tree c.requires.next
    c.deref.ensures.value c.jump_below.ensures c.index.ensures c.in_ok-push.ensures.items in
    record {
      nodes = subst (λ (n : ℕ). AreNodes tree.first (n + 1) c.push.new.self.items)
          (sym c.from.ensures) is.are;
      here = omega (arith, is.last, c.len-position.ensures, tree.nodes.ok.0);
    }

pub returns-clause-current : goal.returns-clause-current
returns-clause-current c =
    let tree = c.args.tree.now in
    let is = entered_by tree c.args.number c.jump_below.result c.index.result.now
    c.deref.result.now c.push.new.self.items c.requires.tree c.requires.next
    c.deref.ensures.value c.jump_below.ensures c.index.ensures c.in_ok-push.ensures.items in
    let last : c.len-position.result ≡ length tree.nodes.items =
    omega (arith, c.len-position.ensures, tree.nodes.ok.0) in
    subst (λ (n : ℕ). way_at c.push.new.self.items n
    ≡ way_at tree.nodes.items tree.here ++ c.args.number ∷ []) (sym last) is.current

pub returns-clause-ways : goal.returns-clause-ways
returns-clause-ways c =
    let tree = c.args.tree.now in
    (entered_by tree c.args.number c.jump_below.result c.index.result.now c.deref.result.now
    c.push.new.self.items c.requires.tree c.requires.next c.deref.ensures.value
    c.jump_below.ensures c.index.ensures c.in_ok-push.ensures.items).ways
