-- The parts that were built make the automaton.
use Rattle.std.proofs.Common.{refl, ◌∙◌}
use Rattle.cfa_build.proofs.Whole.{StaysInside, automaton_is}
use Rattle.cfa_build.proofs.automaton.build.Goals as goal

pub places-requires-clause-trees : goal.places-requires-clause-trees
places-requires-clause-trees c =
    c.statements_are_trees.ensures.trees c.args.program.now c.requires.numbered

pub edges-requires-clause-trees : goal.edges-requires-clause-trees
edges-requires-clause-trees c =
    c.statements_are_trees.ensures.trees c.args.program.now c.requires.numbered

pub returns : goal.returns
returns c =
    let P = c.args.program.now in
    let cells = c.from_vec.ensures ∙ c.in_ok-cells.ensures.items ∙ c.as_slice.ensures in
    let inside : StaysInside P =
    λ p a q move. c.moves_stay_inside.ensures P p a q c.requires move in
    automaton_is P inside _ cells c.point_count.ensures c.body.ensures refl
    c.in_ok-edges.ensures c.in_ok-errors.ensures
