use Rattle.std.proofs.Common.{◌∙◌, ap, arith, slice_get}
use Rattle.cpa_model.specs.declared.automaton.Edge.{Edge}
use Rattle.cpa_recheck.specs.Stacks.{free_after, free_before}
use Rattle.cpa_recheck.proofs.Stacked.{free_are, same_item}
use Rattle.cpa_recheck.proofs.stacks.free_stacks.Goals as goal

pub returns : goal.returns
returns c = λ xs g are at.
    let cfa = c.args.cfa.now in
    let same = same_item (slice_get cfa.edges c.args.edge) c.edge.result.now g c.edge.ensures at in
    let start = c.automata_are_small.ensures.start cfa c.requires.automaton in
    free_are cfa xs c.args.spots.now c.args.spot.now g c.longest-most.result c.in_ok-depth.depth
    c.in_ok-old.old c.in_ok-new.new (omega (arith, start))
    (c.edges_are_sound.ensures cfa c.args.edge g c.requires.automaton at).act are c.requires.none
    c.longest-most.ensures c.in_ok-depth.ensures
    (c.in_ok-old.ensures ∙ ap (λ (e : Edge). free_before e.act c.in_ok-depth.depth) same)
    (c.in_ok-new.ensures ∙ ap (λ (e : Edge). free_after e.act c.in_ok-depth.depth) same)
