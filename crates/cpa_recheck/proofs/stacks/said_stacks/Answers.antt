use Rattle.std.proofs.Common.{◌∙◌, List, Some, None, ℕ, ap, slice_get}
use Rattle.std.specs.Prelude.{if◌then◌else◌}
use Rattle.cpa_model.specs.declared.automaton.Edge.{Edge}
use Rattle.cpa_model.specs.Stacks.{stack_after}
use Rattle.cpa_recheck.proofs.Stacked.{said_are, same_item}
use Rattle.cpa_recheck.proofs.stacks.said_stacks.Goals as goal

pub returns : goal.returns
returns c = λ xs g at.
    let cfa = c.args.cfa.now in
    let sites = c.args.sites.now in
    let done = c.in_ok-_stepped._stepped in
    let act = c.edge.result.now.act in
    let same = same_item (slice_get cfa.edges c.args.edge) c.edge.result.now g c.edge.ensures at in
    let copy = c.in_ok-new.ensures.items_if_clones_equal (λ x y is. is) ∙ c.as_slice-2.ensures in
    said_are cfa xs c.args.spot.now g sites c.from_vec.result c.from_vec-2.result done
    c.requires.said (c.requires.leaves g at) c.requires.sites
    (c.from_vec.ensures
    ∙ (c.in_ok-old.ensures.items_if_clones_equal (λ x y is. is) ∙ c.as_slice.ensures))
    (ap (λ (l : List ℕ). if done then Some l else None) c.from_vec-2.ensures
    ∙ (c.in_ok-_stepped.ensures.after ∙ (ap (stack_after act) copy
    ∙ ap (λ (e : Edge). stack_after e.act sites) same)))
