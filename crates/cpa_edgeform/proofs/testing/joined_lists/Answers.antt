-- One list more.
use Rattle.std.proofs.Common.{◌++◌, ◌∙◌, arith, ap, refl}
use Rattle.std.specs.List.{flat_map}
use Rattle.cpa_edgeform.proofs.Turns.{gathered, all_gathered}
use Rattle.cpa_edgeform.proofs.testing.joined_lists.Goals as goal

pub loop-tests-preserved : goal.loop-tests-preserved
loop-tests-preserved c =
    let l = c.loop-tests in
    let tests = c.tests-item.result in
    gathered (flat_map (λ all. all)) tests c.args.lists.now l.tests-index tests l.all _ _
    (omega arith) c.tests-item.is refl
    (c.in_ok-push_copies.ensures ∙ ap (λ own. l.all ++ own) c.as_slice.ensures) l.invariant

pub returns : goal.returns
returns c =
    let l = c.loop-tests in
    all_gathered (flat_map (λ all. all)) c.args.lists.now l.tests-index l.all _ (omega arith) refl
    l.invariant
