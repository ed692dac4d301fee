use Rattle.std.proofs.Common.{[], ◌∷◌, append_assoc, subst}
use Rattle.std.proofs.lemmas.Result.{on_ok_weaker}
use Rattle.cfa_build.specs.Edges.{AreEdgesFrom, edges_in}
use Rattle.cfa_build.proofs.Exits.{more_edges}
use Rattle.cfa_build.proofs.edges.add_leaving.Goals as goal

pub returns-in-One : goal.returns-in-One
returns-in-One c =
    let P = c.args.program.now in
    let own =
    subst (λ outgoing. AreEdgesFrom P c.args.n (edges_in outgoing)) c.in-One.is
    c.in_ok-outgoing.ensures in
    on_ok_weaker c.push.result (λ e. rw e
    (more_edges c.args.program.now c.args.n c.args.edges.now (c.in-One.edge ∷ []) c.requires.below
    own)) c.push.ensures.ok

pub returns-in_ok-push-in-Two : goal.returns-in_ok-push-in-Two
returns-in_ok-push-in-Two c =
    let P = c.args.program.now in
    let own =
    subst (λ outgoing. AreEdgesFrom P c.args.n (edges_in outgoing)) c.in-Two.is
    c.in_ok-outgoing.ensures in
    let both =
    more_edges c.args.program.now c.args.n c.args.edges.now (c.in-Two.first ∷ c.in-Two.second ∷ [])
    c.requires.below own in
    on_ok_weaker c.push-in-Two-2.result
    (λ e. rw e (rw c.in_ok-push-in-Two.ensures.ok (rw append_assoc both)))
    c.push-in-Two-2.ensures.ok
