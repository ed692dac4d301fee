use Rattle.std.proofs.Common.{length, map, ◌∙◌}
use Rattle.std.proofs.lemmas.Result.{on_ok_weaker}
use Rattle.cpa_model.specs.Programs.{exit_of}
use Rattle.cfa_build.specs.Edges.{AreNumbersBelow, IsCallOf, return_edge}
use Rattle.cfa_build.proofs.Exits.{more_edges, no_more_edges, from_main, from_exit, sites_of}
use Rattle.cfa_build.proofs.Exits.{sites_inside}
use Rattle.cfa_build.proofs.edges.add_returns.Goals as goal

pub returns-then-f-program : goal.returns-then-f-program
returns-then-f-program c =
    let P = c.args.program.now in
    no_more_edges P (exit_of P c.args.f) c.args.edges.now c.requires.below
    (from_main P c.args.f c.if-f-program.true)

pub add_return_edges-requires : goal.add_return_edges-requires
add_return_edges-requires c =
    let P = c.args.program.now in
    let is = c.as_slice.ensures ∙ c.index-sites-f.is in
    let calls : AreNumbersBelow (IsCallOf P c.args.f) (length P.stmts) c.as_slice.result.now =
    rw is (sites_of P (length P.stmts) c.args.f c.args.sites.now c.index-sites-f.result
    c.requires.sites c.requires.inside) in
    sites_inside (IsCallOf P c.args.f) (length P.stmts) (length c.args.places.now)
    c.as_slice.result.now calls c.requires.placed.each

pub returns : goal.returns
returns c =
    let P = c.args.program.now in
    let sites = c.as_slice.result.now in
    let is = c.as_slice.ensures ∙ c.index-sites-f.is in
    let calls : AreNumbersBelow (IsCallOf P c.args.f) (length P.stmts) c.as_slice.result.now =
    rw is (sites_of P (length P.stmts) c.args.f c.args.sites.now c.index-sites-f.result
    c.requires.sites c.requires.inside) in
    let out =
    from_exit P c.requires.trees c.args.f c.args.places.now sites c.if-f-program.false
    c.requires.inside c.requires.placed calls in
    let more =
    more_edges P (exit_of P c.args.f) c.args.edges.now
    (map (return_edge (exit_of P c.args.f) c.args.places.now) sites) c.requires.below out in
    on_ok_weaker c.add_return_edges.result (λ e. rw e (rw c.exit.ensures more))
    c.add_return_edges.ensures
