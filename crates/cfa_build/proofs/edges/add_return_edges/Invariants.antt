use Rattle.std.proofs.Common.{◌≡◌, ◌++◌, map, take}
use Rattle.cfa_build.specs.Edges.{return_edge}
use Rattle.cfa_build.proofs.edges.add_return_edges.Given as goal

abbrev pub invariant-loop-site : goal.invariant-loop-site
invariant-loop-site l =
    l.edges ≡ l.initial.edges ++ map (return_edge l.exit l.places) (take l.site-index l.sites)
