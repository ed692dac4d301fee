-- What has been gathered, with what is left, is what all lists hold.
use Rattle.std.proofs.Common.{◌≡◌, ◌++◌, drop}
use Rattle.std.specs.List.{flat_map}
use Rattle.cpa_edgeform.proofs.testing.joined_lists.Given as goal

abbrev pub invariant-loop-tests : goal.invariant-loop-tests
invariant-loop-tests l =
    l.all ++ flat_map (λ tests. tests) (drop l.tests-index l.lists)
    ≡ flat_map (λ tests. tests) l.lists
