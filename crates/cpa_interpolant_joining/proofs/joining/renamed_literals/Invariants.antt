use Rattle.std.proofs.Common.{◌≡◌, map, take}
use Rattle.cpa_interpolant_joining.specs.Joining.{renamed_literal}
use Rattle.cpa_interpolant_joining.proofs.joining.renamed_literals.Given as goal

abbrev pub invariant-loop-literal : goal.invariant-loop-literal
invariant-loop-literal l =
    l.found.items ≡ map (renamed_literal l.first l.names) (take l.literal-index l.literals)
