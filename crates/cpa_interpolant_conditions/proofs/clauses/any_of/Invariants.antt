use Rattle.std.proofs.Common.{◌≡◌, false, drop}
use Rattle.cpa_interpolant_bits.specs.declared.nodes.Condition.TheVariants.{Known}
use Rattle.cpa_interpolant_bits.specs.Nodes.{made}
use Rattle.cpa_interpolant_conditions.specs.Making.{any_made}
use Rattle.cpa_interpolant_conditions.proofs.clauses.any_of.Given as goal

abbrev pub invariant-loop-literal : goal.invariant-loop-literal
invariant-loop-literal l =
    any_made (made l.conditions l.any) (drop l.literal-index l.literals)
    ≡ any_made (made l.initial.conditions (Known false)) l.literals
