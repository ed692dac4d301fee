use Rattle.std.proofs.Common.{◌∙◌, sym, ap}
use Rattle.cpa_interpolant_bits.specs.declared.nodes.Condition.{Condition}
use Rattle.cpa_interpolant_bits.specs.Nodes.{expr_in}
use Rattle.cpa_interpolant_bits.specs.Limits.{extent_of}
use Rattle.cpa_interpolant_bits.proofs.Measured.{leaf_extent}
use Rattle.cpa_interpolant_bits.proofs.building.condition_extent.Goals as goal

pub returns-in-Known : goal.returns-in-Known
returns-in-Known c = λ bits nodes are.
    leaf_extent c.in-Known.field-0
    ∙ ap (λ (x : Condition). extent_of (expr_in bits nodes x)) (sym c.in-Known.is)
