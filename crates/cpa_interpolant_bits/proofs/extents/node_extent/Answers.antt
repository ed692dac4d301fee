use Rattle.std.proofs.Common.{◌∙◌, sym, ap}
use Rattle.std.specs.Prelude.{slice_index_or, false}
use Rattle.cpa_interpolant_bits.specs.declared.nodes.Node.{Node}
use Rattle.cpa_interpolant_bits.specs.Nodes.{constant_of, node_expr}
use Rattle.cpa_interpolant_bits.specs.Limits.{extent_of}
use Rattle.cpa_interpolant_bits.proofs.Measured.{both_extent, either_extent}
use Rattle.cpa_interpolant_bits.proofs.extents.node_extent.Goals as goal

pub returns-in-Both : goal.returns-in-Both
returns-in-Both c = λ found are.
    c.joined_extent.ensures
    ∙ both_extent _ _ _ _ (c.extent_at.ensures found are) (c.extent_at-in-Both.ensures found are)
    ∙ ap (λ (x : Node). extent_of (node_expr c.args.bits.now
    (λ number. slice_index_or found number (constant_of false)) x)) (sym c.in-Both.is)

pub returns-in-Either : goal.returns-in-Either
returns-in-Either c = λ found are.
    c.joined_extent-in-Either.ensures
    ∙ either_extent _ _ _ _ (c.extent_at-in-Either.ensures found are)
    (c.extent_at-in-Either-2.ensures found are)
    ∙ ap (λ (x : Node). extent_of (node_expr c.args.bits.now
    (λ number. slice_index_or found number (constant_of false)) x)) (sym c.in-Either.is)
