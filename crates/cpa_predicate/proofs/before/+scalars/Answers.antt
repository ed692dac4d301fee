-- Every read is a scalar one where that of the node is, and those of the parts are.
use Rattle.std.proofs.Common.{◌∙◌, ap, sym}
use Rattle.cpa_expr.specs.Parts.{part_list}
use Rattle.cpa_predicate.proofs.BeforeLemmas.{scalar_node, scalar_parts}
use Rattle.cpa_predicate.proofs.before.+scalars.Goals as goal
use Rattle.cpa_predicate.proofs.before.+scalars.Goals.{parts_read_scalar-then-reads_scalar-2}
use Rattle.cpa_predicate.proofs.before.+scalars.Goals.{parts_read_scalar-else-reads_scalar-2}

pub reads_scalar-returns-then-node_reads_scalar : goal.reads_scalar-returns-then-node_reads_scalar
reads_scalar-returns-then-node_reads_scalar t c = λ reads.
    scalar_node c.args.cell c.args.e.now (c.node_reads_scalar.ensures c.if-node_reads_scalar.true)
    (c.parts_read_scalar.ensures reads)

pub parts_read_scalar-returns-in-One : goal.parts_read_scalar-returns-in-One
parts_read_scalar-returns-in-One t c = λ reads.
    scalar_parts c.args.cell c.args.e.now _ (ap part_list (sym c.in-One.is) ∙ c.parts_of.ensures)
    (c.reads_scalar.ensures reads, tt)

pub parts_read_scalar-returns-then-reads_scalar : goal.parts_read_scalar-returns-then-reads_scalar
parts_read_scalar-returns-then-reads_scalar t c = λ reads.
    scalar_parts c.args.cell c.args.e.now _ (ap part_list (sym c.in-Two.is) ∙ c.parts_of.ensures) (
      c.reads_scalar-in-Two.ensures c.if-reads_scalar.true,
      (c.reads_scalar-then-reads_scalar.ensures reads, tt),
    )

pub parts_read_scalar-returns-then-reads_scalar-3 :
    goal.parts_read_scalar-returns-then-reads_scalar-3
parts_read_scalar-returns-then-reads_scalar-3 t c = λ reads.
    scalar_parts c.args.cell c.args.e.now _ (ap part_list (sym c.in-Three.is) ∙ c.parts_of.ensures)
    (elim c.if-reads_scalar-2.branch [
      | parts_read_scalar-then-reads_scalar-2 w ↦ (
        c.reads_scalar-in-Three.ensures w.if-reads_scalar-2.true,
        (
          w.reads_scalar-then-reads_scalar-2.ensures (sym w.value-is ∙ c.if-reads_scalar-3.true),
          (c.reads_scalar-then-reads_scalar-3.ensures reads, tt),
        ),
      )
      | parts_read_scalar-else-reads_scalar-2 w ↦
          absurd (cc (w.value-is, c.if-reads_scalar-3.true))
    ])
