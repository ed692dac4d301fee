-- The parts of a node are well typed, and what a read gives is as long as its type is wide.
use Rattle.std.proofs.Common.{ap, subst, ◌∙◌, arith, length}
use Rattle.cpa_expr.specs.Shape.{size, IsTyped}
use Rattle.cpa_expr.specs.Laws.{typed_at_variants, size_at_variants}
use Rattle.cpa_blast_circuits.specs.Meanings.{types_of}
use Rattle.cpa_blast_circuits.specs.Reads.{cell_bits}
use Rattle.cpa_blast_circuits.specs.lemmas.CellWords.{cells_alike, read_long}
use Rattle.cpa_blast_circuits.proofs.Halves.{alike_first}
use Rattle.cpa_blast_circuits.proofs.circuits.+making.Goals as goal

pub circuit-read_circuit-requires : goal.circuit-read_circuit-requires
circuit-read_circuit-requires t c =
    let ts = types_of c.args.cells.now in
    let n = c.in-Read in
    let sized = ap size n.is ∙ size_at_variants.read n.ty n.base n.len n.index in
    let parts = (typed_at_variants.read ts n.ty n.base n.len n.index).0
    (subst (IsTyped ts) n.is c.requires.typed) in (
      omega (arith, sized, c.decreases),
      (parts.2, (parts.0, (parts.1, c.requires.long))),
    )

pub circuit-unary_circuit-requires : goal.circuit-unary_circuit-requires
circuit-unary_circuit-requires t c =
    let ts = types_of c.args.cells.now in
    let n = c.in-Un in
    let sized = ap size n.is ∙ size_at_variants.unary n.op n.ty n.arg in
    let parts = (typed_at_variants.unary ts n.op n.ty n.arg).0
    (subst (IsTyped ts) n.is c.requires.typed) in (
      omega (arith, sized, c.decreases),
      (parts.2, (parts.1, c.requires.long)),
    )

pub circuit-binary_circuit-requires : goal.circuit-binary_circuit-requires
circuit-binary_circuit-requires t c =
    let ts = types_of c.args.cells.now in
    let n = c.in-Bin in
    let sized = ap size n.is ∙ size_at_variants.binary n.op n.ty n.left n.right in
    let parts = (typed_at_variants.binary ts n.op n.ty n.left n.right).0
    (subst (IsTyped ts) n.is c.requires.typed) in (
      omega (arith, sized, c.decreases),
      (parts.3, (parts.4, (parts.1, (parts.2, c.requires.long)))),
    )

pub circuit-comparison_circuit-requires : goal.circuit-comparison_circuit-requires
circuit-comparison_circuit-requires t c =
    let ts = types_of c.args.cells.now in
    let n = c.in-Cmp in
    let sized = ap size n.is ∙ size_at_variants.comparison n.op n.ty n.left n.right in
    let parts = (typed_at_variants.comparison ts n.op n.ty n.left n.right).0
    (subst (IsTyped ts) n.is c.requires.typed) in (
      omega (arith, sized, c.decreases),
      (parts.2, (parts.3, (parts.0, (parts.1, c.requires.long)))),
    )

pub circuit-cast_circuit-requires : goal.circuit-cast_circuit-requires
circuit-cast_circuit-requires t c =
    let ts = types_of c.args.cells.now in
    let n = c.in-Cast in
    let sized = ap size n.is ∙ size_at_variants.cast n.ty n.arg in
    let inner = (typed_at_variants.cast ts n.ty n.arg).0
    (subst (IsTyped ts) n.is c.requires.typed) in (
      omega (arith, sized, c.decreases),
      (inner, c.requires.long),
    )

pub circuit-both_circuit-requires : goal.circuit-both_circuit-requires
circuit-both_circuit-requires t c =
    let ts = types_of c.args.cells.now in
    let n = c.in-And in
    let sized = ap size n.is ∙ size_at_variants.conjunction n.left n.right in
    let parts = (typed_at_variants.conjunction ts n.left n.right).0
    (subst (IsTyped ts) n.is c.requires.typed) in (
      omega (arith, sized, c.decreases),
      (parts.0, (parts.1, c.requires.long)),
    )

pub circuit-either_circuit-requires : goal.circuit-either_circuit-requires
circuit-either_circuit-requires t c =
    let ts = types_of c.args.cells.now in
    let n = c.in-Or in
    let sized = ap size n.is ∙ size_at_variants.disjunction n.left n.right in
    let parts = (typed_at_variants.disjunction ts n.left n.right).0
    (subst (IsTyped ts) n.is c.requires.typed) in (
      omega (arith, sized, c.decreases),
      (parts.0, (parts.1, c.requires.long)),
    )

pub circuit-not_circuit-requires : goal.circuit-not_circuit-requires
circuit-not_circuit-requires t c =
    let ts = types_of c.args.cells.now in
    let n = c.in-Not in
    let sized = ap size n.is ∙ size_at_variants.negation n.arg in
    let inner = (typed_at_variants.negation ts n.arg).0
    (subst (IsTyped ts) n.is c.requires.typed) in (
      omega (arith, sized, c.decreases),
      (inner, c.requires.long),
    )

pub circuit-conditional_circuit-requires : goal.circuit-conditional_circuit-requires
circuit-conditional_circuit-requires t c =
    let ts = types_of c.args.cells.now in
    let n = c.in-Cond in
    let sized = ap size n.is ∙ size_at_variants.conditional n.ty n.test n.yes n.no in
    let parts = (typed_at_variants.conditional ts n.ty n.test n.yes n.no).0
    (subst (IsTyped ts) n.is c.requires.typed) in (
      omega (arith, sized, c.decreases),
      (parts.2, (parts.3, (parts.4, (parts.0, (parts.1, c.requires.long))))),
    )

pub read_circuit-read-requires-clause-alike : goal.read_circuit-read-requires-clause-alike
read_circuit-read-requires-clause-alike t c =
    let cells = c.args.cells.now in
    alike_first _ (cell_bits cells c.args.base c.args.len)
    (cells_alike c.args.ty c.args.base c.args.len cells c.requires.long c.requires.there)

pub read_circuit-returns-clause-long : goal.read_circuit-returns-clause-long
read_circuit-returns-clause-long t c =
    let cells = c.args.cells.now in
    ap (λ b. length b.value.bits) c.in_ok-answer.ensures.built
    ∙ read_long cells c.args.ty c.args.base c.args.len c.circuit.new.net c.in_ok-index.index
    c.requires.long c.requires.some c.requires.there
