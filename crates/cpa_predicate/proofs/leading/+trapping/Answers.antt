-- An expression traps nowhere where neither its node nor a part of it does.
use Rattle.std.proofs.Common.{◌∙◌, ap, sym}
use Rattle.cpa_expr.specs.Parts.{part_list}
use Rattle.cpa_predicate.proofs.LeadingLemmas.{no_trap, all_parts}
use Rattle.cpa_predicate.proofs.leading.+trapping.Goals as goal
use Rattle.cpa_predicate.proofs.leading.+trapping.Goals.{parts_never_trap-then-never_traps-2}
use Rattle.cpa_predicate.proofs.leading.+trapping.Goals.{parts_never_trap-else-never_traps-2}

pub never_traps-returns-then-node_never_traps : goal.never_traps-returns-then-node_never_traps
never_traps-returns-then-node_never_traps t c = λ never.
    no_trap c.args.e.now (c.node_never_traps.ensures c.if-node_never_traps.true)
    (c.parts_never_trap.ensures never)

pub parts_never_trap-returns-in-One : goal.parts_never_trap-returns-in-One
parts_never_trap-returns-in-One t c = λ never.
    all_parts c.args.e.now _ (ap part_list (sym c.in-One.is) ∙ c.parts_of.ensures)
    (c.never_traps.ensures never, tt)

pub parts_never_trap-returns-then-never_traps : goal.parts_never_trap-returns-then-never_traps
parts_never_trap-returns-then-never_traps t c = λ never.
    all_parts c.args.e.now _ (ap part_list (sym c.in-Two.is) ∙ c.parts_of.ensures) (
      c.never_traps-in-Two.ensures c.if-never_traps.true,
      (c.never_traps-then-never_traps.ensures never, tt),
    )

pub parts_never_trap-returns-then-never_traps-3 : goal.parts_never_trap-returns-then-never_traps-3
parts_never_trap-returns-then-never_traps-3 t c = λ never.
    all_parts c.args.e.now _ (ap part_list (sym c.in-Three.is) ∙ c.parts_of.ensures)
    (elim c.if-never_traps-2.branch [
      | parts_never_trap-then-never_traps-2 w ↦ (
        c.never_traps-in-Three.ensures w.if-never_traps-2.true,
        (
          w.never_traps-then-never_traps-2.ensures (sym w.value-is ∙ c.if-never_traps-3.true),
          (c.never_traps-then-never_traps-3.ensures never, tt),
        ),
      )
      | parts_never_trap-else-never_traps-2 w ↦
          absurd (cc (w.value-is, c.if-never_traps-3.true))
    ])
