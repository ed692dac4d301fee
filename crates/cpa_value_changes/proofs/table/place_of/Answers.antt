-- The fact in the middle tells on which side of it the place lies.
use Rattle.std.proofs.Common.{◌+◌, ◌-◌, ◌/◌, sym, ap, ◌∙◌, arith}
use Rattle.cpa_value_changes.specs.Tables.{is_before}
use Rattle.cpa_value_changes.proofs.TableLemmas.{place_behind, place_before, place_within}
use Rattle.cpa_value_changes.proofs.table.place_of.Goals as goal

pub loop-low-init : goal.loop-low-init
loop-low-init c =
    let long = c.len-high.ensures in
    let within = place_within c.args.cell c.args.facts.now in
    (omega (arith, long), λ n is. (omega arith, omega (arith, within, long)))

pub loop-low-preserved-then-is_before : goal.loop-low-preserved-then-is_before
loop-low-preserved-then-is_before c =
    let l = c.loop-low in (
      l.invariant.0,
      λ n is.
          let behind = place_behind n 0 c.args.cell (l.low + (l.high - l.low) / 2)
          c.args.facts.now is
          (ap (is_before c.args.cell) (sym c.get.ensures)
          ∙ (sym c.is_before.ensures ∙ c.if-is_before.true)) in
          (omega (arith, behind), (l.invariant.1 n is).1),
    )

pub loop-low-preserved : goal.loop-low-preserved
loop-low-preserved c =
    let l = c.loop-low in
    let room = l.invariant.0 in (
      omega (arith, room),
      λ n is.
          let before = place_before c.args.cell (l.low + (l.high - l.low) / 2) c.args.facts.now
          (ap (is_before c.args.cell) (sym c.get.ensures)
          ∙ (sym c.is_before.ensures ∙ c.if-is_before.false)) in
          ((l.invariant.1 n is).0, before),
    )
