-- The place lies behind each cell above, and not behind another.
use Rattle.std.proofs.Common.{◌≡◌, ◌<◌, ◌+◌, ◌-◌, ◌/◌, true, false, sym, ◌∙◌, arith, length}
use Rattle.std.specs.Prelude.{slice_get}
use Rattle.cpa_interval_bounds.specs.Tables.{is_above}
use Rattle.cpa_interval_bounds.specs.lemmas.TableLemmas.{behind_above, not_behind, place_within}
use Rattle.cpa_interval_bounds.proofs.table.place_of.Goals as goal

pub loop-low-init : goal.loop-low-init
loop-low-init c = record {
  from = omega arith;
  to = place_within c.args.cell c.args.known.now;
  within = omega arith;
}

pub loop-low-preserved-then-is_above : goal.loop-low-preserved-then-is_above
loop-low-preserved-then-is_above c =
    let l = c.loop-low in
    let middle = l.low + (l.high - l.low) / 2 in
    let above : is_above c.args.cell (slice_get c.args.known.now middle) ≡ true =
    sym c.is_above.ensures ∙ c.if-is_above.true in
    let behind = behind_above c.args.count c.args.cell middle c.args.known.now c.requires above in
    record {
      from = omega (arith, behind);
      to = l.invariant.to;
      within = l.invariant.within;
    }

pub loop-low-preserved : goal.loop-low-preserved
loop-low-preserved c =
    let l = c.loop-low in
    let known = c.args.known.now in
    let middle = l.low + (l.high - l.low) / 2 in
    let within = l.invariant.within in
    let inside : middle < length known = omega (arith, within, c.loop-low-test.true) in
    let none : is_above c.args.cell (slice_get known middle) ≡ false =
    sym c.is_above.ensures ∙ c.if-is_above.false in
    record {
      from = l.invariant.from;
      to = not_behind c.args.cell middle known inside none;
      within = omega (arith, inside);
    }
