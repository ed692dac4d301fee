use Rattle.std.proofs.Common.{◌+◌, refl, inl}
use Rattle.cpa_composite.specs.Composites.{components}
use Rattle.cpa_engine_turn.proofs.Fellows.{merged_under, replaced_under}
use Rattle.cpa_engine_turn.proofs.Looking.{stays_replaced, stays_same}
use Rattle.cpa_engine_turn.proofs.Settled.{old_shaped, merged_row, merged_compares, left_compares}
use Rattle.cpa_engine_turn.proofs.settling.merge_into.Goals as goal

pub merge-requires-clause-old : goal.merge-requires-clause-old
merge-requires-clause-old g c =
    old_shaped c.args.cfa.now (components c.args.composite.now) c.args.reached.now.live
    c.entry.result.now c.as_slice-old.result.now c.requires.entries c.entry.ensures.is_in
    c.as_slice-old.ensures

pub returns-in_ok-note_replaced-in-Some-clause-compares :
    goal.returns-in_ok-note_replaced-in-Some-clause-compares
returns-in_ok-note_replaced-in-Some-clause-compares g c =
    let n = c.args.number in
    merged_compares c.args.cfa.now (components c.args.composite.now) c.args.reached.now
    c.replace.new.self c.args.work.now c.note_replaced.new.self c.entry.result.now
    c.args.successor.now c.as_slice-old.result.now c.args.precisions.now c.in_ok-merged.field-0
    c.in-Some.merged c.in_ok-next-in-Some.next n n c.entry.ensures.is_in c.entry.ensures.number
    refl c.as_slice-old.ensures c.in-Some.is
    c.in_ok-merged.ensures.some c.in_ok-next-in-Some.ensures.number
    c.in_ok-next-in-Some.ensures.ok c.in_ok-note_replaced-in-Some.ensures

pub returns-in_ok-note_replaced-in-Some-clause-moves :
    goal.returns-in_ok-note_replaced-in-Some-clause-moves
returns-in_ok-note_replaced-in-Some-clause-moves g c = λ key i here.
    let cfa = c.args.cfa.now in
    let cs = components c.args.composite.now in
    let r = c.args.reached.now in
    let k = c.args.number in
    let x = c.entry.result.now in
    let es = c.in-Some.merged.items in
    let up = c.entry.ensures.numbered.ascend in
    let row = merged_row cfa cs x c.args.successor.now c.as_slice-old.result.now
    c.args.precisions.now c.in_ok-merged.field-0 c.in-Some.merged c.as_slice-old.ensures
    c.in-Some.is c.in_ok-merged.ensures.some in (
      i,
      replaced_under r c.replace.new.self key i k x es up c.entry.ensures.is_in
          c.entry.ensures.number here
          (merged_under cfa cs r key i k x c.args.successor.now c.args.precisions.now es
          c.requires.places c.requires.entries c.requires.successor.size
          c.requires.precisions.size up c.entry.ensures.is_in c.entry.ensures.number here row)
          c.in_ok-next-in-Some.ensures.ok,
    )

pub returns-in_ok-note_replaced-in-Some-clause-stays :
    goal.returns-in_ok-note_replaced-in-Some-clause-stays
returns-in_ok-note_replaced-in-Some-clause-stays g c =
    stays_replaced c.args.reached.now c.replace.new.self c.entry.result.now c.args.number
    c.in-Some.merged.items c.entry.ensures.numbered.ascend c.entry.ensures.is_in
    c.entry.ensures.number c.in_ok-next-in-Some.ensures.ok

pub returns-in_ok-note_replaced-in-Some-clause-same :
    goal.returns-in_ok-note_replaced-in-Some-clause-same
returns-in_ok-note_replaced-in-Some-clause-same g c = λ is. absurd (cc)

pub returns-in-None-clause-compares : goal.returns-in-None-clause-compares
returns-in-None-clause-compares g c =
    left_compares c.args.cfa.now (components c.args.composite.now) c.args.reached.now
    c.args.work.now c.entry.result.now c.args.successor.now c.as_slice-old.result.now
    c.args.precisions.now c.in_ok-merged.field-0 c.args.number c.entry.ensures.is_in
    c.as_slice-old.ensures c.in-None.is c.in_ok-merged.ensures.none c.in_ok-merged.ensures.stays
    c.entry.ensures.number

pub returns-in-None-clause-moves : goal.returns-in-None-clause-moves
returns-in-None-clause-moves g c = λ key i here. (i + 1, record { step = inl (refl, refl) })

pub returns-in-None-clause-stays : goal.returns-in-None-clause-stays
returns-in-None-clause-stays g c = stays_same c.args.reached.now

pub returns-in-None-clause-same : goal.returns-in-None-clause-same
returns-in-None-clause-same g c = λ _. refl
