use Rattle.std.proofs.Common.{◌≡◌, true, length, ltb-true, refl, sym, ◌∙◌}
use Rattle.std.specs.Prelude.{is_some}
use Rattle.std.proofs.lemmas.Option.{slice_get_read}
use Rattle.cpa_reached.specs.Marks.{past_all}
use Rattle.cpa_reached.proofs.Marking.{counted_some, marks_row}
use Rattle.cpa_reached.proofs.marks.watch.Goals as goal

pub returns-then-ascend : goal.returns-then-ascend
returns-then-ascend c =
    let m = c.mark_of-mark.result in
    let es = c.args.elems.now in
    let e = c.in-Some.elem.now in
    let found = c.in-Some.ensures.lookup in
    let up : is_some (past_all 0 e.facts) ≡ true = sym c.ascend.ensures ∙ c.if-ascend.true in
    marks_row m es e (counted_some m.count c.if-mark-eq0.false) c.mark_of-mark.ensures
    (slice_get_read es (length es) m.place e refl (ltb-true m.place (length es) (sym found.0))
    found.1)
    up
