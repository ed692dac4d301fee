use Rattle.std.proofs.Common.{rules, ◌∙◌, List, ap, map}
use Rattle.cpa_model.specs.declared.program.Cell.{Cell}
use Rattle.cpa_recheck_obligations.specs.Forms.{entry_at}
use Rattle.cpa_recheck_bounds.specs.Cutting.{stepped}
use Rattle.cpa_recheck_bounds.proofs.Followed.{found, none_known, refuted}
use Rattle.cpa_recheck_bounds.proofs.behind.are_found_behind.Goals as goal

pub returns-then-is_barred : goal.returns-then-is_barred
returns-then-is_barred c = λ is old new values holds steps fail.
    c.is_barred.ensures c.if-is_barred.true c.args.cfa.now.cells old new holds steps

pub returns-then-not-is_known : goal.returns-then-not-is_known
returns-then-not-is_known c = λ is.
    let cfa = c.args.cfa.now in
    let elem = c.args.elem.now in
    let act = c.args.act.now in
    let all = c.args.all.now.each in
    let others = map (entry_at c.args.entries.now) c.args.numbers.now in
    none_known c.wrap_keeps_the_range.ensures.stays cfa elem act all c.know.new.all.each others
    c.in_ok-is_known.is_known c.requires.act c.requires.shaped c.requires.ranges
    c.in_ok-is_known.ensures.each
    (search rules)

pub returns-then-is_refuted : goal.returns-then-is_refuted
returns-then-is_refuted c = λ is.
    let cfa = c.args.cfa.now in
    let elem = c.args.elem.now in
    let act = c.args.act.now in
    let all = c.args.all.now.each in
    let others = map (entry_at c.args.entries.now) c.args.numbers.now in
    refuted c.wrap_keeps_the_range.ensures.stays cfa elem act all c.know.new.all.each others
    c.in_ok-lows.lows.values c.in_ok-is_known.is_known c.is_refuted.result c.requires.act
    c.requires.shaped
    c.requires.ranges
    c.in_ok-is_known.ensures.each
    c.is_refuted.ensures c.in_ok-lows.ensures c.if-is_refuted.true

pub returns-then-is_done : goal.returns-then-is_done
returns-then-is_done c = λ is.
    let cfa = c.args.cfa.now in
    let elem = c.args.elem.now in
    let act = c.args.act.now in
    let all = c.args.all.now.each in
    let others = map (entry_at c.args.entries.now) c.args.numbers.now in
    found c.bounds_follow_acts.ensures c.wrap_keeps_the_range.ensures.stays cfa elem act all
    c.know.new.all.each c.step.new.all.each c.in_ok-left.left others c.written_by-written.result
    c.in_ok-lows.lows.values
    c.in_ok-is_known.is_known c.in_ok-is_done.is_done c.requires.act c.requires.shaped
    c.requires.ranges
    c.in_ok-is_known.ensures.each
    c.written_by-written.ensures c.in_ok-lows.ensures
    (c.in_ok-is_done.ensures.each
    ∙ ap (λ (cells : List Cell). stepped cells act c.written_by-written.result
    c.know.new.all.each) (c.know.ensures.cells ∙ c.requires.cells))
    (λ done. (c.in_ok-left.ensures, c.are_said.ensures is c.in_ok-after.ensures))

pub returns : goal.returns
returns c = λ is.
    let cfa = c.args.cfa.now in
    let elem = c.args.elem.now in
    let act = c.args.act.now in
    let all = c.args.all.now.each in
    let others = map (entry_at c.args.entries.now) c.args.numbers.now in
    found c.bounds_follow_acts.ensures c.wrap_keeps_the_range.ensures.stays cfa elem act all
    c.know.new.all.each c.step.new.all.each elem others c.written_by-written.result
    c.in_ok-lows.lows.values
    c.in_ok-is_known.is_known c.in_ok-is_done.is_done c.requires.act c.requires.shaped
    c.requires.ranges
    c.in_ok-is_known.ensures.each
    c.written_by-written.ensures c.in_ok-lows.ensures
    (c.in_ok-is_done.ensures.each
    ∙ ap (λ (cells : List Cell). stepped cells act c.written_by-written.result
    c.know.new.all.each) (c.know.ensures.cells ∙ c.requires.cells))
    (λ done. absurd (cc (done, c.if-is_done.false)))
