use Rattle.std.proofs.Common.{◌-◌, drop, subst, arith}
use Rattle.cpa_expr_text.specs.Due.{AreDue, HasNext}
use Rattle.cpa_expr_text.specs.Reading.{texts}
use Rattle.cpa_expr_text.proofs.Counting.{same_turn, within_turn, none_turn, end_turn}
use Rattle.cpa_expr_text.proofs.Counting.{all_behind}
use Rattle.cpa_expr_text.proofs.due.are_of_one.Goals as goal

pub returns-in_default : goal.returns-in_default
returns-in_default c =
    let l = c.loop-due in
    none_turn (AreDue 1 (texts c.args.words.now)) l.due (l.due - 1) l.place c.args.words.now
    c.in_ok-head.field-0 (omega (arith, c.loop-due-test.true))
    (subst (λ ws. HasNext (texts ws) c.in_ok-head.field-0) (all_behind c.args.words.now l.place)
    c.in_ok-head.ensures)
    c.in_default.not-Some l.invariant.same

pub loop-due-preserved : goal.loop-due-preserved
loop-due-preserved c =
    let l = c.loop-due in
    let next =
    subst (HasNext (texts (drop l.place c.args.words.now))) c.in-Some.is
    (subst (λ ws. HasNext (texts ws) c.in_ok-head.field-0) (all_behind c.args.words.now l.place)
    c.in_ok-head.ensures) in
    record {
      same =
          same_turn (AreDue 1 (texts c.args.words.now)) l.due (l.due - 1) l.place c.args.words.now
          c.in-Some.head c.parts_of.result c.own_words-place.result
          (omega (arith, c.loop-due-test.true)) c.parts_of.ensures c.own_words-place.ensures next
          l.invariant.same;
      within =
          within_turn l.due (l.due - 1) l.place c.args.words.now c.in-Some.head c.parts_of.result
          c.own_words-place.result (omega (arith, c.loop-due-test.true)) c.parts_of.ensures
          c.own_words-place.ensures next l.invariant.within;
    }

pub returns : goal.returns
returns c =
    let l = c.loop-due in
    end_turn (AreDue 1 (texts c.args.words.now)) l.due l.place c.args.words.now
    (omega (arith, c.loop-due-test.false)) l.invariant.within l.invariant.same
