use Rattle.std.proofs.Common.{◌∙◌, ap, length}
use Rattle.cpa_blast_arithmetic.specs.Shifts.{stage}
use Rattle.cpa_blast_arithmetic.proofs.Pieces.{stages_next, stages_end}
use Rattle.cpa_blast_arithmetic.proofs.shifts.stages.Goals as goal

pub loop-place-preserved : goal.loop-place-preserved
loop-place-preserved c =
    let l = c.loop-place in
    let word = l.word in
    record {
      so_far =
          stages_next c.args.direction c.args.filling l.net c.stage.new.net l.place
          c.index-amount-place.result word c.in_ok-word.word c.args.amount.now _
          c.loop-place-test.true c.index-amount-place.is
          (c.in_ok-word.ensures.built
          ∙ ap (stage c.args.direction c.args.filling l.net l.place c.index-amount-place.result)
          c.as_slice.ensures)
          l.invariant.so_far;
      long = c.in_ok-word.ensures.long ∙ ap length c.as_slice.ensures ∙ l.invariant.long;
    }

pub returns-clause-built : goal.returns-clause-built
returns-clause-built c =
    let l = c.loop-place in
    stages_end c.args.direction c.args.filling l.net l.place l.word c.args.amount.now _
    c.loop-place-test.false l.invariant.so_far
