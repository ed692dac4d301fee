-- One cell less is left, and none of the list.
use Rattle.std.proofs.Common.{◌∙◌, refl, arith}
use Rattle.cpa_interval.specs.Merging.{merged_along}
use Rattle.cpa_interval.proofs.MergedLemmas.{merge_turn, right_end}
use Rattle.cpa_interval.proofs.merging.merge_each.Goals as goal

pub loop-near-init : goal.loop-near-init
loop-near-init c = (refl, λ left right. right)

pub loop-near-preserved : goal.loop-near-preserved
loop-near-preserved c =
    let l = c.loop-near in (
      c.merge_at.ensures.cells ∙ l.invariant.0,
      λ left right.
          merge_turn left c.args.rule c.args.numbers.now c.args.all.now.cells l.all.cells
          c.args.olds.now.each c.args.news.now.each l.all.each c.merge_at.new.all.each
          c.args.known.now l.near _ l.invariant.0 c.loop-near-test.true
          c.in_ok-merge_at.ensures.each (l.invariant.1 left right),
    )

pub returns-clause-each : goal.returns-clause-each
returns-clause-each c = λ left right.
    let l = c.loop-near in
    right_end left
    (merged_along c.args.rule c.args.numbers.now c.args.all.now.cells c.args.olds.now.each
    c.args.news.now.each)
    l.all.each c.args.known.now l.near (omega arith) (l.invariant.1 left right)
