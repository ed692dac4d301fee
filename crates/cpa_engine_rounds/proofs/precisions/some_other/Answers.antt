use Rattle.std.proofs.Common.{◌∙◌, sym, refl}
use Rattle.cpa_engine_rounds.proofs.Finding.{item_of, all_have, one_more_has}
use Rattle.cpa_engine_rounds.proofs.precisions.some_other.Goals as goal

pub returns-then-not-same_precisions : goal.returns-then-not-same_precisions
returns-then-not-same_precisions c = (
  λ wrong. absurd (cc),
  λ all.
      absurd (let same = c.same_precisions.ensures.1
      (c.as_slice.ensures ∙ all c.entry-item.result
      (item_of c.args.entries.now c.loop-entry.entry-index c.entry-item.result
      c.loop-entry-test.true c.entry-item.is)) in
      let wrong = sym c.if-not-same_precisions.true ∙ same in cc),
)

pub loop-entry-preserved : goal.loop-entry-preserved
loop-entry-preserved c =
    one_more_has c.args.precisions.now c.args.entries.now c.loop-entry.entry-index
    c.entry-item.result c.loop-entry-test.true c.entry-item.is c.loop-entry.invariant
    (sym c.as_slice.ensures ∙ c.same_precisions.ensures.0 c.if-not-same_precisions.false)

pub returns : goal.returns
returns c = (
  λ _. all_have c.args.precisions.now c.args.entries.now c.loop-entry.entry-index
      c.loop-entry-test.false c.loop-entry.invariant,
  λ _. refl,
)
