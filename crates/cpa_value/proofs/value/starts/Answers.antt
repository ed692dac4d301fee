-- One start more.
use Rattle.std.proofs.Common.{ap, ◌∙◌, ◌++◌, ◌∷◌, []}
use Rattle.cpa_value.proofs.CellLemmas.{starts_more}
use Rattle.cpa_value.proofs.value.starts.Goals as goal

pub loop-place-preserved : goal.loop-place-preserved
loop-place-preserved c =
    starts_more c.args.cells.now c.loop-place.place c.cell_at.result.now c.loop-place.facts
    c.push.new.self c.loop-place-test.true
    c.cell_at.ensures c.loop-place.invariant
    (c.in_ok-push.ensures.ok ∙ ap (λ f. c.loop-place.facts ++ f ∷ []) c.start_of.ensures)
