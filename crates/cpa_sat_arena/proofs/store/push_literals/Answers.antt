use Rattle.std.proofs.Common.{◌∙◌, take}
use Rattle.cpa_sat_arena.proofs.Stores.{on_err}
use Rattle.cpa_sat_arena.proofs.store.push_literals.Goals as goal

pub returns-in_err-push-clause-err : goal.returns-in_err-push-clause-err
returns-in_err-push-clause-err c =
    on_err c.from_residual.result _ (
      take c.loop-literal.literal-index c.literals-literal-items.result.now,
      c.in_err-push.ensures.items ∙ c.loop-literal.invariant,
    )
