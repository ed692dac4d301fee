-- What is found of the step is known of those like it.
use Rattle.std.proofs.Common.{List, ap, ◌∙◌}
use Rattle.cpa_model.specs.declared.program.Cell.{Cell}
use Rattle.cpa_model.specs.Expressions.{types_of}
use Rattle.cpa_predicate.proofs.KnownLemmas.{known_of}
use Rattle.cpa_predicate.proofs.known.known_step.Goals as goal

pub invariant_of-result : goal.invariant_of-result
invariant_of-result c = record {
  is_right =
      known_of c.args.cfa.now c.args.elem.now c.args.edge.now c.args.preds.now
      c.args.outcome.now c.requires c.in_ok-types.types c.in_ok-act.act c.in_ok-truths.truths
      c.in_ok-preds.preds c.in_ok-outcome.outcome
      (c.in_ok-types.ensures ∙ ap (λ (cells : List Cell). types_of cells) c.as_slice.ensures)
      c.in_ok-act.ensures
      c.in_ok-truths.ensures c.in_ok-preds.ensures c.in_ok-outcome.ensures;
}
