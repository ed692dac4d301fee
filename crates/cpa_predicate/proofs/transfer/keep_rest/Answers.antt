-- The truths after the step are the outcome of a skip from there.
use Rattle.std.proofs.Common.{Bool, List, ap, sym, ◌∙◌, subst}
use Rattle.std.specs.Prelude.{Option}
use Rattle.cpa_predicate.specs.Transfer.{NoneOpen, IsOutcome, facts_of}
use Rattle.cpa_predicate.proofs.RestingLemmas.{rest_outcome}
use Rattle.cpa_predicate.proofs.transfer.keep_rest.Goals as goal

pub keep_outcome-requires : goal.keep_outcome-requires
keep_outcome-requires c =
    let cfa = c.args.cfa.now in
    let e = c.args._elem.now in
    let g = c.args.edge.now in
    let preds = c.args.preds.now in
    let after = c.in_ok-after.after in
    let skip = c.skip_along-skip.result in
    subst (λ (o : Option (List (Option Bool))). IsOutcome NoneOpen cfa after skip preds o)
    (sym c.in-Some.is)
    (rest_outcome cfa e after g skip c.requires.act c.skip_along-skip.ensures preds _
    (c.in_ok-after.ensures
    ∙ ap (λ (ts : List (Option Bool)). facts_of preds ts) c.as_slice.ensures)
    (subst (λ (o : Option (List (Option Bool))). IsOutcome NoneOpen cfa e g preds o) c.in-Some.is
    c.requires.outcome))
