-- One fact more, or one that is left out.
use Rattle.std.proofs.Common.{List, ap, ◌∙◌, subst}
use Rattle.std.specs.List.{AllByRecursion, filter}
use Rattle.std.proofs.lemmas.Result.{IfOk-weaker}
use Rattle.cpa_facts.specs.declared.fact.Fact.{Fact}
use Rattle.cpa_model.specs.Facts.{IsFact}
use Rattle.cpa_form_rules.specs.Runs.{StoreFactHolds}
use Rattle.cpa_predicate.specs.Steps.{is_truth}
use Rattle.cpa_predicate.proofs.NearLemmas.{one_kept, one_left, truth_first, truths_left}
use Rattle.cpa_predicate.proofs.NearLemmas.{made_shaped, made_weaker}
use Rattle.cpa_predicate.proofs.nearness.marked_truths.Goals as goal

pub loop-fact-preserved-in_ok-push : goal.loop-fact-preserved-in_ok-push
loop-fact-preserved-in_ok-push c =
    let l = c.loop-fact in
    let x = c.in-Some.fact.now in (
      λ cells points all.
          one_kept (IsFact cells points) l.facts _ _ x c.in-Some.ensures.steps
          (l.invariant.0 cells points) _ _ c.in_ok-copy_fact.ensures c.in_ok-push.ensures.ok all,
      λ values all.
          one_kept (StoreFactHolds values) l.facts _
          (filter is_truth c.next.new.self) x
          (ap (λ (fs : List Fact). filter is_truth fs) c.in-Some.ensures.steps
          ∙ truth_first x c.next.new.self (c.is_near_truth.ensures c.if-is_near_truth.true))
          (l.invariant.1 values) _ _ c.in_ok-copy_fact.ensures c.in_ok-push.ensures.ok all,
    )

pub loop-fact-preserved : goal.loop-fact-preserved
loop-fact-preserved c =
    let l = c.loop-fact in
    let x = c.in-Some.fact.now in (
      λ cells points all.
          one_left (IsFact cells points) l.facts _ _ x c.in-Some.ensures.steps
          (l.invariant.0 cells points) all,
      λ values all. (
        (l.invariant.1 values all).0,
        truths_left (StoreFactHolds values) x c.next.new.self
            (subst (λ (fs : List Fact). AllByRecursion (StoreFactHolds values) (filter is_truth fs))
            c.in-Some.ensures.steps (l.invariant.1 values all).1),
      ),
    )

pub returns-clause-shaped : goal.returns-clause-shaped
returns-clause-shaped c = IfOk-weaker _ _ _ (λ near is.
    made_shaped c.args.elem.now c.loop-fact.facts
    (λ cells points all. (c.loop-fact.invariant.0 cells points all).0) near is)
    c.new.ensures

pub returns-clause-weaker : goal.returns-clause-weaker
returns-clause-weaker c = IfOk-weaker _ _ _ (λ near is.
    made_weaker c.args.elem.now c.loop-fact.facts
    (λ values all. (c.loop-fact.invariant.1 values all).0) near is)
    c.new.ensures
