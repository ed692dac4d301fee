-- What the answer at a cut makes of the expressions so far.
use Rattle.std.proofs.Common.{◌∙◌, ◌++◌, ◌∷◌, [], ap, subst}
use Rattle.cpa_expr.specs.declared.tree.Expr.{Expr}
use Rattle.cpa_interpolant_answers.specs.declared.answer.Answer.TheVariants as answer
use Rattle.cpa_interpolant_answers.specs.Answers.{IsLearnt, IsHeavy, IsLarge}
use Rattle.cpa_folds.specs.Along.{acts_along}
use Rattle.cpa_interpolant.specs.Walked.{IsNextAnswer}
use Rattle.cpa_interpolant.proofs.Walked.{step_on, one_more, stops, light_if_run}
use Rattle.cpa_interpolant.proofs.walking.step.Goals as goal

pub returns-in_ok-push-in-Next : goal.returns-in_ok-push-in-Next
returns-in_ok-push-in-Next c = λ learnt gates at.
    let cfa = c.args.cfa.now in
    let acts = acts_along cfa c.args.path.now in
    let exprs = c.args.exprs.items in
    let own = subst (IsNextAnswer cfa learnt gates acts exprs) c.in-Next.is at in
    let is = c.in_ok-push-in-Next.ensures.items
    ∙ ap (λ (e : Expr). exprs ++ e ∷ []) c.into_inner.ensures in (
      step_on cfa learnt gates acts exprs c.push.new.self.items c.in-Next.expr own is,
      one_more exprs c.push.new.self.items c.in-Next.expr is,
    )

pub returns-in_ok-store-in-Run : goal.returns-in_ok-store-in-Run
returns-in_ok-store-in-Run c = λ learnt gates at.
    let cfa = c.args.cfa.now in
    let acts = acts_along cfa c.args.path.now in
    let exprs = c.args.exprs.items in (
      light_if_run cfa learnt gates acts exprs
          (subst (IsNextAnswer cfa learnt gates acts exprs) c.in-Run.is at),
      c.in_ok-store-in-Run.ensures,
    )

pub returns-in-Learnt : goal.returns-in-Learnt
returns-in-Learnt c = λ learnt gates at.
    let cfa = c.args.cfa.now in
    let acts = acts_along cfa c.args.path.now in
    let exprs = c.args.exprs.items in
    let lines = c.in-Learnt.lines in
    let own = subst (IsNextAnswer cfa learnt gates acts exprs) c.in-Learnt.is at in
    stops cfa learnt gates acts exprs (answer.Learnt lines) c.in_ok-cut.cut
    (λ e a behind. IsLearnt cfa learnt gates e a behind lines.items) own c.in_ok-cut.ensures own.is

pub returns-in-Gates : goal.returns-in-Gates
returns-in-Gates c = λ learnt gates at.
    let cfa = c.args.cfa.now in
    let acts = acts_along cfa c.args.path.now in
    let exprs = c.args.exprs.items in
    let weight = c.in-Gates.weight in
    let own = subst (IsNextAnswer cfa learnt gates acts exprs) c.in-Gates.is at in
    stops cfa learnt gates acts exprs (answer.Gates weight) c.in_ok-cut.cut
    (λ e a behind. IsHeavy cfa gates e a behind weight) own c.in_ok-cut.ensures own.is

pub returns-in-Large : goal.returns-in-Large
returns-in-Large c = λ learnt gates at.
    let cfa = c.args.cfa.now in
    let acts = acts_along cfa c.args.path.now in
    let exprs = c.args.exprs.items in
    let lines = c.in-Large.lines in
    let own = subst (IsNextAnswer cfa learnt gates acts exprs) c.in-Large.is at in
    stops cfa learnt gates acts exprs (answer.Large lines) c.in_ok-cut.cut
    (λ e a behind. IsLarge cfa learnt gates e a behind lines.items) own c.in_ok-cut.ensures own.is
