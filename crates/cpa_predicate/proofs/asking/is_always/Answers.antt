-- The form that is asked is the step with the predicate's truth failing behind it.
use Rattle.std.proofs.Common.{◌≡◌, subst, Bool, false}
use Rattle.std.specs.Prelude.{IsTrue, IfOk}
use Rattle.cpa_form_rules.specs.Forms.{Form}
use Rattle.cpa_solver.specs.Decisions.{HasNoModel}
use Rattle.cpa_predicate.specs.Questions.{IsUndecided}
use Rattle.cpa_predicate.proofs.asking.is_always.Goals as goal

pub returns-clause-yes : goal.returns-clause-yes
returns-clause-yes c =
    subst (λ (f : Form). IfOk c.is_never.result
    (λ (always : Bool). IsTrue always → HasNoModel f.query)) c.in_ok-form.ensures
    c.is_never.ensures.yes

pub returns-clause-no : goal.returns-clause-no
returns-clause-no c =
    subst (λ (f : Form). IfOk c.is_never.result
    (λ (always : Bool). always ≡ false → HasNoModel f.query
    → IsUndecided c.args.asker.now c.is_never.new.asker f)) c.in_ok-form.ensures
    c.is_never.ensures.no
