use Rattle.std.proofs.Common.{◌≡◌, ◌==◌, ℕ, Bool, true, false, List, Some, None, refl, sym, ap, ◌∙◌}
use Rattle.std.specs.Prelude.{is_some, if◌then◌else◌}
use Rattle.cpa_model.specs.Stacks.{popped}
use Rattle.cpa_model.specs.lemmas.Stacks.{popped-push}
use Rattle.cpa_recheck_obligations.proofs.stepping.is_on_top.Goals as goal

some_where : (b : Bool) (rest : List ℕ) → is_some (if b then Some rest else None) ≡ b
some_where true rest = refl
some_where false rest = refl

pub returns-in-Some : goal.returns-in-Some
returns-in-Some c =
    let rest = c.in-Some.field-0-1.now in
    let top = c.in-Some.top.now in
    let site = c.args.site in
    sym (ap (λ sites. is_some (popped site sites)) c.in-Some.ensures.cases.0
    ∙ ap is_some (popped-push rest top site) ∙ some_where (top == site) rest)
