use Rattle.std.proofs.Common.{◌∙◌, sym, subst, List, ℕ, Option, Vec, Global}
use Rattle.std.specs.Prelude.{IfSome}
use Rattle.cpa_report.specs.Heights.{IsLowered, IsLineOf}
use Rattle.cpa_report.proofs.Heights.{good_line, likes, found_low, neither}
use Rattle.cpa_report.proofs.lowering.told_high.Goals as goal

pub returns-in_default-2-clause-every : goal.returns-in_default-2-clause-every
returns-in_default-2-clause-every c r utf8 of none =
    let good =
    good_line c.in-Ok.line.now c.args.verdict r
    (subst (λ (l : List ℕ). IsLineOf l c.args.verdict r) (sym c.in-Ok.ensures.cases.0) of) in
    neither c.in_ok-low.field-0 c.in_default-2.not-Some
    (c.in_ok-low.ensures.every good.0 good.1)

pub returns-clause-like : goal.returns-clause-like
returns-clause-like c =
    let low =
    subst (λ (o : Option (Vec ℕ Global)). IfSome o (λ v. IsLowered c.in-Ok.line.now v.items))
    c.in-Some.is c.in_ok-low.ensures.low in
    likes _ c.args.line.now c.as_slice-bytes.result.now _ c.args.verdict
    (subst (λ (l : List ℕ). IsLowered l c.as_slice-bytes.result.now) c.in-Ok.ensures.cases.0
    (subst (λ (l : List ℕ). IsLowered c.in-Ok.line.now l) (sym c.as_slice-bytes.ensures.value) low))
    (c.as_slice.ensures.value ∙ c.in_ok-text.ensures) c.in_ok-report.ensures.found
    c.in_ok-report.ensures.low

pub returns-clause-every : goal.returns-clause-every
returns-clause-every c r utf8 of none =
    let low =
    subst (λ (o : Option (Vec ℕ Global)). IfSome o (λ v. IsLowered c.in-Ok.line.now v.items))
    c.in-Some.is c.in_ok-low.ensures.low in
    found_low _ c.args.line.now c.as_slice-bytes.result.now _ c.args.verdict r
    (subst (λ (l : List ℕ). IsLowered l c.as_slice-bytes.result.now) c.in-Ok.ensures.cases.0
    (subst (λ (l : List ℕ). IsLowered c.in-Ok.line.now l) (sym c.as_slice-bytes.ensures.value) low))
    (c.as_slice.ensures.value ∙ c.in_ok-text.ensures) c.in_ok-report.ensures.every of none
