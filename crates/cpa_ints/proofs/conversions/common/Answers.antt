-- The type that `common_type` names is the one of the standard's rules.
use Rattle.std.proofs.Common.{◌≡◌, ◌∙◌, sym, subst, ap}
use Rattle.cpa_ints.specs.Conversions.{IsUsualConversionOf, promoted, wider, common_type}
use Rattle.cpa_ints.proofs.Promotion.{common_standard}
use Rattle.cpa_ints.proofs.conversions.common.Goals as goal

pub returns-clause-standard : goal.returns-clause-standard
returns-clause-standard c =
    let left = c.args.left in
    let right = c.args.right in
    let is : c.widest.result ≡ common_type left right =
    c.widest.ensures ∙ ap (λ p. wider p c.promote-2.result) c.promote.ensures.value
    ∙ ap (wider (promoted left)) c.promote-2.ensures.value in
    subst (IsUsualConversionOf left right) (sym is) (common_standard left right)
