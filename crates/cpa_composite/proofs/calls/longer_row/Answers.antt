use Rattle.std.proofs.Common.{◌≡◌, List, true, false, refl, sym, subst}
use Rattle.cpa_iface.specs.declared.precisions.Precision.{Precision}
use Rattle.cpa_composite.specs.Laws.{some_longer}
use Rattle.cpa_composite.proofs.calls.longer_row.Goals as goal

pub returns-then-some_longer-clause-some : goal.returns-then-some_longer-clause-some
returns-then-some_longer-clause-some c = (
  refl,
  subst (λ (l : List Precision). some_longer c.args.old.now l ≡ true) c.deref.ensures.value
      (sym c.if-some_longer.ensures),
)

pub returns-clause-none : goal.returns-clause-none
returns-clause-none c =
    subst (λ (l : List Precision). some_longer c.args.old.now l ≡ false) c.deref.ensures.value
    (sym c.if-some_longer.ensures)
