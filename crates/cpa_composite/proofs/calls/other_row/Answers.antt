use Rattle.std.proofs.Common.{◌≡◌, List, true, false, refl, sym, subst}
use Rattle.cpa_model.specs.declared.facts.Elem.{Elem}
use Rattle.cpa_reached_key.specs.Rows.{same_row}
use Rattle.cpa_reached_key.specs.lemmas.RowLaws.{same_row-means}
use Rattle.cpa_composite.proofs.Compared.{row_differs}
use Rattle.cpa_composite.proofs.calls.other_row.Goals as goal

pub returns-then-same_row-clause-none : goal.returns-then-same_row-clause-none
returns-then-same_row-clause-none c =
    same_row-means c.args.merged.items c.args.old.now
    (subst (λ (l : List Elem). same_row l c.args.old.now ≡ true) c.deref.ensures.value
    (sym c.if-same_row.ensures))

pub returns-clause-some : goal.returns-clause-some
returns-clause-some c = (
  refl,
  row_differs c.args.merged.items c.args.old.now
      (subst (λ (l : List Elem). same_row l c.args.old.now ≡ false) c.deref.ensures.value
      (sym c.if-same_row.ensures)),
)
