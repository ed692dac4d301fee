use Rattle.std.proofs.Common.{List, ◌++◌, Option, ap, ◌∙◌, subst}
use Rattle.std.specs.List.{insert}
use Rattle.cpa_model.specs.declared.facts.Elem.{Elem}
use Rattle.cpa_iface.specs.Laws.{StrengthenLaws}
use Rattle.cpa_composite.proofs.Placed.{removed, own_is, inserted}
use Rattle.cpa_composite.proofs.choosing.strengthen_at.Goals as goal

pub returns-in-Some-clause-laws : goal.returns-in-Some-clause-laws
returns-in-Some-clause-laws g c = λ k is before after own row_is size.
    let cfa = c.args.cfa.now in
    let p = c.args.precision.now in
    let row = c.args.row.now.items in
    let place = c.args.place in
    let elem = c.in-Some.elem in
    let rest = c.remove-own.ensures.items ∙ removed before own after row place row_is size in
    let mine = own_is before own after row place c.remove-own.result row_is size
    c.remove-own.ensures.value in
    let laws = subst (λ (o : Option Elem). StrengthenLaws k.meaning cfa own (before ++ after) p o)
    c.in-Some.is
    (subst (λ (l : List Elem). StrengthenLaws k.meaning cfa own l p c.in_ok-left.left)
    (c.as_slice-others.ensures.value ∙ rest)
    (subst (λ (e : Elem). StrengthenLaws k.meaning cfa e c.as_slice-others.result.now p
    c.in_ok-left.left) mine (c.in_ok-left.ensures.laws k is))) in (
      elem,
      laws,
      c.in_ok-insert-in-Some.ensures.items
          ∙ (ap (λ (l : List Elem). insert l place elem) rest ∙ inserted before elem after place
          size),
    )

pub returns-clause-laws : goal.returns-clause-laws
returns-clause-laws g c = λ k is before after own row_is size.
    let cfa = c.args.cfa.now in
    let p = c.args.precision.now in
    let row = c.args.row.now.items in
    let place = c.args.place in
    let rest = c.remove-own.ensures.items ∙ removed before own after row place row_is size in
    let mine = own_is before own after row place c.remove-own.result row_is size
    c.remove-own.ensures.value in
    subst (λ (o : Option Elem). StrengthenLaws k.meaning cfa own (before ++ after) p o) c.in-None.is
    (subst (λ (l : List Elem). StrengthenLaws k.meaning cfa own l p c.in_ok-left.left)
    (c.as_slice-others.ensures.value ∙ rest)
    (subst (λ (e : Elem). StrengthenLaws k.meaning cfa e c.as_slice-others.result.now p
    c.in_ok-left.left) mine (c.in_ok-left.ensures.laws k is)))
