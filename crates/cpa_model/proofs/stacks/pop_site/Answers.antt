use Rattle.std.proofs.Common.{◌∙◌, Some, ap, length, sym}
use Rattle.cpa_model.specs.Stacks.{popped}
use Rattle.cpa_model.specs.lemmas.Stacks.{popped-other, popped-top, without_top}
use Rattle.cpa_model.proofs.stacks.pop_site.Goals as goal

pub returns-then-top-site-clause-after : goal.returns-then-top-site-clause-after
returns-then-top-site-clause-after c =
    let rest = c.in-Some.field-0-1.now in
    let top = c.in-Some.top.now in
    let whole = sym c.deref.ensures.value ∙ c.in-Some.ensures.cases.0 in
    let left = c.pop.ensures.rest ∙ without_top rest top c.args.sites.now.items _ whole
    (sym c.deref.ensures.len ∙ ap length c.deref.ensures.value) in
    ap Some left ∙ sym (ap (popped c.args.site) whole
    ∙ popped-top rest top c.args.site c.if-top-site.true)

pub returns-else-top-site-clause-after : goal.returns-else-top-site-clause-after
returns-else-top-site-clause-after c =
    let rest = c.in-Some.field-0-1.now in
    let top = c.in-Some.top.now in
    let whole = sym c.deref.ensures.value ∙ c.in-Some.ensures.cases.0 in
    sym (ap (popped c.args.site) whole ∙ popped-other rest top c.args.site c.if-top-site.false)
