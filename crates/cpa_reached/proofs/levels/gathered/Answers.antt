use Rattle.std.proofs.Common.{sym, ◌∙◌, eqb-true, arith}
use Rattle.cpa_reached.proofs.Lowering.{descends_none, descends_more, descends_end}
use Rattle.cpa_reached.proofs.Lowering.{descends_over, no_numbers}
use Rattle.cpa_reached.proofs.levels.gathered.Goals as goal

pub loop-deeper-init : goal.loop-deeper-init
loop-deeper-init c =
    rw (c.new-gone.ensures.items, c.in_ok-push.ensures.items, c.new-level.ensures.items)
    (descends_none c.args.entries.now c.args.links.now c.args.pivot c.requires.pivot)

pub children-requires-clause-live : goal.children-requires-clause-live
children-requires-clause-live c = rw c.deref.ensures.value c.loop-deeper.invariant.live

pub children-requires-clause-ascend : goal.children-requires-clause-ascend
children-requires-clause-ascend c = rw c.deref.ensures.value c.loop-deeper.invariant.ascend

pub returns-then-is_empty-clause-all : goal.returns-then-is_empty-clause-all
returns-then-is_empty-clause-all c = λ n below.
    let l = c.loop-deeper in
    let found = c.in_ok-found.found in
    descends_end c.args.entries.now c.args.links.now c.args.pivot l.gone.items l.level.items
    found.items l._deeper (rw c.deref.ensures.value at c.in_ok-found.ensures)
    (no_numbers found.items
    (omega (arith, eqb-true _ _ (sym c.is_empty.ensures ∙ c.if-is_empty.true), found.ok.0)))
    l.invariant n below

pub returns-then-is_empty-clause-only : goal.returns-then-is_empty-clause-only
returns-then-is_empty-clause-only c = λ n there. c.loop-deeper.invariant.only n there

pub loop-deeper-preserved : goal.loop-deeper-preserved
loop-deeper-preserved c =
    let l = c.loop-deeper in
    rw (c.in_ok-extend_from_slice.ensures.items, c.deref-in-loop-deeper.ensures.value)
    (descends_more c.args.entries.now c.args.links.now c.args.pivot l.gone.items l.level.items
    c.in_ok-found.found.items l._deeper c.requires.tree
    (rw c.deref.ensures.value at c.in_ok-found.ensures) l.invariant)

pub returns-clause-all : goal.returns-clause-all
returns-clause-all c = λ n below.
    let l = c.loop-deeper in
    descends_over c.args.entries.now c.args.links.now c.args.pivot l.gone.items l.level.items
    l._deeper c.args.next c.requires.tree c.requires.next
    (omega (arith, c.loop-deeper-test.false)) l.invariant n below

pub returns-clause-only : goal.returns-clause-only
returns-clause-only c = λ n there. c.loop-deeper.invariant.only n there
