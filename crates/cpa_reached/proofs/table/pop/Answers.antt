use Rattle.std.proofs.Common.{subst, sym}
use Rattle.std.specs.List.{AllByRecursion}
use Rattle.std.specs.Option.{IfSome}
use Rattle.cpa_iface.specs.declared.merging.Order.{Order}
use Rattle.cpa_reached.specs.Entries.{ComesFirst}
use Rattle.cpa_reached.proofs.Queue.{front_first, front_left, back_waits, back_first, back_left}
use Rattle.cpa_reached.proofs.table.pop.Goals as goal

pub returns-in-First-clause-first : goal.returns-in-First-clause-first
returns-in-First-clause-first c =
    subst (λ (o : Order). IfSome c.pop_front.result
    (λ n. AllByRecursion (ComesFirst o n) c.args.waiting.now.items)) (sym c.in-First.is)
    (front_first c.pop_front.result _ _ c.pop_front.ensures.items c.requires)

pub returns-in-First-clause-left : goal.returns-in-First-clause-left
returns-in-First-clause-left c =
    front_left c.pop_front.result _ _ c.pop_front.ensures.items c.requires

pub returns-in-Last-clause-waits : goal.returns-in-Last-clause-waits
returns-in-Last-clause-waits c = back_waits c.pop_back.result _ _ c.pop_back.ensures.items

pub returns-in-Last-clause-first : goal.returns-in-Last-clause-first
returns-in-Last-clause-first c =
    subst (λ (o : Order). IfSome c.pop_back.result
    (λ n. AllByRecursion (ComesFirst o n) c.args.waiting.now.items)) (sym c.in-Last.is)
    (back_first c.pop_back.result _ _ c.pop_back.ensures.items c.requires)

pub returns-in-Last-clause-left : goal.returns-in-Last-clause-left
returns-in-Last-clause-left c = back_left c.pop_back.result _ _ c.pop_back.ensures.items c.requires
