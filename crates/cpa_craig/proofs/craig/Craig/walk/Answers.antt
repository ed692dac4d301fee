-- A walk from the initial element.
use Rattle.std.proofs.Common.{sym, subst}
use Rattle.cpa_iface.specs.Meanings.{AreShaped}
use Rattle.cpa_craig.proofs.WalkClauses.{first_one, walk-known, walk-exact, walk-progress}
use Rattle.cpa_craig.proofs.WalkClauses.{walk-spends}
use Rattle.cpa_craig.proofs.craig.Craig.walk.Goals as goal

pub walk_from-requires-clause-first : goal.walk_from-requires-clause-first
walk_from-requires-clause-first c =
    subst (AreShaped c.args.cfa.now)
    (sym (first_one c.new-first.result.items c.push.new.self.items c.in_ok-initial.field-0
    c.new-first.ensures.items c.in_ok-initial.ensures.given c.in_ok-push.ensures.items))
    (tt, tt)

pub returns-clause-known : goal.returns-clause-known
returns-clause-known c =
    walk-known c.args.self.now c.initial.new.self c.walk_from.new.craig c.initial.ensures.budgets
    c.args.cfa.now c.args.precision.now.preds c.as_slice.result.now c.args.path.now.edges
    c.as_slice.ensures c.push.new.self.items
    (first_one c.new-first.result.items c.push.new.self.items c.in_ok-initial.field-0
    c.new-first.ensures.items c.in_ok-initial.ensures.given c.in_ok-push.ensures.items) _
    c.walk_from.ensures.known

pub returns-clause-exact : goal.returns-clause-exact
returns-clause-exact c =
    walk-exact c.args.self.now c.initial.new.self c.walk_from.new.craig c.initial.ensures.budgets
    c.args.cfa.now c.args.precision.now.preds c.as_slice.result.now c.args.path.now.edges
    c.as_slice.ensures c.push.new.self.items
    (first_one c.new-first.result.items c.push.new.self.items c.in_ok-initial.field-0
    c.new-first.ensures.items c.in_ok-initial.ensures.given c.in_ok-push.ensures.items) _
    c.walk_from.ensures.known

pub returns-clause-progress : goal.returns-clause-progress
returns-clause-progress c =
    walk-progress c.args.self.now c.initial.new.self c.walk_from.new.craig c.initial.ensures.budgets
    c.args.cfa.now c.args.precision.now.preds c.as_slice.result.now c.args.path.now.edges
    c.as_slice.ensures c.push.new.self.items
    (first_one c.new-first.result.items c.push.new.self.items c.in_ok-initial.field-0
    c.new-first.ensures.items c.in_ok-initial.ensures.given c.in_ok-push.ensures.items) _
    (record {
      automaton = c.requires.automaton;
      sound = λ n g at. c.edges_are_sound.ensures c.args.cfa.now n g c.requires.automaton at;
      keep = c.steps_keep_states.ensures;
    })
    c.walk_from.ensures.known

pub returns-clause-spends : goal.returns-clause-spends
returns-clause-spends c =
    walk-spends c.args.self.now c.initial.new.self c.walk_from.new.craig c.initial.ensures.budgets
    c.args.cfa.now c.args.precision.now.preds c.as_slice.result.now c.args.path.now.edges
    c.as_slice.ensures c.push.new.self.items
    (first_one c.new-first.result.items c.push.new.self.items c.in_ok-initial.field-0
    c.new-first.ensures.items c.in_ok-initial.ensures.given c.in_ok-push.ensures.items)
    c.walk_from.result
    c.walk_from.ensures.spends
