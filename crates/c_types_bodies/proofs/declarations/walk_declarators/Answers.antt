use Rattle.std.proofs.Common.{arith}
use Rattle.c_types_rules.specs.Statements.{declarator_walk}
use Rattle.c_types_bodies.specs.Views.{state_of, around_of}
use Rattle.c_types_bodies.proofs.Scopes.{extends_then}
use Rattle.c_types_bodies.proofs.Lists.{item_state, items_end, declarators_step, around_walked}
use Rattle.c_types_bodies.proofs.declarations.walk_declarators.Goals as goal

pub loop-declarator-preserved : goal.loop-declarator-preserved
loop-declarator-preserved c =
    let frame = c.args.frame.now in
    let text = frame.survey.now in
    let kind = c.args.qualified.kind in
    let is_const = c.args.qualified.is_const in
    let items = c.args.declarators.now in
    let held = c.loop-declarator.walker in
    let walker = c.walk_declarator.new.walker in
    let state = state_of frame c.args.nest held c.loop-declarator.jumps in
    let next = state_of frame c.args.nest walker c.walk_declarator.new.jumps in
    record {
      tied = c.in_ok-one.ensures.tied;
      extends = extends_then c.args.walker.now.names held.names walker.names
          c.loop-declarator.invariant.extends c.in_ok-one.ensures.extends;
      typed = declarators_step text kind is_const items c.loop-declarator.declarator-index
          c.declarator-item.result c.loop-declarator.typed.items c.push.new.self.items
          c.in_ok-one.one (around_of frame c.args.nest held) (around_of frame c.args.nest walker) _
          (omega arith) c.declarator-item.is c.in_ok-push.ensures.items c.in_ok-one.ensures.typed
          (around_walked text frame.caller (declarator_walk text kind is_const
          c.declarator-item.result)
          state next c.in_ok-one.ensures.state)
          c.loop-declarator.invariant.typed;
      state = item_state text frame.caller (declarator_walk text kind is_const) items
          c.loop-declarator.declarator-index c.declarator-item.result state next _ (omega arith)
          c.declarator-item.is c.in_ok-one.ensures.state c.loop-declarator.invariant.state;
    }

pub returns-clause-state : goal.returns-clause-state
returns-clause-state c =
    let frame = c.args.frame.now in
    let text = frame.survey.now in
    let walk = declarator_walk text c.args.qualified.kind c.args.qualified.is_const in
    items_end text frame.caller walk c.args.declarators.now
    c.loop-declarator.declarator-index
    (state_of frame c.args.nest c.loop-declarator.walker c.loop-declarator.jumps) _ (omega arith)
    c.loop-declarator.invariant.state
