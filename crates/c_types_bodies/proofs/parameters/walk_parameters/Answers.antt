use Rattle.std.proofs.Common.{arith}
use Rattle.c_types_rules.specs.Statements.{receiving}
use Rattle.c_types_bodies.specs.Views.{state_of}
use Rattle.c_types_bodies.proofs.Scopes.{extends_then}
use Rattle.c_types_bodies.proofs.Lists.{item_state, items_end}
use Rattle.c_types_bodies.proofs.Receiving.{objects_step}
use Rattle.c_types_bodies.proofs.parameters.walk_parameters.Goals as goal

pub loop-parameter-preserved : goal.loop-parameter-preserved
loop-parameter-preserved c =
    let frame = c.args.frame.now in
    let parameters = c.args.parameters.now in
    let held = c.loop-parameter.walker in
    let walker = c.walk_parameter.new.walker in
    let state = state_of frame c.args.nest held c.loop-parameter.jumps in
    let next = state_of frame c.args.nest walker c.walk_parameter.new.jumps in
    record {
      tied = c.in_ok-object.ensures.tied;
      extends = extends_then c.args.walker.now.names held.names walker.names
          c.loop-parameter.invariant.extends c.in_ok-object.ensures.extends;
      objects = objects_step frame.survey.now parameters c.loop-parameter.parameter-index
          c.parameter-item.result
          c.loop-parameter.objects.items c.push.new.self.items c.in_ok-object.object held.objects
          walker.objects _ (omega arith) c.parameter-item.is c.in_ok-push.ensures.items
          c.in_ok-object.ensures.object c.in_ok-object.ensures.objects
          c.loop-parameter.invariant.objects;
      state = item_state frame.survey.now frame.caller (receiving frame.survey.now) parameters
          c.loop-parameter.parameter-index c.parameter-item.result state next _ (omega arith)
          c.parameter-item.is c.in_ok-object.ensures.state c.loop-parameter.invariant.state;
    }

pub returns-clause-state : goal.returns-clause-state
returns-clause-state c =
    let frame = c.args.frame.now in
    items_end frame.survey.now frame.caller (receiving frame.survey.now) c.args.parameters.now
    c.loop-parameter.parameter-index
    (state_of frame c.args.nest c.loop-parameter.walker c.loop-parameter.jumps) _ (omega arith)
    c.loop-parameter.invariant.state
