use Rattle.std.proofs.Common.{ap, arith}
use Rattle.c_types_rules.specs.declared.meaning.Object.{Object}
use Rattle.c_types_bodies.proofs.Receiving.{is_unnamed, is_named}
use Rattle.c_types_bodies.proofs.parameters.name_parameter.Goals as goal

pub declare_parameter-requires : goal.declare_parameter-requires
declare_parameter-requires c =
    omega (arith, c.requires.tied.next, ap (λ (o : Object). o.number) c.requires.object)

pub returns-in-None-clause-tied : goal.returns-in-None-clause-tied
returns-in-None-clause-tied c =
    (is_unnamed c.args.frame.now c.args.nest c.args.walker.now c.args.jumps.now
    c.args.parameter.now c.requires.tied c.in-None.is).tied_new

pub returns-in_ok-declare_parameter-in-Some-clause-tied :
    goal.returns-in_ok-declare_parameter-in-Some-clause-tied
returns-in_ok-declare_parameter-in-Some-clause-tied c =
    (is_named c.args.frame.now c.args.nest c.args.walker.now c.declare_parameter.new.walker
    c.args.jumps.now c.declare_parameter.new.jumps c.args.parameter.now c.in-Some.name
    c.args.object c.requires.tied c.requires.object c.in-Some.is
    c.in_ok-declare_parameter-in-Some.ensures.names
    c.in_ok-declare_parameter-in-Some.ensures.first
    c.in_ok-declare_parameter-in-Some.ensures.calls
    c.in_ok-declare_parameter-in-Some.ensures.cases
    c.in_ok-declare_parameter-in-Some.ensures.passed
    c.in_ok-declare_parameter-in-Some.ensures.entered).tied_new

pub returns-in-None-clause-extends : goal.returns-in-None-clause-extends
returns-in-None-clause-extends c =
    (is_unnamed c.args.frame.now c.args.nest c.args.walker.now c.args.jumps.now
    c.args.parameter.now c.requires.tied c.in-None.is).extends

pub returns-in_ok-declare_parameter-in-Some-clause-extends :
    goal.returns-in_ok-declare_parameter-in-Some-clause-extends
returns-in_ok-declare_parameter-in-Some-clause-extends c =
    (is_named c.args.frame.now c.args.nest c.args.walker.now c.declare_parameter.new.walker
    c.args.jumps.now c.declare_parameter.new.jumps c.args.parameter.now c.in-Some.name
    c.args.object c.requires.tied c.requires.object c.in-Some.is
    c.in_ok-declare_parameter-in-Some.ensures.names
    c.in_ok-declare_parameter-in-Some.ensures.first
    c.in_ok-declare_parameter-in-Some.ensures.calls
    c.in_ok-declare_parameter-in-Some.ensures.cases
    c.in_ok-declare_parameter-in-Some.ensures.passed
    c.in_ok-declare_parameter-in-Some.ensures.entered).extends

pub returns-in-None-clause-state : goal.returns-in-None-clause-state
returns-in-None-clause-state c =
    (is_unnamed c.args.frame.now c.args.nest c.args.walker.now c.args.jumps.now
    c.args.parameter.now c.requires.tied c.in-None.is).state

pub returns-in_ok-declare_parameter-in-Some-clause-state :
    goal.returns-in_ok-declare_parameter-in-Some-clause-state
returns-in_ok-declare_parameter-in-Some-clause-state c =
    (is_named c.args.frame.now c.args.nest c.args.walker.now c.declare_parameter.new.walker
    c.args.jumps.now c.declare_parameter.new.jumps c.args.parameter.now c.in-Some.name
    c.args.object c.requires.tied c.requires.object c.in-Some.is
    c.in_ok-declare_parameter-in-Some.ensures.names
    c.in_ok-declare_parameter-in-Some.ensures.first
    c.in_ok-declare_parameter-in-Some.ensures.calls
    c.in_ok-declare_parameter-in-Some.ensures.cases
    c.in_ok-declare_parameter-in-Some.ensures.passed
    c.in_ok-declare_parameter-in-Some.ensures.entered).state
