use Rattle.std.proofs.Common.{◌≡◌, ℕ, sym, subst}
use Rattle.c_types_rules.specs.Statements.{receiving}
use Rattle.c_types_bodies.specs.States.{walked}
use Rattle.c_types_bodies.specs.Views.{state_of, with_objects, IsTied}
use Rattle.c_types_bodies.proofs.parameters.walk_parameter.Goals as goal

pub returns-clause-tied : goal.returns-clause-tied
returns-clause-tied c =
    subst (λ (n : ℕ). IsTied c.args.frame.now (with_objects n c.name_parameter.new.walker)
    c.name_parameter.new.jumps) (sym c.in_ok-objects.ensures) c.in_ok-name_parameter.ensures.tied

pub returns-clause-state : goal.returns-clause-state
returns-clause-state c =
    let frame = c.args.frame.now in
    subst (λ (n : ℕ). state_of frame c.args.nest (with_objects n c.name_parameter.new.walker)
    c.name_parameter.new.jumps
    ≡ walked frame.survey.now frame.caller (receiving frame.survey.now c.args.parameter.now)
    (state_of frame c.args.nest c.args.walker.now c.args.jumps.now))
    (sym c.in_ok-objects.ensures) c.in_ok-name_parameter.ensures.state
