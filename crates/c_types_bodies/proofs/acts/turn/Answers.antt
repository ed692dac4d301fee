use Rattle.std.proofs.Common.{refl}
use Rattle.c_types_bodies.specs.Views.{state_of}
use Rattle.c_types_bodies.proofs.Doing.{done_continues}
use Rattle.c_types_bodies.proofs.acts.turn.Goals as goal

pub returns-clause-state : goal.returns-clause-state
returns-clause-state c = λ found.
    let frame = c.args.frame.now in
    done_continues frame.survey.now frame.caller c.args.place
    (state_of frame c.args.nest c.args.walker.now found) _ refl c.note_if.ensures refl refl refl
