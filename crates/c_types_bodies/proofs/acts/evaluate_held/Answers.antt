use Rattle.std.proofs.Common.{sym}
use Rattle.c_types_bodies.specs.Views.{state_of}
use Rattle.c_types_bodies.proofs.Walks.{walked_still}
use Rattle.c_types_bodies.proofs.acts.evaluate_held.Goals as goal

pub returns-in-None-clause-state : goal.returns-in-None-clause-state
returns-in-None-clause-state c = λ nest found.
    let frame = c.args.frame.now in
    rw c.in-None.is
    (sym (walked_still frame.survey.now frame.caller
    (state_of frame nest c.args.walker.now found)))

pub returns-in_ok-typed-in-Some-clause-state : goal.returns-in_ok-typed-in-Some-clause-state
returns-in_ok-typed-in-Some-clause-state c = λ nest found.
    rw c.in-Some.is (rw c.get.ensures at (c.in_ok-typed-in-Some.ensures.state nest found))
