use Rattle.c_types_bodies.proofs.walker.Scope.walk_break.Goals as goal

pub returns-clause-typed : goal.returns-clause-typed
returns-clause-typed c = c.typed_break.ensures

pub returns-clause-state : goal.returns-clause-state
returns-clause-state c = c.leave.ensures.state c.args.progress.now.jumps
