use Rattle.c_types_bodies.proofs.walker.Scope.walk_continue.Goals as goal

pub returns-clause-state : goal.returns-clause-state
returns-clause-state c = c.turn.ensures.state c.args.progress.now.jumps
