use Rattle.std.proofs.Common.{◌≡◌, ◌++◌, drop, map}
use Rattle.c_types_rules.specs.Statements.{in_order}
use Rattle.c_types_rules.specs.TypedStatements.{grown, typed_in_order}
use Rattle.c_types_bodies.specs.Grown.{grown_walk}
use Rattle.c_types_bodies.specs.States.{walked}
use Rattle.c_types_bodies.specs.Views.{around_at, state_at, IsTied, Extends}
use Rattle.c_types_bodies.proofs.walker.Scope.+statement.Given as goal

abbrev pub invariant-walk_items-loop-item : goal.invariant-walk_items-loop-item
invariant-walk_items-loop-item l =
    let text = l.self.frame.now.survey.now in
    let rest = drop l.item-index l.items in
    record {
      tied : IsTied l.self.frame.now l.progress.walker l.progress.jumps;
      extends : Extends l.fn.progress.walker.names l.progress.walker.names;
      typed : l.typed.items
          ++ typed_in_order (map (grown text) rest) (around_at l.self l.progress)
          ≡ typed_in_order (map (grown text) l.items) (around_at l.self l.fn.progress);
      state : walked text l.self.frame.now.caller (in_order (map (grown_walk text) rest))
          (state_at l.self l.progress)
          ≡ walked text l.self.frame.now.caller (in_order (map (grown_walk text) l.items))
          (state_at l.self l.fn.progress);
    }
