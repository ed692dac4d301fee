use Rattle.std.proofs.Common.{◌≡◌, ◌++◌, map, take, drop}
use Rattle.cpa_reached.specs.Calls.{rename}
use Rattle.cpa_reached.proofs.renaming.rename_uses.Given as goal

abbrev pub invariant-loop-place : goal.invariant-loop-place
invariant-loop-place l =
    l.uses ≡ map (rename l.old l.next) (take l.place l.initial.uses) ++ drop l.place l.initial.uses
