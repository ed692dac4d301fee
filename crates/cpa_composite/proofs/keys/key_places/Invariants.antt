-- The numbers so far, and those of what is left, are those of all.
use Rattle.std.proofs.Common.{◌≡◌, ◌++◌, drop, map}
use Rattle.cpa_composite.specs.Components.{picked}
use Rattle.cpa_composite.specs.Keys.{key_places, key_places_from}
use Rattle.cpa_composite.proofs.keys.key_places.Given as goal

abbrev pub invariant-loop-place : goal.invariant-loop-place
invariant-loop-place g l =
    let cs = picked (map g.A.Analysis.meaning l.handed.items) l.picks in
    l.places.items ++ key_places_from l.place (drop l.place cs) ≡ key_places cs
