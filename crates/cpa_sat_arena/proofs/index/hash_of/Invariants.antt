use Rattle.std.proofs.Common.{◌≡◌, take}
use Rattle.cpa_sat_arena.specs.Hashes.{hash_from}
use Rattle.cpa_sat_arena.proofs.index.hash_of.Given as goal

abbrev pub invariant-loop-literal : goal.invariant-loop-literal
invariant-loop-literal l = l.hash ≡ hash_from 0 (take l.literal-index l.literals)
