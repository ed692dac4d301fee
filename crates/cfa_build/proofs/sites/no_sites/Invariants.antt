-- As many lists as functions were passed, and the functions that are left.
use Rattle.std.proofs.Common.{◌≡◌, ◌+◌, replicate, [], length}
use Rattle.std.specs.Slice.Iter.{iter_rest}
use Rattle.cfa_build.proofs.sites.no_sites.Given as goal

abbrev pub invariant-loop : goal.invariant-loop
invariant-loop l = (l.sites.items ≡ replicate (length l.yielded) [])
    × (length l.yielded + length (iter_rest l.iterator') ≡ length l.program.bodies)
