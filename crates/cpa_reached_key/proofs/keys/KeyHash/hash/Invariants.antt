use Rattle.std.proofs.Common.{◌≡◌, fold}
use Rattle.std.specs.List.{flat_map}
use Rattle.std.specs.Slice.Iter.{iter_rest}
use Rattle.cpa_reached_key.specs.Writes.{elem_writes}
use Rattle.cpa_reached_key.proofs.keys.KeyHash.hash.Given as goal

abbrev pub invariant-loop-elem : goal.invariant-loop-elem
invariant-loop-elem g l =
    fold g.H.Hasher.write l.state (flat_map elem_writes (iter_rest l.elem-iterator))
    ≡ fold g.H.Hasher.write l.initial.state (flat_map elem_writes l.self.elems)
