use Rattle.std.proofs.Common.{◌*◌, ◌+◌, ◌<◌, length, arith}
use Rattle.std.proofs.lemmas.List.{get_or-map}
use Rattle.cpa_sat_arena.specs.declared.store.Extent.{Extent}
use Rattle.cpa_sat_arena.specs.Extents.{hash_at}
use Rattle.cpa_sat_arena.proofs.Stores.{linked_as}
use Rattle.cpa_sat_arena.proofs.store.indexed.Goals as goal

pub loop-number-preserved : goal.loop-number-preserved
loop-number-preserved c =
    let es = c.args.extents.now in
    let n = c.loop-number.number in
    let none : Extent = record { from = 0; to = 0; hash = 0 } in
    let room : n < length es * 2 + 64 = omega arith in
    linked_as (hash_at es) n (length es * 2 + 64) _ c.loop-number.index c.link.new.self
    c.loop-number.invariant room
    (get_or-map (λ (x : Extent). x.hash) es n none 0 c.loop-number-test.true) c.link.ensures.heads
    c.link.ensures.nexts
