use Rattle.std.proofs.Common.{arith}
use Rattle.cpa_chains.specs.Rooms.{IsRoomFor}
use Rattle.cpa_chains.proofs.Halving.{zip_lengths, zip_take, zip_drop}
use Rattle.cpa_chains.proofs.parallel.+parts.Goals as goal

pub fill_parts-split_at_mut-front-requires : goal.fill_parts-split_at_mut-front-requires
fill_parts-split_at_mut-front-requires g t c =
    let same = zip_lengths IsRoomFor c.args.lines.now c.args.rooms.now c.requires.rooms in
    omega (arith, c.share-middle.ensures.within, same)

pub fill_parts-fill_halves-requires-clause-front_rooms :
    goal.fill_parts-fill_halves-requires-clause-front_rooms
fill_parts-fill_halves-requires-clause-front_rooms g t c κs within =
    rw c.split_at.ensures.front
    (rw c.split_at_mut-front.ensures.front
    (zip_take IsRoomFor c.share-middle.result c.args.lines.now c.args.rooms.now
    c.requires.rooms))

pub fill_parts-fill_halves-requires-clause-back_rooms :
    goal.fill_parts-fill_halves-requires-clause-back_rooms
fill_parts-fill_halves-requires-clause-back_rooms g t c κs within =
    rw c.split_at.ensures.back
    (rw c.split_at_mut-front.ensures.back
    (zip_drop IsRoomFor c.share-middle.result c.args.lines.now c.args.rooms.now
    c.requires.rooms))
