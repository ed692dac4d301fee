use Rattle.std.proofs.Common.{length, arith}
use Rattle.cfa_build.proofs.Known.{parts_inside, more_known}
use Rattle.cfa_build.proofs.places.place_parts_of.Goals as goal

pub place_parts-requires : goal.place_parts-requires
place_parts-requires c =
    parts_inside c.args.program.now c.requires.trees c.args.n c.statement.result.now
    (length c.args.places.now) c.statement.ensures c.requires.below.each

pub returns : goal.returns
returns c =
    more_known c.args.program.now c.requires.trees c.args.n c.statement.result.now
    c.place_of-whole.result c.args.places.now c.place_parts.new.places c.statement.ensures
    c.requires.below c.place_of-whole.ensures (omega arith) c.place_parts.ensures
