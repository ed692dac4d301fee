-- What is changed so far is kept.
use Rattle.std.proofs.Common.{◌+◌, ◌*◌, length}
use Rattle.cpa_zone_bounds.specs.lemmas.Changing.{changed_kept}
use Rattle.cpa_zone_bounds.proofs.changes.change_all.Goals as goal

pub change_at-requires-clause-kept : goal.change_at-requires-clause-kept
change_at-requires-clause-kept c =
    changed_kept c.args.ranges.now c.args.change c.args.most.now c.loop-j.most
    (c.loop-i.i * length c.args.ranges.now + c.loop-j.j) c.requires.ranges c.requires.square
    c.requires.kept c.loop-j.invariant
