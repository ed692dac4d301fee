-- The bound in the row that grows, and in its column.
use Rattle.std.proofs.Common.{◌∙◌, FitsSigned, rules, w64, arith}
use Rattle.std.specs.Int.{w128}
use Rattle.std.proofs.lemmas.Int.{to_z-of_z}
use Rattle.cpa_zone_bounds.specs.lemmas.Changing.{shifted_row, shifted_column}
use Rattle.cpa_zone_bounds.proofs.changes.shifted.Goals as goal

pub returns-then-i-row : goal.returns-then-i-row
returns-then-i-row c =
    let own : FitsSigned w64 c.args.own = search rules in
    let by : FitsSigned w128 c.args.by = search rules in
    let more : FitsSigned w128 c.more.result = search rules in
    let fits : FitsSigned w64 c.kept_within.result = search rules in
    to_z-of_z w64 c.kept_within.result fits
    ∙ shifted_row c.args.ranges.now c.args.row c.args.by c.args.i c.args.j c.args.own
    c.kept_within.result c.more.result c.if-i-j.false c.if-i-row.true
    (grind (arith, to_z-of_z, c.kept_within.ensures)) (grind (arith, to_z-of_z, c.more.ensures))

pub returns-then-j-row : goal.returns-then-j-row
returns-then-j-row c =
    let own : FitsSigned w64 c.args.own = search rules in
    let by : FitsSigned w128 c.args.by = search rules in
    let less : FitsSigned w128 c.less.result = search rules in
    let fits : FitsSigned w64 c.kept_within-then-j-row.result = search rules in
    to_z-of_z w64 c.kept_within-then-j-row.result fits
    ∙ shifted_column c.args.ranges.now c.args.row c.args.by c.args.i c.args.j c.args.own
    c.kept_within-then-j-row.result c.less.result c.if-i-j.false c.if-i-row.false c.if-j-row.true
    (grind (arith, to_z-of_z, c.kept_within-then-j-row.ensures))
    (grind (arith, to_z-of_z, c.less.ensures))
