-- One node, and the greatest height of its parts.
use Rattle.std.proofs.Common.{[], ◌∷◌, arith}
use Rattle.cpa_expr.specs.lemmas.Parts.{height_parts}
use Rattle.cpa_expr.proofs.shape.+height.Goals as goal

pub returns-in-Two : goal.returns-in-Two
returns-in-Two t c =
    let whole = height_parts c.args.e.now (c.in-Two.left.now ∷ c.in-Two.right.now ∷ [])
    c.in-Two.ensures in
    omega (arith, whole)

pub returns-in-Three : goal.returns-in-Three
returns-in-Three t c =
    let n = c.in-Three in
    let whole = height_parts c.args.e.now (n.test.now ∷ n.yes.now ∷ n.no.now ∷ []) n.ensures in
    omega (arith, whole)
