use Rattle.std.proofs.Common.{[], ◌∷◌, arith}
use Rattle.cpa_blast.proofs.WeightParts.{weight_parts}
use Rattle.cpa_blast.proofs.weights.+weight.Goals as goal

pub returns-in-None : goal.returns-in-None
returns-in-None t c =
    let whole = weight_parts c.args.e.now [] c.in-None.ensures in
    omega (arith, whole)

pub returns-in-One : goal.returns-in-One
returns-in-One t c =
    let whole = weight_parts c.args.e.now (c.in-One.part.now ∷ []) c.in-One.ensures in
    omega (arith, whole)

pub returns-in-Two : goal.returns-in-Two
returns-in-Two t c =
    let whole = weight_parts c.args.e.now (c.in-Two.left.now ∷ c.in-Two.right.now ∷ [])
    c.in-Two.ensures in
    omega (arith, whole)

pub returns-in-Three : goal.returns-in-Three
returns-in-Three t c =
    let n = c.in-Three in
    let whole = weight_parts c.args.e.now (n.test.now ∷ n.yes.now ∷ n.no.now ∷ []) n.ensures in
    omega (arith, whole)
