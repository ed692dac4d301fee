-- The height is one above the greatest of the three parts.
use Rattle.std.proofs.Common.{[], ◌∷◌, arith}
use Rattle.cpa_expr.specs.lemmas.Parts.{height_parts}
use Rattle.cpa_expr.proofs.typing.+is_at_most.Goals as goal

pub returns-in-Three : goal.returns-in-Three
returns-in-Three t c =
    let n = c.in-Three in
    let whole = height_parts c.args.e.now (n.test.now ∷ n.yes.now ∷ n.no.now ∷ []) n.ensures in
    let all = c.both-in-Three-2.ensures in
    let ends = c.both-in-Three.ensures in
    let test = c.is_at_most-in-Three.ensures in
    let yes = c.is_at_most-in-Three-2.ensures in
    let no = c.is_at_most-in-Three-3.ensures in (
      λ h.
          let both = all.0 h in
          let two = ends.0 both.1 in
          let a = test.0 both.0 in
          let b = yes.0 two.0 in
          let d = no.0 two.1 in
          omega (arith, whole, a, b, d),
      λ h. all.1 (
        test.1 (omega (arith, whole, h)),
        ends.1 (yes.1 (omega (arith, whole, h)), no.1 (omega (arith, whole, h))),
      ),
    )
