-- What lies from 0 to the length less 1 is small.
use Rattle.std.proofs.Common.{◌≡◌, ap, sym, ◌∙◌, arith}
use Rattle.std.specs.Prelude.{Some}
use Rattle.std.proofs.lemmas.Int.{ints}
use Rattle.cpa_interval_bounds.specs.Bounds.{meet}
use Rattle.cpa_interval_bounds.specs.Elements.{places_of}
use Rattle.cpa_interval_bounds.specs.lemmas.Sets.{meet_is}
use Rattle.cpa_interval_bounds.proofs.elements.named.Goals as goal

pub cells_at-requires : goal.cells_at-requires
cells_at-requires c =
    let index = c.args.index in
    let len = c.args.len in
    let is : meet index (places_of len) ≡ Some c.in-Some.inside =
    ap (meet index) (sym c.places_of.ensures) ∙ (sym c.meet.ensures ∙ c.in-Some.is) in
    let it = meet_is index (places_of len) c.in-Some.inside is in
    let few = c.ranges.len in
    record { low = it.right_low; order = it.order; high = omega (arith, ints, it.right_high) }
