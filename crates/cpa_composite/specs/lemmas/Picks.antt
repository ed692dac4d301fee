-- What a composite keeps of its picks: their places are within the handed analyses (this project's
-- own).
use Rattle.std.specs.Prelude.{ℕ, ◌<◌, List}
use Rattle.std.specs.List.{AllByRecursion-prop}
use Rattle.std.proofs.Math.Bridge.{le_prop}
use Rattle.cpa_iface.specs.declared.merging.Pick.{Pick}
use Rattle.cpa_composite.specs.Components.{ArePlaces}

-- that they are has one proof at most
pub places-prop : (count : ℕ) (picks : List Pick) → IsProp (ArePlaces count picks)
places-prop count picks = AllByRecursion-prop (λ p. p.place < count) (λ p. le_prop) picks
