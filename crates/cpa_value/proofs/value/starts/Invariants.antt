-- The starts so far.
use Rattle.std.proofs.Common.{◌≡◌, take, map}
use Rattle.cpa_iface.specs.Pins.{equals_from}
use Rattle.cpa_value.proofs.value.starts.Given as goal

abbrev pub invariant-loop-place : goal.invariant-loop-place
invariant-loop-place l = l.facts ≡ equals_from 0 (map (λ c. c.start) (take l.place l.cells))
