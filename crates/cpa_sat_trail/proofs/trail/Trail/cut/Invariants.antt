use Rattle.std.proofs.Common.{◌≡◌, ◌≤◌, take}
use Rattle.cpa_sat_trail.specs.Trails.{IsTrail, height}
use Rattle.cpa_sat_trail.proofs.trail.Trail.cut.Given as goal

abbrev pub invariant-loop-self : goal.invariant-loop-self
invariant-loop-self l =
    IsTrail l.self × (l.count ≤ height l.self) × (l.self.vars ≡ l.fn.self.vars)
    × (l.self.lits.items ≡ take (height l.self) l.fn.self.lits.items)
    × (l.self.reasons.items ≡ take (height l.self) l.fn.self.reasons.items)

abbrev pub decreases-loop-self : goal.decreases-loop-self
decreases-loop-self l = height l.self
