use Rattle.std.proofs.Common.{◌≡◌, ◌+◌, ◌++◌, map, take}
use Rattle.std.specs.Prelude.{vec_len, vec_capacity}
use Rattle.cpa_chains.specs.Tables.{joint_by}
use Rattle.cpa_chains.proofs.folding.fill.Given as goal

abbrev pub invariant-loop-step : goal.invariant-loop-step
invariant-loop-step l =
    (l.joints.items ≡ l.initial.joints.items ++ map (joint_by l.table) (take l.step-index l.steps))
    × (vec_len l.joints ≡ vec_len l.initial.joints + l.step-index)
    × (vec_capacity l.joints ≡ vec_capacity l.initial.joints)
