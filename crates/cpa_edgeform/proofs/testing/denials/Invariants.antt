-- The denials of the tests so far.
use Rattle.std.proofs.Common.{◌≡◌, map, take}
use Rattle.cpa_form_rules.specs.Tests.{denied}
use Rattle.cpa_edgeform.proofs.testing.denials.Given as goal

abbrev pub invariant-loop-one : goal.invariant-loop-one
invariant-loop-one l = l.all ≡ map denied (take l.one-index l.tests)
