-- What has been gathered, with what is left, is what all facts ask.
use Rattle.std.proofs.Common.{◌≡◌, ◌++◌}
use Rattle.cpa_form_rules.specs.Tests.{tests_of}
use Rattle.cpa_edgeform.proofs.testing.tests_of.Given as goal

abbrev pub invariant-loop-fact : goal.invariant-loop-fact
invariant-loop-fact l =
    l.tests ++ tests_of l.places l.fact-iterator ≡ tests_of l.places l.facts
