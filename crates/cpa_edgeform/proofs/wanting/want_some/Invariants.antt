-- What is left gives, from the present truth on, what all tests give.
use Rattle.std.proofs.Common.{◌≡◌, drop}
use Rattle.cpa_form_rules.specs.Tests.{some_from, want_some}
use Rattle.cpa_edgeform.proofs.wanting.want_some.Given as goal

abbrev pub invariant-loop-one : goal.invariant-loop-one
invariant-loop-one l =
    some_from l.places (drop l.one-index l.tests) l.truth l.draft
    ≡ want_some l.places l.tests l.fn.draft
