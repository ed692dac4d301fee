-- What is left gives what all lists give.
use Rattle.std.proofs.Common.{◌≡◌, drop}
use Rattle.cpa_form_rules.specs.Tests.{want_each}
use Rattle.cpa_edgeform.proofs.wanting.want_each.Given as goal

abbrev pub invariant-loop-tests : goal.invariant-loop-tests
invariant-loop-tests l =
    want_each l.places (drop l.tests-index l.lists) l.draft
    ≡ want_each l.places l.lists l.initial.draft
