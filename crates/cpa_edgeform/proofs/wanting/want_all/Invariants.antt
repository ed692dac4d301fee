-- What is left gives what all expressions give.
use Rattle.std.proofs.Common.{◌≡◌, drop}
use Rattle.cpa_form_rules.specs.Drafts.{want_all}
use Rattle.cpa_edgeform.proofs.wanting.want_all.Given as goal

abbrev pub invariant-loop-one : goal.invariant-loop-one
invariant-loop-one l =
    want_all l.places (drop l.one-index l.asked) l.draft
    ≡ want_all l.places l.asked l.initial.draft
