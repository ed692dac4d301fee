-- What is left gives, behind the places so far, what all cells give.
use Rattle.std.proofs.Common.{◌≡◌, drop}
use Rattle.cpa_form_rules.specs.Drafts.{copied}
use Rattle.cpa_edgeform.proofs.Turns.{after}
use Rattle.cpa_edgeform.proofs.settling.copied.Given as goal

abbrev pub invariant-loop-i : goal.invariant-loop-i
invariant-loop-i l =
    after l.made (copied (drop l.i l.marks) (drop l.i l.places) l.draft)
    ≡ copied l.marks l.places l.initial.draft
