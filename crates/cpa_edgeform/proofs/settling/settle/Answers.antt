-- The places as they stand, or new ones.
use Rattle.std.proofs.Common.{◌∙◌, Bool, List, length, ap}
use Rattle.cpa_form_rules.specs.Drafts.{copied}
use Rattle.cpa_edgeform.proofs.Turns.{settled_as_is, settled_by_copies}
use Rattle.cpa_edgeform.proofs.settling.settle.Goals as goal

pub copied-requires : goal.copied-requires
copied-requires c = ap length c.as_slice.ensures.value ∙ c.in_ok-marks.ensures.long

pub returns-then-are_whole : goal.returns-then-are_whole
returns-then-are_whole c =
    settled_as_is c.args.asked.now c.args.places.now c.args.draft.now c.if-are_whole.ensures

pub returns : goal.returns
returns c =
    c.in_ok-made.ensures
    ∙ ap (λ (marks : List Bool). copied marks c.args.places.now c.args.draft.now)
    (c.as_slice.ensures.value ∙ c.in_ok-marks.ensures.marks)
    ∙ settled_by_copies c.args.asked.now c.args.places.now c.args.draft.now
    c.if-are_whole.ensures
