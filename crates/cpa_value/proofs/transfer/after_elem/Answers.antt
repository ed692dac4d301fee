-- Facts in order say what the others do.
use Rattle.std.proofs.Common.{◌∙◌, ap}
use Rattle.cpa_folds.specs.Tracking.{is_tracked}
use Rattle.cpa_value_changes.specs.Acts.{after_act}
use Rattle.cpa_value.specs.Transfer.{elems_of}
use Rattle.cpa_value.proofs.transfer.after_elem.Goals as goal

pub returns : goal.returns
returns c =
    let tracked = is_tracked c.args.tracked.now in
    c.in_ok-elems.ensures
    ∙ ap (λ cells. elems_of tracked (after_act tracked c.args.act.now cells))
    c.in_ok-ordered.ensures.same
