-- An input leaves its cell without a value.
use Rattle.std.proofs.Common.{Some, ap, sym, ◌∙◌}
use Rattle.cpa_model.specs.declared.automaton.Act.{Act}
use Rattle.cpa_folds.specs.Tracking.{is_tracked}
use Rattle.cpa_value_changes.specs.Acts.{after_act}
use Rattle.cpa_value_changes.proofs.acts.change_by.Goals as goal

pub returns-in-Input : goal.returns-in-Input
returns-in-Input c =
    ap Some (c.of_cell.ensures c.args.cells.now)
    ∙ sym (ap (λ (a : Act). after_act (is_tracked c.args.tracked.now) a c.args.cells.now)
    c.in-Input.is)
