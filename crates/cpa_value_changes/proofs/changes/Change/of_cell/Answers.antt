use Rattle.cpa_value_changes.proofs.ChangeLemmas.{one_filled}
use Rattle.cpa_value_changes.proofs.changes.Change.of_cell.Goals as goal

pub returns : goal.returns
returns c = λ cells. one_filled c.args.cell c.args.value cells
