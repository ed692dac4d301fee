use Rattle.cpa_value_changes.proofs.ChangeLemmas.{all_forgotten}
use Rattle.cpa_value_changes.proofs.changes.Change.of_array.Goals as goal

pub returns : goal.returns
returns c = λ cells. all_forgotten c.args.base c.args.len cells
