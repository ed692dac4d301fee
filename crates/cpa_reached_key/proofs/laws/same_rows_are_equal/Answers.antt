use Rattle.cpa_reached_key.specs.lemmas.RowLaws.{same_row-decides}
use Rattle.cpa_reached_key.proofs.laws.same_rows_are_equal.Goals as goal

pub returns : goal.returns
returns c = same_row-decides
