use Rattle.cases_programs.specs.Samples.{well_formed_by}
use Rattle.cases_programs.proofs.laws.tables_suffice.Goals as goal

pub returns : goal.returns
returns c = well_formed_by
