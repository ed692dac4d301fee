use Rattle.cpa_form_rules.specs.Additions as law
use Rattle.cpa_form_rules.proofs.laws.further_calls_read.Goals as goal

pub returns : goal.returns
returns c = law.further_calls_read
