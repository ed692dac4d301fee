use Rattle.std.proofs.Common.{◌∙◌}
use Rattle.cpa_cnf.specs.lemmas.Members.{any-has}
use Rattle.cpa_sat_trail.proofs.propagation.contains.Goals as goal

pub returns : goal.returns
returns c = c.contains.ensures.value ∙ any-has c.args.literal c.args.clause.now
