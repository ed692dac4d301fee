use Rattle.cpa_cnf.proofs.Refutations.{refuted}
use Rattle.cpa_cnf.proofs.laws.a_refuted_formula_has_no_model.Goals as goal

pub returns : goal.returns
returns c = refuted
