use Rattle.cpa_cnf.specs.lemmas.Chains.{same_members}
use Rattle.cpa_cnf.proofs.laws.a_clause_is_its_literals.Goals as goal

pub returns : goal.returns
returns c = λ a b is_a is_b same. same_members 0 0 a b is_a is_b same
