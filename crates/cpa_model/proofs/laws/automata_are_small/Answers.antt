use Rattle.cpa_model.proofs.Edges.{few_edges, start_inside, errors_inside}
use Rattle.cpa_model.proofs.laws.automata_are_small.Goals as goal

pub returns-clause-edges : goal.returns-clause-edges
returns-clause-edges c = few_edges

pub returns-clause-start : goal.returns-clause-start
returns-clause-start c = start_inside

pub returns-clause-errors : goal.returns-clause-errors
returns-clause-errors c = errors_inside
