use Rattle.cpa_sat.proofs.Counting.{found_as}
use Rattle.cpa_sat.proofs.start.search.Goals as goal

pub returns : goal.returns
returns c = found_as c.args.cnf.now c.args.learnt c.in_ok-found.found c.in_ok-found.ensures
