use Rattle.cpa_sat_search.proofs.Loading.{model_of}
use Rattle.cpa_sat_search.proofs.start.model.Goals as goal

pub returns : goal.returns
returns c = model_of c.args.cnf.now c.args.search.now _ c.requires.state c.requires.satisfied
    c.in_ok-found.ensures
