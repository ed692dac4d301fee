use Rattle.cpa_model.proofs.Errors.{found_exactly}
use Rattle.cpa_model.proofs.graph.is_among.Goals as goal

pub returns : goal.returns
returns c =
    let found =
    found_exactly c.args.numbers.now c.args.number c.binary_search.result c.requires
    c.binary_search.ensures.position in
    rw c.is_ok.ensures.value found
