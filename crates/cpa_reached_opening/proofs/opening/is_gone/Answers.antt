use Rattle.cpa_reached_opening.specs.lemmas.MemberLaws.{found_exactly}
use Rattle.cpa_reached_opening.proofs.opening.is_gone.Goals as goal

pub returns : goal.returns
returns c =
    rw c.is_ok.ensures.value
    (found_exactly c.args.gone.now c.args.number c.binary_search.result c.requires
    c.binary_search.ensures.position)
