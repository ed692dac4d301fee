use Rattle.cpa_engine_laws.specs.lemmas.Bounded.{bounded_left, pinned_left, waits_due}
use Rattle.cpa_engine_laws.proofs.laws.turns_are_bounded.Goals as goal

pub returns-clause-keys : goal.returns-clause-keys
returns-clause-keys c = λ cfa cs keys xs up bounded. bounded_left cfa cs keys xs
    (c.ranks_are_bounded.ensures.height cs cfa) up bounded

pub returns-clause-states : goal.returns-clause-states
returns-clause-states c = λ cfa cs states xs pinning up pinned.
    pinned_left cfa cs states xs pinning.apart up pinned

pub returns-clause-due : goal.returns-clause-due
returns-clause-due c = waits_due
