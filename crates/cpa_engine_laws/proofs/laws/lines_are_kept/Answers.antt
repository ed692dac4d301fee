use Rattle.cpa_engine_laws.specs.lemmas.ByKeys.{keys_kept}
use Rattle.cpa_engine_laws.specs.lemmas.ByPins.{pins_kept}
use Rattle.cpa_engine_laws.specs.lemmas.Working.{turn_alike}
use Rattle.cpa_engine_laws.proofs.laws.lines_are_kept.Goals as goal

pub returns-clause-keys : goal.returns-clause-keys
returns-clause-keys c = λ cfa cs order old new automaton. keys_kept cfa cs
    (c.control_is_followed.ensures.steps cs cfa)
    (λ k g at. c.edges_are_sound.ensures cfa k g automaton at) order old new

pub returns-clause-pins : goal.returns-clause-pins
returns-clause-pins c = λ cfa cs order old new automaton. pins_kept cfa cs
    (λ edge ps rows g s exact parts binds size made at settled is.
    c.pins_are_followed.ensures.next cs cfa edge ps rows g s automaton exact parts binds size made
    at
    settled is)
    (c.pins_are_followed.ensures.adjust cs cfa) order old new

pub returns-clause-alike : goal.returns-clause-alike
returns-clause-alike c = turn_alike
