use Rattle.cpa_engine_turn.specs.lemmas.Keyed.{key_at}
use Rattle.cpa_engine_laws.specs.lemmas.ByKeys.{initial_key}
use Rattle.cpa_engine_laws.specs.lemmas.Fitting.{key_tells}
use Rattle.cpa_engine_laws.proofs.laws.keys_tell.Goals as goal

pub returns-clause-at : goal.returns-clause-at
returns-clause-at c = λ cs es fs i d e f many long same at at_e at_f key.
    key_at cs es fs many long same i d e f at at_e at_f key

pub returns-clause-initial : goal.returns-clause-initial
returns-clause-initial c = initial_key

pub returns-clause-control : goal.returns-clause-control
returns-clause-control c = λ cfa cs s t points stacks same. key_tells cfa cs points stacks s t same
