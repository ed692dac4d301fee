use Rattle.cpa_engine_laws.specs.lemmas.ByKeys.{keys_begin}
use Rattle.cpa_engine_laws.specs.lemmas.ByPins.{pins_begin}
use Rattle.cpa_engine_laws.proofs.laws.lines_begin.Goals as goal

pub returns-clause-keys : goal.returns-clause-keys
returns-clause-keys c = keys_begin

pub returns-clause-pins : goal.returns-clause-pins
returns-clause-pins c = λ cfa cs settings es ps pinning all unlimited row. pins_begin cfa cs
    settings
    es ps pinning all unlimited row
    (c.pins_are_followed.ensures.initial cs cfa settings es ps pinning.exact row)
