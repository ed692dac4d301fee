use Rattle.std.proofs.Common.{List, sym, subst}
use Rattle.cpa_iface.specs.declared.precisions.Precision.{Precision}
use Rattle.cpa_composite.specs.Composites.{components}
use Rattle.cpa_engine.specs.declared.answers.Answer.TheVariants.{Unknown}
use Rattle.cpa_engine.specs.declared.answers.Why.TheVariants.{NoNew}
use Rattle.cpa_engine.specs.Answers.{IsAnswer}
use Rattle.cpa_engine.specs.Searches.{IsSpared}
use Rattle.cpa_engine.proofs.Ending.{new_answer}
use Rattle.cpa_engine.proofs.refining.no_new.Goals as goal

pub returns : goal.returns
returns g c =
    let cfa = c.args.cfa.now in
    let cs = components c.args.composite.now in
    let config = c.args.config.now in
    let path = c.args.path in
    subst
    (λ (newest : List Precision). IsAnswer cfa cs config (Unknown (NoNew path newest))
    × IsSpared cfa cs config (Unknown (NoNew path newest)))
    (sym c.replace-precisions.ensures.value)
    (new_answer cfa cs config c.args.search.now path c.requires.search c.requires.leads
    c.requires.refuted c.requires.stand c.requires.more c.requires.none_other)
