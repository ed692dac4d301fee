use Rattle.std.proofs.Common.{List, sym, subst}
use Rattle.cpa_iface.specs.declared.entries.Refined.{Refined}
use Rattle.cpa_composite.specs.Composites.{components}
use Rattle.cpa_engine.specs.declared.answers.Answer.TheVariants.{Unknown}
use Rattle.cpa_engine.specs.declared.answers.Why.TheVariants.{Rounds}
use Rattle.cpa_engine.specs.Answers.{IsAnswer}
use Rattle.cpa_engine.specs.Searches.{IsSpared}
use Rattle.cpa_engine.proofs.Ending.{rounds_answer}
use Rattle.cpa_engine.proofs.refining.all_refined.Goals as goal

pub returns : goal.returns
returns g c =
    let cfa = c.args.cfa.now in
    let cs = components c.args.composite.now in
    let config = c.args.config.now in
    let path = c.args.path in
    subst
    (λ (history : List Refined). IsAnswer cfa cs config (Unknown (Rounds path history))
    × IsSpared cfa cs config (Unknown (Rounds path history)))
    (sym c.replace-history.ensures.value)
    (rounds_answer cfa cs config c.args.search.now path c.requires.search c.requires.leads
    c.requires.refuted c.requires.all)
