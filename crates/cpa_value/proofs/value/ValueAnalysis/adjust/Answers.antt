use Rattle.cpa_value.proofs.ValueLaws.{adjusted-laws}
use Rattle.cpa_value.proofs.value.ValueAnalysis.adjust.Goals as goal

pub returns-clause-laws : goal.returns-clause-laws
returns-clause-laws c =
    adjusted-laws c.args.cfa.now c.args.elem.now c.args.precision.now c.args.reached.now
    c.args.place c.in_ok-kept.kept
    c.in_ok-copy_precision.field-0 c.requires.elem c.requires.precision c.in_ok-kept.ensures
    c.in_ok-copy_precision.ensures
