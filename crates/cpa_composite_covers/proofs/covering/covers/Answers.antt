use Rattle.std.proofs.Common.{◌∙◌, ap}
use Rattle.cpa_iface.specs.Meanings.{Meaning}
use Rattle.cpa_composite_covers.specs.lemmas.PickLaws.{meant}
use Rattle.cpa_composite_covers.proofs.covering.covers.Goals as goal

pub returns : goal.returns
returns g c = λ k is.
    c.covered_by.ensures
    ∙ ap (λ (m : Meaning). m.cover c.args.elem.now c.args.other.now)
    (meant g.A.Analysis.meaning c.args.handed.now.items c.args.pick.now k c.index.result.now
    c.requires
    c.index.ensures is)
