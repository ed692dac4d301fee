use Rattle.std.proofs.Common.{◌≡◌, List, true, map, sym, ◌∙◌, subst}
use Rattle.cpa_iface.specs.declared.merging.Pick.{Pick}
use Rattle.cpa_composite.specs.Components.{picked}
use Rattle.cpa_composite.specs.Covers.{all_cover}
use Rattle.cpa_composite.specs.lemmas.CoverLaws.{cover_within}
use Rattle.cpa_composite.proofs.composite.Composite.covered_by.Goals as goal

pub returns-clause-within : goal.returns-clause-within
returns-clause-within g c = λ many long yes.
    let ms = map g.A.Analysis.meaning c.args.self.now.handed.items in
    let es = c.args.elems.now in
    let fs = c.args.other.now in
    cover_within (picked ms c.args.self.now.picks.items) es fs many long
    (subst (λ (l : List Pick). all_cover (picked ms l) es fs ≡ true) c.deref.ensures.value
    (sym c.covered_by.ensures.value ∙ yes))
