use Rattle.std.proofs.Common.{map, sym, ◌∙◌}
use Rattle.cpa_composite_covers.specs.Components.{picked}
use Rattle.cpa_composite_covers.specs.lemmas.CoverLaws.{cover_within}
use Rattle.cpa_composite_covers.proofs.covering.covered_by.Goals as goal

pub returns-clause-within : goal.returns-clause-within
returns-clause-within g c = λ many long yes.
    let cs = picked (map g.A.Analysis.meaning c.args.handed.now.items) c.args.picks.now in
    cover_within cs c.args.elems.now c.args.other.now many long (sym c.each_covers.ensures ∙ yes)
