use Rattle.std.proofs.Common.{◌≡◌, ◌∷◌, [], ◌++◌, true, set, sym, ap, ◌∙◌}
use Rattle.cpa_cnf.specs.Clauses.{has}
use Rattle.cpa_cnf.specs.Marking.{marked}
use Rattle.cpa_sat_search.specs.declared.analysis.Analysis.{Analysis}
use Rattle.cpa_sat_search.proofs.Marks.{noted_more}
use Rattle.cpa_sat_search.proofs.analysis.Analysis.mark.Goals as goal

pub returns-clause-noted : goal.returns-clause-noted
returns-clause-noted c l h =
    let a = c.args.self.now in
    let x = c.args.literal in
    let marks : c.count.new.self.marks.items ≡ set a.marks.items x true =
    ap (λ (b : Analysis). b.marks.items) c.count.ensures
    ∙ ap (λ i. set a.marks.items i true) c.index-at.ensures in
    let touched : c.push.new.self.items ≡ a.touched.items ++ x ∷ [] =
    c.in_ok-push.ensures.items ∙ ap (λ (b : Analysis). b.touched.items ++ x ∷ []) c.count.ensures in
    ap (λ xs. has xs l) touched
    ∙ noted_more a.marks.items x a.touched.items c.requires.inside c.requires.noted l
    (sym (ap (λ m. marked m l) marks) ∙ h)
