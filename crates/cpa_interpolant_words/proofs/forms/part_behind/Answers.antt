use Rattle.std.proofs.Common.{◌≡◌, ◌+◌, ℕ, List, drop, get_or, ap, ◌∙◌, subst}
use Rattle.std.proofs.lemmas.List.{drop_more}
use Rattle.cpa_form_rules.specs.Forms.{Form, form_from}
use Rattle.cpa_folds.specs.Along.{acts_along}
use Rattle.cpa_interpolant_rules.specs.Parts.{added_behind, behind_cut}
use Rattle.cpa_interpolant_words.proofs.Edges.{edge_at, form_on}
use Rattle.cpa_interpolant_words.proofs.forms.part_behind.Goals as goal

pub loop-number-preserved : goal.loop-number-preserved
loop-number-preserved c =
    let cfa = c.args.cfa.now in
    let xs = c.args.edges.now in
    let at = c.loop-number in
    let i = at.number-index in
    let rest = drop (i + 1) xs in
    let edge = edge_at cfa xs i c.loop-number-test.true c.requires.path in
    ap (λ (f : Form). form_from f (added_behind (acts_along cfa rest)))
    (c.in_ok-take_edge.ensures.ok edge.0 edge.1)
    ∙ form_on cfa (get_or xs i 0) rest edge.0 at.form edge.1
    ∙ subst (λ (ns : List ℕ). form_from at.form (added_behind (acts_along cfa ns))
    ≡ behind_cut cfa.cells (acts_along cfa xs)) (drop_more xs i 0 c.loop-number-test.true)
    at.invariant
