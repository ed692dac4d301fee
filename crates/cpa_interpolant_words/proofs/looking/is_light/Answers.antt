-- The parts of the first cut.
use Rattle.std.proofs.Common.{ℕ, ◌≤◌, List, ap, ◌∙◌, subst}
use Rattle.std.proofs.lemmas.Bool.{leb-true}
use Rattle.cpa_expr.specs.declared.tree.Expr.{Expr}
use Rattle.cpa_form_rules.specs.Forms.{Form}
use Rattle.cpa_folds.specs.Along.{acts_along}
use Rattle.cpa_interpolant_rules.specs.Interpolants.{one}
use Rattle.cpa_interpolant_rules.specs.Parts.{before_cut, behind_cut, weight_of}
use Rattle.cpa_interpolant_rules.specs.lemmas.Paths.{whole_rest}
use Rattle.cpa_interpolant_words.proofs.Whole.{light_first}
use Rattle.cpa_interpolant_words.proofs.looking.is_light.Goals as goal

pub returns : goal.returns
returns c = λ yes.
    let cfa = c.args.cfa.now in
    let path = c.args.path.now in
    light_first cfa c.args.gates path c.requires.path (λ g at.
    let first = c.in_ok-before.ensures g at
    ∙ ap (λ (e : Expr). before_cut cfa.cells e g.act) (c.get.ensures ∙ c.in_ok-one.ensures) in
    let rest = c.in_ok-behind.ensures
    ∙ ap (λ (ns : List ℕ). behind_cut cfa.cells (acts_along cfa ns)) (whole_rest path 1) in
    subst (λ (w : ℕ). w ≤ c.args.gates)
    (c.weight_of.ensures
    ∙ (ap (λ (f : Form). weight_of f c.in_ok-behind.behind) first
    ∙ ap (λ (f : Form). weight_of (before_cut cfa.cells one g.act) f) rest))
    (leb-true c.weight_of.result c.args.gates yes))
