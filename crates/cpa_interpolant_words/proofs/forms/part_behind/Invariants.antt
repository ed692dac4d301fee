-- What is left makes of the form what all edges make of the first one.
use Rattle.std.proofs.Common.{◌≡◌, drop}
use Rattle.cpa_form_rules.specs.Forms.{form_from}
use Rattle.cpa_folds.specs.Along.{acts_along}
use Rattle.cpa_interpolant_rules.specs.Parts.{added_behind, behind_cut}
use Rattle.cpa_interpolant_words.proofs.forms.part_behind.Given as goal

abbrev pub invariant-loop-number : goal.invariant-loop-number
invariant-loop-number l =
    form_from l.form (added_behind (acts_along l.cfa (drop l.number-index l.edges)))
    ≡ behind_cut l.cfa.cells (acts_along l.cfa l.edges)
