-- What is left makes of the form what the path makes of the first one.
use Rattle.std.proofs.Common.{◌≡◌, drop}
use Rattle.cpa_form_rules.specs.Forms.{form_from}
use Rattle.cpa_path.specs.Paths.{added_along, path_form}
use Rattle.cpa_path.proofs.asking.form_of_path.Given as goal

abbrev pub invariant-loop-number : goal.invariant-loop-number
invariant-loop-number l =
    form_from l.form (added_along l.cfa (drop l.number-index l.path)) ≡ path_form l.cfa l.path
