use Rattle.std.proofs.Common.{◌≡◌, ◌-◌}
use Rattle.cpa_blast.specs.Formulas.{with_inputs}
use Rattle.cpa_blast.proofs.places.add_inputs.Given as goal

abbrev pub invariant-add : goal.invariant-add
invariant-add l = with_inputs (l.count - l._added) l.net ≡ with_inputs l.count l.initial.net
