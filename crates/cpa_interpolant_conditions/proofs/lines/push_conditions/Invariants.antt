use Rattle.std.proofs.Common.{◌≡◌, drop}
use Rattle.cpa_interpolant_conditions.specs.Making.{numbered, partials_made}
use Rattle.cpa_interpolant_conditions.proofs.lines.push_conditions.Given as goal

abbrev pub invariant-loop-partial : goal.invariant-loop-partial
invariant-loop-partial l =
    partials_made (numbered l.conditions l.known.items) (drop l.partial-index l.partials)
    ≡ partials_made (numbered l.initial.conditions l.initial.known.items) l.partials
