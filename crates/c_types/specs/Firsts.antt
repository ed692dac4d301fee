-- The first of the faults of which something holds (this project's own).
use Rattle.std.specs.Prelude.{Option, None, Some}
use Rattle.c_lexer.specs.declared.fault.TextFault.{TextFault}
use Rattle.c_types_rules.specs.Sound.{NotBehind}

-- None where it holds of no fault, and else one behind which none comes first
abbrev pub FindsFirst : (TextFault → Type 0) → Option TextFault → Type 0
FindsFirst holds None = (fault : TextFault) → holds fault → ⊥
FindsFirst holds (Some found) =
    holds found × ((fault : TextFault) → holds fault → NotBehind found fault)
