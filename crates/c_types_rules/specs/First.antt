-- The first of faults: at the least place, and there of the lowest rule (this project's own).
use Rattle.std.specs.Prelude.{◌≡◌, nat_lt, Bool, true, false}
use Rattle.std.specs.Prelude.{if◌then◌else◌, List, [], ◌∷◌, ◌++◌, Option, None, Some, refl}
use Rattle.c_lexer.specs.Rules.{rule_number}
use Rattle.c_lexer.specs.declared.fault.TextFault.{TextFault}

-- at a lesser place, or at the same place by a lower rule
abbrev pub comes_before : TextFault → TextFault → Bool
comes_before fault other =
    if nat_lt fault.place other.place then true
    else if nat_lt other.place fault.place then false
    else nat_lt (rule_number fault.rule) (rule_number other.rule)

-- of a fault that is held and another one the first
abbrev pub first_of_two : Option TextFault → TextFault → Option TextFault
first_of_two None fault = Some fault
first_of_two (Some held) fault = if comes_before fault held then Some fault else Some held

-- of a fault that is held and these the first
abbrev pub first_with : Option TextFault → List TextFault → Option TextFault
first_with held [] = held
first_with held (fault ∷ faults) = first_with (first_of_two held fault) faults

-- faults one after the other
pub first_append : (held : Option TextFault) (xs ys : List TextFault) →
    first_with held (xs ++ ys) ≡ first_with (first_with held xs) ys
first_append held [] ys = refl
first_append held (x ∷ xs) ys = first_append (first_of_two held x) xs ys
