-- What contracts see of a meaning that the typed tree keeps.
use Rattle.std.specs.Prelude.{ℤ, Option, None, Some}
use Rattle.c_types_rules.specs.declared.meaning.Meaning.{Meaning}
use Rattle.c_types_rules.specs.declared.meaning.Meaning.TheVariants as meaning
use Rattle.c_types_rules.specs.declared.named.HeldNumber.{HeldNumber}
use Rattle.c_types_rules.specs.declared.named.HeldNumber.TheVariants as number
use Rattle.c_types_rules.specs.declared.named.HeldLength.{HeldLength}
use Rattle.c_types_rules.specs.declared.named.HeldLength.TheVariants as lengths
use Rattle.c_types_rules.specs.declared.named.Held.{Held}
use Rattle.c_types_rules.specs.declared.named.Held.TheVariants as held

-- the number
abbrev pub number_of_held : HeldNumber → ℤ
number_of_held (number.Short n) = n
number_of_held (number.Long n) = n

-- the length
abbrev pub length_of_held : HeldLength → Option ℤ
length_of_held lengths.Scalar = None
length_of_held (lengths.Short n) = Some n
length_of_held (lengths.Long n) = Some n

-- the meaning
abbrev pub meaning_of_held : Held → Option Meaning
meaning_of_held held.Undeclared = None
meaning_of_held (held.Object type constant number place length) = Some (meaning.Object (record {
  number = number;
  ty = type;
  length = length_of_held length;
  is_const = constant;
  place = place;
}))
meaning_of_held (held.Function function) = Some (meaning.Function function)
meaning_of_held (held.Known function) = Some (meaning.Known function)
meaning_of_held (held.Enumerator value) = Some (meaning.Enumerator (number_of_held value))
