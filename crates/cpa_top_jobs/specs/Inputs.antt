-- The numbers of an inputs file: a JSON list (RFC 8259, section 5) of whole numbers of 64 bits.
-- Which data a text is, and which numbers are whole, is as serde_json has it.
use Rattle.std.specs.Prelude.{◌≡◌, ◌⊎◌, ℕ, ℤ, List, [], ◌∷◌, Option, Some, option_map}
use Rattle.std.specs.Prelude.{option_and_then, IsUtf8}
use Rattle.std.specs.List.{AllByRecursion}
use Rattle.cpa_ints.specs.declared.integers.IntType.TheVariants.{I64, U64}
use Rattle.cpa_ints.specs.Integers.{IsInRange}
use Rattle.serde_json.specs.Data.{Data, Items, no_items, item}
use Rattle.serde_json.specs.Find.{as_array, as_integer, as_number}
use Rattle.serde_json.specs.Read.{read}

-- the whole number that the data is: none where serde_json holds it as a float
abbrev pub whole_number : Data → Option ℤ
whole_number d = option_and_then as_integer (as_number d)

-- a number in front of others
abbrev pub in_front : ℤ → Option (List ℤ) → Option (List ℤ)
in_front n ns = option_map (λ more. n ∷ more) ns

-- the whole numbers that the items are, where each is one
abbrev pub whole_numbers : Items → Option (List ℤ)
whole_numbers no_items = Some []
whole_numbers (item d ds) = option_and_then (λ n. in_front n (whole_numbers ds)) (whole_number d)

-- the whole numbers of the data, where it is a list of them
abbrev pub numbers_in : Data → Option (List ℤ)
numbers_in d = option_and_then whole_numbers (as_array d)

-- a number from -2^63 to 2^64 - 1
abbrev pub IsInput : ℤ → Type 0
IsInput n = IsInRange I64 n ⊎ IsInRange U64 n

-- the bytes are a JSON list of these numbers
pub record IsInputs (bytes : List ℕ) (numbers : List ℤ) : Type 0 where
  pub utf8 : IsUtf8 bytes
  pub list : option_and_then numbers_in (read bytes) ≡ Some numbers
  pub range : AllByRecursion IsInput numbers
