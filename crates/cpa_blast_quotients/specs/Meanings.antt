-- What a divider and a sign made from a net mean (this project's own): division with remainder
-- of natural numbers, and the two's complement.
use Rattle.std.specs.Prelude.{◌≡◌, ◌≢◌, ℕ, ◌+◌, ◌-◌, ◌*◌, ◌%◌, ◌^◌, ◌<◌, ℤ, pos, neg_ℤ, Bool, List}
use Rattle.std.specs.Prelude.{length, if◌then◌else◌}
use Rattle.cpa_cnf.specs.Lines.{AreBelow}
use Rattle.cpa_blast_gates.specs.declared.gate.Gate.{Gate}
use Rattle.cpa_blast_gates.specs.Nets.{vars, Holds, Built}
use Rattle.cpa_blast_gates.specs.Meanings.{Grows}
use Rattle.cpa_blast_words.specs.Truths.{values, number}
use Rattle.cpa_blast_quotients.specs.declared.dividers.Divided.{Divided}

-- d goes q times into a, and r is left
pub record Divides (d a q r : ℕ) : Type 0 where
  pub whole : a ≡ q * d + r
  pub smaller : r < d

-- what is made from the net s divides, where the divisor is not 0, the number of the first word by
-- that of the second
pub record MakesDivision (s : List Gate) (xs ys : List ℕ) (made : Built Divided) : Type 0 where
  pub grows : Grows s made.net
  pub quotient_below : AreBelow (vars made.net) made.value.quotient
  pub remainder_below : AreBelow (vars made.net) made.value.remainder
  pub quotient_long : length made.value.quotient ≡ length xs
  pub remainder_long : length made.value.remainder ≡ length xs
  pub is : (m : ℕ → Bool) → Holds m made.net → number (values m ys) ≢ 0
      → Divides (number (values m ys)) (number (values m xs))
      (number (values m made.value.quotient)) (number (values m made.value.remainder))

-- the two's complement of a word of n bits where the sign is true
abbrev pub signed_number : Bool → ℕ → ℕ → ℕ
signed_number sign n k = if sign then (2 ^ n - k) % 2 ^ n else k

-- the number of this sign and magnitude
abbrev pub signed : Bool → ℕ → ℤ
signed sign k = if sign then neg_ℤ (pos k) else pos k
