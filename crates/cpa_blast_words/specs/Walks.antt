-- A row along two words, from the low bits on (this project's own): the bits, and what is
-- carried out.
use Rattle.std.specs.Prelude.{ℕ, List, [], ◌∷◌}
use Rattle.cpa_blast_gates.specs.declared.gate.Gate.{Gate}
use Rattle.cpa_blast_gates.specs.Nets.{Built, built}
use Rattle.cpa_blast_words.specs.declared.rows.Row.{Row}
use Rattle.cpa_blast_words.specs.declared.walks.Walked.{Walked}
use Rattle.cpa_blast_words.specs.Rows.{row_in}

abbrev pub walked_of : List ℕ → ℕ → Walked
walked_of bits carry = record { bits = bits; carry = carry }

-- one more low bit of a walk
abbrev pub with_low : ℕ → Built Walked → Built Walked
with_low bit made = built made.net (walked_of (bit ∷ made.value.bits) made.value.carry)

-- the walk ends with the shorter word
unfoldable pub walk : Row → List Gate → ℕ → List ℕ → List ℕ → Built Walked
walk row net c [] ys = built net (walked_of [] c)
walk row net c (x ∷ xs) [] = built net (walked_of [] c)
walk row net c (x ∷ xs) (y ∷ ys) =
    let made = row_in row net c x y in
    with_low made.value.bit (walk row made.net made.value.carry xs ys)
