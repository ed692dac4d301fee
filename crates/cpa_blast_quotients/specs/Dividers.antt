-- Long division of words as natural numbers, from the high bits of the dividend down (Knuth, The
-- Art of Computer Programming 2, 4.3.1, in base 2): what is left so far, with one more bit of the
-- dividend below it, less the divisor where that fits. Literals 0 and 1 are true and false.
use Rattle.std.specs.Prelude.{ℕ, suc, List, [], ◌∷◌, length, take, drop}
use Rattle.cpa_cnf.specs.Literals.{opposite}
use Rattle.cpa_blast_gates.specs.declared.gate.Gate.{Gate}
use Rattle.cpa_blast_gates.specs.Nets.{Built, built, and_in}
use Rattle.cpa_blast_words.specs.declared.rows.Row.TheVariants as row
use Rattle.cpa_blast_words.specs.Walks.{walk}
use Rattle.cpa_blast_words.specs.Words.{opposites, choose_word}
use Rattle.cpa_blast_quotients.specs.declared.dividers.Divided.{Divided}

abbrev pub divided : List ℕ → List ℕ → Divided
divided quotient remainder = record { quotient = quotient; remainder = remainder }

-- whether no bit is true
unfoldable pub no_bit : List Gate → List ℕ → Built ℕ
no_bit net [] = built net 0
no_bit net (x ∷ xs) =
    let rest = no_bit net xs in
    and_in rest.net rest.value (opposite x)

-- one more bit of the dividend, below what stands above; of the divisor, the low part is as long as
-- what is left with that bit, so the divisor fits only where no bit of the high part is true
unfoldable pub stage : List Gate → ℕ → Divided → List ℕ → List ℕ → Built Divided
stage net bit above low high =
    let left = bit ∷ above.remainder in
    let difference = walk row.Sum net 0 left (opposites low) in
    let clear = no_bit difference.net high in
    let fits = and_in clear.net difference.value.carry clear.value in
    let rest = choose_word fits.net fits.value difference.value.bits left in
    built rest.net (divided (fits.value ∷ above.quotient) rest.value)

unfoldable pub divide : List Gate → List ℕ → List ℕ → Built Divided
divide net [] divisor = built net (divided [] [])
divide net (bit ∷ bits) divisor =
    let above = divide net bits divisor in
    let done = suc (length bits) in
    stage above.net bit above.value (take done divisor) (drop done divisor)
