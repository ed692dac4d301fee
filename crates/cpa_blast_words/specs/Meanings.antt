-- What a walk and a word made from a net mean (this project's own): each assignment of the old
-- net extends to one of the new net, and each of these gives the bits their values.
use Rattle.std.specs.Prelude.{◌≡◌, ℕ, ◌*◌, ◌<◌, Bool, List}
use Rattle.cpa_cnf.specs.Lines.{AreBelow}
use Rattle.cpa_blast_gates.specs.declared.gate.Gate.{Gate}
use Rattle.cpa_blast_gates.specs.Gates.{lit_value}
use Rattle.cpa_blast_gates.specs.Nets.{vars, Holds, Built}
use Rattle.cpa_blast_gates.specs.Meanings.{Grows}
use Rattle.cpa_blast_words.specs.declared.rows.Row.{Row}
use Rattle.cpa_blast_words.specs.declared.rows.Column.{Column}
use Rattle.cpa_blast_words.specs.declared.walks.Walked.{Walked}
use Rattle.cpa_blast_words.specs.Truths.{values, row_bit, row_carry, walked_bits, walked_carry}

-- a column means what the row makes of the literals c, x and y
pub record IsColumn (s : List Gate) (made : Built Column) (row : Row) (c x y : ℕ) : Type 0 where
  pub grows : Grows s made.net
  pub bit_below : made.value.bit < 2 * vars made.net
  pub carry_below : made.value.carry < 2 * vars made.net
  pub bit : (m : ℕ → Bool) → Holds m made.net → lit_value m made.value.bit
      ≡ row_bit row (lit_value m c) (lit_value m x) (lit_value m y)
  pub carry : (m : ℕ → Bool) → Holds m made.net → lit_value m made.value.carry
      ≡ row_carry row (lit_value m c) (lit_value m x) (lit_value m y)

-- a walk means what the row makes along the words xs and ys, from the carry c on
pub record IsWalk (s : List Gate) (made : Built Walked) (row : Row) (c : ℕ) (xs ys : List ℕ)
    : Type 0
  where
    pub grows : Grows s made.net
    pub bits_below : AreBelow (vars made.net) made.value.bits
    pub carry_below : made.value.carry < 2 * vars made.net
    pub bits : (m : ℕ → Bool) → Holds m made.net → values m made.value.bits
        ≡ walked_bits row (lit_value m c) (values m xs) (values m ys)
    pub carry : (m : ℕ → Bool) → Holds m made.net → lit_value m made.value.carry
        ≡ walked_carry row (lit_value m c) (values m xs) (values m ys)

-- a word made from the net s has the values f
pub record MakesWord (s : List Gate) (made : Built (List ℕ)) (f : (ℕ → Bool) → List Bool) : Type 0
  where
    pub grows : Grows s made.net
    pub below : AreBelow (vars made.net) made.value
    pub is : (m : ℕ → Bool) → Holds m made.net → values m made.value ≡ f m
