-- What is made from a net for an operator on numbers: a word that stands for the operator's value
-- wherever there is one, and a literal that tells whether there is one. None is a trap (C11 6.5).
use Rattle.std.specs.Prelude.{◌≡◌, ℕ, ◌*◌, ◌<◌, ℤ, Bool, List, length, Option, Some}
use Rattle.std.specs.Option.{is_some}
use Rattle.cpa_ints.specs.declared.integers.IntType.{IntType}
use Rattle.cpa_ints.specs.Integers.{width, IsInRange}
use Rattle.cpa_cnf.specs.Lines.{AreBelow}
use Rattle.cpa_blast_gates.specs.declared.gate.Gate.{Gate}
use Rattle.cpa_blast_gates.specs.Gates.{lit_value}
use Rattle.cpa_blast_gates.specs.Nets.{vars, IsScoped, Holds, Built}
use Rattle.cpa_blast_gates.specs.Meanings.{Grows}
use Rattle.cpa_blast_words.specs.Truths.{values, number}
use Rattle.cpa_blast_words.specs.Types.{StandsFor}

-- a word of n literals made from the net s stands for the number f
pub record MakesNumber (s : List Gate) (made : Built (List ℕ)) (n : ℕ) (f : (ℕ → Bool) → ℕ)
    : Type 0
  where
    pub grows : Grows s made.net
    pub below : AreBelow (vars made.net) made.value
    pub long : length made.value ≡ n
    pub is : (m : ℕ → Bool) → Holds m made.net → number (values m made.value) ≡ f m

-- two words stand for the numbers a of type t and b of type u
pub record AreOperands (t u : IntType) (xs ys : List Bool) (a b : ℤ) : Type 0 where
  pub left_range : IsInRange t a
  pub right_range : IsInRange u b
  pub left : StandsFor t xs a
  pub right : StandsFor u ys b

-- the literals xs and ys of the net s are words of these types
pub record AreWords (t u : IntType) (s : List Gate) (xs ys : List ℕ) : Type 0 where
  pub scoped : IsScoped s
  pub left_below : AreBelow (vars s) xs
  pub right_below : AreBelow (vars s) ys
  pub left_long : length xs ≡ width t
  pub right_long : length ys ≡ width u

-- the word made from s stands for the value f, where there is one, of the numbers of xs and ys
pub record MakesValue (t u : IntType) (f : ℤ → ℤ → Option ℤ) (s : List Gate) (xs ys : List ℕ)
    (made : Built (List ℕ)) : Type 0
  where
    pub grows : Grows s made.net
    pub below : AreBelow (vars made.net) made.value
    pub long : length made.value ≡ width t
    pub is : (m : ℕ → Bool) (a b c : ℤ) → Holds m made.net
        → AreOperands t u (values m xs) (values m ys) a b → f a b ≡ Some c
        → StandsFor t (values m made.value) c

-- the literal made from s is true where the numbers of xs and ys have a value f, and false where
-- they have none
pub record TestsValue (t u : IntType) (f : ℤ → ℤ → Option ℤ) (s : List Gate) (xs ys : List ℕ)
    (made : Built ℕ) : Type 0
  where
    pub grows : Grows s made.net
    pub below : made.value < 2 * vars made.net
    pub is : (m : ℕ → Bool) (a b : ℤ) → Holds m made.net
        → AreOperands t u (values m xs) (values m ys) a b
        → lit_value m made.value ≡ is_some (f a b)
