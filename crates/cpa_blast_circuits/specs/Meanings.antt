-- What the circuit of an expression means (this project's own): under each assignment under
-- which the net holds, where the words of the cells stand for the values of a store, the answer
-- is the value of the expression on the store, or a trap; and each assignment of the old net
-- extends to one of the new.
use Rattle.std.specs.Prelude.{◌≡◌, ℕ, ◌*◌, ◌<◌, ℤ, Bool, List, length, map, Option, IfSome}
use Rattle.std.specs.List.{AllByRecursion, AllZip}
use Rattle.std.specs.Option.{is_some}
use Rattle.cpa_ints.specs.declared.integers.IntType.{IntType}
use Rattle.cpa_ints.specs.Integers.{width, IsInRange}
use Rattle.cpa_cnf.specs.Lines.{AreBelow}
use Rattle.cpa_blast_gates.specs.declared.gate.Gate.{Gate}
use Rattle.cpa_blast_gates.specs.Gates.{lit_value}
use Rattle.cpa_blast_gates.specs.Nets.{vars, Holds, Built}
use Rattle.cpa_blast_gates.specs.Meanings.{Grows}
use Rattle.cpa_blast_words.specs.Truths.{values}
use Rattle.cpa_blast_words.specs.Types.{StandsFor}
use Rattle.cpa_expr.specs.declared.tree.Expr.{Expr}
use Rattle.cpa_expr.specs.Shape.{type_of}
use Rattle.cpa_expr.specs.Values.{value_of}
use Rattle.cpa_blast_circuits.specs.declared.answer.Word.{Word}
use Rattle.cpa_blast_circuits.specs.declared.answer.Answer.{Answer}

-- the types of the cells that have these words
abbrev pub types_of : List Word → List IntType
types_of cells = map (λ (w : Word). w.ty) cells

-- each word is as long as its type is wide
abbrev pub AreLong : List Word → Type 0
AreLong cells = AllByRecursion (λ w. length w.bits ≡ width w.ty) cells

-- each word is of literals of the net
abbrev pub AreWordsOf : List Gate → List Word → Type 0
AreWordsOf s cells = AllByRecursion (λ w. AreBelow (vars s) w.bits) cells

-- the words stand for the values of a store in range
abbrev pub HasStore : (ℕ → Bool) → List Word → List ℤ → Type 0
HasStore m cells store =
    AllZip (λ w v. IsInRange w.ty v × StandsFor w.ty (values m w.bits) v) cells store

-- the answer is the value v of type t, or a trap
pub record IsAnswer (m : ℕ → Bool) (t : IntType) (a : Answer) (v : Option ℤ) : Type 0 where
  pub ok : lit_value m a.ok ≡ is_some v
  pub bits : IfSome v (StandsFor t (values m a.bits))

-- what was made from the net s is the answer of the expression over cells with these words
pub record MakesAnswer (cells : List Word) (e : Expr) (s : List Gate) (made : Built Answer) : Type 0
  where
    pub grows : Grows s made.net
    pub bits_below : AreBelow (vars made.net) made.value.bits
    pub ok_below : made.value.ok < 2 * vars made.net
    pub ty : made.value.ty ≡ type_of e
    pub long : length made.value.bits ≡ width (type_of e)
    pub is : (m : ℕ → Bool) (store : List ℤ) → Holds m made.net → HasStore m cells store
        → IsAnswer m (type_of e) made.value (value_of e store)
