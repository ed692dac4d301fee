-- Tests of orders, and sums of the lesser of two numbers.
use Rattle.std.proofs.Common.{◌≡◌, ℤ, pos, ◌+ℤ◌, ◌≤ℤ◌, ◌<ℤ◌, true, false, arith}
use Rattle.std.specs.Prelude.{int_le, int_lt}
use Rattle.std.specs.Int.{int_min}
use Rattle.std.proofs.lemmas.Int.{ints, clamps}

pub le_true : (a b : ℤ) → a ≤ℤ b → int_le a b ≡ true
le_true a b h = grind (arith, ints)

pub le_false : (a b : ℤ) → b <ℤ a → int_le a b ≡ false
le_false a b h = grind (arith, ints)

pub from_le : (a b : ℤ) → int_le a b ≡ true → a ≤ℤ b
from_le a b h = grind (arith, ints)

pub from_not_le : (a b : ℤ) → int_le a b ≡ false → b <ℤ a
from_not_le a b h = grind (arith, ints)

pub lt_true : (a b : ℤ) → a <ℤ b → int_lt a b ≡ true
lt_true a b h = grind (arith, ints)

pub lt_false : (a b : ℤ) → b ≤ℤ a → int_lt a b ≡ false
lt_false a b h = grind (arith, ints)

pub from_lt : (a b : ℤ) → int_lt a b ≡ true → a <ℤ b
from_lt a b h = grind (arith, ints)

pub from_not_lt : (a b : ℤ) → int_lt a b ≡ false → b ≤ℤ a
from_not_lt a b h = grind (arith, ints)

-- the lesser of two numbers is none above them, and each that is above neither is not above it
pub min_left : (a b : ℤ) → int_min a b ≤ℤ a
min_left a b = omega (arith, ints, clamps)

pub min_right : (a b : ℤ) → int_min a b ≤ℤ b
min_right a b = omega (arith, ints, clamps)

pub to_min : (a b c : ℤ) → c ≤ℤ a → c ≤ℤ b → c ≤ℤ int_min a b
to_min a b c h k = omega (arith, ints, clamps)

-- a number that is not above the other one is the lesser
pub min_is : (a b : ℤ) → a ≤ℤ b → int_min a b ≡ a
min_is a b h = omega (arith, ints, clamps)

-- the ways from i to j through l, where those through k are open besides
pub longer_way : (ij il lj ik kj kl lk : ℤ) → ij ≤ℤ (il +ℤ lj) → ik ≤ℤ (il +ℤ lk)
    → kj ≤ℤ (kl +ℤ lj) → pos 0 ≤ℤ (kl +ℤ lk)
    → int_min ij (ik +ℤ kj) ≤ℤ (int_min il (ik +ℤ kl) +ℤ int_min lj (lk +ℤ kj))
longer_way ij il lj ik kj kl lk a b c d = omega (arith, ints, clamps)

-- and those through k itself
pub own_way : (ij ik kj kk : ℤ) → kk ≡ pos 0
    → int_min ij (ik +ℤ kj) ≤ℤ (int_min ik (ik +ℤ kk) +ℤ int_min kj (kk +ℤ kj))
own_way ij ik kj kk none = omega (arith, ints, clamps, none)
