-- A word moved by n places, the low bit first, with a filling item where none comes to stand; it
-- keeps its length (C11 6.5.7).
use Rattle.std.specs.Prelude.{ℕ, List, ◌++◌, length, take, drop, replicate}
use Rattle.cpa_blast_arithmetic.specs.declared.moves.Direction.{Direction}
use Rattle.cpa_blast_arithmetic.specs.declared.moves.Direction.TheVariants as toward

abbrev pub moved : {A : Type 0} → Direction → ℕ → A → List A → List A
moved toward.Left n filling xs = take (length xs) (replicate n filling ++ xs)
moved toward.Right n filling xs = drop n (xs ++ replicate n filling)
