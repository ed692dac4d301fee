-- The read of a cell by an index (C11 6.5.2.1): the words of the cells are halved by each bit of
-- the index in turn, the low bit first, as in a tree of multiplexers.
use Rattle.std.specs.Prelude.{◌≡◌, ℕ, List, [], ◌∷◌, length, map, take, drop, slice_index_or}
use Rattle.std.specs.List.{AllByRecursion}
use Rattle.cpa_ints.specs.declared.integers.IntType.{IntType}
use Rattle.cpa_ints.specs.declared.integers.IntType.TheVariants as ty
use Rattle.cpa_cnf.specs.Literals.{opposite}
use Rattle.cpa_blast_gates.specs.declared.gate.Gate.{Gate}
use Rattle.cpa_blast_gates.specs.Nets.{Built, built, and_in}
use Rattle.cpa_blast_words.specs.Words.{choose_word, less, constant_word, cast_word, filling}
use Rattle.cpa_blast_circuits.specs.declared.answer.Word.{Word}
use Rattle.cpa_blast_circuits.specs.declared.answer.Answer.{Answer}
use Rattle.cpa_blast_circuits.specs.Answers.{answer_of}

-- one more word before others
abbrev pub put_before : List ℕ → Built (List (List ℕ)) → Built (List (List ℕ))
put_before word made = built made.net (word ∷ made.value)

-- of each two words the second where the literal is true, else the first; a last word without
-- another stays
unfoldable pub halved : List Gate → ℕ → List (List ℕ) → Built (List (List ℕ))
halved net bit [] = built net []
halved net bit (w ∷ []) = built net (w ∷ [])
halved net bit (w ∷ v ∷ words) =
    let chosen = choose_word net bit v w in
    put_before chosen.value (halved chosen.net bit words)

-- the first of the words
abbrev pub first_word : List (List ℕ) → List ℕ
first_word words = slice_index_or words 0 []

-- the words are of one length
abbrev pub AreAlike : ℕ → List (List ℕ) → Type 0
AreAlike n words = AllByRecursion (λ w. length w ≡ n) words

-- the word at the number that the bits stand for, the low bit first
unfoldable pub picked : List Gate → List ℕ → List (List ℕ) → Built (List ℕ)
picked net [] words = built net (first_word words)
picked net (bit ∷ bits) words =
    let half = halved net bit words in
    picked half.net bits half.value

-- whether the word of the type stands for a number from 0 to len - 1: its bits as a natural number
-- are below len, and it is not negative
unfoldable pub inside : IntType → ℕ → List Gate → List ℕ → Built ℕ
inside t len net xs =
    let wide = cast_word ty.U64 ty.U64 net xs in
    let below = less wide.net wide.value (constant_word 64 len) in
    and_in below.net below.value (opposite (filling t xs))

-- the bits of len cells from base on
abbrev pub cell_bits : List Word → ℕ → ℕ → List (List ℕ)
cell_bits cells base len = map (λ (w : Word). w.bits) (take len (drop base cells))

unfoldable pub read_in : List Word → IntType → ℕ → ℕ → List Gate → Answer → Built Answer
read_in cells t base len net index =
    let word = picked net index.bits (cell_bits cells base len) in
    let below = inside index.ty len word.net index.bits in
    let ok = and_in below.net index.ok below.value in
    built ok.net (answer_of t word.value ok.value)
