-- The product of two words, as in writing: a word masked by the low bit of the other, and the
-- product with the other bits one place higher (Knuth, The Art of Computer Programming 2, 4.3.1).
-- Each row is as long as is left of the result.
use Rattle.std.specs.Prelude.{ℕ, ◌-◌, List, [], ◌∷◌, length, take, replicate}
use Rattle.cpa_blast_gates.specs.declared.gate.Gate.{Gate}
use Rattle.cpa_blast_gates.specs.Nets.{Built, built}
use Rattle.cpa_blast_words.specs.Words.{and_word, sum_word}

-- the word where the literal is true, else nothing
unfoldable pub masked_word : List Gate → ℕ → List ℕ → Built (List ℕ)
masked_word net y xs = and_word net xs (replicate (length xs) y)

-- a literal below a word
abbrev pub below_word : ℕ → Built (List ℕ) → Built (List ℕ)
below_word low made = built made.net (low ∷ made.value)

-- the sum of a word and a word that stands one place higher; literal 1 is false
unfoldable pub added_word : List Gate → List ℕ → List ℕ → Built (List ℕ)
added_word net [] above = built net []
added_word net (low ∷ rest) above = below_word low (sum_word net 1 rest above)

-- all literals but the top one
abbrev pub front : List ℕ → List ℕ
front xs = take (length xs - 1) xs

unfoldable pub product : List Gate → List ℕ → List ℕ → Built (List ℕ)
product net xs [] = built net []
product net xs (y ∷ ys) =
    let above = product net (front xs) ys in
    let row = masked_word above.net y xs in
    added_word row.net row.value above.value
