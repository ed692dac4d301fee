-- No two words have one hash, and no two marks: what stands at the place of a spelling's hash is
-- what a search of the table finds.
use Rattle.std.specs.Prelude.{◌≡◌, ℕ, ◌+◌, ◌<◌, Bool, true, false, ◌&&◌, ◌==◌, List, [], ◌∷◌}
use Rattle.std.specs.Prelude.{length}
use Rattle.std.specs.Prelude.{Option, None, Some, find, cond, slice_index, refl}
use Rattle.std.specs.List.{slice_get}
use Rattle.std.specs.Str.{bytes_eq}
use Rattle.std.specs.Cmp.{unsigned_Decides}
use Rattle.std.proofs.Common.{sym, ◌∙◌, ap, arith, zero, suc}
use Rattle.std.proofs.lemmas.Bool.{and_parts}
use Rattle.std.proofs.lemmas.Slice.Eq.{bytes_eq-Decides}
use Rattle.c_grammar_symbols.specs.declared.symbol.Symbol.{Symbol}
use Rattle.c_grammar_symbols.specs.declared.symbol.TheConstants.{WORDS, MARKS}
use Rattle.c_grammar_symbols.specs.declared.lookup.TheConstants.{WORD_PLACES, MARK_PLACES}
use Rattle.c_grammar_symbols.specs.Symbols.{spelling_of, word_spelled, mark_spelled}
use Rattle.c_grammar_symbols.specs.Hashes.{hash, if_spelled, spelled_at}

-- at the hash of each of these symbols stands its number, which is counted on from `i`
abbrev stand : List ℕ → ℕ → List Symbol → Bool
stand places i [] = true
stand places i (x ∷ xs) =
    (slice_index places (hash (spelling_of x)) == i) && stand places (i + 1) xs

-- a symbol that is spelled so has this number
one_number : (places bytes : List ℕ) (n i : ℕ) (x : Symbol) →
    n ≡ slice_index places (hash bytes) →
    (slice_index places (hash (spelling_of x)) == i) ≡ true →
    bytes_eq (spelling_of x) bytes ≡ true → n ≡ i
one_number places bytes n i x at stands same =
    let one = (bytes_eq-Decides (spelling_of x) bytes).0 same in
    at ∙ (ap (λ b. slice_index places (hash b)) (sym one)
    ∙ (unsigned_Decides (slice_index places (hash (spelling_of x))) i).0 stands)

past : (b : Bool) (x : Symbol) (r q : Option Symbol) → (b ≡ true → ⊥) → r ≡ q →
    cond b (Some x) r ≡ q
past true x r q other e = absurd (other refl)
past false x r q other e = e

-- no symbol behind the one of this number is spelled so
none_behind : (places bytes : List ℕ) (n i : ℕ) (xs : List Symbol) →
    n ≡ slice_index places (hash bytes) → n < i → stand places i xs ≡ true →
    find (λ s. bytes_eq (spelling_of s) bytes) xs ≡ None
none_behind places bytes n i [] at less good = refl
none_behind places bytes n i (x ∷ xs) at less good =
    let parts = and_parts (slice_index places (hash (spelling_of x)) == i)
    (stand places (i + 1) xs) good in
    past (bytes_eq (spelling_of x) bytes) x (find (λ s. bytes_eq (spelling_of s) bytes) xs) None
    (λ same. let here = one_number places bytes n i x at parts.0 same in omega (arith, here, less))
    (none_behind places bytes n (i + 1) xs at (omega (arith, less)) parts.1)

-- the symbol of this number is the one that is spelled so, if one is
found : (places bytes : List ℕ) (n i k : ℕ) (xs : List Symbol) →
    n ≡ slice_index places (hash bytes) → n ≡ i + k → stand places i xs ≡ true →
    find (λ s. bytes_eq (spelling_of s) bytes) xs ≡ if_spelled bytes (slice_get xs k)
found places bytes n i k [] at sum good = refl
found places bytes n i zero (x ∷ xs) at sum good =
    let parts = and_parts (slice_index places (hash (spelling_of x)) == i)
    (stand places (i + 1) xs) good in
    ap (cond (bytes_eq (spelling_of x) bytes) (Some x))
    (none_behind places bytes n (i + 1) xs at (omega (arith, sum)) parts.1)
found places bytes n i (suc k) (x ∷ xs) at sum good =
    let parts = and_parts (slice_index places (hash (spelling_of x)) == i)
    (stand places (i + 1) xs) good in
    past (bytes_eq (spelling_of x) bytes) x (find (λ s. bytes_eq (spelling_of s) bytes) xs)
    (if_spelled bytes (slice_get xs k))
    (λ same. let here = one_number places bytes n i x at parts.0 same in omega (arith, here, sum))
    (found places bytes n (i + 1) k xs at (omega (arith, sum)) parts.1)

pub no_empty_word : (bytes : List ℕ) → length bytes ≡ 0 → None ≡ word_spelled bytes
unfolding word_spelled
no_empty_word [] e = refl
no_empty_word (b ∷ bytes) e = absurd (omega (arith, e))

pub no_empty_mark : (bytes : List ℕ) → length bytes ≡ 0 → None ≡ mark_spelled bytes
unfolding mark_spelled
no_empty_mark [] e = refl
no_empty_mark (b ∷ bytes) e = absurd (omega (arith, e))

pub word_found : (bytes : List ℕ) →
    spelled_at WORDS (slice_index WORD_PLACES (hash bytes)) bytes ≡ word_spelled bytes
unfolding word_spelled hash
word_found bytes = let n = slice_index WORD_PLACES (hash bytes) in
    sym (found WORD_PLACES bytes n 0 n WORDS refl (omega arith) refl)

pub mark_found : (bytes : List ℕ) →
    spelled_at MARKS (slice_index MARK_PLACES (hash bytes)) bytes ≡ mark_spelled bytes
unfolding mark_spelled hash
mark_found bytes = let n = slice_index MARK_PLACES (hash bytes) in
    sym (found MARK_PLACES bytes n 0 n MARKS refl (omega arith) refl)
