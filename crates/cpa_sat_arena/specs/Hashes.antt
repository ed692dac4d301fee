-- The hash of a clause: multiplicative, literal by literal (Knuth, The Art of Computer Programming
-- 3, 6.4).
use Rattle.std.specs.Prelude.{◌≡◌, ℕ, ◌+◌, ◌*◌, ◌%◌, ◌^◌, ◌<◌, ◌≤◌, List, [], ◌∷◌, length}
use Rattle.std.specs.Prelude.{slice_index}
use Rattle.cpa_sat_arena.specs.declared.index.TheConstants.{MULTIPLIER}

unfoldable pub mixed_hash : ℕ → ℕ → ℕ
mixed_hash hash literal = (((hash + literal % 2 ^ 32) % 2 ^ 32) * MULTIPLIER) % 2 ^ 32

abbrev pub hash_from : ℕ → List ℕ → ℕ
hash_from hash [] = hash
hash_from hash (x ∷ xs) = hash_from (mixed_hash hash x) xs

abbrev pub clause_hash : List ℕ → ℕ
clause_hash literals = hash_from 0 literals

-- Chains by bucket over the numbers below `count`, whose hashes are h, in m buckets. A link is a
-- number and one, or 0 at the end. Each number is below the head of its bucket and, if a greater
-- number has the same bucket, below that one's link; links stay in their bucket and lead down.
pub record IsIndexed (h : ℕ → ℕ) (count m : ℕ) (heads nexts : List ℕ) : Type 0 where
  pub buckets : length heads ≡ m
  pub room : length nexts ≡ m
  pub inside : count ≤ m
  pub below : (b : ℕ) → slice_index heads b ≤ count
  pub down : (j : ℕ) → j < count → slice_index nexts j ≤ j
  pub heads_cover : (k : ℕ) → k < count → k < slice_index heads (h k % m)
  pub nexts_cover : (j k : ℕ) → k < j → j < count → h k % m ≡ h j % m → k < slice_index nexts j
  pub heads_stay : (b k : ℕ) → slice_index heads b ≡ k + 1 → h k % m ≡ b
  pub nexts_stay : (j k : ℕ) → j < count → slice_index nexts j ≡ k + 1 → h k % m ≡ h j % m
