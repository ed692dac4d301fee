-- That a fact is found by the number of its block and its place there, and how many facts blocks
-- have.
use Rattle.std.proofs.Common.{◌≡◌, ℕ, zero, suc, ◌+◌, ◌*◌, ◌/◌, ◌%◌, ◌<◌, ◌≤◌, List, [], ◌∷◌, ◌++◌}
use Rattle.std.proofs.Common.{refl, sym, ap, subst, ◌∙◌, arith, length, slice_get}
use Rattle.std.proofs.lemmas.List.{append-nil, length-append}
use Rattle.std.proofs.lemmas.Option.{slice_get_past}
use Rattle.cpa_facts.specs.declared.fact.Fact.{Fact}
use Rattle.cpa_facts.specs.Blocks.{joined, AreFilled, fact_in}

-- ---- what stands at a place

in_front : {X : Type 0} (xs ys : List X) (n : ℕ) → n < length xs
    → slice_get (xs ++ ys) n ≡ slice_get xs n
in_front [] ys n less = absurd (omega (arith, less))
in_front (x ∷ xs) ys zero less = refl
in_front (x ∷ xs) ys (suc n) less = in_front xs ys n (omega (arith, less))

behind : {X : Type 0} (xs ys : List X) (n at : ℕ) → at ≡ length xs + n
    → slice_get (xs ++ ys) at ≡ slice_get ys n
behind [] ys n at is = ap (slice_get ys) (let e : at ≡ n = omega (arith, is) in e)
behind (x ∷ xs) ys n zero is = absurd (omega (arith, is))
behind (x ∷ xs) ys n (suc at) is = behind xs ys n at (omega (arith, is))

placed : (blocks : List (List Fact)) (k n at : ℕ) → AreFilled blocks → n < 16 → at ≡ 16 * k + n
    → slice_get (joined blocks) at ≡ fact_in (slice_get blocks k) n
placed [] k n at filled less is = refl
placed (block ∷ []) zero n at filled less is =
    ap (λ l. slice_get l at) (append-nil block)
    ∙ ap (slice_get block) (let e : at ≡ n = omega (arith, is) in e)
placed (block ∷ []) (suc k) n at filled less is =
    let few : length block ≤ 16 = filled.1 in
    ap (λ l. slice_get l at) (append-nil block)
    ∙ slice_get_past block at (omega (arith, is, few))
placed (block ∷ other ∷ blocks) zero n at filled less is =
    let long : length block ≡ 16 = filled.2 (omega arith) in
    in_front block (joined (other ∷ blocks)) at (omega (arith, is, less, long))
    ∙ ap (slice_get block) (let e : at ≡ n = omega (arith, is) in e)
placed (block ∷ other ∷ blocks) (suc k) n at filled less is =
    let long : length block ≡ 16 = filled.2 (omega arith) in
    behind block (joined (other ∷ blocks)) (16 * k + n) at (omega (arith, is, long))
    ∙ placed (other ∷ blocks) k n (16 * k + n) filled.3 less refl

split : (at : ℕ) → at ≡ 16 * (at / 16) + at % 16
split at = omega arith

below : (at : ℕ) → at % 16 < 16
below at = omega arith

-- the fact is found in its block, and none where there is no such block
pub found : (blocks : List (List Fact)) (at : ℕ) → AreFilled blocks
    → fact_in (slice_get blocks (at / 16)) (at % 16) ≡ slice_get (joined blocks) at
found blocks at filled = sym (placed blocks (at / 16) (at % 16) at filled (below at) (split at))

-- ---- how many facts there are

-- all blocks but the last are full
filled_length : (front : List (List Fact)) (last : List Fact) → AreFilled (front ++ last ∷ [])
    → length (joined (front ++ last ∷ [])) ≡ 16 * length front + length last
filled_length [] last filled = let e = ap length (append-nil last) in omega (arith, e)
filled_length (block ∷ front) last filled =
    let sum = length-append block (joined (front ++ last ∷ [])) in
    let rest = filled_length front last filled.3 in
    let more = length-append front (last ∷ []) in
    let long : length block ≡ 16 = filled.2 (omega (arith, more)) in
    omega (arith, sum, rest, long)

pub length_filled : (blocks front : List (List Fact)) (last : List Fact) → AreFilled blocks
    → blocks ≡ front ++ last ∷ [] → length (joined blocks) ≡ 16 * length front + length last
length_filled blocks front last filled is =
    ap (λ bs. length (joined bs)) is ∙ filled_length front last (subst AreFilled is filled)
