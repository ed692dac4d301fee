-- What blocks hold with one more of them, and which facts the first and the others of them are.
use Rattle.std.proofs.Common.{◌≡◌, ℕ, zero, suc, ◌+◌, ◌-◌, ◌*◌, ◌<◌, ◌≤◌, List, [], ◌∷◌, ◌++◌}
use Rattle.std.proofs.Common.{Bool, true, false}
use Rattle.std.proofs.Common.{refl, sym, ap, subst, ◌∙◌, arith, take, drop, length, get_or}
use Rattle.std.proofs.lemmas.List.{append-nil, append_assoc, length-append}
use Rattle.std.proofs.lemmas.List.{drop_more}
use Rattle.std.specs.Prelude.{IsTrue, ◌↔◌}
use Rattle.cpa_facts.specs.declared.fact.Fact.{Fact}
use Rattle.cpa_facts.specs.Blocks.{joined, AreFilled, AreFull}

-- ---- one block more

pub joined_push : {X : Type 0} (blocks : List (List X)) (block : List X)
    → joined (blocks ++ block ∷ []) ≡ joined blocks ++ block
joined_push [] block = append-nil block
joined_push (xs ∷ blocks) block =
    ap (λ l. xs ++ l) (joined_push blocks block) ∙ sym (append_assoc xs (joined blocks) block)

-- with no facts behind it
pub pushed : {X : Type 0} (blocks new : List (List X)) (block rest : List X)
    → new ≡ blocks ++ block ∷ [] → rest ≡ [] → joined new ++ rest ≡ joined blocks ++ block
pushed blocks new block rest is none =
    ap (λ l. joined new ++ l) none ∙ (append-nil (joined new)
    ∙ (ap joined is ∙ joined_push blocks block))

-- a shared one, where none stand behind the blocks
pub shared_last : {X : Type 0} (blocks new before : List (List X))
    (copy block rest behind old : List X) → new ≡ blocks ++ copy ∷ [] → copy ≡ block → rest ≡ []
    → joined blocks ++ rest ≡ joined before ++ behind → joined before ++ behind ≡ old
    → joined new ≡ old ++ block
shared_last blocks new before copy block rest behind old is same none kept whole =
    ap joined is
    ∙ (joined_push blocks copy
    ∙ (ap (λ b. joined blocks ++ b) same
    ∙ ap (λ l. l ++ block)
    (sym (append-nil (joined blocks))
    ∙ (ap (λ l. joined blocks ++ l) (sym none) ∙ (kept ∙ whole)))))

pub shared : {X : Type 0} (blocks new before : List (List X))
    (copy block rest behind old : List X) → new ≡ blocks ++ copy ∷ [] → copy ≡ block → rest ≡ []
    → joined blocks ++ rest ≡ joined before ++ behind → joined before ++ behind ≡ old
    → joined new ++ rest ≡ old ++ block
shared blocks new before copy block rest behind old is same none kept whole =
    ap (λ l. joined new ++ l) none
    ∙ (append-nil (joined new)
    ∙ shared_last blocks new before copy block rest behind old is same none kept whole)

pub full_length : (blocks : List (List Fact)) → AreFull blocks
    → length (joined blocks) ≡ 16 * length blocks
full_length [] full = refl
full_length (block ∷ blocks) full =
    let here = full.0 in
    let rest = full_length blocks full.1 in
    let sum = length-append block (joined blocks) in
    omega (arith, here, rest, sum)

pub all_facts : (blocks : List (List Fact)) (rest : List Fact) (count : ℕ) → AreFull blocks
    → count ≡ 16 * length blocks + length rest → count ≡ length (joined blocks ++ rest)
all_facts blocks rest count full is =
    let sum = length-append (joined blocks) rest in
    let front = full_length blocks full in
    omega (arith, is, sum, front)

pub full_filled : (blocks : List (List Fact)) → AreFull blocks → AreFilled blocks
full_filled [] full = tt
full_filled (block ∷ blocks) full =
    let here = full.0 in
    (omega (arith, here), omega (arith, here), (λ _. here), full_filled blocks full.1)

-- what is not empty has a fact
pub some_rest : (rest last : List Fact) (is_empty : Bool) → (IsTrue is_empty ↔ (rest ≡ []))
    → is_empty ≡ false → last ≡ rest → 0 < length last
some_rest [] last is_empty none some same =
    let yes : is_empty ≡ true = none.1 refl in
    absurd (cc)
some_rest (fact ∷ rest) last is_empty none some same =
    let long = ap length same in
    omega (arith, long)

pub filled_last : (blocks new : List (List Fact)) (last : List Fact) → AreFull blocks
    → 0 < length last → length last ≤ 16 → new ≡ blocks ++ last ∷ [] → AreFilled new
filled_last [] new last full some few is =
    subst AreFilled (sym is) (some, few, (λ more. absurd (omega (arith, more))), tt)
filled_last (block ∷ blocks) new last full some few is =
    let here = full.0 in
    subst AreFilled (sym is) (
      omega (arith, here),
      omega (arith, here),
      (λ _. here),
      filled_last blocks (blocks ++ last ∷ []) last full.1 some few refl,
    )

-- ---- the first facts and the others

pub take_parts : {X : Type 0} (n : ℕ) (xs ys : List X)
    → take n (xs ++ ys) ≡ take n xs ++ take (n - length xs) ys
take_parts zero [] ys = ap (λ k. take k ys) (let e : 0 ≡ 0 - 0 = omega arith in e)
take_parts (suc n) [] ys = ap (λ k. take k ys) (let e : suc n ≡ suc n - 0 = omega arith in e)
take_parts zero (x ∷ xs) ys =
    ap (λ k. take k ys) (let e : 0 ≡ 0 - suc (length xs) = omega arith in e)
take_parts (suc n) (x ∷ xs) ys =
    let e : n - length xs ≡ suc n - suc (length xs) = omega arith in
    ap (λ l. x ∷ l) (take_parts n xs ys ∙ ap (λ k. take n xs ++ take k ys) e)

pub drop_parts : {X : Type 0} (n : ℕ) (xs ys : List X)
    → drop n (xs ++ ys) ≡ drop n xs ++ drop (n - length xs) ys
drop_parts zero [] ys = ap (λ k. drop k ys) (let e : 0 ≡ 0 - 0 = omega arith in e)
drop_parts (suc n) [] ys = ap (λ k. drop k ys) (let e : suc n ≡ suc n - 0 = omega arith in e)
drop_parts zero (x ∷ xs) ys =
    let e : 0 ≡ 0 - suc (length xs) = omega arith in
    ap (λ k. (x ∷ xs) ++ drop k ys) e
drop_parts (suc n) (x ∷ xs) ys =
    let e : n - length xs ≡ suc n - suc (length xs) = omega arith in
    drop_parts n xs ys ∙ ap (λ k. drop n xs ++ drop k ys) e

-- ---- one block more of those that are gone through

next_block : {X : Type 0} (blocks : List (List X)) (i : ℕ) (block : List X) → i < length blocks
    → block ≡ get_or blocks i block → drop i blocks ≡ block ∷ drop (i + 1) blocks
next_block blocks i block less is =
    drop_more blocks i block less ∙ ap (λ b. b ∷ drop (i + 1) blocks) (sym is)

pub front_more : {X : Type 0} (blocks : List (List X)) (i : ℕ) (block old new whole : List X)
    (left after : ℕ) → i < length blocks → block ≡ get_or blocks i block
    → new ≡ old ++ take left block → after ≡ left - length block
    → old ++ take left (joined (drop i blocks)) ≡ whole
    → new ++ take after (joined (drop (i + 1) blocks)) ≡ whole
front_more blocks i block old new whole left after more here is less so_far =
    let rest = joined (drop (i + 1) blocks) in
    ap (λ l. l ++ take after rest) is
    ∙ (append_assoc old (take left block) (take after rest)
    ∙ (ap (λ n. old ++ (take left block ++ take n rest)) less
    ∙ (ap (λ l. old ++ l) (sym (take_parts left block rest))
    ∙ (ap (λ bs. old ++ take left (joined bs)) (sym (next_block blocks i block more here))
    ∙ so_far))))

pub behind_more : {X : Type 0} (blocks : List (List X)) (i : ℕ) (block old new whole : List X)
    (left after : ℕ) → i < length blocks → block ≡ get_or blocks i block
    → new ≡ old ++ drop left block → after ≡ left - length block
    → old ++ drop left (joined (drop i blocks)) ≡ whole
    → new ++ drop after (joined (drop (i + 1) blocks)) ≡ whole
behind_more blocks i block old new whole left after more here is less so_far =
    let rest = joined (drop (i + 1) blocks) in
    ap (λ l. l ++ drop after rest) is
    ∙ (append_assoc old (drop left block) (drop after rest)
    ∙ (ap (λ n. old ++ (drop left block ++ drop n rest)) less
    ∙ (ap (λ l. old ++ l) (sym (drop_parts left block rest))
    ∙ (ap (λ bs. old ++ drop left (joined bs)) (sym (next_block blocks i block more here))
    ∙ so_far))))

-- and fewer are left to be passed over
pub fewer_left : {X : Type 0} (blocks : List (List X)) (i : ℕ) (block : List X)
    (left after all : ℕ) → i < length blocks → block ≡ get_or blocks i block
    → after ≡ left - length block → left - length (joined (drop i blocks)) ≡ all
    → after - length (joined (drop (i + 1) blocks)) ≡ all
fewer_left blocks i block left after all more here less so_far =
    let rest = joined (drop (i + 1) blocks) in
    let is = ap (λ bs. length (joined bs)) (next_block blocks i block more here) in
    let sum = length-append block rest in
    omega (arith, less, so_far, is, sum)

-- the last block is gone through behind the others
pub behind_last : {X : Type 0} (blocks front : List (List X)) (last old new made : List X)
    (count left : ℕ) → blocks ≡ front ++ last ∷ [] → new ≡ old ++ drop count (joined front)
    → left ≡ count - length (joined front) → made ≡ new ++ drop left last
    → made ≡ old ++ drop count (joined blocks)
behind_last blocks front last old new made count left are is less made_of =
    made_of
    ∙ (ap (λ l. l ++ drop left last) is
    ∙ (append_assoc old (drop count (joined front)) (drop left last)
    ∙ (ap (λ n. old ++ (drop count (joined front) ++ drop n last)) less
    ∙ (ap (λ l. old ++ l) (sym (drop_parts count (joined front) last))
    ∙ ap (λ l. old ++ drop count l) (sym (joined_push front last) ∙ sym (ap joined are))))))
