-- Marks of a set of cells.
use Rattle.std.proofs.Common.{◌≡◌, ℕ, ◌+◌, Bool, false, [], ◌∷◌, ◌++◌, refl}
use Rattle.std.proofs.Common.{ap, ◌∙◌, arith, cond, add-one}
use Rattle.std.specs.Prelude.{zero, suc, replicate}
use Rattle.std.specs.List.{filter, range_with_len}
use Rattle.std.proofs.lemmas.List.Elements.{filter-append}
use Rattle.cpa_query.specs.Queries.{is_marked}

-- the numbers from a on, with one more
range_push : (a n j : ℕ) → a + n ≡ j → range_with_len a (suc n) ≡ range_with_len a n ++ j ∷ []
range_push a zero j is = let here : a ≡ j = omega (arith, is) in ap (λ k. k ∷ []) here
range_push a (suc n) j is = ap (λ l. a ∷ l) (range_push (a + 1) n j (omega (arith, is)))

pub range_more : (n : ℕ) → range_with_len 0 (n + 1) ≡ range_with_len 0 n ++ n ∷ []
range_more n = rw add-one (range_push 0 n n (omega arith))

-- those that pass a test, with one more
pub filter_push : (p : ℕ → Bool) (n : ℕ) (passes : Bool) → p n ≡ passes
    → filter p (range_with_len 0 (n + 1)) ≡ filter p (range_with_len 0 n) ++ cond passes (n ∷ []) []
filter_push p n passes is =
    rw add-one
    (ap (filter p) (range_push 0 n n (omega arith))
    ∙ (filter-append p (range_with_len 0 n) (n ∷ [])
    ∙ ap (λ b. filter p (range_with_len 0 n) ++ cond b (n ∷ []) []) is))

-- no mark is set at first
pub none_marked : (n cell : ℕ) → is_marked (replicate n false) cell ≡ false
none_marked zero cell = refl
none_marked (suc n) zero = refl
none_marked (suc n) (suc cell) = none_marked n cell
