-- Marks that grow along a list, and what two marks more come to.
use Rattle.std.proofs.Common.{◌≡◌, ℕ, zero, suc, ◌+◌, ◌<◌, ◌≤◌, Bool, true, false, eqb, get_or}
use Rattle.std.proofs.Common.{List, []}
use Rattle.std.proofs.Common.{◌∷◌, take, length, refl, sym, ap, ◌∙◌, arith}
use Rattle.std.specs.Prelude.{◌||◌, ◌&&◌, replicate}
use Rattle.std.specs.List.{list_any}
use Rattle.std.proofs.lemmas.List.Folds.{list_any_more}
use Rattle.cpa_query.specs.Queries.{is_marked}
use Rattle.cpa_reached.specs.Members.{is_in}

-- no mark is set at first
pub none_marked : (n cell : ℕ) → is_marked (replicate n false) cell ≡ false
none_marked zero cell = refl
none_marked (suc n) zero = refl
none_marked (suc n) (suc cell) = none_marked n cell

pub both_marks : (old here below less : Bool)
    → ((old || (here && less)) || (below && less)) ≡ (old || ((here || below) && less))
both_marks true here below less = refl
both_marks false true true true = refl
both_marks false true true false = refl
both_marks false true false true = refl
both_marks false true false false = refl
both_marks false false below less = refl

-- marks of one item more, by a test of items
pub one_more : {X : Type 0} (t : X → Bool) (xs : List X) (i : ℕ) (x d : X)
    (first old new less : Bool) → i < length xs → x ≡ get_or xs i d
    → old ≡ (first || (list_any t (take i xs) && less))
    → new ≡ (old || (t x && less)) → new ≡ (first || (list_any t (take (i + 1) xs) && less))
one_more t xs i x d first old new less inside at before is =
    is
    ∙ ap (λ (b : Bool). b || (t x && less)) before
    ∙ both_marks first (list_any t (take i xs)) (t x) less
    ∙ ap (λ (b : Bool). first || ((list_any t (take i xs) || b) && less)) (ap t at)
    ∙ ap (λ (b : Bool). first || (b && less)) (sym (list_any_more t xs i d inside))

pub none_more : (first less : Bool) → first ≡ (first || (false && less))
none_more true less = refl
none_more false less = refl

-- a test of items, where another one holds besides
pub any_beside : (ns : List ℕ) (c : ℕ) (k : Bool)
    → list_any (λ m. eqb m c && k) ns ≡ (is_in c ns && k)
any_beside [] c k = refl
any_beside (n ∷ ns) c true = by (eqb n c) (any_beside ns c true)
  where
    by : (b : Bool) → list_any (λ m. eqb m c && true) ns ≡ (is_in c ns && true)
        → ((b && true) || list_any (λ m. eqb m c && true) ns) ≡ ((b || is_in c ns) && true)
    by true rest = refl
    by false rest = rest
any_beside (n ∷ ns) c false = by (eqb n c) (is_in c ns) (any_beside ns c false)
  where
    by : (b d : Bool) → list_any (λ m. eqb m c && false) ns ≡ (d && false)
        → ((b && false) || list_any (λ m. eqb m c && false) ns) ≡ ((b || d) && false)
    by true true rest = rest
    by true false rest = rest
    by false true rest = rest
    by false false rest = rest

pub take_end : {X : Type 0} (xs : List X) (i : ℕ) → length xs ≤ i → take i xs ≡ xs
take_end [] zero over = refl
take_end [] (suc i) over = refl
take_end (x ∷ xs) zero over = absurd (omega (arith, over))
take_end {X} (x ∷ xs) (suc i) over =
    ap (λ (ys : List X). x ∷ ys) (take_end xs i (omega (arith, over)))
