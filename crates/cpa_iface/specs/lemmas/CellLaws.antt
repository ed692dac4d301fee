-- What is known of a list by how many of its cells stand at their own places: each of these
-- (`stands_own`), the whole list where all are (`all_same`), that a greater cell can stand behind
-- them alone (`behind_own`), and that they are no more than there are (`own_within`).
use Rattle.std.proofs.Common.{◌≡◌, ℕ, zero, suc, ◌+◌, ◌<◌, ◌≤◌, Bool, true, false, List, [], ◌∷◌}
use Rattle.std.proofs.Common.{length, drop, refl, sym, ap, ◌∙◌, arith, cond}
use Rattle.std.specs.Prelude.{Some, slice_get, ◌==◌, ◌||◌}
use Rattle.std.specs.List.{list_any}
use Rattle.std.proofs.lemmas.Bool.{eqb-true, ne_eqb}
use Rattle.cpa_iface.specs.Cells.{consecutive_from, own_places}

here : (n cell : ℕ) (cells : List ℕ) (b : Bool) → (b ≡ true → cell ≡ n)
    → ((k : ℕ) → k < consecutive_from (n + 1) cells → slice_get cells k ≡ Some (n + 1 + k))
    → (k : ℕ) → k < cond b (suc (consecutive_from (n + 1) cells)) 0
    → slice_get (cell ∷ cells) k ≡ Some (n + k)
here n cell cells false is rest k less = absurd (omega (arith, less))
here n cell cells true is rest zero less =
    let e = is refl in
    ap Some (let same : cell ≡ n + 0 = omega (arith, e) in same)
here n cell cells true is rest (suc k) less =
    rest k (omega (arith, less)) ∙ ap Some (let e : n + 1 + k ≡ n + suc k = omega arith in e)

from_here : (n : ℕ) (cells : List ℕ) (k : ℕ) → k < consecutive_from n cells
    → slice_get cells k ≡ Some (n + k)
from_here n [] k less = absurd (omega (arith, less))
from_here n (cell ∷ cells) k less =
    here n cell cells (cell == n) (eqb-true cell n) (from_here (n + 1) cells) k less

pub stands_own : (cells : List ℕ) (cell : ℕ) → cell < own_places cells
    → slice_get cells cell ≡ Some cell
stands_own cells cell less =
    from_here 0 cells cell less ∙ ap Some (let e : 0 + cell ≡ cell = omega arith in e)

both : (n x y : ℕ) (xs ys : List ℕ) (a b : Bool) → (a ≡ true → x ≡ n) → (b ≡ true → y ≡ n)
    → (consecutive_from (n + 1) xs ≡ length xs → consecutive_from (n + 1) ys ≡ length ys → xs ≡ ys)
    → cond a (suc (consecutive_from (n + 1) xs)) 0 ≡ suc (length xs)
    → cond b (suc (consecutive_from (n + 1) ys)) 0 ≡ suc (length ys) → x ∷ xs ≡ y ∷ ys
both n x y xs ys false b is has rest own other = absurd (omega (arith, own))
both n x y xs ys true false is has rest own other = absurd (omega (arith, other))
both n x y xs ys true true is has rest own other =
    ap (λ z. z ∷ xs) (is refl ∙ sym (has refl))
    ∙ ap (λ zs. y ∷ zs) (rest (omega (arith, own)) (omega (arith, other)))

same_from : (n : ℕ) (xs ys : List ℕ) → length xs ≡ length ys → consecutive_from n xs ≡ length xs
    → consecutive_from n ys ≡ length ys → xs ≡ ys
same_from n [] [] same own other = refl
same_from n [] (y ∷ ys) same own other = absurd (omega (arith, same))
same_from n (x ∷ xs) [] same own other = absurd (omega (arith, same))
same_from n (x ∷ xs) (y ∷ ys) same own other =
    both n x y xs ys (x == n) (y == n) (eqb-true x n) (eqb-true y n)
    (same_from (n + 1) xs ys (omega (arith, same))) own other

pub all_same : (xs ys : List ℕ) → own_places xs ≡ length xs → own_places ys ≡ length ys
    → length xs ≡ length ys → xs ≡ ys
all_same xs ys own other same = same_from 0 xs ys same own other

behind : (n own cell : ℕ) (cells : List ℕ) (b : Bool) → (b ≡ true → own ≡ n)
    → (n + 1 + consecutive_from (n + 1) cells ≤ cell
    → list_any (λ o. o == cell) (drop (consecutive_from (n + 1) cells) cells)
    ≡ list_any (λ o. o == cell) cells)
    → n + cond b (suc (consecutive_from (n + 1) cells)) 0 ≤ cell
    → list_any (λ o. o == cell)
    (drop (cond b (suc (consecutive_from (n + 1) cells)) 0) (own ∷ cells))
    ≡ list_any (λ o. o == cell) (own ∷ cells)
behind n own cell cells false is rest above = refl
behind n own cell cells true is rest above =
    let e = is refl in
    rest (omega (arith, above))
    ∙ sym (ap (λ b. b || list_any (λ o. o == cell) cells)
    (ne_eqb own cell (λ same. omega (arith, above, e, same))))

not_before : (n : ℕ) (cells : List ℕ) (cell : ℕ) → n + consecutive_from n cells ≤ cell
    → list_any (λ own. own == cell) (drop (consecutive_from n cells) cells)
    ≡ list_any (λ own. own == cell) cells
not_before n [] cell above = refl
not_before n (own ∷ cells) cell above =
    behind n own cell cells (own == n) (eqb-true own n) (not_before (n + 1) cells cell) above

pub behind_own : (cells : List ℕ) (cell : ℕ) → own_places cells ≤ cell
    → list_any (λ own. own == cell) (drop (own_places cells) cells)
    ≡ list_any (λ own. own == cell) cells
behind_own cells cell above = not_before 0 cells cell (omega (arith, above))

within : (n : ℕ) (cells : List ℕ) → consecutive_from n cells ≤ length cells
within n [] = omega arith
within n (cell ∷ cells) =
    let rest = within (n + 1) cells in
    by (cell == n) (consecutive_from (n + 1) cells) (length cells) rest
  where
    by : (b : Bool) (k m : ℕ) → k ≤ m → cond b (suc k) 0 ≤ suc m
    by true k m less = omega (arith, less)
    by false k m less = omega arith

pub own_within : (cells : List ℕ) → own_places cells ≤ length cells
own_within cells = within 0 cells
