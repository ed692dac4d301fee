-- The places of rows and columns in a list of bounds.
use Rattle.std.proofs.Common.{◌≡◌, ℕ, zero, suc, ◌+◌, ◌*◌, ◌^◌, ◌/◌, ◌%◌, ◌<◌, ◌≤◌, ℤ, pos, List}
use Rattle.std.proofs.Common.{length}
use Rattle.std.proofs.Common.{sym, ap, ◌∙◌, subst, arith}
use Rattle.std.specs.List.{All}
use Rattle.std.proofs.lemmas.Nat.{mul-add-lt, div-mul-add, mod-mul-add, div_below, mod_below}
use Rattle.std.proofs.lemmas.Nat.{mul-le}
use Rattle.std.proofs.lemmas.List.FromFn.{get_or-map-range_with_len, length-map-range_with_len}
use Rattle.std.proofs.lemmas.List.Elements.{All-from_get_or, All-get_or}
use Rattle.cpa_zone_bounds.specs.Distances.{entry, table}

-- the place of a row and a column leads back to them
pub at_place : (n : ℕ) (d : ℕ → ℕ → ℤ) (i j : ℕ) → j < n
    → d ((i * n + j) / n) ((i * n + j) % n) ≡ d i j
at_place n d i j column =
    ap (λ a. d a ((i * n + j) % n)) (div-mul-add i n j column)
    ∙ ap (d i) (mod-mul-add i n j column)

-- the bound in a row and a column of a table is what the table was made of
pub entry-table : (n : ℕ) (d : ℕ → ℕ → ℤ) (i j : ℕ) → i < n → j < n
    → entry n (table n d) i j ≡ d i j
entry-table n d i j row column =
    get_or-map-range_with_len (λ place. d (place / n) (place % n)) 0 (n * n) (i * n + j) (i * n + j)
    (pos 0) (mul-add-lt i n j n row column) (omega arith)
    ∙ at_place n d i j column

pub length-table : (n : ℕ) (d : ℕ → ℕ → ℤ) → length (table n d) ≡ n * n
length-table n d = length-map-range_with_len (λ place. d (place / n) (place % n)) 0 (n * n)

pub some_rows : (n place : ℕ) → place < n * n → 0 < n
some_rows zero place h = absurd (omega arith)
some_rows (suc n) place h = omega arith

-- what holds of what a table is made of holds of its bounds
pub all_table : (P : ℤ → Type 0) (n : ℕ) (d : ℕ → ℕ → ℤ)
    → ((i j : ℕ) → i < n → j < n → P (d i j)) → All P (table n d)
all_table P n d h = All-from_get_or P (table n d) (pos 0) (λ k less.
    let within : k < n * n = subst (λ m. k < m) (length-table n d) less in
    let some = some_rows n k within in
    subst P
    (sym (get_or-map-range_with_len (λ place. d (place / n) (place % n)) 0 (n * n) k k (pos 0)
    within (omega arith)))
    (h (k / n) (k % n) (div_below k n n some within) (mod_below k n some)))

-- what holds of each bound holds of the one in a row and a column
pub at_entry : (P : ℤ → Type 0) (n : ℕ) (most : List ℤ) (i j : ℕ) → length most ≡ n * n → i < n
    → j < n → All P most → P (entry n most i j)
at_entry P n most i j long row column all =
    All-get_or P most (i * n + j) (pos 0)
    (subst (λ m. i * n + j < m) (sym long) (mul-add-lt i n j n row column)) all

-- a place among at most 17 rows is a place of the list, and no number on the way is too large
pub place_inside : (n i j : ℕ) (most : List ℤ) → length most ≡ n * n → i < n → j < n
    → i * n + j < length most
place_inside n i j most long row column =
    subst (λ m. i * n + j < m) (sym long) (mul-add-lt i n j n row column)

square_fits : (n : ℕ) → n ≤ 17 → n * n ≤ 289
square_fits n few = mul-le n n 17 17 few few

pub row_fits : (n i : ℕ) → n ≤ 17 → i < n → i * n < 2 ^ 64
row_fits n i few row =
    let inner = mul-add-lt i n 0 n row (omega arith) in
    let whole = square_fits n few in omega (arith, inner, whole)

pub place_fits : (n i j : ℕ) → n ≤ 17 → i < n → j < n → i * n + j < 2 ^ 64
place_fits n i j few row column =
    let inner = mul-add-lt i n j n row column in
    let whole = square_fits n few in omega (arith, inner, whole)

pub all_fit : (n : ℕ) → n ≤ 17 → n * n < 2 ^ 64
all_fit n few = let whole = square_fits n few in omega (arith, whole)

pub ruleset place_rules = (place_inside, row_fits, place_fits, all_fit)
