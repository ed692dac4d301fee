-- The cells of an object, one by one, and their names: what is left to fill makes what the whole
-- makes (`fill_kept`, `fill_done`, `name_kept`, `names_done`).
use Rattle.std.proofs.Common.{◌≡◌, ◌<◌, ◌≤◌, ℕ, zero, suc, ◌+◌, ◌-◌, ℤ, pos, List, [], ◌∷◌, ◌++◌}
use Rattle.std.proofs.Common.{take, length, map, replicate, refl, ap, sym, ◌∙◌, append_assoc}
use Rattle.std.proofs.Common.{append-nil, arith, Option}
use Rattle.cpa_ints.specs.declared.integers.IntType.{IntType}
use Rattle.cpa_model.specs.declared.program.Cell.{Cell}
use Rattle.c_core_rules.specs.Cells.{cell, cells_with}
use Rattle.c_lower_values.specs.Found.{first_value, values_behind}

pub no_value : (values : List ℤ) → length values < 1 → first_value values ≡ pos 0
no_value [] h = refl
no_value (n ∷ ns) h = absurd (omega arith)

pub none_behind : (values : List ℤ) → length values < 1 → values_behind values ≡ values
none_behind [] h = refl
none_behind (n ∷ ns) h = absurd (omega arith)

take_zeros : (n m : ℕ) → n ≤ m → take n (replicate m (pos 0)) ≡ replicate n (pos 0)
take_zeros zero m h = refl
take_zeros (suc n) zero h = absurd (omega arith)
take_zeros (suc n) (suc m) h = ap (λ xs. pos 0 ∷ xs) (take_zeros n m (omega arith))

take_given : (n m : ℕ) (given : List ℤ) → n ≤ m →
    take n (given ++ replicate m (pos 0)) ≡ take n (given ++ replicate n (pos 0))
take_given zero m given h = refl
take_given (suc n) m [] h = take_zeros (suc n) m h ∙ sym (take_zeros (suc n) (suc n) (omega arith))
take_given (suc n) m (x ∷ given) h =
    ap (λ xs. x ∷ xs)
    (take_given n m given (omega arith) ∙ sym (take_given n (suc n) given (omega arith)))

fill_step : (t : IntType) (n : ℕ) (given : List ℤ) →
    cells_with t (suc n) given ≡ cell t (first_value given) ∷ cells_with t n (values_behind given)
fill_step t n [] =
    ap (λ xs. cell t (pos 0) ∷ map (cell t) xs)
    (take_zeros n n (omega arith) ∙ sym (take_zeros n n (omega arith)))
fill_step t n (x ∷ given) =
    ap (λ xs. cell t x ∷ map (cell t) xs) (take_given n (suc n) given (omega arith))

-- a cell more
pub fill_kept : (t : IntType) (before after : List Cell) (n i : ℕ) (given rest : List ℤ)
    (whole : List Cell) → i < n → after ≡ before ++ cell t (first_value given) ∷ [] →
    rest ≡ values_behind given → before ++ cells_with t (n - i) given ≡ whole →
    after ++ cells_with t (n - (i + 1)) rest ≡ whole
fill_kept t before after n i given rest whole h a r w =
    let m = n - (i + 1) in
    let e : n - i ≡ suc m = omega arith in
    ap (λ xs. xs ++ cells_with t m rest) a
    ∙ append_assoc before (cell t (first_value given) ∷ []) (cells_with t m rest)
    ∙ ap (λ ys. before ++ (cell t (first_value given) ∷ cells_with t m ys)) r
    ∙ ap (λ ys. before ++ ys) (sym (fill_step t m given))
    ∙ ap (λ k. before ++ cells_with t k given) (sym e) ∙ w

-- no cell is left
pub fill_done : (t : IntType) (before : List Cell) (n i : ℕ) (given : List ℤ)
    (whole : List Cell) → n ≤ i → before ++ cells_with t (n - i) given ≡ whole → before ≡ whole
fill_done t before n i given whole h w =
    let e : n - i ≡ 0 = omega arith in
    sym (append-nil before)
    ∙ ap (λ k. before ++ cells_with t k given) (sym e) ∙ w

-- a name more
pub name_kept : (x : Option ℕ) (before after : List (Option ℕ)) (n i : ℕ)
    (whole : List (Option ℕ)) → i < n → after ≡ before ++ x ∷ [] →
    before ++ replicate (n - i) x ≡ whole → after ++ replicate (n - (i + 1)) x ≡ whole
name_kept x before after n i whole h a w =
    let m = n - (i + 1) in
    let e : n - i ≡ suc m = omega arith in
    ap (λ xs. xs ++ replicate m x) a ∙ append_assoc before (x ∷ []) (replicate m x)
    ∙ ap (λ k. before ++ replicate k x) (sym e) ∙ w

pub names_done : (x : Option ℕ) (before : List (Option ℕ)) (n i : ℕ)
    (whole : List (Option ℕ)) → n ≤ i → before ++ replicate (n - i) x ≡ whole → before ≡ whole
names_done x before n i whole h w =
    let e : n - i ≡ 0 = omega arith in
    sym (append-nil before) ∙ ap (λ k. before ++ replicate k x) (sym e) ∙ w
