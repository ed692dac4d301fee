-- One cell has a value, or the cells of an array have none.
use Rattle.std.proofs.Common.{◌≡◌, ℕ, ◌+◌, ℤ, List, refl, ap, arith}
use Rattle.std.specs.Prelude.{zero, suc, Option, None, slice_set}
use Rattle.cpa_value_changes.specs.Acts.{forgotten}
use Rattle.cpa_value_changes.specs.Tables.{filled}

pub one_filled : (cell : ℕ) (value : Option ℤ) (cells : List (Option ℤ))
    → filled cell 1 value cells ≡ slice_set cells cell value
one_filled cell value cells =
    let here : cell + 0 ≡ cell = omega arith in ap (λ c. slice_set cells c value) here

pub all_forgotten : (base len : ℕ) (cells : List (Option ℤ))
    → filled base len None cells ≡ forgotten base len cells
all_forgotten base zero cells = refl
all_forgotten base (suc len) cells =
    ap (λ l. slice_set l (base + len) None) (all_forgotten base len cells)
