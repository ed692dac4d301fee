-- Resolution (Robinson 1965) of two clauses on a variable, the pivot.
use Rattle.std.specs.Prelude.{◌≡◌, ℕ, ◌==◌, ◌+◌, ◌*◌, ◌&&◌, ◌||◌, not, Bool, List, Option, Some}
use Rattle.std.specs.Prelude.{None, if◌then◌else◌}
use Rattle.cpa_cnf.specs.Literals.{opposite}
use Rattle.cpa_cnf.specs.Clauses.{has, IsClause}

-- The literal of the pivot on which two sets of literals clash: the positive one where the first
-- has it and the
-- second the negative one, or else the negative one where the first has it and the second the
-- positive one.
abbrev pub clash_on : (ℕ → Bool) → (ℕ → Bool) → ℕ → Option ℕ
clash_on first second pivot =
    if first (2 * pivot) && second (2 * pivot + 1) then Some (2 * pivot)
    else (if first (2 * pivot + 1) && second (2 * pivot) then Some (2 * pivot + 1) else None)

abbrev pub clash_literal : List ℕ → List ℕ → ℕ → Option ℕ
clash_literal a b pivot = clash_on (has a) (has b) pivot

-- what is left of two sets of literals once the first gives up x and the second its opposite
abbrev pub in_union_without : (ℕ → Bool) → (ℕ → Bool) → ℕ → ℕ → Bool
in_union_without first second x l = (first l && not (l == x)) || (second l && not (l == opposite x))

-- The clause that resolution of a and b on the pivot gives: a loses the literal on which they
-- clash, b its opposite,
-- and the union of what is left stays.
pub record IsResolvent (a b : List ℕ) (pivot : ℕ) (r : List ℕ) : Type 0 where
  pub literal : ℕ
  pub clash : clash_literal a b pivot ≡ Some literal
  pub union : (l : ℕ) → has r l ≡ in_union_without (has a) (has b) literal l
  pub sorted : IsClause r
