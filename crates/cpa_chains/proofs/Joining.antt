-- Clauses of B behind clauses of A.
use Rattle.std.proofs.Common.{◌≡◌, ℕ, true, false, List, [], ◌∷◌, ◌++◌, length, replicate, refl, ap}
use Rattle.cpa_chains.specs.Sides.{clauses_on}

none_first : (back : List (List ℕ)) → clauses_on true (replicate (length back) false) back ≡ []
none_first [] = refl
none_first (c ∷ cs) = none_first cs

all_second : (back : List (List ℕ)) → clauses_on false (replicate (length back) false) back ≡ back
all_second [] = refl
all_second (c ∷ cs) = ap (λ (ds : List (List ℕ)). c ∷ ds) (all_second cs)

pub first_side : (front back : List (List ℕ)) → clauses_on true
    (replicate (length front) true ++ replicate (length back) false) (front ++ back) ≡ front
first_side [] back = none_first back
first_side (c ∷ cs) back = ap (λ (ds : List (List ℕ)). c ∷ ds) (first_side cs back)

pub second_side : (front back : List (List ℕ)) → clauses_on false
    (replicate (length front) true ++ replicate (length back) false) (front ++ back) ≡ back
second_side [] back = all_second back
second_side (c ∷ cs) back = second_side cs back
