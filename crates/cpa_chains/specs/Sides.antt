-- The two sides of a formula's clauses, A and B, and the variables that they share (McMillan,
-- Interpolation and SAT-Based Model Checking, CAV 2003).
use Rattle.std.specs.Prelude.{ℕ, ◌/◌, ◌==◌, ◌&&◌, not, Bool, true, false, List, [], ◌∷◌}
use Rattle.std.specs.Prelude.{if◌then◌else◌}
use Rattle.std.specs.List.{list_any}
use Rattle.cpa_cnf.specs.declared.formula.Cnf.{Cnf}

-- the same side, where true is A
abbrev pub is_side : Bool → Bool → Bool
is_side true other = other
is_side false other = not other

-- the clauses of one side
abbrev pub clauses_on : Bool → List Bool → List (List ℕ) → List (List ℕ)
clauses_on side [] clauses = []
clauses_on side (s ∷ ss) [] = []
clauses_on side (s ∷ ss) (c ∷ cs) =
    if is_side side s then c ∷ clauses_on side ss cs else clauses_on side ss cs

-- the clause has a literal of the variable
abbrev pub has_variable : List ℕ → ℕ → Bool
has_variable clause x = list_any (λ l. l / 2 == x) clause

-- a clause of this side has the variable
abbrev pub stands_on : Bool → Cnf → List Bool → ℕ → Bool
stands_on side cnf sides x = list_any (λ c. has_variable c x) (clauses_on side sides cnf.clauses)

-- No clause of B has the variable.
abbrev pub is_local : Cnf → List Bool → ℕ → Bool
is_local cnf sides x = not (stands_on false cnf sides x)

-- Clauses of both sides have the variable.
abbrev pub is_shared : Cnf → List Bool → ℕ → Bool
is_shared cnf sides x = stands_on true cnf sides x && stands_on false cnf sides x
