-- The clauses of a net (Tseitin 1968): those of its gates, from the oldest one on, behind the
-- clause by which variable 0 is true. A model of them is an assignment under which the net holds.
use Rattle.std.specs.Prelude.{ℕ, ◌*◌, ◌==◌, nat_lt, Bool, false, List, [], ◌∷◌, ◌++◌}
use Rattle.std.specs.Prelude.{map, slice_index_or, if◌then◌else◌}
use Rattle.cpa_cnf.specs.Literals.{opposite}
use Rattle.cpa_blast_gates.specs.declared.gate.Gate.{Gate}
use Rattle.cpa_blast_gates.specs.declared.gate.Gate.TheVariants as of
use Rattle.cpa_blast_gates.specs.Nets.{vars}

-- the ascending list with one more literal, each literal once
abbrev pub with_literal : ℕ → List ℕ → List ℕ
with_literal l [] = l ∷ []
with_literal l (x ∷ xs) =
    if nat_lt l x then l ∷ x ∷ xs else (if l == x then x ∷ xs else x ∷ with_literal l xs)

-- the clause of these literals
abbrev pub clause_of : List ℕ → List ℕ
clause_of [] = []
clause_of (l ∷ ls) = with_literal l (clause_of ls)

-- the literal l is as a and b where these are alike
abbrev pub two_sided : ℕ → ℕ → ℕ → List (List ℕ)
two_sided l a b = (l ∷ opposite a ∷ opposite b ∷ []) ∷ (opposite l ∷ a ∷ b ∷ []) ∷ []

-- where the test is true, the literal l is as a
abbrev pub chosen : ℕ → ℕ → ℕ → List (List ℕ)
chosen l test a =
    (l ∷ opposite test ∷ opposite a ∷ []) ∷ (opposite l ∷ opposite test ∷ a ∷ []) ∷ []

-- what a gate with the literal l says, as lists of literals of which one is true
abbrev pub gate_lists : ℕ → Gate → List (List ℕ)
gate_lists l of.Input = []
gate_lists l (of.And a b) =
    (opposite l ∷ a ∷ [])
    ∷ (opposite l ∷ b ∷ [])
    ∷ (l ∷ opposite a ∷ opposite b ∷ [])
    ∷ []
gate_lists l (of.Xor a b) =
    (opposite l ∷ a ∷ b ∷ [])
    ∷ (opposite l ∷ opposite a ∷ opposite b ∷ [])
    ∷ (l ∷ opposite a ∷ b ∷ [])
    ∷ (l ∷ a ∷ opposite b ∷ [])
    ∷ []
gate_lists l (of.Majority a b c) = two_sided l a b ++ two_sided l a c ++ two_sided l b c
gate_lists l (of.Choice a b c) = chosen l a b ++ chosen l (opposite a) c ++ two_sided l b c

abbrev pub gate_clauses : ℕ → Gate → List (List ℕ)
gate_clauses l g = map clause_of (gate_lists l g)

abbrev pub clauses_of : List Gate → List (List ℕ)
clauses_of [] = (0 ∷ []) ∷ []
clauses_of (g ∷ net) = clauses_of net ++ gate_clauses (2 * vars net) g

-- the assignment of these values; a variable without a value is false
abbrev pub assigned : List Bool → ℕ → Bool
assigned values v = slice_index_or values v false
