-- The scratch table of the check (this project's own): a mark for each literal.
use Rattle.std.specs.Prelude.{◌≡◌, ℕ, ◌*◌, ◌≤◌, ◌||◌, Bool, true, false, List, [], length}
use Rattle.std.specs.Prelude.{slice_index_or, slice_index, slice_get, Some, ◌/◌, ◌<◌}
use Rattle.std.specs.List.{list_any}
use Rattle.cpa_cnf.specs.declared.formula.Step.{Step}
use Rattle.cpa_cnf.specs.declared.formula.Line.{Line}
use Rattle.cpa_cnf.specs.Clauses.{has, IsClause}
use Rattle.cpa_cnf.specs.Resolution.{clash_on, in_union_without}
use Rattle.cpa_cnf.specs.Lines.{AreBelow, Gives}

abbrev pub marked : List Bool → ℕ → Bool
marked table l = slice_index_or table l false

-- no literal is marked
abbrev pub IsBlank : List Bool → Type 0
IsBlank table = (l : ℕ) → marked table l ≡ false

-- a table of two marks a variable, none of which is set
pub record IsBlankFor (vars : ℕ) (table : List Bool) : Type 0 where
  pub long : length table ≡ 2 * vars
  pub blank : IsBlank table

-- some literal is too great for the table
abbrev pub HasBeyond : List Bool → List ℕ → Type 0
HasBeyond table literals = (l : ℕ) × (length table ≤ l) × (has literals l ≡ true)

-- the marked literals are those of the clause
pub record IsMarkedAs (table : List Bool) (c : List ℕ) : Type 0 where
  pub same : (l : ℕ) → has c l ≡ marked table l
  pub sorted : IsClause c

-- the marks after a resolution of the marked literals with the clause b
pub record IsMarkedResolvent (old : List Bool) (b : List ℕ) (pivot : ℕ) (new : List Bool) : Type 0
  where
    pub literal : ℕ
    pub clash : clash_on (marked old) (has b) pivot ≡ Some literal
    pub union : (l : ℕ) → marked new l ≡ in_union_without (marked old) (has b) literal l

-- the literal stands in the clause that the chain begins with, or in that of one of the steps
abbrev pub is_touched : List (List ℕ) → ℕ → List Step → ℕ → Bool
is_touched clauses first steps l =
    has (slice_index_or clauses first []) l
    || list_any (λ step. has (slice_index_or clauses step.clause []) l) steps

-- the chain ends with a clause, whose literals are marked
abbrev pub Reaches : List (List ℕ) → Line → List Bool → Type 0
Reaches clauses line table =
    (c : List ℕ) × IsMarkedAs table c
    × Gives clauses (slice_index_or clauses line.first []) line.steps c

-- the chain ends with no clause over these variables
abbrev pub ReachesNone : ℕ → List (List ℕ) → Line → Type 0
ReachesNone vars clauses line =
    (c : List ℕ) → AreBelow vars c → Gives clauses (slice_index_or clauses line.first []) line.steps
    c → ⊥

-- only literals of the clauses that the chain names are marked
abbrev pub AreTouched : List (List ℕ) → ℕ → List Step → List Bool → Type 0
AreTouched clauses first steps table = (l : ℕ) → marked table l ≡ true
    → is_touched clauses first steps l ≡ true

-- `IsInRange` by the number of clauses
pub record IsInRangeOf (vars count : ℕ) (line : Line) : Type 0 where
  pub first : line.first < count
  pub steps : (k : ℕ) (step : Step) → slice_get line.steps k ≡ Some step
      → (step.clause < count) × (step.pivot < vars)
  pub variables : (k : ℕ) → k < length line.clause → slice_index line.clause k / 2 < vars
