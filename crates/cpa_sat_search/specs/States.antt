-- The state of a search (this project's own).
use Rattle.std.specs.Prelude.{◌≡◌, ◌≢◌, ℕ, ◌<◌, ◌≤◌, ◌-◌, ◌+◌, ◌*◌, ◌^◌, List, [], length, take}
use Rattle.std.specs.Prelude.{slice_index_or, MatchOption}
use Rattle.std.specs.List.{AllByRecursion}
use Rattle.cpa_cnf.specs.declared.formula.Cnf.{Cnf}
use Rattle.cpa_cnf.specs.declared.formula.Line.{Line}
use Rattle.cpa_cnf.specs.Clauses.{IsClause}
use Rattle.cpa_cnf.specs.Lines.{AreGood, IsGoodLine, IsRefutation, known}
use Rattle.cpa_sat_search.specs.declared.engine.Learned.{Learned}
use Rattle.cpa_sat_search.specs.declared.engine.Search.{Search}
use Rattle.cpa_sat_search.specs.declared.engine.Turn.{Turn}
use Rattle.cpa_sat_search.specs.declared.engine.Turn.TheVariants.{Again, Satisfied, Refuted, Spent}
use Rattle.cpa_sat_arena.specs.declared.literal.TheConstants.{NO_CLAUSE}
use Rattle.cpa_sat_search.specs.Analyses.{IsIdle}
use Rattle.cpa_sat_trail.specs.Findings.{AreSatisfied}
use Rattle.cpa_sat_search.specs.Fresh.{AreNew}
use Rattle.cpa_sat_trail.specs.Progress.{Asserts, IsSound, progress}

-- clauses, lines and analysis are as before
pub record IsAsBut (s t : Search) : Type 0 where
  pub arena : t.arena ≡ s.arena
  pub lines : t.lines.items ≡ s.lines.items
  pub analysis : t.analysis ≡ s.analysis

-- What a search keeps: the trail is justified by the formula and the lines, which are good, new and
-- not empty.
pub record IsState (cnf : Cnf) (s : Search) : Type 0 where
  pub sound : IsSound s.arena s.trail
  pub vars : s.trail.vars ≡ cnf.vars
  pub analysis_vars : s.analysis.vars ≡ cnf.vars
  pub idle : IsIdle s.analysis
  pub clauses : s.arena ≡ known cnf s.lines.items
  pub few : length s.arena < NO_CLAUSE
  pub good : AreGood cnf s.lines.items
  pub fresh : AreNew cnf s.lines.items
  pub filled : AllByRecursion (λ (line : Line). line.clause ≢ []) s.lines.items

-- How far the search is from its end: the lines that it may still write, and what the trail may
-- still rise.
abbrev pub rank : ℕ → Search → ℕ
rank learnt s = (learnt - length s.lines.items) * 3 ^ s.trail.vars +
    (3 ^ s.trail.vars - progress s.trail)

-- how a turn ends
abbrev pub IsTurned : Cnf → ℕ → Search → Search → Turn → Type 0
IsTurned cnf learnt s t Again = IsState cnf t × (length t.lines.items ≤ learnt)
    × (rank learnt t < rank learnt s)
IsTurned cnf learnt s t Satisfied = IsState cnf t × AreSatisfied t.arena t.trail
IsTurned cnf learnt s t Refuted = IsRefutation cnf t.lines.items × (length t.lines.items ≤ learnt)
IsTurned cnf learnt s t Spent = IsState cnf t × (length t.lines.items ≡ learnt)

-- a line that can be learned, and the jump that it forces; the empty clause forces none
pub record IsLearned (cnf : Cnf) (s : Search) (learned : Learned) : Type 0 where
  pub good : IsGoodLine cnf.vars s.arena learned.line
  pub sorted : IsClause learned.line.clause
  pub jump : MatchOption learned.jump (learned.line.clause ≡ [])
      (Asserts learned.line.clause s.trail)

-- trail, clauses and lines are as before
pub record IsAsButAnalysis (s t : Search) : Type 0 where
  pub arena : t.arena ≡ s.arena
  pub trail : t.trail ≡ s.trail
  pub lines : t.lines.items ≡ s.lines.items

-- the clause of the number
abbrev pub IsNumberOf : List (List ℕ) → List ℕ → ℕ → Type 0
IsNumberOf clauses clause number = (number < length clauses)
    × (slice_index_or clauses number [] ≡ clause)

-- the clauses of a formula, of which so many are loaded
pub record AreLoaded (cnf : Cnf) (count : ℕ) (arena : List (List ℕ)) : Type 0 where
  pub clauses : arena ≡ take count cnf.clauses
  pub sorted : (k : ℕ) → IsClause (slice_index_or (take count cnf.clauses) k [])
  pub few : length arena < NO_CLAUSE
