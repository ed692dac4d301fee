-- What a judged path is, and when each answer comes (this project's own).
use Rattle.std.specs.Prelude.{◌≡◌, ℕ, ◌<◌, ◌≤◌, List, length, IsTrue}
use Rattle.cpa_model.specs.declared.automaton.Cfa.{Cfa}
use Rattle.cpa_model.specs.declared.program.Program.{Program}
use Rattle.cpa_model.specs.Automata.{IsAutomatonOf}
use Rattle.cpa_model.specs.Programs.{IsWellFormed}
use Rattle.cpa_sat.specs.Outcomes.{IsSpent}
use Rattle.cpa_blast.specs.Formulas.{formula}
use Rattle.cpa_path.specs.Paths.{HasNoRun, ReplaysAlong, Chains, has_input, path_weight, path_form}
use Rattle.cpa_path.specs.declared.judging.Judged.{Judged}
use Rattle.cpa_path.specs.declared.judging.Judged.TheVariants.{Run, NoRun, Learnt, Gates}

-- The path is put to a solver, if its weight allows it: it chains, and some edge is an input.
pub record WantsSolver (cfa : Cfa) (path : List ℕ) : Type 0 where
  pub chains : Chains cfa path
  pub input : IsTrue (has_input cfa path)

-- A judged path: the inputs and the number of steps of a run along it, exactly those that the run
-- takes; there is no run; as many lines as were allowed, over the formula of the path's query; or
-- its weight, which is above what was allowed.
abbrev pub IsJudged : Cfa → List ℕ → ℕ → ℕ → Judged → Type 0
IsJudged cfa path learnt gates (Run inputs steps) =
    (steps ≡ length path)
    × ((P : Program) → IsWellFormed P → IsAutomatonOf P cfa
    → ReplaysAlong P cfa path inputs.items steps)
IsJudged cfa path learnt gates NoRun = HasNoRun cfa path
IsJudged cfa path learnt gates (Learnt lines) =
    WantsSolver cfa path × (path_weight cfa path ≤ gates)
    × IsSpent (formula (path_form cfa path).query) learnt lines.items
IsJudged cfa path learnt gates (Gates weight) =
    WantsSolver cfa path × (gates < weight) × (weight ≡ path_weight cfa path)
