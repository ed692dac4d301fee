-- Lines of new clauses (this project's own).
use Rattle.std.specs.Prelude.{◌≡◌, ◌≢◌, ℕ, ◌<◌, List, [], length, take, slice_get, slice_index_or}
use Rattle.std.specs.Prelude.{Some}
use Rattle.cpa_cnf.specs.declared.formula.Cnf.{Cnf}
use Rattle.cpa_cnf.specs.declared.formula.Line.{Line}
use Rattle.cpa_cnf.specs.Lines.{known}

-- Each line's clause stands neither in the formula nor in an earlier line.
abbrev pub AreNew : Cnf → List Line → Type 0
AreNew cnf log =
    (i : ℕ) (line : Line) → slice_get log i ≡ Some line
    → (k : ℕ) → k < length (known cnf (take i log))
    → slice_index_or (known cnf (take i log)) k [] ≢ line.clause
