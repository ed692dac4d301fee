-- Parts of a program's statements, with what follows them (this project's own).
use Rattle.std.specs.Prelude.{◌≡◌, ℕ, Some}
use Rattle.cpa_model.specs.declared.program.Stmt.{Stmt}
use Rattle.cpa_model.specs.declared.program.Program.{Program}
use Rattle.cpa_model.specs.declared.program.Successor.{Successor}
use Rattle.cpa_model.specs.Programs.{IsStmt, after_part}

-- c is a part of the statement b, and control goes there after it
abbrev pub IsPartAt : Program → ℕ → ℕ → Successor → Type 0
IsPartAt P b c place = (s : Stmt) × IsStmt P b s × (after_part b s c ≡ Some place)
