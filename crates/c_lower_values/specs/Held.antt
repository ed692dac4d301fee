-- The operands rule by how many operands with statements are left (`c_core_rules`,
-- `specs/Acts.antt`).
use Rattle.std.specs.Prelude.{ℕ, ◌+◌, ◌-◌, ◌==◌, true, false, if◌then◌else◌, List, [], ◌∷◌}
use Rattle.c_core_rules.specs.declared.tree.Valued.{Valued}
use Rattle.c_core_rules.specs.Cells.{Rule, gives}
use Rattle.c_core_rules.specs.Acts.{is_pure, held}

-- how many of these have statements
abbrev pub full_count : List Valued → ℕ
full_count [] = 0
full_count (v ∷ vs) = elim (is_pure v) [ true ↦ full_count vs | false ↦ full_count vs + 1 ]

-- how many of them stand behind the first
abbrev pub left_behind : ℕ → Valued → ℕ
left_behind n v = if is_pure v then n else n - 1

-- a value, held where some behind it have statements
abbrev pub held_where : ℕ → ℕ → Valued → Rule Valued
held_where origin n v = if n == 0 then gives v else held origin v
