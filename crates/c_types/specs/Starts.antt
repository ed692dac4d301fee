-- The names of what starts at some values, in order (`Sound.antt` of `c_types_rules`).
use Rattle.std.specs.Prelude.{ℕ, List, map}
use Rattle.c_types_rules.specs.Sound.{Start}

abbrev pub start_names : List Start → List (List ℕ)
start_names starts = map (λ start. start.name) starts
