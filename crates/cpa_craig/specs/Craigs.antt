-- The analysis of predicates that come of interpolants (Cartesian predicates: CAV 1997, TACAS 2001;
-- interpolants along paths: McMillan, CAV 2006; this project's own).
use Rattle.std.specs.Prelude.{ℕ, ◌+◌, ◌-◌, ◌^◌, min, None, codes}
use Rattle.cpa_iface.specs.Meanings.{Meaning}
use Rattle.cpa_predicate.specs.Predicates.{predicates}
use Rattle.cpa_predicate.specs.declared.asking.Budgets.{Budgets}

-- It means what the analysis of predicates does, under its own name. Which interpolants a path has
-- hangs on what a search finds, so it tells no suggestion.
abbrev pub craigs : Meaning
craigs = record predicates { name = codes "craig"; suggestion = λ cfa path. None }

-- so many more were not decided; the count stops at the greatest number of 64 bits
abbrev pub spent_more : ℕ → Budgets → Budgets
spent_more n b = record b { spent = min (b.spent + n) (2 ^ 64 - 1) }
