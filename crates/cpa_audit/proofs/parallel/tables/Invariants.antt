use Rattle.std.proofs.Common.{◌≡◌, ◌≤◌, vec_len}
use Rattle.std.specs.List.{AllByRecursion}
use Rattle.cpa_audit.proofs.parallel.tables.Given as goal

abbrev pub invariant-loop : goal.invariant-loop
invariant-loop l =
    (vec_len l.tables ≡ l.counter) × (l.counter ≤ l.workers)
    × AllByRecursion (λ table. table ≡ l.vars) l.tables.items
