use Rattle.std.proofs.Common.{◌≡◌, ◌+◌, drop}
use Rattle.cpa_query.specs.Queries.{is_marked}
use Rattle.cpa_folds.specs.Along.{acts_along}
use Rattle.cpa_engine_rounds.specs.Pivots.{before_write}
use Rattle.cpa_engine_rounds.proofs.pivots.before_write.Given as goal

abbrev pub invariant-loop-place : goal.invariant-loop-place
invariant-loop-place l =
    before_write (is_marked l.marks) (acts_along l.cfa l.path)
    ≡ l.place + before_write (is_marked l.marks) (acts_along l.cfa (drop l.place l.path))
