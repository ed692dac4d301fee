-- All answers so far are open.
use Rattle.std.proofs.Common.{take}
use Rattle.std.specs.List.{AllByRecursion}
use Rattle.cpa_portfolio_race.specs.Races.{IsOpen}
use Rattle.cpa_portfolio_race.proofs.deciding.first_decided.Given as goal

abbrev pub invariant-loop-place : goal.invariant-loop-place
invariant-loop-place l = AllByRecursion IsOpen (take l.place l.answers)
