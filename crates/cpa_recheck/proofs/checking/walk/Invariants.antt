use Rattle.std.proofs.Common.{◌≡◌, List, map, take}
use Rattle.std.specs.List.{AllByRecursion, AllZip}
use Rattle.cpa_model.specs.declared.facts.Elem.{Elem}
use Rattle.cpa_recheck_obligations.specs.Spots.{as_one}
use Rattle.cpa_recheck.specs.declared.checking.Keeping.TheVariants.{Refutations}
use Rattle.cpa_recheck.specs.Checks.{IsMetWithin, IsShown}
use Rattle.cpa_recheck.proofs.checking.walk.Given as goal

abbrev pub invariant-loop-place : goal.invariant-loop-place
invariant-loop-place l =
    (es : List (List Elem)) → l.entries ≡ as_one es
    → AllByRecursion (IsMetWithin l.cfa es l.budget) (take l.place l.run)
    × (l.keeping ≡ Refutations → AllZip (IsShown l.cfa es l.budget.learnt) (take l.place l.run)
    (map (λ log. log.items) l.logs.items))
