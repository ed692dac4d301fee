-- A sort moves the literals, and `dedup` leaves out the repeats of a sorted list.
use Rattle.std.proofs.lemmas.List.Filters.{dedup_is}
use Rattle.std.proofs.lemmas.List.Kept.{Contains-dedup_nat, Contains-from_dedup}
use Rattle.std.proofs.lemmas.List.Sorted.{Contains-permutation, IsPermutation-sym}
use Rattle.std.proofs.lemmas.Map.Keys.{IsStrictlyIncreasing-dedup}
use Rattle.cpa_cnf.specs.lemmas.Members.{has-same, IsClause-increasing}
use Rattle.cpa_cnf.proofs.clause.Clause.from_lits.Goals as goal

pub invariant_of-result : goal.invariant_of-result
invariant_of-result c =
    rw (dedup_is _ _ _ c.dedup.ensures.filtered)
    (IsClause-increasing _ (IsStrictlyIncreasing-dedup _ c.in_ok-sort.ensures.sorted))

pub returns-clause-literals : goal.returns-clause-literals
returns-clause-literals c =
    let is = dedup_is _ _ _ c.dedup.ensures.filtered in
    let moved = c.in_ok-sort.ensures.permutation in
    has-same _ _
    (λ l h. Contains-permutation _ _ l (IsPermutation-sym _ _ moved)
    (Contains-from_dedup _ _ l (rw is at h)))
    (λ l h. rw is (Contains-dedup_nat _ l (Contains-permutation _ _ l moved h)))

pub returns-clause-sorted : goal.returns-clause-sorted
returns-clause-sorted c =
    rw (dedup_is _ _ _ c.dedup.ensures.filtered)
    (IsClause-increasing _ (IsStrictlyIncreasing-dedup _ c.in_ok-sort.ensures.sorted))
