use Rattle.std.proofs.Common.{length}
use Rattle.cpa_sat_arena.specs.Extents.{clauses_of, hash_at}
use Rattle.cpa_sat_arena.proofs.Stores.{IsSought}
use Rattle.cpa_sat_arena.proofs.store.Store.find.Given as goal

abbrev pub invariant-loop-link : goal.invariant-loop-link
invariant-loop-link l =
    IsSought (hash_at l.self.extents.items) (length l.self.extents.items)
    (length l.self.index.heads.items) l.hash
    (clauses_of l.self.literals.items l.self.extents.items) l.clause l.link

abbrev pub decreases-loop-link : goal.decreases-loop-link
decreases-loop-link l = l.link
