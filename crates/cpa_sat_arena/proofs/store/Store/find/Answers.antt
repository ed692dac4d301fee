use Rattle.std.proofs.Common.{◌≡◌, ◌<◌, ℕ, ◌+◌, ◌-◌, List, [], length, ap, ◌∙◌, arith}
use Rattle.std.specs.Prelude.{slice_index_or}
use Rattle.std.proofs.lemmas.Bool.{false≢true}
use Rattle.cpa_sat_arena.specs.declared.store.Extent.{Extent}
use Rattle.cpa_sat_arena.specs.Extents.{clauses_of, hash_at}
use Rattle.cpa_sat_arena.specs.Hashes.{clause_hash}
use Rattle.cpa_sat_arena.proofs.Stores.{hash_of_number, sought_first, sought_next}
use Rattle.cpa_sat_arena.proofs.store.Store.find.Goals as goal

pub loop-link-init : goal.loop-link-init
loop-link-init c =
    let s = c.args.self.now in
    let r = c.requires in
    sought_first (hash_at s.extents.items) (length s.extents.items) (length s.index.heads.items)
    c.hash_of-hash.result
    s.index.heads.items s.index.nexts.items (clauses_of s.literals.items s.extents.items)
    c.args.clause.now c.first-link.result
    r.is_indexed (λ k low. hash_of_number s.literals.items s.extents.items k r.filed low)
    (c.hash_of-hash.ensures ∙ ap (λ ls. clause_hash ls) c.literals.ensures.literals)
    c.first-link.ensures

one_more : (k : ℕ) → 0 < k → k ≡ (k - 1) + 1
one_more k h = omega arith

pub loop-link-preserved : goal.loop-link-preserved
loop-link-preserved c =
    let s = c.args.self.now in
    let r = c.requires in
    let link = c.loop-link.link in
    let there =
    ap (λ ls. slice_index_or (clauses_of ls c.deref-in-loop-link.result.now) (link - 1) [])
    c.deref.ensures.value
    ∙ ap (λ (es : List Extent). slice_index_or (clauses_of s.literals.items es) (link - 1) [])
    c.deref-in-loop-link.ensures.value in
    sought_next (hash_at s.extents.items) (length s.extents.items) (length s.index.heads.items)
    c.hash_of-hash.result
    s.index.heads.items s.index.nexts.items (clauses_of s.literals.items s.extents.items)
    c.args.clause.now link (link - 1) c.next-link.result
    r.is_indexed (λ k low. hash_of_number s.literals.items s.extents.items k r.filed low)
    (c.hash_of-hash.ensures ∙ ap (λ ls. clause_hash ls) c.literals.ensures.literals)
    (one_more link c.loop-link-test.true)
    (λ e. false≢true (c.if-is_clause.ensures.1 (there ∙ e))) c.next-link.ensures
    c.loop-link.invariant
