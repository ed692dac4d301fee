use Rattle.std.proofs.Common.{◌≡◌, ◌+◌, ◌++◌, ◌∷◌, [], List, ℕ, length, ap, sym, ◌∙◌, subst}
use Rattle.std.proofs.Common.{arith}
use Rattle.std.proofs.lemmas.List.{length-map, length_push}
use Rattle.cpa_sat_arena.specs.declared.store.Extent.{Extent}
use Rattle.cpa_sat_arena.specs.Extents.{IsRoomy, hashes_of}
use Rattle.cpa_sat_arena.proofs.Stores.{index_next}
use Rattle.cpa_sat_arena.proofs.store.Store.push.Goals as goal

one_more : (es fs : List Extent) (hash : ℕ) → hashes_of fs ≡ hashes_of es ++ hash ∷ []
    → length fs ≡ length es + 1
one_more es fs hash e =
    sym (length-map fs (λ (x : Extent). x.hash)) ∙ ap (λ (hs : List ℕ). length hs) e
    ∙ length_push (hashes_of es) hash
    ∙ ap (λ k. k + 1) (length-map es (λ (x : Extent). x.hash))

pub returns-clause-few : goal.returns-clause-few
returns-clause-few c =
    omega (
      arith,
      one_more c.args.self.now.extents.items c.file.new.extents.items c.in_ok-hash.hash
          c.in_ok-hash.ensures.hashes,
    )

pub returns-clause-stored : goal.returns-clause-stored
returns-clause-stored c =
    let s = c.args.self.now in
    let es = s.extents.items in
    let fs = c.file.new.extents.items in
    let e = c.in_ok-hash.ensures in
    let number : c.len-number.result ≡ length es = omega arith in
    let roomy : IsRoomy es c.make_room.new.index =
    subst (λ (xs : List Extent). IsRoomy xs c.make_room.new.index) c.deref.ensures.value
    c.in_ok-make_room.ensures.ok in
    let count : length fs ≡ length es + 1 = one_more es fs c.in_ok-hash.hash e.hashes in
    record {
      filed = e.filed;
      is_indexed = index_next es fs c.in_ok-hash.hash c.len-number.result c.make_room.new.index
          c.link.new.self roomy number e.hashes c.link.ensures.heads c.link.ensures.nexts;
      few = omega arith;
    }
