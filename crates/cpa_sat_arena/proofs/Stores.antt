-- More literals leave the clauses that stand as they are, and the next clause is the last piece.
use Rattle.std.proofs.Common.{◌≡◌, ◌≢◌, ℕ, zero, suc, ◌+◌, ◌-◌, ◌%◌, ◌<◌, ◌≤◌, List, [], ◌∷◌}
use Rattle.std.proofs.Common.{◌++◌, take, drop, set, length, get_or, refl, sym, ap, ◌∙◌, subst}
use Rattle.std.proofs.Common.{Result, Ok, Err, arith}
use Rattle.std.specs.Prelude.{OnErr, slice_index_or}
use Rattle.std.specs.List.{AllByRecursion}
use Rattle.std.proofs.lemmas.List.{take-append-le, drop-append-le, drop_at, take_all, map_push}
use Rattle.std.proofs.lemmas.List.{length-drop, length-append, length-map, length-set, length_push}
use Rattle.std.proofs.lemmas.List.{get_or-map, get_or_append_left, get_or_push}
use Rattle.std.proofs.lemmas.List.Elements.{All-from_recursion}
use Rattle.cpa_sat_arena.specs.declared.index.Index.{Index}
use Rattle.cpa_sat_arena.specs.declared.store.Extent.{Extent}
use Rattle.cpa_sat_arena.specs.Hashes.{clause_hash, IsIndexed}
use Rattle.cpa_sat_arena.specs.Extents.{piece, clauses_of, hashes_of, hash_at, IsFiled, IsRoomy}
use Rattle.cpa_sat_arena.proofs.Chaining.{indexed_alike, linked}

-- what holds of any error
pub on_err : {X E : Type 0} (r : Result X E) (P : Type 0) → P → OnErr r P
on_err (Ok x) P p = tt
on_err (Err e) P p = p

more_piece : (xs ys : List ℕ) (e : Extent) → IsFiled xs e → piece (xs ++ ys) e ≡ piece xs e
more_piece xs ys e f =
    let long : length (drop e.from xs) ≡ length xs - e.from = length-drop e.from xs in
    ap (λ l. take (e.to - e.from) l) (drop-append-le e.from xs ys (omega (arith, f.ends, f.within)))
    ∙ take-append-le (e.to - e.from) (drop e.from xs) ys (omega (arith, f.ends, f.within))

pub more_clauses : (xs ys : List ℕ) (es : List Extent) → AllByRecursion (IsFiled xs) es
    → clauses_of (xs ++ ys) es ≡ clauses_of xs es
more_clauses xs ys [] all = refl
more_clauses xs ys (e ∷ es) all =
    ap (λ p. p ∷ clauses_of (xs ++ ys) es) (more_piece xs ys e all.0)
    ∙ ap (λ ps. piece xs e ∷ ps) (more_clauses xs ys es all.1)

pub more_filed : (xs ys : List ℕ) (es : List Extent) → AllByRecursion (IsFiled xs) es
    → AllByRecursion (IsFiled (xs ++ ys)) es
more_filed xs ys [] all = tt
more_filed xs ys (e ∷ es) all = (
  record {
    ends = all.0.ends;
    within = omega (arith, all.0.within, length-append xs ys);
    hash = all.0.hash ∙ ap (λ p. clause_hash p) (sym (more_piece xs ys e all.0));
  },
  more_filed xs ys es all.1,
)

all_push : (P : Extent → Type 0) (es : List Extent) (e : Extent) → AllByRecursion P es → P e
    → AllByRecursion P (es ++ e ∷ [])
all_push P [] e all here = (here, tt)
all_push P (f ∷ es) e all here = (all.0, all_push P es e all.1 here)

last_piece : (xs ys : List ℕ) (e : Extent) → e.from ≡ length xs → e.to ≡ length (xs ++ ys)
    → piece (xs ++ ys) e ≡ ys
last_piece xs ys e from to =
    let long : length (xs ++ ys) ≡ length xs + length ys = length-append xs ys in
    ap (λ l. take (e.to - e.from) l) (drop_at xs ys e.from (sym from))
    ∙ take_all (e.to - e.from) ys (omega arith)

pub filed_next : (xs ys : List ℕ) (es : List Extent) (e : Extent) → AllByRecursion (IsFiled xs) es
    → e.from ≡ length xs → e.to ≡ length (xs ++ ys)
    → e.hash ≡ clause_hash ys → AllByRecursion (IsFiled (xs ++ ys)) (es ++ e ∷ [])
filed_next xs ys es e all from to hash =
    all_push (IsFiled (xs ++ ys)) es e (more_filed xs ys es all)
    (record {
      ends = omega (arith, from, to, length-append xs ys);
      within = omega (arith, to);
      hash = hash ∙ ap (λ p. clause_hash p) (sym (last_piece xs ys e from to));
    })

pub clauses_next : (xs ys : List ℕ) (es : List Extent) (e : Extent) → AllByRecursion (IsFiled xs) es
    → e.from ≡ length xs → e.to ≡ length (xs ++ ys)
    → clauses_of (xs ++ ys) (es ++ e ∷ []) ≡ clauses_of xs es ++ ys ∷ []
clauses_next xs ys es e all from to =
    map_push (piece (xs ++ ys)) es e
    ∙ ap (λ ps. ps ++ piece (xs ++ ys) e ∷ []) (more_clauses xs ys es all)
    ∙ ap (λ p. clauses_of xs es ++ p ∷ []) (last_piece xs ys e from to)

-- the extent, the clause and the hash of a number
pub filed_at : (xs : List ℕ) (es : List Extent) (k : ℕ) (e : Extent)
    → AllByRecursion (IsFiled xs) es → k < length es → e ≡ get_or es k e → IsFiled xs e
filed_at xs es k e all inside is = subst (λ x. IsFiled xs x) (sym is)
    (All-from_recursion (IsFiled xs) es all k e inside)

pub clause_at : (xs : List ℕ) (es : List Extent) (k : ℕ) (e : Extent) → k < length es
    → e ≡ get_or es k e → slice_index_or (clauses_of xs es) k [] ≡ piece xs e
clause_at xs es k e inside is = get_or-map (piece xs) es k e [] inside
    ∙ ap (λ x. piece xs x) (sym is)

pub hash_is : (es : List Extent) (k : ℕ) (e : Extent) → k < length es → e ≡ get_or es k e
    → hash_at es k ≡ e.hash
hash_is es k e inside is = get_or-map (λ (x : Extent). x.hash) es k e 0 inside
    ∙ ap (λ (x : Extent). x.hash) (sym is)

-- a clause has the hash that is kept with it
same_default : (fs : List Extent) (j : ℕ) (a b : Extent) → j < length fs
    → get_or fs j a ≡ get_or fs j b
same_default [] j a b low = absurd (omega arith)
same_default (f ∷ fs) zero a b low = refl
same_default (f ∷ fs) (suc j) a b low = same_default fs j a b (omega arith)

pub hash_of_number : (xs : List ℕ) (es : List Extent) (k : ℕ) → AllByRecursion (IsFiled xs) es
    → k < length es → hash_at es k ≡ clause_hash (slice_index_or (clauses_of xs es) k [])
hash_of_number xs es k all inside =
    let e : Extent = get_or es k none in
    let is : e ≡ get_or es k e = same_default es k none (get_or es k none) inside in
    hash_is es k e inside is ∙ (filed_at xs es k e all inside is).hash
    ∙ ap (λ p. clause_hash p) (sym (clause_at xs es k e inside is))
  where
    none : Extent
    none = record { from = 0; to = 0; hash = 0 }

-- the search along a chain: where a clause of the number k is wanted, k is below the link
pub record IsSought (h : ℕ → ℕ) (n m hash : ℕ) (clauses : List (List ℕ)) (clause : List ℕ)
    (link : ℕ) : Type 0 where
  pub low : link ≤ n
  pub covers : (k : ℕ) → k < n → slice_index_or clauses k [] ≡ clause → k < link
  pub stays : (k : ℕ) → link ≡ k + 1 → h k % m ≡ hash % m

pub sought_first : (h : ℕ → ℕ) (n m hash : ℕ) (heads nexts : List ℕ) (clauses : List (List ℕ))
    (clause : List ℕ) (link : ℕ)
    → IsIndexed h n m heads nexts → ((k : ℕ) → k < n
    → h k ≡ clause_hash (slice_index_or clauses k [])) → hash ≡ clause_hash clause
    → link ≡ get_or heads (hash % m) 0 → IsSought h n m hash clauses clause link
sought_first h n m hash heads nexts clauses clause link is hashes here first = record {
  low = omega (arith, first, is.below (hash % m));
  covers = λ k low same.
      let alike : h k ≡ hash = hashes k low ∙ ap (λ c. clause_hash c) same ∙ sym here in
      subst (λ v. k < v) (ap (λ v. get_or heads (v % m) 0) alike
      ∙ sym first) (is.heads_cover k low);
  stays = λ k e. is.heads_stay (hash % m) k (sym first ∙ e);
}

pub sought_next : (h : ℕ → ℕ) (n m hash : ℕ) (heads nexts : List ℕ) (clauses : List (List ℕ))
    (clause : List ℕ) (link number further : ℕ)
    → IsIndexed h n m heads nexts → ((k : ℕ) → k < n
    → h k ≡ clause_hash (slice_index_or clauses k [])) → hash ≡ clause_hash clause
    → link ≡ number + 1 → (slice_index_or clauses number [] ≢ clause)
    → further ≡ get_or nexts number 0
    → IsSought h n m hash clauses clause link → IsSought h n m hash clauses clause further
sought_next h n m hash heads nexts clauses clause link number further is hashes here at other next
    s = record {
      low = omega (arith, next, is.down number inside, s.low);
      covers = λ k low same.
          let alike : h k ≡ hash = hashes k low ∙ ap (λ c. clause_hash c) same ∙ sym here in
          let under : k < number = under_of k (s.covers k low same)
          (λ e. other (ap (λ i. slice_index_or clauses i []) (sym e) ∙ same)) in
          subst (λ v. k < v) (sym next) (is.nexts_cover number k under inside (ap (λ v. v % m) alike
          ∙ sym (s.stays number at)));
      stays = λ k e. is.nexts_stay number k inside (sym next ∙ e) ∙ s.stays number at;
    }
  where
    inside : number < n
    inside = omega (arith, s.low, at)

    under_of : (k : ℕ) → k < link → (k ≡ number → ⊥) → k < number
    under_of k low ne = omega arith

mod_below : (a b c : ℕ) → c < b → a % b < b
mod_below a b c h = omega arith

-- a number at the head of the bucket of its hash
pub linked_as : (h : ℕ → ℕ) (n m hash : ℕ) (old new : Index)
    → IsIndexed h n m old.heads.items old.nexts.items → n < m → h n ≡ hash
    → new.heads.items ≡ set old.heads.items (hash % length old.heads.items) (n + 1)
    → new.nexts.items ≡ set old.nexts.items n
    (get_or old.heads.items (hash % length old.heads.items) 0)
    → IsIndexed h (n + 1) m new.heads.items new.nexts.items
linked_as h n m hash old new is room here heads nexts =
    let bucket : hash % length old.heads.items ≡ h n % m =
    ap (λ k. hash % k) is.buckets ∙ ap (λ k. k % m) (sym here) in
    let next = linked h n m old.heads.items old.nexts.items is room (mod_below (h n) m n room) in
    let same_heads : new.heads.items ≡ set old.heads.items (h n % m) (n + 1) =
    heads ∙ ap (λ b. set old.heads.items b (n + 1)) bucket in
    let same_nexts : new.nexts.items ≡ set old.nexts.items n (get_or old.heads.items (h n % m) 0) =
    nexts ∙ ap (λ b. set old.nexts.items n (get_or old.heads.items b 0)) bucket in
    let one : IsIndexed h (n + 1) m new.heads.items
    (set old.nexts.items n (get_or old.heads.items (h n % m) 0)) =
    subst (λ hs. IsIndexed h (n + 1) m hs
    (set old.nexts.items n (get_or old.heads.items (h n % m) 0))) (sym same_heads) next in
    subst (λ ns. IsIndexed h (n + 1) m new.heads.items ns) (sym same_nexts) one

-- the number of a new clause at the head of its bucket
pub index_next : (es fs : List Extent) (hash n : ℕ) (old new : Index) → IsRoomy es old
    → n ≡ length es
    → hashes_of fs ≡ hashes_of es ++ hash ∷ []
    → new.heads.items ≡ set old.heads.items (hash % length old.heads.items) (n + 1)
    → new.nexts.items ≡ set old.nexts.items n
    (get_or old.heads.items (hash % length old.heads.items) 0)
    → IsIndexed (hash_at fs) (length fs) (length new.heads.items) new.heads.items new.nexts.items
index_next es fs hash n old new is number hashes heads nexts =
    let m = length old.heads.items in
    let here : hash_at fs n ≡ hash =
    ap (λ hs. get_or hs n 0) hashes
    ∙ get_or_push (hashes_of es) hash 0 n (length-map es (λ (x : Extent). x.hash) ∙ sym number) in
    let alike : IsIndexed (hash_at fs) n m old.heads.items old.nexts.items =
    subst (λ k. IsIndexed (hash_at fs) k m old.heads.items old.nexts.items) (sym number)
    (indexed_alike (hash_at es) (hash_at fs) (length es) m old.heads.items old.nexts.items
    (λ k low. same k low) is.is_indexed) in
    let room : n < m = subst (λ k. n < k) is.is_indexed.room
    (subst (λ k. k < length old.nexts.items) (sym number) is.room) in
    let next = linked_as (hash_at fs) n m hash old new alike room here heads nexts in
    let size : length new.heads.items ≡ m =
    ap (λ (xs : List ℕ). length xs) heads
    ∙ length-set old.heads.items (hash % length old.heads.items) (n + 1) in
    let count : length fs ≡ n + 1 =
    sym (length-map fs (λ (x : Extent). x.hash)) ∙ ap (λ (hs : List ℕ). length hs) hashes
    ∙ length_push (hashes_of es) hash
    ∙ ap (λ k. k + 1) (length-map es (λ (x : Extent). x.hash) ∙ sym number) in
    let sized : IsIndexed (hash_at fs) (n + 1) (length new.heads.items) new.heads.items
    new.nexts.items =
    subst (λ k. IsIndexed (hash_at fs) (n + 1) k new.heads.items new.nexts.items) (sym size) next in
    subst (λ k. IsIndexed (hash_at fs) k (length new.heads.items) new.heads.items new.nexts.items)
    (sym count) sized
  where
    same : (k : ℕ) → k < length es → hash_at fs k ≡ hash_at es k
    same k low =
        ap (λ hs. get_or hs k 0) hashes
        ∙ get_or_append_left (hashes_of es) (hash ∷ []) 0 k
        (subst (λ j. k < j) (sym (length-map es (λ (x : Extent). x.hash))) low)
