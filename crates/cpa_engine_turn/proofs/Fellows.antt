-- The entries under a key: each entry of a row's key is among those of the row (`fellow`), and
-- where a row of the same key takes the place of one of them, the new one is their last
-- (`replaced_under`).
use Rattle.std.proofs.Common.{◌≡◌, ℕ, zero, suc, ◌+◌, ◌<◌, Bool, true, false, not, eqb}
use Rattle.std.proofs.Common.{List, [], ◌∷◌, ◌++◌, map, drop, length, get_or, Some}
use Rattle.std.proofs.Common.{refl, sym, ap, ◌∙◌, subst}
use Rattle.std.proofs.Common.{inl, inr, ⊎_elim, arith}
use Rattle.std.specs.Prelude.{◌⊎◌, if◌then◌else◌}
use Rattle.std.specs.List.{slice_get, filter, remove}
use Rattle.std.proofs.lemmas.Bool.{cases_Bool, both_ways, eq-eqb, ne_eqb}
use Rattle.std.proofs.lemmas.Option.{same_Some, slice_get-get_or}
use Rattle.std.proofs.lemmas.List.Elements.{filter-append}
use Rattle.cpa_model.specs.Ascending.{AreAscending}
use Rattle.cpa_model.specs.declared.automaton.Cfa.{Cfa}
use Rattle.cpa_model.specs.declared.facts.Elem.{Elem}
use Rattle.cpa_iface.specs.declared.entries.Entry.{Entry}
use Rattle.cpa_iface.specs.declared.precisions.Precision.{Precision}
use Rattle.cpa_composite.specs.Components.{Component, IsEntryOf}
use Rattle.cpa_composite.specs.Covers.{all_cover}
use Rattle.cpa_composite.specs.Laws.{MergedRow}
use Rattle.cpa_reached_key.specs.Rows.{picked}
use Rattle.cpa_reached_key.specs.lemmas.RowLaws.{same_row-decides}
use Rattle.cpa_reached.specs.Members.{IsIn}
use Rattle.cpa_reached.specs.lemmas.MemberLaws.{filter_in, one_entry, ascend_kept}
use Rattle.cpa_reached.specs.lemmas.MemberLaws.{numbers_append}
use Rattle.cpa_reached.specs.Entries.{ReachedSet, IsLive, numbers}
use Rattle.cpa_reached.specs.Calls.{replaced, renamed, replacing, others, those}
use Rattle.cpa_engine_turn.specs.Keys.{key_of, CoversKey, HasPlaces}
use Rattle.cpa_engine_turn.specs.Stages.{under, fellows, first_cover}
use Rattle.cpa_engine_turn.specs.Steps.{MovesOn}
use Rattle.cpa_engine_turn.specs.Turns.{AreEntries}
use Rattle.cpa_engine_turn.specs.lemmas.Keyed.{merged_key}
use Rattle.cpa_engine_turn.specs.lemmas.Lists.{in_map_of, of_map}
use Rattle.cpa_engine_turn.specs.lemmas.Picked.{same_picked, has_key, in_under}
use Rattle.cpa_engine_turn.proofs.Effects.{those_one}
use Rattle.cpa_engine_turn.proofs.Settled.{all_others, Covering}
use Rattle.cpa_engine_turn.proofs.Shapes.{each_in}

-- ---- those under a key
-- an entry with the elements of the row
pub same_fellow : (r : ReachedSet) (es : List Elem) (e : Entry)
    → picked r.places e.elems ≡ picked r.places es → IsIn e r.live → IsIn e (fellows r es)
same_fellow r es e same there =
    filter_in (has_key r (picked r.places es)) r.live e there
    ((same_row-decides (picked r.places e.elems) (picked r.places es)).1 same)

-- an entry of the row's key
pub fellow : (cs : List Component) (r : ReachedSet) (es : List Elem) (e : Entry)
    → HasPlaces cs r → length es ≡ length cs → length e.elems ≡ length cs
    → key_of cs e.elems ≡ key_of cs es → IsIn e r.live → IsIn e (fellows r es)
fellow cs r es e fits many long same there =
    same_fellow r es e (same_picked cs r e.elems es fits long many same) there

-- it is among these, or has another key, so that nothing is asked of it
pub known : (cfa : Cfa) (cs : List Component) (r : ReachedSet) (es : List Elem) (e : Entry)
    → HasPlaces cs r → length es ≡ length cs → AreEntries cfa (length cs) r.live → IsIn e r.live
    → IsIn e.number (numbers (fellows r es)) ⊎ CoversKey cs es e.elems
known cfa cs r es e fits many are there =
    let long = (each_in (IsEntryOf cfa (length cs)) r.live e are.each there).elems.size in
    let key = picked r.places es in
    ⊎_elim
    (λ (yes : has_key r key e ≡ true).
    inl (in_map_of (λ (x : Entry). x.number) (fellows r es) e
    (filter_in (has_key r key) r.live e there yes)))
    (λ (none : has_key r key e ≡ false).
    inr (λ same. absurd (both_ways (has_key r key e) none
    ((same_row-decides (picked r.places e.elems) key).1
    (same_picked cs r e.elems es fits long many same)))))
    (cases_Bool (has_key r key e))

-- the one that covers is live
pub live_cover : (cs : List Component) (r : ReachedSet) (key es : List Elem) (n : ℕ)
    → Covering cs es (under r key) n → IsLive r.live n
live_cover cs r key es n c =
    record { entry = c.entry; is_in = (in_under r key c.entry c.is_in).0; is = c.number }

-- a number under a key is that of a live entry
pub live_under : (r : ReachedSet) (key : List Elem) (n : ℕ) → IsIn n (numbers (under r key))
    → IsLive r.live n
live_under r key n there =
    let from = of_map (λ (x : Entry). x.number) (under r key) n there in
    record { entry = from.0; is_in = (in_under r key from.0 from.1).0; is = from.2 }

-- ---- one of them gives way
-- the first test of an item
tested : (p : Entry → Bool) (b : Bool) (x : Entry) (xs : List Entry)
    → filter p (if b then x ∷ xs else xs)
    ≡ (if b then (if p x then x ∷ filter p xs else filter p xs) else filter p xs)
tested p true x xs = refl
tested p false x xs = refl

exchanged : (a b : Bool) (x : Entry) (xs : List Entry)
    → (if b then (if a then x ∷ xs else xs) else xs)
    ≡ (if a then (if b then x ∷ xs else xs) else xs)
exchanged true true x xs = refl
exchanged true false x xs = refl
exchanged false true x xs = refl
exchanged false false x xs = refl

-- two tests, in either order
both_tests : (p q : Entry → Bool) (xs : List Entry)
    → filter p (filter q xs) ≡ filter q (filter p xs)
both_tests p q [] = refl
both_tests p q (x ∷ xs) =
    tested p (q x) x (filter q xs)
    ∙ (exchanged (p x) (q x) x (filter p (filter q xs))
    ∙ (ap (λ (l : List Entry). if p x then (if q x then x ∷ l else l) else l)
    (both_tests p q xs)
    ∙ sym (tested q (p x) x (filter p xs))))

-- what keeps its number and passes as before
numbers_kept : (p : Entry → Bool) (g : Entry → Entry) (xs : List Entry)
    → ((e : Entry) → (g e).number ≡ e.number) → ((e : Entry) → p (g e) ≡ p e)
    → numbers (filter p (map g xs)) ≡ numbers (filter p xs)
numbers_kept p g [] number same = refl
numbers_kept p g (x ∷ xs) number same =
    let later = numbers_kept p g xs number same in
    ⊎_elim
    (λ (yes : p x ≡ true). let also : p (g x) ≡ true = same x ∙ yes in
    rw (also, yes)
    (ap (λ (k : ℕ). k ∷ numbers (filter p (map g xs))) (number x)
    ∙ ap (λ (ns : List ℕ). x.number ∷ ns) later))
    (λ (none : p x ≡ false). let also : p (g x) ≡ false = same x ∙ none in rw (also, none) later)
    (cases_Bool (p x))

-- the numbers under a key where a row of that key has taken the place of an entry
under_replaced : (r : ReachedSet) (key : List Elem) (x : Entry) (es : List Elem)
    → AreAscending (numbers r.live) → IsIn x r.live → picked r.places es ≡ key
    → numbers (under (replaced r x.number es) key)
    ≡ numbers (others x.number (under r key)) ++ r.next ∷ []
under_replaced r key x es up there same =
    let o = x.number in
    let next = r.next in
    let test = has_key r key in
    let rest : Entry → Bool = λ e. not (eqb e.number o) in
    let front = map (renamed o next) (others o r.live) in
    let new = replacing next es x in
    let one : map (replacing next es) (those o r.live) ≡ new ∷ [] =
    ap (λ (l : List Entry). map (replacing next es) l) (those_one r.live x up there) in
    let passes : test new ≡ true = (same_row-decides (picked r.places es) key).1 same in
    let last : filter test (new ∷ []) ≡ new ∷ [] = rw passes refl in
    ap (λ (l : List Entry). numbers (filter test (front ++ l))) one
    ∙ (ap numbers (filter-append test front (new ∷ []))
    ∙ (numbers_append (filter test front) (filter test (new ∷ []))
    ∙ (ap (λ (l : List Entry). numbers (filter test front) ++ numbers l) last
    ∙ (ap (λ (ns : List ℕ). ns ++ next ∷ [])
    (numbers_kept test (renamed o next) (others o r.live) (λ e. refl) (λ e. refl))
    ∙ ap (λ (l : List Entry). numbers l ++ next ∷ []) (both_tests test rest r.live)))))

number_in : (ns : List ℕ) (j m : ℕ) → slice_get ns j ≡ Some m → IsIn m ns
number_in [] j m here = absurd (cc)
number_in (k ∷ ns) zero m here = inl (same_Some k m here)
number_in (k ∷ ns) (suc j) m here = inr (number_in ns j m here)

-- without the entry whose number stands at a place
gone_at : (xs : List Entry) (i n : ℕ) → AreAscending (numbers xs)
    → slice_get (numbers xs) i ≡ Some n → numbers (others n xs) ≡ remove (numbers xs) i
gone_at [] i n up at = absurd (cc)
gone_at (y ∷ xs) zero n up at =
    let is : y.number ≡ n = same_Some y.number n at in
    rw (eq-eqb y.number n is) (ap numbers (all_others n y.number xs up.0 is))
gone_at (y ∷ xs) (suc i) n up at =
    let above : y.number < n =
    each_in (λ m. y.number < m) (numbers xs) n up.0 (number_in (numbers xs) i n at) in
    rw (ne_eqb y.number n (λ e. omega (arith, above, e)))
    (ap (λ (l : List ℕ). y.number ∷ l) (gone_at xs i n up.1 at))

-- the entry at a place of them
pub under_at : (r : ReachedSet) (key : List Elem) (i n : ℕ)
    → slice_get (numbers (under r key)) i ≡ Some n → IsIn n (numbers (under r key))
under_at r key i n at = number_in (numbers (under r key)) i n at

pub number_there : (ns ms : List ℕ) (i : ℕ) → ms ≡ ns → i < length ms
    → slice_get ns i ≡ Some (get_or ms i 0)
number_there ns ms i same inside =
    subst (λ (ks : List ℕ). slice_get ks i ≡ Some (get_or ms i 0)) same
    (slice_get-get_or ms i 0 inside)

-- the live entry of that number has the key
key_there : (r : ReachedSet) (key : List Elem) (i n : ℕ) (x : Entry)
    → AreAscending (numbers r.live) → IsIn x r.live → x.number ≡ n
    → slice_get (numbers (under r key)) i ≡ Some n → picked r.places x.elems ≡ key
key_there r key i n x up there is at =
    let from = of_map (λ (e : Entry). e.number) (under r key) n (under_at r key i n at) in
    let was = in_under r key from.0 from.1 in
    let same : from.0 ≡ x = one_entry r.live from.0 x up was.0 there (from.2 ∙ sym is) in
    subst (λ (e : Entry). picked r.places e.elems ≡ key) same was.1

-- and so has what a merge makes of it
pub merged_under : (cfa : Cfa) (cs : List Component) (r : ReachedSet) (key : List Elem)
    (i n : ℕ) (x : Entry) (successor : List Elem) (ps : List Precision) (merged : List Elem)
    → HasPlaces cs r → AreEntries cfa (length cs) r.live → length successor ≡ length cs
    → length ps ≡ length cs → AreAscending (numbers r.live) → IsIn x r.live → x.number ≡ n
    → slice_get (numbers (under r key)) i ≡ Some n
    → MergedRow cs cfa successor x.elems ps merged → picked r.places merged ≡ key
merged_under cfa cs r key i n x successor ps merged fits are many each up there is at row =
    let long = (each_in (IsEntryOf cfa (length cs)) r.live x are.each there).elems.size in
    let size = row.elems.size in
    same_picked cs r merged x.elems fits size long
    (merged_key cfa cs successor x.elems ps merged many long each size row.each)
    ∙ key_there r key i n x up there is at

-- the place of the next one, where the entry at a place gave way to a row of its key
pub replaced_under : (r new : ReachedSet) (key : List Elem) (i k : ℕ) (x : Entry)
    (es : List Elem) → AreAscending (numbers r.live) → IsIn x r.live → x.number ≡ k
    → slice_get (numbers (under r key)) i ≡ Some k → picked r.places es ≡ key
    → new ≡ replaced r k es → MovesOn (numbers (under r key)) (numbers (under new key)) i i
replaced_under r new key i k x es up there is at same made =
    let low = ascend_kept (has_key r key) r.live up in
    record {
      step = inr (
        refl,
        r.next,
        ap (λ (s : ReachedSet). numbers (under s key)) made
            ∙ (ap (λ (j : ℕ). numbers (under (replaced r j es) key)) (sym is)
            ∙ (under_replaced r key x es up there same
            ∙ (ap (λ (j : ℕ). numbers (others j (under r key)) ++ r.next ∷ []) is
            ∙ ap (λ (ns : List ℕ). ns ++ r.next ∷ []) (gone_at (under r key) i k low at)))),
      );
    }

-- ---- the first of them that covers
split_at : (xs : List Entry) (i n : ℕ) → slice_get (numbers xs) i ≡ Some n
    → (y : Entry) × (drop i xs ≡ y ∷ drop (suc i) xs) × (y.number ≡ n) × IsIn y xs
split_at [] i n at = absurd (cc)
split_at (y ∷ xs) zero n at = (y, refl, same_Some y.number n at, inl refl)
split_at (y ∷ xs) (suc i) n at = let from = split_at xs i n at in
    (from.0, from.1, from.2, inr from.3)

-- what is left from a place on begins with the entry of the number there
pub next_under : (r : ReachedSet) (key : List Elem) (i n : ℕ) (x : Entry)
    → AreAscending (numbers r.live) → IsIn x r.live → x.number ≡ n
    → slice_get (numbers (under r key)) i ≡ Some n
    → drop i (under r key) ≡ x ∷ drop (i + 1) (under r key)
next_under r key i n x up there is at =
    let from = split_at (under r key) i n at in
    let one : suc i ≡ i + 1 = omega arith in
    let same : from.0 ≡ x =
    one_entry r.live from.0 x up (in_under r key from.0 from.3).0 there (from.2 ∙ sym is) in
    from.1 ∙ (ap (λ (e : Entry). e ∷ drop (suc i) (under r key)) same
    ∙ ap (λ (j : ℕ). x ∷ drop j (under r key)) one)

pub cover_passes : (cs : List Component) (es : List Elem) (left rest : List Entry) (x : Entry)
    → left ≡ x ∷ rest → all_cover cs es x.elems ≡ true
    → first_cover cs es left ≡ Some x.number
cover_passes cs es left rest x is covers = ap (first_cover cs es) is ∙ rw covers refl

pub cover_fails : (cs : List Component) (es : List Elem) (left rest : List Entry) (x : Entry)
    → left ≡ x ∷ rest → all_cover cs es x.elems ≡ false
    → first_cover cs es left ≡ first_cover cs es rest
cover_fails cs es left rest x is fails = ap (first_cover cs es) is ∙ rw fails refl
