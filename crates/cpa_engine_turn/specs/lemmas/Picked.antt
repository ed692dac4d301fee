-- Rows of one key stand under one key of the index (`same_picked`), and what stands there has it
-- (`in_under`).
use Rattle.std.proofs.Common.{◌≡◌, ℕ, ◌+◌, Bool, true, false, List, [], ◌∷◌, ◌++◌, length, Some}
use Rattle.std.proofs.Common.{refl, sym, ap, ◌∙◌, subst, ⊎_elim, arith}
use Rattle.std.specs.List.{slice_get}
use Rattle.std.proofs.lemmas.Bool.{cases_Bool}
use Rattle.cpa_model.specs.declared.facts.Elem.{Elem}
use Rattle.cpa_iface.specs.declared.entries.Entry.{Entry}
use Rattle.cpa_composite.specs.Components.{Component}
use Rattle.cpa_composite.specs.Keys.{is_key, key_places, key_places_from}
use Rattle.cpa_reached_key.specs.Rows.{same_row, picked}
use Rattle.cpa_reached_key.specs.lemmas.RowLaws.{same_row-means}
use Rattle.cpa_reached.specs.Members.{IsIn}
use Rattle.cpa_reached.specs.lemmas.MemberLaws.{in_filter}
use Rattle.cpa_reached.specs.Entries.{ReachedSet}
use Rattle.cpa_engine_turn.specs.Keys.{key_of, HasPlaces}
use Rattle.cpa_engine_turn.specs.Stages.{under}

-- ---- the elements at the places of keys are the key
at_front : (front : List Elem) (e : Elem) (es : List Elem)
    → slice_get (front ++ e ∷ es) (length front) ≡ Some e
at_front [] e es = refl
at_front (f ∷ front) e es = at_front front e es

shifted : (front : List Elem) (e : Elem) (es : List Elem)
    → front ++ e ∷ es ≡ (front ++ e ∷ []) ++ es
shifted [] e es = refl
shifted (f ∷ front) e es = ap (λ (l : List Elem). f ∷ l) (shifted front e es)

size_push : (front : List Elem) (e : Elem) → length (front ++ e ∷ []) ≡ length front + 1
size_push [] e = omega arith
size_push (f ∷ front) e = let h = size_push front e in omega (arith, h)

picked_from : (front : List Elem) (i : ℕ) (cs : List Component) (es : List Elem)
    → length front ≡ i → length es ≡ length cs
    → picked (key_places_from i cs) (front ++ es) ≡ key_of cs es
picked_from front i [] es size same = refl
picked_from front i (c ∷ cs) [] size same = absurd (omega (arith, same))
picked_from front i (c ∷ cs) (e ∷ es) size same =
    let later : picked (key_places_from (i + 1) cs) (front ++ e ∷ es) ≡ key_of cs es =
    subst (λ (row : List Elem). picked (key_places_from (i + 1) cs) row ≡ key_of cs es)
    (sym (shifted front e es))
    (picked_from (front ++ e ∷ []) (i + 1) cs es
    (let h = size_push front e in omega (arith, h, size)) (omega (arith, same))) in
    let here : slice_get (front ++ e ∷ es) i ≡ Some e =
    ap (λ (k : ℕ). slice_get (front ++ e ∷ es) k) (sym size) ∙ at_front front e es in
    ⊎_elim
    (λ (key : is_key c ≡ true). rw (key, here) (ap (λ (l : List Elem). e ∷ l) later))
    (λ (none : is_key c ≡ false). rw none later)
    (cases_Bool (is_key c))

pub picked_key : (cs : List Component) (es : List Elem) → length es ≡ length cs
    → picked (key_places cs) es ≡ key_of cs es
picked_key cs es size = picked_from [] 0 cs es refl size

-- rows of one key stand under one key
pub same_picked : (cs : List Component) (r : ReachedSet) (es fs : List Elem) → HasPlaces cs r
    → length es ≡ length cs → length fs ≡ length cs → key_of cs es ≡ key_of cs fs
    → picked r.places es ≡ picked r.places fs
same_picked cs r es fs fits many long same =
    ⊎_elim
    (λ (none : r.places ≡ []).
    subst (λ (ps : List ℕ). picked ps es ≡ picked ps fs) (sym none) refl)
    (λ (all : r.places ≡ key_places cs).
    subst (λ (ps : List ℕ). picked ps es ≡ picked ps fs) (sym all)
    (picked_key cs es many ∙ (same ∙ sym (picked_key cs fs long))))
    fits

-- ---- those under a key
abbrev pub has_key : ReachedSet → List Elem → Entry → Bool
has_key r key e = same_row (picked r.places e.elems) key

pub in_under : (r : ReachedSet) (key : List Elem) (e : Entry) → IsIn e (under r key)
    → IsIn e r.live × (picked r.places e.elems ≡ key)
in_under r key e there =
    let was = in_filter (has_key r key) r.live e there in
    (was.0, same_row-means (picked r.places e.elems) key was.1)
