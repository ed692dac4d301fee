-- A pin of the point or of the stack is covered by no other one (`pin_apart`), so that nothing is
-- lost where a row is compared with the entries of its key alone (`least_same`, `merged_same`).
use Rattle.std.proofs.Common.{◌≡◌, ℕ, zero, suc, Bool, true, false, List, [], ◌∷◌, length, Some}
use Rattle.std.proofs.Common.{refl, sym, ap, ◌∙◌, subst, inl, inr, ⊎_elim}
use Rattle.std.specs.Prelude.{IsTrue}
use Rattle.std.specs.List.{slice_get, find, filter}
use Rattle.std.specs.Option.{option_map}
use Rattle.std.proofs.lemmas.Bool.{cases_Bool, and_parts}
use Rattle.std.proofs.lemmas.Option.{same_Some}
use Rattle.cpa_model.specs.declared.automaton.Cfa.{Cfa}
use Rattle.cpa_model.specs.declared.facts.Elem.{Elem}
use Rattle.cpa_facts.specs.declared.fact.Fact.TheVariants.{Stack}
use Rattle.cpa_model.specs.declared.states.State.{State}
use Rattle.cpa_model.specs.Facts.{Holds}
use Rattle.cpa_iface.specs.declared.analysis.Part.{Part}
use Rattle.cpa_iface.specs.declared.entries.Entry.{Entry}
use Rattle.cpa_iface.specs.declared.precisions.Precision.{Precision}
use Rattle.cpa_iface.specs.Meanings.{Meaning}
use Rattle.cpa_iface.specs.Pins.{pin, pin_of}
use Rattle.cpa_composite.specs.Comparisons.{keeps_apart}
use Rattle.cpa_composite.specs.Components.{Component}
use Rattle.cpa_composite.specs.Covers.{all_cover}
use Rattle.cpa_composite.specs.Exact.{IsControl, pins}
use Rattle.cpa_composite.specs.Laws.{MergedRow}
use Rattle.cpa_reached.specs.Members.{IsIn}
use Rattle.cpa_reached.specs.Entries.{ReachedSet}
use Rattle.cpa_reached_key.specs.Rows.{picked}
use Rattle.cpa_reached_key.specs.lemmas.RowLaws.{same_row-decides}
use Rattle.cpa_engine_turn.specs.Keys.{key_of, HasPlaces}
use Rattle.cpa_engine_turn.specs.Stages.{fellows, first_cover}
use Rattle.cpa_engine_turn.specs.lemmas.Keyed.{key_control, key_at, key_by, pins_size, pin_there}
use Rattle.cpa_engine_turn.specs.lemmas.Keyed.{apart}
use Rattle.cpa_engine_turn.specs.lemmas.Picked.{has_key, same_picked}
use Rattle.cpa_engine_laws.specs.Lines.{HasStateKey}

-- ---- pins
abbrev stack_pin : List ℕ → Elem
stack_pin sites = record { facts = Stack sites ∷ [] }

apart_by : (s t : State) (which : Part) → IsControl which
    → (Holds (pin_of which s) s → Holds (pin_of which t) s) → pin_of which s ≡ pin_of which t
apart_by s t which (inl is) =
    subst (λ (w : Part). (Holds (pin_of w s) s → Holds (pin_of w t) s) → pin_of w s ≡ pin_of w t)
    (sym is) (λ within. ap pin (within (refl, tt)).0)
apart_by s t which (inr is) =
    subst (λ (w : Part). (Holds (pin_of w s) s → Holds (pin_of w t) s) → pin_of w s ≡ pin_of w t)
    (sym is) (λ within. ap stack_pin (within (refl, tt)).0)

-- its own state is one of it
pub pin_apart : (m : Meaning) (s t : State) → IsControl m.part
    → IsTrue (m.cover (pin_of m.part s) (pin_of m.part t)) → pin_of m.part s ≡ pin_of m.part t
pin_apart m s t control covers =
    apart_by s t m.part control (m.within (pin_of m.part s) (pin_of m.part t) covers s)

-- ---- rows
cover_at : (cs : List Component) (es fs : List Elem) → all_cover cs es fs ≡ true → (i : ℕ)
    (c : Component) (e f : Elem) → slice_get cs i ≡ Some c → slice_get es i ≡ Some e
    → slice_get fs i ≡ Some f → c.meaning.cover e f ≡ true
cover_at [] es fs covers i c e f at at_e at_f = absurd (cc)
cover_at (d ∷ cs) [] fs covers i c e f at at_e at_f = absurd (cc)
cover_at (d ∷ cs) (x ∷ es) [] covers i c e f at at_e at_f = absurd (cc)
cover_at (d ∷ cs) (x ∷ es) (y ∷ fs) covers zero c e f at at_e at_f =
    subst (λ (b : Component). b.meaning.cover e f ≡ true) (same_Some d c at)
    (subst (λ (u : Elem). d.meaning.cover u f ≡ true) (same_Some x e at_e)
    (subst (λ (v : Elem). d.meaning.cover x v ≡ true) (same_Some y f at_f)
    (and_parts (d.meaning.cover x y) (all_cover cs es fs) covers).0))
cover_at (d ∷ cs) (x ∷ es) (y ∷ fs) covers (suc i) c e f at at_e at_f =
    cover_at cs es fs (and_parts (d.meaning.cover x y) (all_cover cs es fs) covers).1 i c e f at
    at_e at_f

-- what covers a row has its key
covers_key : (cs : List Component) (es fs : List Elem) → HasStateKey cs es → HasStateKey cs fs
    → all_cover cs es fs ≡ true → key_of cs es ≡ key_of cs fs
covers_key cs es fs of_es of_fs covers =
    let s = of_es.state in
    let t = of_fs.state in
    key_by cs es fs of_es.size of_fs.size
    (λ i c e f at at_e at_f key.
    let m = c.meaning in
    let is_e : e ≡ pin_of m.part s =
    key_at cs es (pins cs s) of_es.size (pins_size cs s) of_es.key i c e (pin_of m.part s) at at_e
    (pin_there cs s i c at) key in
    let is_f : f ≡ pin_of m.part t =
    key_at cs fs (pins cs t) of_fs.size (pins_size cs t) of_fs.key i c f (pin_of m.part t) at at_f
    (pin_there cs t i c at) key in
    let here : m.cover (pin_of m.part s) (pin_of m.part t) ≡ true =
    subst (λ (x : Elem). m.cover x (pin_of m.part t) ≡ true) is_e
    (subst (λ (y : Elem). m.cover e y ≡ true) is_f
    (cover_at cs es fs covers i c e f at at_e at_f)) in
    is_e ∙ (pin_apart m s t (key_control c key) here ∙ sym is_f))

-- the first that passes is the first of those that may pass
find_among : (p q : Entry → Bool) (xs : List Entry)
    → ((x : Entry) → IsIn x xs → p x ≡ true → q x ≡ true) → find p (filter q xs) ≡ find p xs
find_among p q [] only = refl
find_among p q (x ∷ xs) only =
    let later = find_among p q xs (λ y there passes. only y (inr there) passes) in
    ⊎_elim
    (λ (passes : p x ≡ true). let may : q x ≡ true = only x (inl refl) passes in
    rw (may, passes) refl)
    (λ (fails : p x ≡ false). ⊎_elim
    (λ (may : q x ≡ true). rw (may, fails) later)
    (λ (never : q x ≡ false). rw (never, fails) later)
    (cases_Bool (q x)))
    (cases_Bool (p x))

pub least_same : (cs : List Component) (r : ReachedSet) (es : List Elem) → HasPlaces cs r
    → HasStateKey cs es → ((e : Entry) → IsIn e r.live → HasStateKey cs e.elems)
    → first_cover cs es (fellows r es) ≡ first_cover cs es r.live
least_same cs r es fits of_es each =
    ap (option_map (λ (e : Entry). e.number))
    (find_among (λ (e : Entry). all_cover cs es e.elems) (has_key r (picked r.places es)) r.live
    (λ x there covers.
    let of_x = each x there in
    (same_row-decides (picked r.places x.elems) (picked r.places es)).1
    (same_picked cs r x.elems es fits of_x.size of_es.size
    (sym (covers_key cs es x.elems of_es of_x covers)))))

-- what merges has the same key
pub merged_same : (cfa : Cfa) (cs : List Component) (new old : List Elem) (ps : List Precision)
    (merged : List Elem) → length new ≡ length cs → length old ≡ length cs
    → MergedRow cs cfa new old ps merged → key_of cs new ≡ key_of cs old
merged_same cfa cs new old ps merged many long row =
    key_by cs new old many long
    (λ i c e f at at_e at_f key. row.agree i c e f at at_e at_f
    (apart c.rule (and_parts _ (keeps_apart c.rule) key).1))
