-- The components that picks make, where each place is that of an analysis.
use Rattle.std.proofs.Common.{zero, suc}
use Rattle.std.proofs.Common.{◌≡◌, ℕ, ◌<◌, List, [], ◌∷◌, length, map, Option, Some}
use Rattle.std.proofs.Common.{refl, sym, ap, ◌∙◌, subst, arith}
use Rattle.std.specs.List.{slice_get}
use Rattle.std.proofs.lemmas.List.{length-map}
use Rattle.std.proofs.lemmas.Option.{same_Some, slice_get_within}
use Rattle.cpa_model.specs.declared.facts.Elem.{Elem}
use Rattle.cpa_iface.specs.declared.merging.Pick.{Pick}
use Rattle.cpa_iface.specs.declared.precisions.Precision.{Precision}
use Rattle.cpa_iface.specs.Meanings.{Meaning}
use Rattle.cpa_composite.specs.Components.{Component, picked, picked_before, IsPicked, ArePlaces}
use Rattle.cpa_composite.specs.Components.{StandsAt}
use Rattle.cpa_composite_covers.specs.lemmas.PickLaws.{there_is}

-- there is a component for each pick
pub picked_length : (ms : List Meaning) (picks : List Pick) → ArePlaces (length ms) picks
    → length (picked ms picks) ≡ length picks
picked_length ms [] h = refl
picked_length ms (p ∷ picks) h =
    ap (λ (o : Option Meaning). length (picked_before o p.rule (picked ms picks)))
    (there_is ms p.place h.0).1
    ∙ ap suc (picked_length ms picks h.1)

-- the components behind the first one
pub picked_later : (ms : List Meaning) (p : Pick) (picks : List Pick) → p.place < length ms
    → (i : ℕ) → slice_get (picked ms (p ∷ picks)) (suc i) ≡ slice_get (picked ms picks) i
picked_later ms p picks inside i =
    ap (λ (o : Option Meaning). slice_get (picked_before o p.rule (picked ms picks)) (suc i))
    (there_is ms p.place inside).1

-- the component at a place is the one that the pick there makes
pub picked_at : (ms : List Meaning) (picks : List Pick) → ArePlaces (length ms) picks → (i : ℕ)
    (p : Pick) (c : Component) → slice_get picks i ≡ Some p → slice_get (picked ms picks) i ≡ Some c
    → IsPicked ms p c
picked_at ms [] within i p c at is = absurd (cc)
picked_at ms (q ∷ picks) within zero p c at is =
    let there = there_is ms q.place within.0 in
    let made : Component = record { meaning = there.0; rule = q.rule } in
    let same = same_Some made c
    (subst (λ (o : Option Meaning). slice_get (picked_before o q.rule (picked ms picks)) 0 ≡ Some c)
    there.1 is) in
    subst (λ (d : Component). IsPicked ms p d) same
    (subst (λ (r : Pick). IsPicked ms r made) (same_Some q p at)
    (record { meaning = there.1; rule = refl }))
picked_at ms (q ∷ picks) within (suc i) p c at is =
    picked_at ms picks within.1 i p c at (sym (picked_later ms q picks within.0 i) ∙ is)

-- the places are within as many analyses that mean the same
pub within_kept : {A : Type 0} (meaning : A → Meaning) (xs ys : List A) (picks : List Pick)
    → map meaning ys ≡ map meaning xs → ArePlaces (length xs) picks → ArePlaces (length ys) picks
within_kept meaning xs ys picks kept within =
    subst (λ (n : ℕ). ArePlaces n picks)
    (sym (length-map xs meaning) ∙ (ap length (sym kept) ∙ length-map ys meaning)) within

-- where an element of a row stands, a component and a precision do
pub stands_there : (cs : List Component) (es : List Elem) (ps : List Precision)
    → length es ≡ length cs → length ps ≡ length cs → (i : ℕ) (e : Elem) → slice_get es i ≡ Some e
    → (c : Component) × (p : Precision) × StandsAt cs es ps i c e p
stands_there cs es ps many each i e at =
    let inside = slice_get_within es i e at in
    let c = there_is cs i (omega (arith, inside, many)) in
    let p = there_is ps i (omega (arith, inside, many, each)) in
    (c.0, p.0, record { component = c.1; elem = at; precision = p.1 })

-- where a precision stands, a component and an element do
pub stands_for : (cs : List Component) (es : List Elem) (ps : List Precision)
    → length es ≡ length cs → length ps ≡ length cs → (i : ℕ) (p : Precision)
    → slice_get ps i ≡ Some p → (c : Component) × (e : Elem) × StandsAt cs es ps i c e p
stands_for cs es ps many each i p at =
    let inside = slice_get_within ps i p at in
    let c = there_is cs i (omega (arith, inside, each)) in
    let e = there_is es i (omega (arith, inside, many, each)) in
    (c.0, e.0, record { component = c.1; elem = e.1; precision = at })
