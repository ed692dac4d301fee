-- The numbers of the picks by whose elements entries are told apart, one pick after the other
-- (`places_step`).
use Rattle.std.proofs.Common.{◌≡◌, ℕ, zero, suc, ◌+◌, ◌≤◌, Bool, true, false, List, [], ◌∷◌}
use Rattle.std.proofs.Common.{◌++◌, length, drop, Some, refl, sym, ap, ◌∙◌, arith}
use Rattle.std.proofs.Common.{append_assoc, append-nil}
use Rattle.std.specs.Prelude.{if◌then◌else◌}
use Rattle.std.specs.List.{slice_get}
use Rattle.std.proofs.lemmas.Option.{slice_get_within}
use Rattle.cpa_iface.specs.declared.merging.Pick.{Pick}
use Rattle.cpa_iface.specs.Meanings.{Meaning}
use Rattle.cpa_composite.specs.Components.{Component, IsPicked, picked, ArePlaces}
use Rattle.cpa_composite.specs.Keys.{is_key, key_places_from}
use Rattle.cpa_composite.proofs.Picking.{picked_at, picked_length}
use Rattle.cpa_composite.proofs.Placed.{left_at}
use Rattle.cpa_composite_covers.specs.lemmas.PickLaws.{there_is}

pushed : (b : Bool) (i : ℕ) (done rest : List ℕ)
    → (done ++ (if b then i ∷ [] else [])) ++ rest ≡ done ++ (if b then i ∷ rest else rest)
pushed true i done rest = append_assoc done (i ∷ []) rest
pushed false i done rest = ap (λ (ns : List ℕ). ns ++ rest) (append-nil done)

pub places_step : (ms : List Meaning) (picks : List Pick) (i : ℕ) (p : Pick)
    (done more all : List ℕ) → ArePlaces (length ms) picks → slice_get picks i ≡ Some p
    → ((c : Component) → IsPicked ms p c → more ≡ done ++ (if is_key c then i ∷ [] else []))
    → done ++ key_places_from i (drop i (picked ms picks)) ≡ all
    → more ++ key_places_from (i + 1) (drop (i + 1) (picked ms picks)) ≡ all
places_step ms picks i p done more all within at grown before =
    let cs = picked ms picks in
    let inside = slice_get_within picks i p at in
    let size = picked_length ms picks within in
    let c = there_is cs i (omega (arith, inside, size)) in
    let rest = key_places_from (i + 1) (drop (i + 1) cs) in
    let one : more ≡ done ++ (if is_key c.0 then i ∷ [] else []) =
    grown c.0 (picked_at ms picks within i p c.0 at c.1) in
    ap (λ (ns : List ℕ). ns ++ rest) one
    ∙ (pushed (is_key c.0) i done rest
    ∙ (ap (λ (ds : List Component). done ++ key_places_from i ds) (sym (left_at cs i c.0 c.1))
    ∙ before))

none_left : {X : Type 0} (xs : List X) (i : ℕ) → length xs ≤ i → drop i xs ≡ []
none_left [] zero past = refl
none_left [] (suc i) past = refl
none_left (x ∷ xs) zero past = absurd (omega (arith, past))
none_left (x ∷ xs) (suc i) past = none_left xs i (omega (arith, past))

-- all picks were looked at
pub places_end : (ms : List Meaning) (picks : List Pick) (i : ℕ) (done all : List ℕ)
    → ArePlaces (length ms) picks → length picks ≤ i
    → done ++ key_places_from i (drop i (picked ms picks)) ≡ all → done ≡ all
places_end ms picks i done all within past before =
    let size = picked_length ms picks within in
    sym (append-nil done)
    ∙ (ap (λ (ds : List Component). done ++ key_places_from i ds)
    (sym (none_left (picked ms picks) i (omega (arith, past, size))))
    ∙ before)
