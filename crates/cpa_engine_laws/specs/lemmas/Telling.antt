-- The pins of a state are those of no other (`pins_tell`).
use Rattle.std.proofs.Common.{◌≡◌, ℕ, zero, suc, ◌+◌, List, [], ◌∷◌, length, Some, ℤ}
use Rattle.std.proofs.Common.{refl, sym, ap, ◌∙◌, subst, arith}
use Rattle.std.specs.List.{slice_get, AllByRecursion}
use Rattle.std.proofs.lemmas.Option.{same_Some}
use Rattle.cpa_expr.specs.Cells.{AreValues}
use Rattle.cpa_ints.specs.declared.integers.IntType.{IntType}
use Rattle.cpa_model.specs.declared.automaton.Cfa.{Cfa}
use Rattle.cpa_model.specs.declared.facts.Elem.{Elem}
use Rattle.cpa_model.specs.declared.states.State.{State}
use Rattle.cpa_model.specs.Automata.{IsStateOf}
use Rattle.cpa_model.specs.Expressions.{types_of}
use Rattle.cpa_model.specs.Facts.{FactHolds, Holds, LiesIn}
use Rattle.cpa_model.specs.States.{state_at}
use Rattle.cpa_iface.specs.declared.analysis.Part.{Part}
use Rattle.cpa_iface.specs.declared.analysis.Part.TheVariants as part
use Rattle.cpa_iface.specs.Pins.{pin_of, equals_from}
use Rattle.cpa_composite.specs.Components.{Component}
use Rattle.cpa_composite.specs.Exact.{pins, HavePart, HaveEachPart}
use Rattle.cpa_engine_turn.specs.lemmas.Keyed.{pin_there}

-- what stands at a place holds
holds_at : (es : List Elem) (s : State) (i : ℕ) (e : Elem) → LiesIn s es → slice_get es i ≡ Some e
    → Holds e s
holds_at [] s i e lies at = absurd (cc)
holds_at (x ∷ es) s zero e lies at = subst (λ (y : Elem). Holds y s) (same_Some x e at) lies.0
holds_at (x ∷ es) s (suc i) e lies at = holds_at es s i e lies.1 at

pin_holds : (cs : List Component) (s t : State) (which : Part) → HavePart cs which
    → LiesIn s (pins cs t) → Holds (pin_of which t) s
pin_holds cs s t which has lies =
    subst (λ (w : Part). Holds (pin_of w t) s) has.is
    (holds_at (pins cs t) s has.place (pin_of has.component.meaning.part t) lies
    (pin_there cs t has.place has.component has.at))

-- values by their places
equals_hold : (s : State) (k : ℕ) (ws : List ℤ)
    → AllByRecursion (FactHolds s) (equals_from k ws) → (i : ℕ) (v : ℤ) → slice_get ws i ≡ Some v
    → slice_get s.store.values (k + i) ≡ Some v
equals_hold s k [] all i v at = absurd (cc)
equals_hold s k (w ∷ ws) all zero v at =
    subst (λ (j : ℕ). slice_get s.store.values j ≡ Some v) (plain k) (all.0 ∙ at)
  where
    plain : (k : ℕ) → k ≡ k + 0
    plain k = omega arith
equals_hold s k (w ∷ ws) all (suc i) v at =
    subst (λ (j : ℕ). slice_get s.store.values j ≡ Some v) (moved k i)
    (equals_hold s (k + 1) ws all.1 i v at)
  where
    moved : (k i : ℕ) → k + 1 + i ≡ k + suc i
    moved k i = omega arith

same_values : (vs ws : List ℤ) → length vs ≡ length ws
    → ((i : ℕ) (v : ℤ) → slice_get ws i ≡ Some v → slice_get vs i ≡ Some v) → vs ≡ ws
same_values [] [] size each = refl
same_values [] (w ∷ ws) size each = absurd (omega (arith, size))
same_values (v ∷ vs) [] size each = absurd (omega (arith, size))
same_values (v ∷ vs) (w ∷ ws) size each =
    let first = same_Some v w (each 0 w refl) in
    let rest = same_values vs ws (omega (arith, size)) (λ i x at. each (suc i) x at) in
    ap (λ (x : ℤ). x ∷ vs) first ∙ ap (λ (xs : List ℤ). w ∷ xs) rest

value_count : (types : List IntType) (vs : List ℤ) → AreValues types vs → length vs ≡ length types
value_count [] [] are = refl
value_count [] (v ∷ vs) are = absurd are
value_count (t ∷ types) [] are = absurd are
value_count (t ∷ types) (v ∷ vs) are = ap suc (value_count types vs are.1)

pub pins_tell : (cfa : Cfa) (cs : List Component) (s t : State) → HaveEachPart cs
    → IsStateOf cfa s → IsStateOf cfa t → LiesIn s (pins cs t) → s ≡ t
pins_tell cfa cs s t parts is_s is_t lies =
    let point = (pin_holds cs s t part.Point parts.0 lies).0 in
    let stack = (pin_holds cs s t part.Stack parts.1 lies).0 in
    let store = pin_holds cs s t part.Store parts.2 lies in
    let size : length s.store.values ≡ length t.store.values =
    value_count (types_of cfa.cells) s.store.values is_s.store
    ∙ sym (value_count (types_of cfa.cells) t.store.values is_t.store) in
    let values = same_values s.store.values t.store.values size
    (λ i v at. subst (λ (j : ℕ). slice_get s.store.values j ≡ Some v) (plain i)
    (equals_hold s 0 t.store.values store i v at)) in
    ap (λ (p : ℕ). state_at p s.stack s.store.values) point
    ∙ ap (λ (calls : List ℕ). state_at t.point calls s.store.values) stack
    ∙ ap (λ (vs : List ℤ). state_at t.point t.stack vs) values
  where
    plain : (i : ℕ) → 0 + i ≡ i
    plain i = omega arith
