-- Where each component is exact and the row is the pins of a state, the rows of successors are the
-- pins of the next state.
use Rattle.std.proofs.Common.{zero, suc, ◌≤◌}
use Rattle.std.proofs.Common.{◌≡◌, ◌≢◌, ℕ, ◌+◌, List, [], ◌∷◌, ◌++◌, length, map, Option, Some}
use Rattle.std.proofs.Common.{None, refl, sym, ap, ◌∙◌, subst, inl, inr, ⊎_elim, arith}
use Rattle.std.specs.Prelude.{ℤ}
use Rattle.std.specs.List.{slice_get, AllByRecursion, flat_map}
use Rattle.std.proofs.lemmas.Option.{same_Some, slice_get_within}
use Rattle.cpa_model.specs.declared.facts.Elem.{Elem}
use Rattle.cpa_model.specs.declared.states.State.{State}
use Rattle.cpa_model.specs.declared.automaton.Cfa.{Cfa}
use Rattle.cpa_model.specs.declared.automaton.Edge.{Edge}
use Rattle.cpa_model.specs.Automata.{IsStateOf, StepsAlong, initial_state}
use Rattle.cpa_model.specs.Facts.{FactHolds, Holds, LiesIn}
use Rattle.cpa_iface.specs.declared.analysis.Part.{Part}
use Rattle.cpa_iface.specs.declared.analysis.Part.TheVariants.{Nothing, Point, Stack, Store}
use Rattle.cpa_iface.specs.declared.analysis.Settings.{Settings}
use Rattle.cpa_iface.specs.declared.entries.Entry.{Entry}
use Rattle.cpa_iface.specs.declared.precisions.Precision.{Precision}
use Rattle.cpa_iface.specs.Laws.{StrengthenLaws, StandsByPins, AdjustLaws}
use Rattle.cpa_iface.specs.Pins.{pin_of, equals_from, IsControlPin, StepsPart, PinsStep}
use Rattle.cpa_iface.specs.Pins.{IsSettledBy}
use Rattle.cpa_iface.specs.Pins.{MustBeExact, TracksAll}
use Rattle.cpa_composite.specs.Components.{Component, StandsAt}
use Rattle.cpa_composite.specs.Exact.{IsControl, AreControl, AreExact, BindAll, pins}
use Rattle.cpa_composite.specs.Laws.{choices, Strengthens, EachStrengthened, SuccessorRows}
use Rattle.cpa_composite.specs.Laws.{EachInitial, InitialRow, AdjustedRow}
use Rattle.cpa_composite.proofs.Placed.{all_both, joined, no_more}
use Rattle.cpa_composite_covers.specs.lemmas.PickLaws.{there_is}
use Rattle.cpa_composite.proofs.Following.{not_store, none_of, no_rows}

-- a pin of a state holds of it
equals_hold : (values all : List ℤ) (cell : ℕ) (s : State) → s.store.values ≡ all
    → ((i : ℕ) (v : ℤ) → slice_get values i ≡ Some v → slice_get all (cell + i) ≡ Some v)
    → AllByRecursion (FactHolds s) (equals_from cell values)
equals_hold [] all cell s is at = tt
equals_hold (v ∷ values) all cell s is at = (
  ap (λ (vs : List ℤ). slice_get vs cell) is
      ∙ (let plain : cell ≡ cell + 0 = omega arith in
      ap (λ (n : ℕ). slice_get all n) plain ∙ at 0 v refl),
  equals_hold values all (cell + 1) s is
      (λ i w there. let on : cell + 1 + i ≡ cell + suc i = omega arith in
      ap (λ (n : ℕ). slice_get all n) on ∙ at (suc i) w there),
)

pin_holds : (which : Part) (s : State) → Holds (pin_of which s) s
pin_holds Nothing s = tt
pin_holds Point s = (refl, tt)
pin_holds Stack s = (refl, tt)
pin_holds Store s =
    equals_hold s.store.values s.store.values 0 s refl
    (λ i v there. let plain : 0 + i ≡ i = omega arith in
    ap (λ (n : ℕ). slice_get s.store.values n) plain ∙ there)

pins_hold : (cs : List Component) (s : State) → LiesIn s (pins cs s)
pins_hold [] s = tt
pins_hold (c ∷ cs) s = (pin_holds c.meaning.part s, pins_hold cs s)

-- the pins of the point and of the stack
control_pin : (cfa : Cfa) (which : Part) (s : State) → IsStateOf cfa s → IsControl which
    → IsControlPin cfa (pin_of which s)
control_pin cfa which s state (inl is) =
    inl (s, state, ap (λ (w : Part). pin_of w s) is)
control_pin cfa which s state (inr is) =
    inr (s, state, ap (λ (w : Part). pin_of w s) is)

control_pins : (cfa : Cfa) (cs : List Component) (s : State) → IsStateOf cfa s → AreControl cs
    → AllByRecursion (IsControlPin cfa) (pins cs s)
control_pins cfa [] s state control = tt
control_pins cfa (c ∷ cs) s state control =
    (control_pin cfa c.meaning.part s state control.0, control_pins cfa cs s state control.1)

holds_both : (es fs : List Elem) (s : State) → LiesIn s es → LiesIn s fs → LiesIn s (es ++ fs)
holds_both es fs s a b = all_both (λ (e : Elem). Holds e s) es fs a b

-- what one exact analysis makes of the pin of a state, among others that hold of it
own_stays : (cfa : Cfa) (c : Component) (own : Elem) (others : List Elem) (p : Precision)
    (result : Option Elem) (s : State) → StrengthenLaws c.meaning cfa own others p result
    → IsStateOf cfa s → Holds own s → LiesIn s others → MustBeExact c.meaning.part cfa p
    → StandsByPins c.meaning cfa others → result ≡ Some own
own_stays cfa c own others p None s laws state holds lie binds stand =
    absurd (laws.keeps s state holds lie)
own_stays cfa c own others p (Some e) s laws state holds lie binds stand =
    ap (λ (f : Elem). Some f) (laws.exact binds stand)

binds_later : (cfa : Cfa) (c : Component) (cs : List Component) (p : Precision)
    (ps : List Precision) → BindAll cfa (c ∷ cs) (p ∷ ps) → BindAll cfa cs ps
binds_later cfa c cs p ps binds i d q at_c at_p = binds (suc i) d q at_c at_p

-- one step: the analysis keeps its pin, and what follows is asked with it in front
keeps_own : (cfa : Cfa) (c : Component) (cs : List Component) (before : List Elem)
    (p : Precision) (ps : List Precision) (s : State) (result : Option (List Elem))
    → Strengthens cfa (c ∷ cs) before (pins (c ∷ cs) s) (p ∷ ps) result → IsStateOf cfa s
    → LiesIn s before → MustBeExact c.meaning.part cfa p
    → StandsByPins c.meaning cfa (before ++ pins cs s)
    → Strengthens cfa cs (before ++ pin_of c.meaning.part s ∷ []) (pins cs s) ps result
keeps_own cfa c cs before p ps s result (inl stuck) state lie binds stand =
    absurd (
    let wrong : None ≡ Some (pin_of c.meaning.part s) =
    own_stays cfa c (pin_of c.meaning.part s) (before ++ pins cs s) p None s stuck.0 state
    (pin_holds c.meaning.part s)
    (holds_both before (pins cs s) s lie (pins_hold cs s)) binds stand in cc)
keeps_own cfa c cs before p ps s result (inr on) state lie binds stand =
    let same : Some on.0 ≡ Some (pin_of c.meaning.part s) =
    own_stays cfa c (pin_of c.meaning.part s) (before ++ pins cs s) p (Some on.0) s on.1 state
    (pin_holds c.meaning.part s)
    (holds_both before (pins cs s) s lie (pins_hold cs s)) binds stand in
    subst (λ (f : Elem). Strengthens cfa cs (before ++ f ∷ []) (pins cs s) ps result)
    (same_Some on.0 (pin_of c.meaning.part s) same) on.2

longer_holds : (before : List Elem) (which : Part) (s : State) → LiesIn s before
    → LiesIn s (before ++ pin_of which s ∷ [])
longer_holds before which s lie =
    holds_both before (pin_of which s ∷ []) s lie (pin_holds which s, tt)

-- the row as it is with the pin put from the back of the front to the front of the back
on : (before : List Elem) (c : Component) (cs : List Component) (s : State)
    (result : Option (List Elem))
    → result ≡ Some ((before ++ pin_of c.meaning.part s ∷ []) ++ pins cs s)
    → result ≡ Some (before ++ pins (c ∷ cs) s)
on before c cs s result is =
    is ∙ ap (λ (l : List Elem). Some l) (joined before (pin_of c.meaning.part s) (pins cs s))

-- those of the point and of the stack, whatever stands before them
control_stays : (cfa : Cfa) (cs : List Component) (before : List Elem) (ps : List Precision)
    (s : State) (result : Option (List Elem))
    → Strengthens cfa cs before (pins cs s) ps result → IsStateOf cfa s → LiesIn s before
    → AreControl cs → BindAll cfa cs ps → result ≡ Some (before ++ pins cs s)
control_stays cfa [] before ps s result made state lie control binds =
    made ∙ ap (λ (l : List Elem). Some l) (sym (no_more before))
control_stays cfa (c ∷ cs) before [] s result made state lie control binds = absurd made
control_stays cfa (c ∷ cs) before (p ∷ ps) s result made state lie control binds =
    on before c cs s result
    (control_stays cfa cs (before ++ pin_of c.meaning.part s ∷ []) ps s result
    (keeps_own cfa c cs before p ps s result made state lie (binds 0 c p refl refl)
    (λ store. absurd (not_store c.meaning.part control.0 store)))
    state (longer_holds before c.meaning.part s lie) control.1
    (binds_later cfa c cs p ps binds))

-- and with one of the store among them, where control pins stand before it
exact_stays : (cfa : Cfa) (cs : List Component) (before : List Elem) (ps : List Precision)
    (s : State) (result : Option (List Elem))
    → Strengthens cfa cs before (pins cs s) ps result → IsStateOf cfa s → LiesIn s before
    → AllByRecursion (IsControlPin cfa) before → AreExact cs → BindAll cfa cs ps
    → result ≡ Some (before ++ pins cs s)
exact_stays cfa [] before ps s result made state lie front exact binds =
    made ∙ ap (λ (l : List Elem). Some l) (sym (no_more before))
exact_stays cfa (c ∷ cs) before [] s result made state lie front exact binds = absurd made
exact_stays cfa (c ∷ cs) before (p ∷ ps) s result made state lie front (inl control) binds =
    on before c cs s result
    (exact_stays cfa cs (before ++ pin_of c.meaning.part s ∷ []) ps s result
    (keeps_own cfa c cs before p ps s result made state lie (binds 0 c p refl refl)
    (λ store. absurd (not_store c.meaning.part control.0 store)))
    state (longer_holds before c.meaning.part s lie)
    (all_both (IsControlPin cfa) before (pin_of c.meaning.part s ∷ []) front
    (control_pin cfa c.meaning.part s state control.0, tt))
    control.1 (binds_later cfa c cs p ps binds))
exact_stays cfa (c ∷ cs) before (p ∷ ps) s result made state lie front (inr store) binds =
    on before c cs s result
    (control_stays cfa cs (before ++ pin_of c.meaning.part s ∷ []) ps s result
    (keeps_own cfa c cs before p ps s result made state lie (binds 0 c p refl refl)
    (λ _. all_both (IsControlPin cfa) before (pins cs s) front
    (control_pins cfa cs s state store.1)))
    state (longer_holds before c.meaning.part s lie) store.1
    (binds_later cfa c cs p ps binds))

-- the one choice is the row of the pins
choices_pin : (cs : List Component) (lists : List (List Elem)) (t : State)
    → length lists ≡ length cs
    → ((i : ℕ) (c : Component) → slice_get cs i ≡ Some c
    → slice_get lists i ≡ Some (pin_of c.meaning.part t ∷ []))
    → choices lists ≡ pins cs t ∷ []
choices_pin [] [] t size each = refl
choices_pin [] (list ∷ lists) t size each = absurd (omega arith)
choices_pin (c ∷ cs) [] t size each = absurd (omega arith)
choices_pin (c ∷ cs) (list ∷ lists) t size each =
    let first : list ≡ pin_of c.meaning.part t ∷ [] =
    same_Some list (pin_of c.meaning.part t ∷ []) (each 0 c refl) in
    let later : choices lists ≡ pins cs t ∷ [] =
    choices_pin cs lists t (omega arith) (λ i d at. each (suc i) d at) in
    ap (λ (l : List Elem).
    flat_map (λ (e : Elem). map (λ (r : List Elem). e ∷ r) (choices lists)) l) first
    ∙ ap (λ (rows : List (List Elem)).
    flat_map (λ (e : Elem). map (λ (r : List Elem). e ∷ r) rows) (pin_of c.meaning.part t ∷ []))
    later

-- a step along an edge steps each part
steps_part : (which : Part) (cfa : Cfa) (g : Edge) (s t : State) → StepsAlong cfa g s t
    → StepsPart which cfa g s t
steps_part Nothing cfa g s t step = tt
steps_part Point cfa g s t step = (step.from, step.to)
steps_part Stack cfa g s t step = step.stack
steps_part Store cfa g s t step = step.store

-- the pin at a place
pin_at : (cs : List Component) (s : State) (i : ℕ) (c : Component) → slice_get cs i ≡ Some c
    → slice_get (pins cs s) i ≡ Some (pin_of c.meaning.part s)
pin_at [] s i c at = absurd (cc)
pin_at (d ∷ cs) s zero c at =
    ap (λ (b : Component). Some (pin_of b.meaning.part s)) (same_Some d c at)
pin_at (d ∷ cs) s (suc i) c at = pin_at cs s i c at

settled_by : (which : Part) (g : Edge) → IsSettledBy Store g.act → IsSettledBy which g.act
settled_by Nothing g settled = tt
settled_by Point g settled = tt
settled_by Stack g settled = tt
settled_by Store g settled = settled

-- what the transfer of a component gives
transfer_pins : (cs : List Component) (cfa : Cfa) (edge : ℕ) (ps : List Precision)
    (rows : List (List Elem)) (s : State) → length ps ≡ length cs → BindAll cfa cs ps → (g : Edge)
    → slice_get cfa.edges edge ≡ Some g → IsSettledBy Store g.act → IsStateOf cfa s
    → (laws : SuccessorRows cs cfa edge (pins cs s) ps rows) → (i : ℕ) (c : Component)
    (list : List Elem) → slice_get cs i ≡ Some c → slice_get laws.lists i ≡ Some list
    → PinsStep c.meaning.part cfa g s list
transfer_pins cs cfa edge ps rows s size binds g at settled state laws i c list is given =
    let inside = slice_get_within cs i c is in
    let p = there_is ps i (omega (arith, inside, size)) in
    (laws.each i c (pin_of c.meaning.part s) p.0 list
    (record { component = is; elem = pin_at cs s i c is; precision = p.1 }) given).exact
    (binds i c p.0 is p.1) g s at (settled_by c.meaning.part g settled) state refl

one_row : (cfa : Cfa) (cs : List Component) (ps : List Precision) (t : State)
    (chosen rows : List (List Elem)) → chosen ≡ pins cs t ∷ []
    → EachStrengthened cfa cs ps chosen rows → IsStateOf cfa t → AreExact cs → BindAll cfa cs ps
    → rows ≡ pins cs t ∷ []
one_row cfa cs ps t [] rows is made state exact binds = absurd (cc)
one_row cfa cs ps t (choice ∷ chosen) rows is made state exact binds =
    let first : choice ≡ pins cs t = cc in
    let none : chosen ≡ [] = cc in
    ⊎_elim
    (λ (dropped : Strengthens cfa cs [] choice ps None × EachStrengthened cfa cs ps chosen rows).
    absurd (let wrong : None ≡ Some (pins cs t) =
    exact_stays cfa cs [] ps t None
    (subst (λ (row : List Elem). Strengthens cfa cs [] row ps None) first dropped.0)
    state tt tt exact binds in cc))
    (λ (kept : (row : List Elem) × (others : List (List Elem)) × (rows ≡ row ∷ others)
    × Strengthens cfa cs [] choice ps (Some row) × EachStrengthened cfa cs ps chosen others).
    let same : Some kept.0 ≡ Some (pins cs t) =
    exact_stays cfa cs [] ps t (Some kept.0)
    (subst (λ (row : List Elem). Strengthens cfa cs [] row ps (Some kept.0)) first kept.3)
    state tt tt exact binds in
    let row : kept.0 ≡ pins cs t = same_Some kept.0 (pins cs t) same in
    let others : kept.1 ≡ [] = none_of cfa cs ps chosen kept.1 none kept.4 in
    kept.2 ∙ (ap (λ (r : List Elem). r ∷ kept.1) row
    ∙ ap (λ (l : List (List Elem)). pins cs t ∷ l) others))
    made

-- the law, where the state has a successor by the edge, and where some part has none
pub pins_step : (cs : List Component) (cfa : Cfa) (edge : ℕ) (ps : List Precision)
    (rows : List (List Elem)) (g : Edge) (s t : State) → AreExact cs → BindAll cfa cs ps
    → length ps ≡ length cs → SuccessorRows cs cfa edge (pins cs s) ps rows
    → slice_get cfa.edges edge ≡ Some g → IsSettledBy Store g.act → StepsAlong cfa g s t
    → rows ≡ pins cs t ∷ []
pins_step cs cfa edge ps rows g s t exact binds size laws at settled step =
    let stepped : (i : ℕ) (c : Component) (list : List Elem) → slice_get cs i ≡ Some c
    → slice_get laws.lists i ≡ Some list → list ≡ pin_of c.meaning.part t ∷ [] =
    λ i c list is given.
    (transfer_pins cs cfa edge ps rows s size binds g at settled step.before laws i c list is
    given).step t (steps_part c.meaning.part cfa g s t step) in
    ⊎_elim
    (λ (all : length laws.lists ≡ length cs).
    one_row cfa cs ps t (choices laws.lists) rows
    (choices_pin cs laws.lists t all
    (λ i c is.
    let list = there_is laws.lists i (omega (arith, slice_get_within cs i c is, all)) in
    list.1 ∙ ap (λ (l : List Elem). Some l) (stepped i c list.0 is list.1)))
    laws.strengthened step.after exact binds)
    (λ (some : (length laws.lists ≤ length cs)
    × ((j : ℕ) × (slice_get laws.lists j ≡ Some []))).
    let j = some.1.0 in
    let c = there_is cs j (omega (arith, slice_get_within laws.lists j [] some.1.1, some.0)) in
    let wrong : [] ≡ pin_of c.0.meaning.part t ∷ [] = stepped j c.0 [] c.1 some.1.1 in
    absurd (cc))
    laws.asked

pub pins_stuck : (cs : List Component) (cfa : Cfa) (edge : ℕ) (ps : List Precision)
    (rows : List (List Elem)) (g : Edge) (s : State) → BindAll cfa cs ps
    → length ps ≡ length cs → SuccessorRows cs cfa edge (pins cs s) ps rows
    → slice_get cfa.edges edge ≡ Some g → IsSettledBy Store g.act → IsStateOf cfa s → (i : ℕ)
    (c : Component) → slice_get cs i ≡ Some c
    → ((t : State) → StepsPart c.meaning.part cfa g s t → ⊥)
    → rows ≡ []
pins_stuck cs cfa edge ps rows g s binds size laws at settled state i c is none =
    ⊎_elim
    (λ (all : length laws.lists ≡ length cs).
    let list = there_is laws.lists i (omega (arith, slice_get_within cs i c is, all)) in
    let steps = transfer_pins cs cfa edge ps rows s size binds g at settled state laws i c list.0
    is list.1 in
    no_rows cs cfa edge (pins cs s) ps rows laws i
    (list.1 ∙ ap (λ (l : List Elem). Some l) (steps.stuck none)))
    (λ (some : (length laws.lists ≤ length cs)
    × ((j : ℕ) × (slice_get laws.lists j ≡ Some []))).
    no_rows cs cfa edge (pins cs s) ps rows laws some.1.0 some.1.1)
    laws.asked

-- the row to begin with
some_part : (which : Part) → IsControl which → which ≢ Nothing
some_part which (inl is) none = let wrong : Point ≡ Nothing = sym is ∙ none in cc
some_part which (inr is) none = let wrong : Stack ≡ Nothing = sym is ∙ none in cc

store_part : (which : Part) → which ≡ Store → which ≢ Nothing
store_part which is none = let wrong : Store ≡ Nothing = sym is ∙ none in cc

control_parts : (cs : List Component) → AreControl cs
    → AllByRecursion (λ c. c.meaning.part ≢ Nothing) cs
control_parts [] control = tt
control_parts (c ∷ cs) control =
    (some_part c.meaning.part control.0, control_parts cs control.1)

exact_parts : (cs : List Component) → AreExact cs
    → AllByRecursion (λ c. c.meaning.part ≢ Nothing) cs
exact_parts [] exact = tt
exact_parts (c ∷ cs) (inl control) =
    (some_part c.meaning.part control.0, exact_parts cs control.1)
exact_parts (c ∷ cs) (inr store) =
    (store_part c.meaning.part store.0, control_parts cs store.1)

begins : (cs : List Component) (cfa : Cfa) (settings : Settings) (es : List Elem)
    (ps : List Precision) → length es ≡ length cs → length ps ≡ length cs
    → AllByRecursion (λ c. c.meaning.part ≢ Nothing) cs → EachInitial cfa settings cs es ps
    → es ≡ pins cs (initial_state cfa)
begins [] cfa settings [] ps many size parts each = refl
begins [] cfa settings (e ∷ es) ps many size parts each = absurd (omega arith)
begins (c ∷ cs) cfa settings [] ps many size parts each = absurd (omega arith)
begins (c ∷ cs) cfa settings (e ∷ es) [] many size parts each = absurd (omega arith)
begins (c ∷ cs) cfa settings (e ∷ es) (p ∷ ps) many size parts each =
    let first : e ≡ pin_of c.meaning.part (initial_state cfa) =
    (each 0 c e p (record { component = refl; elem = refl; precision = refl })).0.exact parts.0 in
    let later : es ≡ pins cs (initial_state cfa) =
    begins cs cfa settings es ps (omega arith) (omega arith) parts.1
    (λ i d x q stands. each (suc i) d x q
    (record { component = stands.component; elem = stands.elem; precision = stands.precision })) in
    cc

pub pins_initial : (cs : List Component) (cfa : Cfa) (settings : Settings) (es : List Elem)
    (ps : List Precision) → AreExact cs → InitialRow cs cfa settings es ps
    → es ≡ pins cs (initial_state cfa)
pins_initial cs cfa settings es ps exact row =
    begins cs cfa settings es ps row.elems.size row.precisions.size (exact_parts cs exact) row.each

-- adjustment leaves a row of exact analyses, and the precisions go on binding them
adjusts : (cfa : Cfa) (reached : List Entry) (cs : List Component) (es : List Elem)
    (ps : List Precision) (after : List Elem) (next : List Precision) (n : ℕ)
    → length es ≡ length cs → length ps ≡ length cs → length after ≡ length cs
    → length next ≡ length cs → BindAll cfa cs ps
    → ((i : ℕ) (c : Component) (e : Elem) (p : Precision) (f : Elem) (q : Precision)
    → StandsAt cs es ps i c e p → slice_get after i ≡ Some f → slice_get next i ≡ Some q
    → AdjustLaws c.meaning cfa e p reached (n + i) f q)
    → after ≡ es
adjusts cfa reached [] [] ps [] next n a b d g binds each = refl
adjusts cfa reached [] (e ∷ es) ps after next n a b d g binds each = absurd (omega arith)
adjusts cfa reached [] [] ps (f ∷ after) next n a b d g binds each = absurd (omega arith)
adjusts cfa reached (c ∷ cs) [] ps after next n a b d g binds each = absurd (omega arith)
adjusts cfa reached (c ∷ cs) (e ∷ es) [] after next n a b d g binds each = absurd (omega arith)
adjusts cfa reached (c ∷ cs) (e ∷ es) (p ∷ ps) [] next n a b d g binds each = absurd (omega arith)
adjusts cfa reached (c ∷ cs) (e ∷ es) (p ∷ ps) (f ∷ after) [] n a b d g binds each =
    absurd (omega arith)
adjusts cfa reached (c ∷ cs) (e ∷ es) (p ∷ ps) (f ∷ after) (q ∷ next) n a b d g binds each =
    let first : f ≡ e =
    (each 0 c e p f q (record { component = refl; elem = refl; precision = refl }) refl
    refl).exact (binds 0 c p refl refl) in
    let later : after ≡ es =
    adjusts cfa reached cs es ps after next (suc n) (omega arith) (omega arith) (omega arith)
    (omega arith) (binds_later cfa c cs p ps binds)
    (λ i x y z u v stands at_u at_v.
    let place : n + suc i ≡ suc n + i = omega arith in
    subst (λ (k : ℕ). AdjustLaws x.meaning cfa y z reached k u v) place
    (each (suc i) x y z u v
    (record { component = stands.component; elem = stands.elem; precision = stands.precision })
    at_u at_v)) in
    cc

still_binds : (which : Part) (cfa : Cfa) (p q : Precision) → MustBeExact which cfa p
    → (which ≡ Store → TracksAll cfa p → q ≡ p) → MustBeExact which cfa q
still_binds Nothing cfa p q binds same = binds
still_binds Point cfa p q binds same = tt
still_binds Stack cfa p q binds same = tt
still_binds Store cfa p q binds same = subst (TracksAll cfa) (sym (same refl binds)) binds

pub pins_adjust : (cs : List Component) (cfa : Cfa) (es : List Elem) (ps : List Precision)
    (reached : List Entry) (after : List Elem) (next : List Precision) → BindAll cfa cs ps
    → length es ≡ length cs → length ps ≡ length cs
    → AdjustedRow cs cfa es ps reached after next → (after ≡ es) × BindAll cfa cs next
pins_adjust cs cfa es ps reached after next binds many size row = (
  adjusts cfa reached cs es ps after next 0 many size row.elems.size row.precisions.size binds
      (λ i c e p f q stands at_f at_q.
      let plain : i ≡ 0 + i = omega arith in
      subst (λ (k : ℕ). AdjustLaws c.meaning cfa e p reached k f q) plain
      (row.each i c e p f q stands at_f at_q)),
  λ i c q is at_q.
      let inside = slice_get_within cs i c is in
      let e = there_is es i (omega (arith, inside, many)) in
      let p = there_is ps i (omega (arith, inside, size)) in
      let f = there_is after i (omega (arith, inside, row.elems.size)) in
      let laws = row.each i c e.0 p.0 f.0 q
      (record { component = is; elem = e.1; precision = p.1 }) f.1 at_q in
      still_binds c.meaning.part cfa p.0 q (binds i c p.0 is p.1) laws.exact_precision,
)
