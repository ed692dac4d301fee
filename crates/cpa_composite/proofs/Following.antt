-- Rows of successors follow an exact pin of the point or of the stack: each choice has it, and
-- strengthening keeps it.
use Rattle.std.proofs.Common.{zero, suc, ◌≤◌, ⊎_elim}
use Rattle.std.proofs.Common.{◌≡◌, ℕ, ◌+◌, List, [], ◌∷◌, ◌++◌, length, map, Some}
use Rattle.std.proofs.Common.{None, refl, sym, ap, ◌∙◌, subst, inl, inr, arith}
use Rattle.std.specs.List.{slice_get, flat_map}
use Rattle.std.proofs.lemmas.List.{length-append}
use Rattle.std.proofs.lemmas.Option.{same_Some, slice_get_within}
use Rattle.cpa_model.specs.declared.facts.Elem.{Elem}
use Rattle.cpa_model.specs.declared.states.State.{State}
use Rattle.cpa_model.specs.declared.automaton.Cfa.{Cfa}
use Rattle.cpa_model.specs.declared.automaton.Edge.{Edge}
use Rattle.cpa_model.specs.Automata.{IsStateOf}
use Rattle.cpa_iface.specs.declared.analysis.Part.{Part}
use Rattle.cpa_iface.specs.declared.analysis.Part.TheVariants.{Point, Stack, Store}
use Rattle.cpa_iface.specs.declared.precisions.Precision.{Precision}
use Rattle.cpa_iface.specs.Laws.{IsOwnOrNone}
use Rattle.cpa_iface.specs.Pins.{pin_of, PinsStep, IsSettledBy, MustBeExact}
use Rattle.cpa_composite.specs.Components.{Component, StandsAt}
use Rattle.cpa_composite.specs.Exact.{IsControl, HaveAt, FollowPart}
use Rattle.cpa_composite.specs.Laws.{choices, Strengthens, EachStrengthened, SuccessorRows}
use Rattle.cpa_composite.proofs.Placed.{last_at, all_both}
use Rattle.cpa_composite_covers.specs.lemmas.PickLaws.{there_is}

-- a part that is the point or the stack binds at each precision, and has no input
binds : (which : Part) (cfa : Cfa) (p : Precision) → IsControl which → MustBeExact which cfa p
binds which cfa p (inl is) = subst (λ (w : Part). MustBeExact w cfa p) (sym is) tt
binds which cfa p (inr is) = subst (λ (w : Part). MustBeExact w cfa p) (sym is) tt

settled : (which : Part) (g : Edge) → IsControl which → IsSettledBy which g.act
settled which g (inl is) = subst (λ (w : Part). IsSettledBy w g.act) (sym is) tt
settled which g (inr is) = subst (λ (w : Part). IsSettledBy w g.act) (sym is) tt

pub not_store : (which : Part) → IsControl which → which ≡ Store → ⊥
not_store which (inl is) store = let wrong : Point ≡ Store = sym is ∙ store in cc
not_store which (inr is) store = let wrong : Stack ≡ Store = sym is ∙ store in cc

-- choices have at a place what their list there has
first_have : (e : Elem) (rows : List (List Elem))
    → HaveAt 0 e (map (λ (row : List Elem). e ∷ row) rows)
first_have e [] = tt
first_have e (row ∷ rows) = (refl, first_have e rows)

later_have : (i : ℕ) (x e : Elem) (rows : List (List Elem)) → HaveAt i x rows
    → HaveAt (suc i) x (map (λ (row : List Elem). e ∷ row) rows)
later_have i x e [] h = tt
later_have i x e (row ∷ rows) h = (h.0, later_have i x e rows h.1)

before_have : (i : ℕ) (x : Elem) (list : List Elem) (rows : List (List Elem)) → HaveAt i x rows
    → HaveAt (suc i) x (flat_map (λ (e : Elem). map (λ (row : List Elem). e ∷ row) rows) list)
before_have i x [] rows h = tt
before_have i x (e ∷ list) rows h =
    all_both (λ (row : List Elem). slice_get row (suc i) ≡ Some x)
    (map (λ (row : List Elem). e ∷ row) rows)
    (flat_map (λ (d : Elem). map (λ (row : List Elem). d ∷ row) rows) list)
    (later_have i x e rows h) (before_have i x list rows h)

choices_have : (lists : List (List Elem)) (i : ℕ) (x : Elem) → slice_get lists i ≡ Some (x ∷ [])
    → HaveAt i x (choices lists)
choices_have [] i x at = absurd (cc)
choices_have (list ∷ lists) zero x at =
    subst (λ (l : List Elem).
    HaveAt 0 x (flat_map (λ (e : Elem). map (λ (row : List Elem). e ∷ row) (choices lists)) l))
    (sym (same_Some list (x ∷ []) at))
    (all_both (λ (row : List Elem). slice_get row 0 ≡ Some x)
    (map (λ (row : List Elem). x ∷ row) (choices lists)) [] (first_have x (choices lists)) tt)
choices_have (list ∷ lists) (suc i) x at =
    before_have i x list (choices lists) (choices_have lists i x at)

-- there is none where a list is empty
none_before : (list : List Elem)
    → flat_map (λ (e : Elem). map (λ (row : List Elem). e ∷ row) []) list ≡ []
none_before [] = refl
none_before (e ∷ list) = none_before list

pub choices_none : (lists : List (List Elem)) (i : ℕ) → slice_get lists i ≡ Some []
    → choices lists ≡ []
choices_none [] i at = absurd (cc)
choices_none (list ∷ lists) zero at =
    ap (flat_map (λ (e : Elem). map (λ (row : List Elem). e ∷ row) (choices lists)))
    (same_Some list [] at)
choices_none (list ∷ lists) (suc i) at =
    ap (λ (rows : List (List Elem)).
    flat_map (λ (e : Elem). map (λ (row : List Elem). e ∷ row) rows) list) (choices_none lists i at)
    ∙ none_before list

-- an item of a list is one of a longer list
longer : (xs : List Elem) (y : Elem) (j : ℕ) (z : Elem) → slice_get xs j ≡ Some z
    → slice_get (xs ++ y ∷ []) j ≡ Some z
longer [] y j z at = absurd (cc)
longer (w ∷ xs) y zero z at = at
longer (w ∷ xs) y (suc j) z at = longer xs y j z at

-- the front of a row stays
front_stays : (cfa : Cfa) (cs : List Component) (before es : List Elem) (ps : List Precision)
    (row : List Elem) → Strengthens cfa cs before es ps (Some row) → (i : ℕ) (x : Elem)
    → slice_get before i ≡ Some x → slice_get row i ≡ Some x
front_stays cfa [] before es ps row h i x at =
    ap (λ (l : List Elem). slice_get l i) (same_Some row before h) ∙ at
front_stays cfa (c ∷ cs) before [] ps row h i x at = absurd h
front_stays cfa (c ∷ cs) before (e ∷ es) [] row h i x at = absurd h
front_stays cfa (c ∷ cs) before (e ∷ es) (p ∷ ps) row (inl h) i x at =
    absurd (let wrong : Some row ≡ None = h.1 in cc)
front_stays cfa (c ∷ cs) before (e ∷ es) (p ∷ ps) row (inr h) i x at =
    front_stays cfa cs (before ++ h.0 ∷ []) es ps row h.2 i x (longer before h.0 i x at)

-- strengthening keeps the element of a component that is exact on the point or on the stack
strengthened_have : (cfa : Cfa) (cs : List Component) (before es : List Elem)
    (ps : List Precision) (row : List Elem) → Strengthens cfa cs before es ps (Some row) → (i : ℕ)
    (c : Component) (x : Elem) → slice_get cs i ≡ Some c → slice_get es i ≡ Some x
    → IsControl c.meaning.part → slice_get row (length before + i) ≡ Some x
strengthened_have cfa [] before es ps row h i c x is at control = absurd (cc)
strengthened_have cfa (d ∷ cs) before [] ps row h i c x is at control = absurd h
strengthened_have cfa (d ∷ cs) before (e ∷ es) [] row h i c x is at control = absurd h
strengthened_have cfa (d ∷ cs) before (e ∷ es) (p ∷ ps) row (inl h) i c x is at control =
    absurd (let wrong : Some row ≡ None = h.1 in cc)
strengthened_have cfa (d ∷ cs) before (e ∷ es) (p ∷ ps) row (inr h) zero c x is at control =
    let same : d ≡ c = same_Some d c is in
    let part : IsControl d.meaning.part =
    subst (λ (b : Component). IsControl b.meaning.part) (sym same) control in
    let own : IsOwnOrNone e (Some h.0) =
    h.1.exact (binds d.meaning.part cfa p part)
    (λ store. absurd (not_store d.meaning.part part store)) in
    let there : slice_get (before ++ h.0 ∷ []) (length before) ≡ Some x =
    last_at before h.0 ∙ (ap (λ (f : Elem). Some f) own ∙ at) in
    subst (λ (n : ℕ). slice_get row n ≡ Some x) (omega arith)
    (front_stays cfa cs (before ++ h.0 ∷ []) es ps row h.2 (length before) x there)
strengthened_have cfa (d ∷ cs) before (e ∷ es) (p ∷ ps) row (inr h) (suc i) c x is at control =
    let many : length (before ++ h.0 ∷ []) + i ≡ length before + suc i =
    ap (λ (n : ℕ). n + i) (length-append before (h.0 ∷ [])) ∙ omega arith in
    subst (λ (n : ℕ). slice_get row n ≡ Some x) many
    (strengthened_have cfa cs (before ++ h.0 ∷ []) es ps row h.2 i c x is at control)

rows_have : (cfa : Cfa) (cs : List Component) (ps : List Precision)
    (chosen rows : List (List Elem)) → EachStrengthened cfa cs ps chosen rows → (i : ℕ)
    (c : Component) (x : Elem) → slice_get cs i ≡ Some c → IsControl c.meaning.part
    → HaveAt i x chosen → HaveAt i x rows
rows_have cfa cs ps [] rows h i c x is control have =
    subst (λ (rs : List (List Elem)). HaveAt i x rs) (sym h) tt
rows_have cfa cs ps (choice ∷ chosen) rows (inl h) i c x is control have =
    rows_have cfa cs ps chosen rows h.1 i c x is control have.1
rows_have cfa cs ps (choice ∷ chosen) rows (inr h) i c x is control have =
    subst (λ (rs : List (List Elem)). HaveAt i x rs) (sym h.2) (
      (let plain : length {A = Elem} [] + i ≡ i = omega arith in
          subst (λ (n : ℕ). slice_get h.0 n ≡ Some x) plain
          (strengthened_have cfa cs [] choice ps h.0 h.3 i c x is have.0 control)),
      rows_have cfa cs ps chosen h.1 h.4 i c x is control have.1,
    )

-- of no choice comes no row
pub none_of : (cfa : Cfa) (cs : List Component) (ps : List Precision)
    (chosen rows : List (List Elem)) → chosen ≡ [] →
    EachStrengthened cfa cs ps chosen rows → rows ≡ []
none_of cfa cs ps [] rows empty made = made
none_of cfa cs ps (choice ∷ chosen) rows empty made = absurd (cc)

-- where an analysis gives none, there is no row
pub no_rows : (cs : List Component) (cfa : Cfa) (edge : ℕ) (es : List Elem) (ps : List Precision)
    (rows : List (List Elem)) → (h : SuccessorRows cs cfa edge es ps rows) → (j : ℕ)
    → slice_get h.lists j ≡ Some [] → rows ≡ []
no_rows cs cfa edge es ps rows h j none =
    none_of cfa cs ps (choices h.lists) rows (choices_none h.lists j none) h.strengthened

-- the law
pub follows : (cs : List Component) (cfa : Cfa) (edge : ℕ) (es : List Elem) (ps : List Precision)
    (rows : List (List Elem)) → SuccessorRows cs cfa edge es ps rows → (i : ℕ) (c : Component)
    (e : Elem) (p : Precision) → StandsAt cs es ps i c e p → IsControl c.meaning.part → (g : Edge)
    (s : State) → slice_get cfa.edges edge ≡ Some g → IsStateOf cfa s
    → e ≡ pin_of c.meaning.part s → FollowPart c.meaning.part cfa g s i rows
follows cs cfa edge es ps rows h i c e p stands control g s at state pinned =
    ⊎_elim
    (λ (all : length h.lists ≡ length cs).
    let inside = slice_get_within cs i c stands.component in
    let list = there_is h.lists i (omega (arith, inside, all)) in
    let steps : PinsStep c.meaning.part cfa g s list.0 =
    (h.each i c e p list.0 stands list.1).exact (binds c.meaning.part cfa p control) g s at
    (settled c.meaning.part g control) state pinned in
    record {
      step = λ t step.
          rows_have cfa cs ps (choices h.lists) rows h.strengthened i c (pin_of c.meaning.part t)
          stands.component control
          (choices_have h.lists i (pin_of c.meaning.part t)
          (list.1 ∙ ap (λ (l : List Elem). Some l) (steps.step t step)));
      stuck = λ none.
          none_of cfa cs ps (choices h.lists) rows
          (choices_none h.lists i (list.1 ∙ ap (λ (l : List Elem). Some l) (steps.stuck none)))
          h.strengthened;
    })
    (λ (some : (length h.lists ≤ length cs)
    × ((j : ℕ) × (slice_get h.lists j ≡ Some []))).
    subst (λ (rs : List (List Elem)). FollowPart c.meaning.part cfa g s i rs)
    (sym (no_rows cs cfa edge es ps rows h some.1.0 some.1.1))
    (record { step = λ t step. tt; stuck = λ none. refl }))
    h.asked
