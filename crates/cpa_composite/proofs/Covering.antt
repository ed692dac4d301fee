-- Every successor of a state of a row lies in some row: it lies in some element of each list, so in
-- some choice, which strengthening keeps.
use Rattle.std.proofs.Common.{suc, ◌<◌}
use Rattle.std.proofs.Common.{◌≡◌, ℕ, ◌+◌, List, [], ◌∷◌, ◌++◌, length, map, Option, Some, None}
use Rattle.std.proofs.Common.{IsSomeAnd, refl, sym, ap, ◌∙◌, subst, inl, inr, arith}
use Rattle.std.specs.Prelude.{⊤}
use Rattle.std.specs.List.{slice_get, AllByRecursion, flat_map}
use Rattle.std.proofs.lemmas.List.{length-append}
use Rattle.std.proofs.lemmas.Option.{same_Some}
use Rattle.cpa_model.specs.declared.facts.Elem.{Elem}
use Rattle.cpa_model.specs.declared.states.State.{State}
use Rattle.cpa_model.specs.declared.automaton.Cfa.{Cfa}
use Rattle.cpa_model.specs.declared.automaton.Edge.{Edge}
use Rattle.cpa_model.specs.Facts.{Holds, LiesIn}
use Rattle.cpa_model.specs.Covers.{LiesInSome}
use Rattle.cpa_model.specs.Automata.{IsStateOf, StepsAlong}
use Rattle.cpa_iface.specs.declared.precisions.Precision.{Precision}
use Rattle.cpa_iface.specs.Laws.{SomeHolds}
use Rattle.cpa_iface.specs.Meanings.{IsShaped, AreShaped}
use Rattle.cpa_composite.specs.Components.{Component, AreElems}
use Rattle.cpa_composite.specs.Laws.{AreAsked, EachTransfer, choices, Strengthens}
use Rattle.cpa_composite.specs.Laws.{EachStrengthened}
use Rattle.cpa_composite.specs.Laws.{SuccessorRows}
use Rattle.cpa_composite.proofs.Placed.{all_both}

-- the state lies in some element of each list
abbrev pub SomeOfEach : State → List (List Elem) → Type 0
SomeOfEach t [] = ⊤
SomeOfEach t (list ∷ lists) = SomeHolds t list × SomeOfEach t lists

-- from a place on
later_transfer : (cfa : Cfa) (edge : ℕ) (c : Component) (cs : List Component) (e : Elem)
    (es : List Elem) (p : Precision) (ps : List Precision) (list : List Elem)
    (lists : List (List Elem))
    → EachTransfer cfa edge (c ∷ cs) (e ∷ es) (p ∷ ps) (list ∷ lists)
    → EachTransfer cfa edge cs es ps lists
later_transfer cfa edge c cs e es p ps list lists each =
    λ i d f q l stands is. each (suc i) d f q l (record {
      component = stands.component;
      elem = stands.elem;
      precision = stands.precision;
    }) is

pub lists_hold : (cfa : Cfa) (edge : ℕ) (g : Edge) (s t : State)
    → slice_get cfa.edges edge ≡ Some g → StepsAlong cfa g s t → (cs : List Component)
    (es : List Elem) (ps : List Precision) (lists : List (List Elem)) → length es ≡ length cs
    → length ps ≡ length cs → length lists < suc (length cs)
    → EachTransfer cfa edge cs es ps lists → LiesIn s es → SomeOfEach t lists
lists_hold cfa edge g s t at step cs es ps [] a b d each lies = tt
lists_hold cfa edge g s t at step [] es ps (list ∷ lists) a b d each lies = absurd (omega arith)
lists_hold cfa edge g s t at step (c ∷ cs) [] ps (list ∷ lists) a b d each lies = absurd (omega
    arith)
lists_hold cfa edge g s t at step (c ∷ cs) (e ∷ es) [] (list ∷ lists) a b d each lies =
    absurd (omega arith)
lists_hold cfa edge g s t at step (c ∷ cs) (e ∷ es) (p ∷ ps) (list ∷ lists) a b d each lies = (
  (each 0 c e p list (record { component = refl; elem = refl; precision = refl }) refl).covers
      g s t at lies.0 step,
  lists_hold cfa edge g s t at step cs es ps lists (omega arith) (omega arith) (omega arith)
      (later_transfer cfa edge c cs e es p ps list lists each) lies.1,
)

lies_left : (t : State) (xs ys : List (List Elem)) → LiesInSome t xs → LiesInSome t (xs ++ ys)
lies_left t [] ys h = absurd h
lies_left t (x ∷ xs) ys (inl h) = inl h
lies_left t (x ∷ xs) ys (inr h) = inr (lies_left t xs ys h)

lies_right : (t : State) (xs ys : List (List Elem)) → LiesInSome t ys → LiesInSome t (xs ++ ys)
lies_right t [] ys h = h
lies_right t (x ∷ xs) ys h = inr (lies_right t xs ys h)

lies_with : (t : State) (e : Elem) (rows : List (List Elem)) → Holds e t → LiesInSome t rows
    → LiesInSome t (map (λ (row : List Elem). e ∷ row) rows)
lies_with t e [] holds h = absurd h
lies_with t e (row ∷ rows) holds (inl h) = inl (holds, h)
lies_with t e (row ∷ rows) holds (inr h) = inr (lies_with t e rows holds h)

some_before : (t : State) (list : List Elem) (rows : List (List Elem)) → SomeHolds t list
    → LiesInSome t rows
    → LiesInSome t (flat_map (λ (e : Elem). map (λ (row : List Elem). e ∷ row) rows) list)
some_before t [] rows h lies = absurd h
some_before t (e ∷ list) rows (inl h) lies =
    lies_left t (map (λ (row : List Elem). e ∷ row) rows)
    (flat_map (λ (d : Elem). map (λ (row : List Elem). d ∷ row) rows) list)
    (lies_with t e rows h lies)
some_before t (e ∷ list) rows (inr h) lies =
    lies_right t (map (λ (row : List Elem). e ∷ row) rows)
    (flat_map (λ (d : Elem). map (λ (row : List Elem). d ∷ row) rows) list)
    (some_before t list rows h lies)

pub choice_holds : (t : State) (lists : List (List Elem)) → SomeOfEach t lists
    → LiesInSome t (choices lists)
choice_holds t [] h = inl tt
choice_holds t (list ∷ lists) h =
    some_before t list (choices lists) h.0 (choice_holds t lists h.1)

pub strengthened_holds : (cfa : Cfa) (t : State) → IsStateOf cfa t → (cs : List Component)
    (before es : List Elem) (ps : List Precision) (result : Option (List Elem)) → LiesIn t before
    → LiesIn t es → Strengthens cfa cs before es ps result → IsSomeAnd result (LiesIn t)
strengthened_holds cfa t state [] before es ps result front lies h =
    subst (λ (o : Option (List Elem)). IsSomeAnd o (LiesIn t)) (sym h) front
strengthened_holds cfa t state (c ∷ cs) before [] ps result front lies h = absurd h
strengthened_holds cfa t state (c ∷ cs) before (e ∷ es) [] result front lies h = absurd h
strengthened_holds cfa t state (c ∷ cs) before (e ∷ es) (p ∷ ps) result front lies (inl h) =
    absurd (h.0.keeps t state lies.0 (all_both (λ (d : Elem). Holds d t) before es front lies.1))
strengthened_holds cfa t state (c ∷ cs) before (e ∷ es) (p ∷ ps) result front lies (inr h) =
    strengthened_holds cfa t state cs (before ++ h.0 ∷ []) es ps result
    (all_both (λ (d : Elem). Holds d t) before (h.0 ∷ []) front
    (h.1.keeps t state lies.0 (all_both (λ (d : Elem). Holds d t) before es front lies.1), tt))
    lies.1 h.2

pub rows_hold : (cfa : Cfa) (t : State) → IsStateOf cfa t → (cs : List Component)
    (ps : List Precision) (chosen rows : List (List Elem)) → LiesInSome t chosen
    → EachStrengthened cfa cs ps chosen rows → LiesInSome t rows
rows_hold cfa t state cs ps [] rows lies h = absurd lies
rows_hold cfa t state cs ps (choice ∷ chosen) rows (inl lies) (inl h) =
    absurd (strengthened_holds cfa t state cs [] choice ps None tt lies h.0)
rows_hold cfa t state cs ps (choice ∷ chosen) rows (inr lies) (inl h) =
    rows_hold cfa t state cs ps chosen rows lies h.1
rows_hold cfa t state cs ps (choice ∷ chosen) rows (inl lies) (inr h) =
    subst (λ (rs : List (List Elem)). LiesInSome t rs) (sym h.2)
    (inl (strengthened_holds cfa t state cs [] choice ps (Some h.0) tt lies h.3))
rows_hold cfa t state cs ps (choice ∷ chosen) rows (inr lies) (inr h) =
    subst (λ (rs : List (List Elem)). LiesInSome t rs) (sym h.2)
    (inr (rows_hold cfa t state cs ps chosen h.1 lies h.4))

-- what strengthening makes of a row is shaped, and as long
strengthened_shaped : (cfa : Cfa) (cs : List Component) (before es : List Elem)
    (ps : List Precision) (row : List Elem) → AreShaped cfa before
    → Strengthens cfa cs before es ps (Some row)
    → AreShaped cfa row × (length row ≡ length before + length cs)
strengthened_shaped cfa [] before es ps row front h =
    let same = same_Some row before h in (
      subst (λ (xs : List Elem). AreShaped cfa xs) (sym same) front,
      ap length same ∙ omega arith,
    )
strengthened_shaped cfa (c ∷ cs) before [] ps row front h = absurd h
strengthened_shaped cfa (c ∷ cs) before (e ∷ es) [] row front h = absurd h
strengthened_shaped cfa (c ∷ cs) before (e ∷ es) (p ∷ ps) row front (inl h) =
    absurd (let wrong : Some row ≡ None = h.1 in cc)
strengthened_shaped cfa (c ∷ cs) before (e ∷ es) (p ∷ ps) row front (inr h) =
    let rest = strengthened_shaped cfa cs (before ++ h.0 ∷ []) es ps row
    (all_both (IsShaped cfa) before (h.0 ∷ []) front (h.1.shaped, tt)) h.2 in
    let longer = length-append before (h.0 ∷ []) in
    let long = rest.1 in (rest.0, omega (arith, long, longer))

pub rows_shaped : (cfa : Cfa) (cs : List Component) (ps : List Precision)
    (chosen rows : List (List Elem)) → EachStrengthened cfa cs ps chosen rows
    → AllByRecursion (AreElems cfa (length cs)) rows
rows_shaped cfa cs ps [] rows h =
    subst (λ (rs : List (List Elem)). AllByRecursion (AreElems cfa (length cs)) rs) (sym h) tt
rows_shaped cfa cs ps (choice ∷ chosen) rows (inl h) = rows_shaped cfa cs ps chosen rows h.1
rows_shaped cfa cs ps (choice ∷ chosen) rows (inr h) =
    let row = strengthened_shaped cfa cs [] choice ps h.0 tt h.3 in
    subst (λ (rs : List (List Elem)). AllByRecursion (AreElems cfa (length cs)) rs) (sym h.2) (
      record { size = let long = row.1 in omega (arith, long); shaped = row.0 },
      rows_shaped cfa
          cs ps chosen h.1 h.4,
    )

-- each choice is shaped, and has an element for each list
with_shaped : (cfa : Cfa) (n : ℕ) (e : Elem) (rows : List (List Elem)) → IsShaped cfa e
    → AllByRecursion (AreElems cfa n) rows
    → AllByRecursion (AreElems cfa (suc n)) (map (λ (row : List Elem). e ∷ row) rows)
with_shaped cfa n e [] own h = tt
with_shaped cfa n e (row ∷ rows) own h = (
  record { size = ap suc h.0.size; shaped = (own, h.0.shaped) },
  with_shaped cfa n e rows own h.1,
)

before_shaped : (cfa : Cfa) (n : ℕ) (list : List Elem) (rows : List (List Elem))
    → AreShaped cfa list → AllByRecursion (AreElems cfa n) rows
    → AllByRecursion (AreElems cfa (suc n))
    (flat_map (λ (e : Elem). map (λ (row : List Elem). e ∷ row) rows) list)
before_shaped cfa n [] rows own h = tt
before_shaped cfa n (e ∷ list) rows own h =
    all_both (AreElems cfa (suc n)) (map (λ (row : List Elem). e ∷ row) rows)
    (flat_map (λ (d : Elem). map (λ (row : List Elem). d ∷ row) rows) list)
    (with_shaped cfa n e rows own.0 h) (before_shaped cfa n list rows own.1 h)

pub choices_shaped : (cfa : Cfa) (lists : List (List Elem))
    → AllByRecursion (AreShaped cfa) lists
    → AllByRecursion (AreElems cfa (length lists)) (choices lists)
choices_shaped cfa [] h = (record { size = refl; shaped = tt }, tt)
choices_shaped cfa (list ∷ lists) h =
    before_shaped cfa (length lists) list (choices lists) h.0 (choices_shaped cfa lists h.1)

pub lists_shaped : (cfa : Cfa) (edge : ℕ) (cs : List Component) (es : List Elem)
    (ps : List Precision) (lists : List (List Elem)) → length es ≡ length cs
    → length ps ≡ length cs → length lists < suc (length cs)
    → EachTransfer cfa edge cs es ps lists → AllByRecursion (AreShaped cfa) lists
lists_shaped cfa edge cs es ps [] a b d each = tt
lists_shaped cfa edge [] es ps (list ∷ lists) a b d each = absurd (omega arith)
lists_shaped cfa edge (c ∷ cs) [] ps (list ∷ lists) a b d each = absurd (omega arith)
lists_shaped cfa edge (c ∷ cs) (e ∷ es) [] (list ∷ lists) a b d each = absurd (omega arith)
lists_shaped cfa edge (c ∷ cs) (e ∷ es) (p ∷ ps) (list ∷ lists) a b d each = (
  (each 0 c e p list (record { component = refl; elem = refl; precision = refl }) refl).shaped,
  lists_shaped cfa edge cs es ps lists (omega arith) (omega arith) (omega arith)
      (later_transfer cfa edge c cs e es p ps list lists each),
)

-- no more are asked than there are
pub at_most : (many : ℕ) (lists : List (List Elem)) → AreAsked many lists
    → length lists < suc many
at_most many lists (inl all) = omega (arith, all)
at_most many lists (inr some) = omega (arith, some.0)

-- the whole of `successors`
pub successor_rows : (cs : List Component) (cfa : Cfa) (edge : ℕ) (es : List Elem)
    (ps : List Precision) (lists rows : List (List Elem)) → length es ≡ length cs
    → length ps ≡ length cs → AreAsked (length cs) lists → EachTransfer cfa edge cs es ps lists
    → EachStrengthened cfa cs ps (choices lists) rows → SuccessorRows cs cfa edge es ps rows
successor_rows cs cfa edge es ps lists rows a b d each made =
    record {
      elems = rows_shaped cfa cs ps (choices lists) rows made;
      covers = λ g s t at lies step.
          rows_hold cfa t step.after cs ps (choices lists) rows
          (choice_holds t lists
          (lists_hold cfa edge g s t at step cs es ps lists a b (at_most (length cs) lists d) each
          lies)) made;
      lists = lists;
      asked = d;
      each = each;
      strengthened = made;
    }
