-- Rows that grow: where the items so far keep the laws of their calls, and the next one does, all
-- of the longer row do.
use Rattle.std.proofs.Common.{◌≡◌, ℕ, List, [], ◌∷◌, ◌++◌, length, Some}
use Rattle.std.proofs.Common.{◌<◌, sym, ◌∙◌, subst, inr, arith}
use Rattle.std.specs.List.{slice_get}
use Rattle.std.proofs.lemmas.List.{length-append}
use Rattle.std.proofs.lemmas.Option.{same_Some, slice_get_within}
use Rattle.cpa_model.specs.declared.facts.Elem.{Elem}
use Rattle.cpa_model.specs.declared.automaton.Cfa.{Cfa}
use Rattle.cpa_model.specs.declared.automaton.Path.{Path}
use Rattle.cpa_iface.specs.declared.analysis.Settings.{Settings}
use Rattle.cpa_iface.specs.declared.entries.Entry.{Entry}
use Rattle.cpa_iface.specs.declared.merging.Pick.{Pick}
use Rattle.cpa_iface.specs.declared.merging.MergeRule.{MergeRule}
use Rattle.cpa_iface.specs.declared.precisions.Precision.{Precision}
use Rattle.cpa_iface.specs.Laws.{InitialLaws, FirstPrecisionLaws, TransferLaws}
use Rattle.cpa_iface.specs.Laws.{MergeLaws, AdjustLaws, RefineLaws}
use Rattle.cpa_iface.specs.Meanings.{Meaning}
use Rattle.cpa_composite.specs.Components.{Component, picked, IsPicked, ArePlaces, StandsAt}
use Rattle.cpa_composite.specs.Laws.{EachInitial, AreAsked, EachTransfer, EachMerged}
use Rattle.cpa_composite.specs.Laws.{EachAdjusted, EachRefined}
use Rattle.cpa_composite.proofs.Placed.{front_at, last_at, grows}
use Rattle.cpa_composite.proofs.Picking.{picked_at}

-- Where the loop over the picks stands: these are the meanings at first and now, and this pick is
-- at this place.
pub record IsAt (ms now : List Meaning) (picks : List Pick) (place : ℕ) (pick : Pick) : Type 0 where
  pub within : ArePlaces (length ms) picks
  pub same : now ≡ ms
  pub at : slice_get picks place ≡ Some pick

-- the component that stands there is the one that the pick makes of the meanings now
pub picks_it : (ms now : List Meaning) (picks : List Pick) (place : ℕ) (pick : Pick)
    → IsAt ms now picks place pick → (c : Component) → slice_get (picked ms picks) place ≡ Some c
    → IsPicked now pick c
picks_it ms now picks place pick here c is =
    subst (λ (l : List Meaning). IsPicked l pick c) (sym here.same)
    (picked_at ms picks here.within place pick c here.at is)

-- what holds of the component that the pick makes and of the items that were read holds of what
-- stands there
stood : (ms now : List Meaning) (picks : List Pick) (place : ℕ) (pick : Pick) (es : List Elem)
    (ps : List Precision) (e : Elem) (p : Precision) (P : Component → Elem → Precision → Type 0)
    → IsAt ms now picks place pick → slice_get es place ≡ Some e → slice_get ps place ≡ Some p
    → ((c : Component) → IsPicked now pick c → P c e p)
    → (c : Component) (d : Elem) (q : Precision) → StandsAt (picked ms picks) es ps place c d q
    → P c d q
stood ms now picks place pick es ps e p P here elem precision laws c d q stands =
    subst (λ (f : Elem). P c f q) (same_Some e d (sym elem ∙ stands.elem))
    (subst (λ (r : Precision). P c e r) (same_Some p q (sym precision ∙ stands.precision))
    (laws c (picks_it ms now picks place pick here c stands.component)))

pub transfer_more : (cfa : Cfa) (edge : ℕ) (ms now : List Meaning) (picks : List Pick) (place : ℕ)
    (pick : Pick) (es : List Elem) (ps : List Precision) (e : Elem) (p : Precision)
    (lists : List (List Elem)) (list : List Elem)
    → IsAt ms now picks place pick → slice_get es place ≡ Some e → slice_get ps place ≡ Some p
    → length lists ≡ place
    → ((c : Component) → IsPicked now pick c → TransferLaws c.meaning cfa edge e p list)
    → EachTransfer cfa edge (picked ms picks) es ps lists
    → EachTransfer cfa edge (picked ms picks) es ps (lists ++ list ∷ [])
transfer_more cfa edge ms now picks place pick es ps e p lists list here elem precision size
    laws each =
    let P : ℕ → List Elem → Type 0 = λ j l. (c : Component) (d : Elem) (q : Precision)
    → StandsAt (picked ms picks) es ps j c d q → TransferLaws c.meaning cfa edge d q l in
    λ i c d q l stands is.
    grows P lists list (λ j l is c d q stands. each j c d q l stands is)
    (subst (λ (n : ℕ). P n list) (sym size)
    (stood ms now picks place pick es ps e p (λ c d q. TransferLaws c.meaning cfa edge d q list)
    here elem precision laws))
    i l is c d q stands

-- one that gives no element ends them
pub asked_ended : (many : ℕ) (lists : List (List Elem)) (list : List Elem) → length lists < many
    → length list ≡ 0 → AreAsked many (lists ++ list ∷ [])
asked_ended many lists [] less none =
    let size = length-append lists ([] ∷ []) in
    inr (omega (arith, less, size), (length lists, last_at lists []))
asked_ended many lists (e ∷ list) less none = absurd (omega (arith, none))

pub merge_more : (cfa : Cfa) (ms now : List Meaning) (picks : List Pick) (place : ℕ) (pick : Pick)
    (new old : List Elem) (ps : List Precision) (e f : Elem) (p : Precision) (merged : List Elem)
    (g : Elem)
    → IsAt ms now picks place pick → slice_get new place ≡ Some e → slice_get old place ≡ Some f
    → slice_get ps place ≡ Some p → length merged ≡ place
    → ((c : Component) → IsPicked now pick c → MergeLaws c.meaning cfa pick.rule e f p g)
    → EachMerged cfa (picked ms picks) new old ps merged
    → EachMerged cfa (picked ms picks) new old ps (merged ++ g ∷ [])
merge_more cfa ms now picks place pick new old ps e f p merged g here elem fellow precision
    size laws each =
    let P : ℕ → Elem → Type 0 = λ j g. (c : Component) (d : Elem) (q : Precision) (h : Elem)
    → StandsAt (picked ms picks) new ps j c d q → slice_get old j ≡ Some h
    → MergeLaws c.meaning cfa c.rule d h q g in
    let by_rule : (c : Component) → IsPicked now pick c → MergeLaws c.meaning cfa c.rule e f p g =
    λ c is. subst (λ (r : MergeRule). MergeLaws c.meaning cfa r e f p g) is.rule (laws c is) in
    let last : P place g = λ c d q h stands is_old.
    subst (λ (o : Elem). MergeLaws c.meaning cfa c.rule d o q g)
    (same_Some f h (sym fellow ∙ is_old))
    (stood ms now picks place pick new ps e p (λ c d q. MergeLaws c.meaning cfa c.rule d f q g)
    here elem precision by_rule c d q stands) in
    λ i c d q h k stands is_old is.
    grows P merged g (λ j g is c d q h stands is_old. each j c d q h g stands is_old is)
    (subst (λ (n : ℕ). P n g) (sym size) last)
    i k is c d q h stands is_old

pub adjust_more : (cfa : Cfa) (reached : List Entry) (ms now : List Meaning) (picks : List Pick)
    (place : ℕ) (pick : Pick) (es : List Elem) (ps : List Precision) (e : Elem) (p : Precision)
    (after : List Elem) (next : List Precision) (f : Elem) (q : Precision)
    → IsAt ms now picks place pick → slice_get es place ≡ Some e → slice_get ps place ≡ Some p
    → length after ≡ place → length next ≡ place
    → (number : ℕ) → number ≡ place
    → ((c : Component) → IsPicked now pick c → AdjustLaws c.meaning cfa e p reached number f q)
    → EachAdjusted cfa reached (picked ms picks) es ps after next
    → EachAdjusted cfa reached (picked ms picks) es ps (after ++ f ∷ []) (next ++ q ∷ [])
adjust_more cfa reached ms now picks place pick es ps e p after next f q here elem precision
    size long number same laws each =
    let P : ℕ → Elem → Type 0 = λ j g. (c : Component) (d : Elem) (r t : Precision)
    → StandsAt (picked ms picks) es ps j c d r → slice_get (next ++ q ∷ []) j ≡ Some t
    → AdjustLaws c.meaning cfa d r reached j g t in
    let before : (j : ℕ) (g : Elem) → slice_get after j ≡ Some g → P j g =
    λ j g is c d r t stands then.
    let inside = slice_get_within after j g is in
    each j c d r g t stands is
    (sym (front_at next (q ∷ []) j (omega (arith, inside, size, long))) ∙ then) in
    let last : P place f = λ c d r t stands then.
    subst (λ (o : Precision). AdjustLaws c.meaning cfa d r reached place f o)
    (same_Some q t (sym (subst (λ (n : ℕ). slice_get (next ++ q ∷ []) n ≡ Some q) long
    (last_at next q)) ∙ then))
    (stood ms now picks place pick es ps e p
    (λ c d r. AdjustLaws c.meaning cfa d r reached place f q) here elem precision
    (λ c is. subst (λ (n : ℕ). AdjustLaws c.meaning cfa e p reached n f q) same (laws c is)) c d r
    stands) in
    λ i c d r g t stands is then.
    grows P after f before (subst (λ (n : ℕ). P n f) (sym size) last) i g is c d r t stands then

pub refine_more : (cfa : Cfa) (path : Path) (ms now : List Meaning) (picks : List Pick) (place : ℕ)
    (pick : Pick) (old : List Precision) (p : Precision) (new : List Precision) (q : Precision)
    → IsAt ms now picks place pick → slice_get old place ≡ Some p → length new ≡ place
    → ((c : Component) → IsPicked now pick c → RefineLaws c.meaning cfa path p q)
    → EachRefined cfa path (picked ms picks) old new
    → EachRefined cfa path (picked ms picks) old (new ++ q ∷ [])
refine_more cfa path ms now picks place pick old p new q here precision size laws each =
    let P : ℕ → Precision → Type 0 = λ j t. (c : Component) (r : Precision)
    → slice_get (picked ms picks) j ≡ Some c → slice_get old j ≡ Some r
    → RefineLaws c.meaning cfa path r t in
    let last : P place q = λ c r is is_old.
    subst (λ (o : Precision). RefineLaws c.meaning cfa path o q)
    (same_Some p r (sym precision ∙ is_old))
    (laws c (picks_it ms now picks place pick here c is)) in
    λ i c r t is is_old then.
    grows P new q (λ j t then c r is is_old. each j c r t is is_old then)
    (subst (λ (n : ℕ). P n q) (sym size) last) i t then c r is is_old

pub initial_more : (cfa : Cfa) (settings : Settings) (ms now : List Meaning) (picks : List Pick)
    (place : ℕ) (pick : Pick) (es : List Elem) (ps : List Precision) (e : Elem) (p : Precision)
    → IsAt ms now picks place pick → length es ≡ place → length ps ≡ place
    → ((c : Component) → IsPicked now pick c → InitialLaws c.meaning cfa e)
    → (later : List Meaning) → later ≡ now
    → ((c : Component) → IsPicked later pick c → FirstPrecisionLaws c.meaning cfa settings p)
    → EachInitial cfa settings (picked ms picks) es ps
    → EachInitial cfa settings (picked ms picks) (es ++ e ∷ []) (ps ++ p ∷ [])
initial_more cfa settings ms now picks place pick es ps e p here size long laws later same
    first each =
    let P : ℕ → Elem → Type 0 = λ j d. (c : Component) (q : Precision)
    → slice_get (picked ms picks) j ≡ Some c → slice_get (ps ++ p ∷ []) j ≡ Some q
    → InitialLaws c.meaning cfa d × FirstPrecisionLaws c.meaning cfa settings q in
    let before : (j : ℕ) (d : Elem) → slice_get es j ≡ Some d → P j d = λ j d is c q at then.
    let inside = slice_get_within es j d is in
    each j c d q (record {
      component = at;
      elem = is;
      precision = sym (front_at ps (p ∷ []) j (omega (arith, inside, size, long))) ∙ then;
    }) in
    let last : P place e = λ c q at then.
    let is = picks_it ms now picks place pick here c at in (
      laws c is,
      subst (λ (o : Precision). FirstPrecisionLaws c.meaning cfa settings o)
          (same_Some p q (sym (subst (λ (n : ℕ). slice_get (ps ++ p ∷ []) n ≡ Some p) long
          (last_at ps p)) ∙ then))
          (first c (subst (λ (l : List Meaning). IsPicked l pick c) (sym same) is)),
    ) in
    λ i c d q stands.
    grows P es e before (subst (λ (n : ℕ). P n e) (sym size) last) i d stands.elem c q
    stands.component stands.precision
