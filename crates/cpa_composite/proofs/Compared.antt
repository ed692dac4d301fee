-- The tests on rows decide what they ask.
use Rattle.std.proofs.Common.{◌≡◌, ℕ, zero, suc, Bool, true, false, ◌&&◌, ◌||◌, not, List, []}
use Rattle.std.proofs.Common.{◌∷◌, length, Option, Some, refl, sym, ap, ◌∙◌, subst, inl, inr}
use Rattle.std.specs.List.{slice_get}
use Rattle.std.proofs.lemmas.Bool.{and_parts, and_cases, or_parts, both_ways}
use Rattle.std.proofs.lemmas.Option.{same_Some}
use Rattle.cpa_model.specs.declared.facts.Elem.{Elem}
use Rattle.cpa_iface.specs.declared.merging.Pick.{Pick}
use Rattle.cpa_iface.specs.declared.merging.MergeRule.{MergeRule}
use Rattle.cpa_iface.specs.declared.merging.MergeRule.TheVariants.{Sep, Join, Widen}
use Rattle.cpa_iface.specs.declared.precisions.Precision.{Precision}
use Rattle.cpa_iface.specs.Meanings.{Meaning}
use Rattle.cpa_composite.specs.Components.{Component, picked, picked_before, ArePlaces}
use Rattle.cpa_composite.specs.Comparisons.{keeps_apart, same_elem, same_row, agree}
use Rattle.cpa_composite.specs.Laws.{AgreeOnSep, is_longer, some_longer}
use Rattle.cpa_reached_key.specs.lemmas.RowLaws.{same_elem-means, same_elem-self, same_row-decides}
use Rattle.cpa_composite_covers.specs.lemmas.PickLaws.{there_is}
use Rattle.cpa_composite.proofs.Picking.{picked_at, picked_later}

-- rows that are not the same to the letter are not equal
pub row_differs : (es fs : List Elem) → same_row es fs ≡ false → es ≡ fs → ⊥
row_differs es fs h same = both_ways (same_row es fs) h ((same_row-decides es fs).1 same)

-- an analysis that keeps its elements apart
apart_fails : (r : MergeRule) (b : Bool) → (not (keeps_apart r) || b) ≡ false
    → (r ≡ Sep) × (b ≡ false)
apart_fails Sep b h = (refl, h)
apart_fails Join b h = absurd (cc)
apart_fails Widen b h = absurd (cc)

pub agree_means : (ms : List Meaning) (picks : List Pick) → ArePlaces (length ms) picks
    → (new old : List Elem) → agree picks new old ≡ true → AgreeOnSep (picked ms picks) new old
agree_means ms [] within new old h i c e f at a b sep = absurd (cc)
agree_means ms (p ∷ picks) within [] old h i c e f at a b sep = absurd (cc)
agree_means ms (p ∷ picks) within (d ∷ new) [] h i c e f at a b sep = absurd (cc)
agree_means ms (p ∷ picks) within (d ∷ new) (g ∷ old) h zero c e f at a b sep =
    let both = and_parts (not (keeps_apart p.rule) || same_elem d g) (agree picks new old) h in
    let is = picked_at ms (p ∷ picks) within 0 p c refl at in
    let same : same_elem d g ≡ true =
    subst (λ (r : MergeRule). (not (keeps_apart r) || same_elem d g) ≡ true) (is.rule ∙ sep)
    both.0 in
    sym (same_Some d e a) ∙ (same_elem-means d g same ∙ same_Some g f b)
agree_means ms (p ∷ picks) within (d ∷ new) (g ∷ old) h (suc i) c e f at a b sep =
    let both = and_parts (not (keeps_apart p.rule) || same_elem d g) (agree picks new old) h in
    agree_means ms picks within.1 new old both.1 i c e f
    (sym (picked_later ms p picks within.0 i) ∙ at) a b sep

pub agree_fails : (ms : List Meaning) (picks : List Pick) → ArePlaces (length ms) picks
    → (new old : List Elem) → agree picks new old ≡ false → AgreeOnSep (picked ms picks) new old → ⊥
agree_fails ms [] within new old h all = cc
agree_fails ms (p ∷ picks) within [] old h all = cc
agree_fails ms (p ∷ picks) within (d ∷ new) [] h all = cc
agree_fails ms (p ∷ picks) within (d ∷ new) (g ∷ old) h all =
    elim (and_cases (not (keeps_apart p.rule) || same_elem d g) (agree picks new old) h) [
      | inl wrong ↦
          let apart = apart_fails p.rule (same_elem d g) wrong in
          let there = there_is ms p.place within.0 in
          let made : Component = record { meaning = there.0; rule = p.rule } in
          let same = all 0 made d g
          (ap (λ (o : Option Meaning). slice_get (picked_before o p.rule (picked ms picks)) 0)
          there.1) refl refl apart.0 in
          both_ways (same_elem d g) apart.1
          (subst (λ (f : Elem). same_elem d f ≡ true) same (same_elem-self d))
      | inr wrong ↦
          agree_fails ms picks within.1 new old wrong (λ i c e f at a b sep.
          all (suc i) c e f (picked_later ms p picks within.0 i ∙ at) a b sep)
    ]

-- where no precision is longer, none at any place is
pub none_longer : (old new : List Precision) → some_longer old new ≡ false → (i : ℕ)
    (p q : Precision) → slice_get old i ≡ Some p → slice_get new i ≡ Some q → is_longer p q ≡ false
none_longer [] new h i p q at then = absurd (cc)
none_longer (r ∷ old) [] h i p q at then = absurd (cc)
none_longer (r ∷ old) (s ∷ new) h zero p q at then =
    let short = (or_parts (is_longer r s) (some_longer old new) h).0 in
    subst (λ (t : Precision). is_longer p t ≡ false) (same_Some s q then)
    (subst (λ (t : Precision). is_longer t s ≡ false) (same_Some r p at) short)
none_longer (r ∷ old) (s ∷ new) h (suc i) p q at then =
    none_longer old new (or_parts (is_longer r s) (some_longer old new) h).1 i p q at then

-- two tests, in either order
pub either_order : (a b : Bool) → (b && a) ≡ (a && b)
either_order true true = refl
either_order true false = refl
either_order false true = refl
either_order false false = refl
