-- The turn so far: what holds of each stage, whatever the entries were when the turn began
-- (`so_far_along`).
use Rattle.std.proofs.Common.{◌≡◌, ℕ, ◌<◌, ◌≤◌, true, false, List, [], ◌∷◌, ◌++◌}
use Rattle.std.proofs.Common.{refl, sym, ap, ◌∙◌, subst, inl, inr, ⊎_elim, arith}
use Rattle.std.specs.Prelude.{◌⊎◌}
use Rattle.cpa_model.specs.declared.automaton.Cfa.{Cfa}
use Rattle.cpa_model.specs.Facts.{LiesIn}
use Rattle.cpa_iface.specs.declared.entries.Entry.{Entry}
use Rattle.cpa_iface.specs.Laws.{AreDistinct}
use Rattle.cpa_composite.specs.Components.{Component}
use Rattle.cpa_composite.specs.Covers.{all_cover}
use Rattle.cpa_reached.specs.Members.{IsIn}
use Rattle.cpa_reached.specs.Entries.{ReachedSet, IsLive}
use Rattle.cpa_engine_turn.specs.Keys.{key_of, HasPlaces}
use Rattle.cpa_engine_turn.specs.Turns.{IsNamed, IsFollowedBy, at_once, later, firsts, seconds}
use Rattle.cpa_engine_turn.specs.Turns.{IsReplaced}
use Rattle.cpa_engine_turn.specs.lemmas.Lists.{map_push, in_map_of, of_map, distinct_push}
use Rattle.cpa_engine_turn.proofs.Effects.{alike_then, HasAlike, GoesOnIn, IsNew}
use Rattle.cpa_engine_turn.proofs.Effects.{GivesWay, IsJustAdded, IsJustPaired, Effect, effect}
use Rattle.cpa_engine_turn.proofs.Effects.{below_next}
use Rattle.cpa_engine_turn.proofs.Chains.{kept_along}
use Rattle.cpa_engine_turn.specs.Stages.{Stage}
use Rattle.cpa_engine_turn.specs.Steps.{Does, Leads, IsOrdered}

-- an entry that came in this turn: the row names it, and it waits
pub record CameIn (start : ℕ) (m : Stage) (e : Entry) : Type 0 where
  pub named : IsNamed m.row e.number
  pub waits : e.waiting ≡ true
  pub from : start ≤ e.number

pub record SoFar (cfa : Cfa) (cs : List Component) (old : List Entry) (start : ℕ) (m : Stage)
    : Type 0 where
  pub ordered : IsOrdered m.reached
  pub rises : start ≤ m.reached.next
  pub entries : (o : Entry) → IsIn o old
      → GoesOnIn m.reached.live o ⊎ IsReplaced cfa m.row m.reached.live o
  pub known : (e : Entry) → IsIn e m.reached.live → HasAlike old e ⊎ CameIn start m e
  pub brought : (n : ℕ) → IsNamed m.row n → (start ≤ n) × (n < m.reached.next)
  pub first : (n : ℕ) → IsIn n (firsts m.row.replaced)
      → (n < m.reached.next) × (IsLive old n ⊎ IsNamed m.row n)
  pub gone : (n : ℕ) → IsIn n (firsts m.row.replaced) → IsLive m.reached.live n → ⊥
  pub once : AreDistinct (firsts m.row.replaced)
  pub uncovered : (e f : Entry) → IsIn e m.reached.live → IsIn e.number m.row.added
      → IsIn f m.reached.live → f.number < e.number → key_of cs e.elems ≡ key_of cs f.elems
      → all_cover cs e.elems f.elems ≡ false
  pub current : IsLive m.reached.live m.current
  pub stands : (m.current ≡ m.row.taken) ⊎ (start ≤ m.current)

-- what was named is named still
still_named : (cfa : Cfa) (cs : List Component) (a b : Stage) (n : ℕ) → Effect cfa cs a b
    → IsNamed a.row n → IsNamed b.row n
still_named cfa cs a b n e (inl there) = inl (e.still_added n there)
still_named cfa cs a b n e (inr there) =
    let p = of_map (λ (q : ℕ × ℕ). q.1) a.row.replaced n there in
    inr (subst (λ (k : ℕ). IsIn k (seconds b.row.replaced)) p.2
    (in_map_of (λ (q : ℕ × ℕ). q.1) b.row.replaced p.0 (e.still_paired p.0 p.1)))

still_followed : (cfa : Cfa) (cs : List Component) (a b : Stage) (n m : ℕ) → Effect cfa cs a b
    → IsFollowedBy a.row.replaced n m → IsFollowedBy b.row.replaced n m
still_followed cfa cs a b n m e (at_once k there) = at_once k (e.still_paired (n, k) there)
still_followed cfa cs a b n m e (later k j way there) =
    later k j (still_followed cfa cs a b n k e way) (e.still_paired (k, j) there)

-- an entry of the beginning
still_there : (cfa : Cfa) (cs : List Component) (old : List Entry) (start : ℕ) (a b : Stage)
    (o : Entry) → Effect cfa cs a b
    → GoesOnIn a.reached.live o ⊎ IsReplaced cfa a.row a.reached.live o
    → GoesOnIn b.reached.live o ⊎ IsReplaced cfa b.row b.reached.live o
still_there cfa cs old start a b o e (inl on) =
    ⊎_elim
    (λ (next : GoesOnIn b.reached.live on.entry). inl (record {
      entry = next.entry;
      is_in = next.is_in;
      alike = alike_then o on.entry next.entry on.alike next.alike;
    }))
    (λ (gives : GivesWay cfa b on.entry). inr (record {
      entry = gives.entry;
      is_in = gives.is_in;
      follows = at_once gives.entry.number
          (subst (λ (k : ℕ). IsIn (k, gives.entry.number) b.row.replaced) on.alike.number
          gives.pair);
      waits = gives.waits;
      holds = λ s state lies. gives.holds s state
          (subst (λ es. LiesIn s es) (sym on.alike.elems) lies);
    }))
    (e.forth on.entry on.is_in)
still_there cfa cs old start a b o e (inr is) =
    ⊎_elim
    (λ (next : GoesOnIn b.reached.live is.entry). inr (record {
      entry = next.entry;
      is_in = next.is_in;
      follows = subst (IsFollowedBy b.row.replaced o.number) (sym next.alike.number)
          (still_followed cfa cs a b o.number is.entry.number e is.follows);
      waits = next.alike.waiting ∙ is.waits;
      holds = λ s state lies. subst (λ es. LiesIn s es) (sym next.alike.elems)
          (is.holds s state lies);
    }))
    (λ (gives : GivesWay cfa b is.entry). inr (record {
      entry = gives.entry;
      is_in = gives.is_in;
      follows = later is.entry.number gives.entry.number
          (still_followed cfa cs a b o.number is.entry.number e is.follows) gives.pair;
      waits = gives.waits;
      holds = λ s state lies. gives.holds s state (is.holds s state lies);
    }))
    (e.forth is.entry is.is_in)

-- an entry that is there
still_known : (cfa : Cfa) (cs : List Component) (old : List Entry) (start : ℕ) (a b : Stage)
    (y : Entry) → SoFar cfa cs old start a → Effect cfa cs a b
    → HasAlike a.reached.live y ⊎ IsNew a b y → HasAlike old y ⊎ CameIn start b y
still_known cfa cs old start a b y so e (inl has) =
    ⊎_elim
    (λ (was : HasAlike old has.entry). inl (record {
      entry = was.entry;
      is_in = was.is_in;
      alike = alike_then was.entry has.entry y was.alike has.alike;
    }))
    (λ (came : CameIn start a has.entry). inr (record {
      named = subst (IsNamed b.row) (sym has.alike.number)
          (still_named cfa cs a b has.entry.number e came.named);
      waits = has.alike.waiting ∙ came.waits;
      from = let low = came.from in let same = has.alike.number in omega (arith, low, same);
    }))
    (so.known has.entry has.is_in)
still_known cfa cs old start a b y so e (inr new) =
    inr (record {
      named = new.named;
      waits = new.waits;
      from = let low = so.rises in let same = new.number in omega (arith, low, same);
    })

live_before : (cfa : Cfa) (cs : List Component) (a b : Stage) (n : ℕ) → Effect cfa cs a b
    → n < a.reached.next → IsLive b.reached.live n → IsLive a.reached.live n
live_before cfa cs a b n e low l =
    ⊎_elim
    (λ (has : HasAlike a.reached.live l.entry). record {
      entry = has.entry;
      is_in = has.is_in;
      is = sym has.alike.number ∙ l.is;
    })
    (λ (new : IsNew a b l.entry).
    absurd (let n_is = l.is in let number = new.number in omega (arith, low, n_is, number)))
    (e.back l.entry l.is_in)

-- what the row brought
brought_still : (cfa : Cfa) (cs : List Component) (old : List Entry) (start : ℕ) (a b : Stage)
    (n : ℕ) → SoFar cfa cs old start a → Effect cfa cs a b → IsNamed b.row n
    → (start ≤ n) × (n < b.reached.next)
brought_still cfa cs old start a b n so e (inl there) =
    ⊎_elim
    (λ was. let r = so.brought n (inl was) in
    let low = r.0 in let less = r.1 in let up = e.rises in
    (omega (arith, low), omega (arith, less, up)))
    (λ (just : IsJustAdded cs a b n).
    let is = just.number in let low = so.rises in let up = just.rises in
    (omega (arith, is, low), omega (arith, is, up)))
    (e.added n there)
brought_still cfa cs old start a b n so e (inr there) =
    let p = of_map (λ (q : ℕ × ℕ). q.1) b.row.replaced n there in
    ⊎_elim
    (λ was. let r = so.brought n (inr (subst (λ (k : ℕ). IsIn k (seconds a.row.replaced)) p.2
    (in_map_of (λ (q : ℕ × ℕ). q.1) a.row.replaced p.0 was))) in
    let low = r.0 in let less = r.1 in let up = e.rises in
    (omega (arith, low), omega (arith, less, up)))
    (λ (just : IsJustPaired a b p.0).
    let is = just.next in let same = p.2 in let low = so.rises in let up = just.rises in
    (omega (arith, is, same, low), omega (arith, is, same, up)))
    (e.pairs p.0 p.1)

-- the first numbers of pairs
first_cases : (cfa : Cfa) (cs : List Component) (a b : Stage) (n : ℕ) → Effect cfa cs a b
    → IsIn n (firsts b.row.replaced)
    → IsIn n (firsts a.row.replaced)
    ⊎ ((IsLive a.reached.live n) × (IsLive b.reached.live n → ⊥)
    × (a.reached.next < b.reached.next))
first_cases cfa cs a b n e there =
    let p = of_map (λ (q : ℕ × ℕ). q.0) b.row.replaced n there in
    ⊎_elim
    (λ was. inl (subst (λ (k : ℕ). IsIn k (firsts a.row.replaced)) p.2
    (in_map_of (λ (q : ℕ × ℕ). q.0) a.row.replaced p.0 was)))
    (λ (just : IsJustPaired a b p.0).
    inr (
      subst (IsLive a.reached.live) p.2 just.was,
      subst (λ (k : ℕ). IsLive b.reached.live k → ⊥) p.2 just.gone,
      just.rises,
    ))
    (e.pairs p.0 p.1)

known_number : (cfa : Cfa) (cs : List Component) (old : List Entry) (start : ℕ) (a b : Stage)
    (n : ℕ) → SoFar cfa cs old start a → Effect cfa cs a b → IsLive a.reached.live n
    → IsLive old n ⊎ IsNamed b.row n
known_number cfa cs old start a b n so e l =
    ⊎_elim
    (λ (has : HasAlike old l.entry). inl (record {
      entry = has.entry;
      is_in = has.is_in;
      is = sym has.alike.number ∙ l.is;
    }))
    (λ (came : CameIn start a l.entry).
    inr (still_named cfa cs a b n e (subst (IsNamed a.row) l.is came.named)))
    (so.known l.entry l.is_in)

live_below : (r : ReachedSet) (n : ℕ) → IsOrdered r → IsLive r.live n → n < r.next
live_below r n ordered l = subst (λ (k : ℕ). k < r.next) l.is (below_next r l.entry ordered l.is_in)

so_far_step : (cfa : Cfa) (cs : List Component) (old : List Entry) (start : ℕ) (a b : Stage)
    → SoFar cfa cs old start a → Effect cfa cs a b → SoFar cfa cs old start b
so_far_step cfa cs old start a b so e = record {
  ordered = e.ordered;
  rises = let low = so.rises in let up = e.rises in omega (arith, low, up);
  entries = λ o there. still_there cfa cs old start a b o e (so.entries o there);
  known = λ y there. still_known cfa cs old start a b y so e (e.back y there);
  brought = λ n named. brought_still cfa cs old start a b n so e named;
  first = λ n there. ⊎_elim
      (λ was. let r = so.first n was in
      let less = r.0 in let up = e.rises in (
        omega (arith, less, up),
        ⊎_elim (λ l. inl l)
            (λ named. inr (still_named cfa cs a b n e named)) r.1,
      ))
      (λ just. let less = live_below a.reached n so.ordered just.0 in let up = e.rises in
      (omega (arith, less, up), known_number cfa cs old start a b n so e just.0))
      (first_cases cfa cs a b n e there);
  gone = λ n there. ⊎_elim
      (λ was l. so.gone n was
      (live_before cfa cs a b n e (so.first n was).0 l))
      (λ just. just.1)
      (first_cases cfa cs a b n e there);
  once = ⊎_elim
      (λ same. subst (λ (ps : List (ℕ × ℕ)). AreDistinct (firsts ps)) (sym same) so.once)
      (λ (more : (p : ℕ × ℕ) × (b.row.replaced ≡ a.row.replaced ++ p ∷ [])
      × IsLive a.reached.live p.0).
      subst (λ (ps : List (ℕ × ℕ)). AreDistinct (firsts ps)) (sym more.1)
      (subst AreDistinct (sym (map_push (λ (q : ℕ × ℕ). q.0) a.row.replaced more.0))
      (distinct_push (firsts a.row.replaced) more.0.0 so.once
      (λ there. so.gone more.0.0 there more.2))))
      e.once;
  uncovered = λ y f in_y is_added in_f less. uncovered_still y f in_y is_added in_f less
      (e.back y in_y) (e.back f in_f) (e.added y.number is_added);
  current = e.current so.current;
  stands = ⊎_elim
      (λ same. ⊎_elim (λ taken. inl (same ∙ (taken ∙ sym e.taken)))
      (λ low. inr (omega (arith, same, low))) so.stands)
      (λ next. inr (let low = so.rises in omega (arith, next, low)))
      e.stands;
}
  where
    uncovered_still : (y f : Entry) → IsIn y b.reached.live → IsIn y.number b.row.added
        → IsIn f b.reached.live → f.number < y.number → HasAlike a.reached.live y ⊎ IsNew a b y
        → HasAlike a.reached.live f ⊎ IsNew a b f
        → IsIn y.number a.row.added ⊎ IsJustAdded cs a b y.number
        → key_of cs y.elems ≡ key_of cs f.elems → all_cover cs y.elems f.elems ≡ false
    uncovered_still y f in_y is_added in_f less (inl has) (inl also) (inl was) =
        let old_y = has.alike.number in
        let old_f = also.alike.number in
        let r = so.uncovered has.entry also.entry has.is_in
        (subst (λ (n : ℕ). IsIn n a.row.added) old_y was) also.is_in
        (omega (arith, less, old_y, old_f)) in
        subst (λ es. key_of cs es ≡ key_of cs f.elems → all_cover cs es f.elems ≡ false)
        (sym has.alike.elems)
        (subst (λ fs. key_of cs has.entry.elems ≡ key_of cs fs
        → all_cover cs has.entry.elems fs ≡ false) (sym also.alike.elems) r)
    uncovered_still y f in_y is_added in_f less (inl has) (inl also) (inr just) =
        subst (λ fs. key_of cs y.elems ≡ key_of cs fs → all_cover cs y.elems fs ≡ false)
        (sym also.alike.elems) (just.uncovered y also.entry in_y refl also.is_in)
    uncovered_still y f in_y is_added in_f less (inl has) (inr new) was =
        absurd (
        let low = below_next a.reached has.entry so.ordered has.is_in in
        let same = has.alike.number in
        let next = new.number in omega (arith, low, same, next, less))
    uncovered_still y f in_y is_added in_f less (inr is) (inl also) (inl was) =
        absurd (
        let r = so.brought y.number (inl was) in
        let up = r.1 in let next = is.number in omega (arith, up, next))
    uncovered_still y f in_y is_added in_f less (inr is) (inl also) (inr just) =
        subst (λ fs. key_of cs y.elems ≡ key_of cs fs → all_cover cs y.elems fs ≡ false)
        (sym also.alike.elems) (just.uncovered y also.entry in_y refl also.is_in)
    uncovered_still y f in_y is_added in_f less (inr is) (inr new) was =
        absurd (let next = is.number in let also = new.number in omega (arith, next, also, less))

pub so_far_does : (cfa : Cfa) (cs : List Component) (old : List Entry) (start : ℕ) (m b : Stage)
    → SoFar cfa cs old start m → Does cfa cs m b → SoFar cfa cs old start b
so_far_does cfa cs old start m b so does =
    so_far_step cfa cs old start m b so (effect cfa cs m b so.ordered does)

pub so_far_along : (cfa : Cfa) (cs : List Component) (old : List Entry) (start : ℕ) (a b : Stage)
    → Leads cfa cs a b → SoFar cfa cs old start a → SoFar cfa cs old start b
so_far_along cfa cs old start a b leads so =
    kept_along cfa cs (SoFar cfa cs old start)
    (λ m c s does. so_far_does cfa cs old start m c s does) a b leads so

-- the numbers that ascend, and the entry that stands for the taken one, along a chain
pub ordered_along : (cfa : Cfa) (cs : List Component) (a b : Stage) → Leads cfa cs a b
    → IsOrdered a.reached → IsOrdered b.reached
ordered_along cfa cs a b leads ordered =
    kept_along cfa cs (λ (m : Stage). IsOrdered m.reached)
    (λ m c o does. (effect cfa cs m c o does).ordered) a b leads ordered

-- the places by which the entries are indexed, along a chain
does_places : (cfa : Cfa) (cs : List Component) (a b : Stage) → Does cfa cs a b
    → b.reached.places ≡ a.reached.places
does_places cfa cs a b (inl notes) = ap (λ (m : Stage). m.reached.places) notes.is
does_places cfa cs a b (inr (inl adds)) = ap (λ (m : Stage). m.reached.places) adds.is
does_places cfa cs a b (inr (inr replaces)) = ap (λ (m : Stage). m.reached.places) replaces.is

pub places_along : (cfa : Cfa) (cs : List Component) (a b : Stage) → Leads cfa cs a b
    → b.reached.places ≡ a.reached.places
places_along cfa cs a b leads =
    kept_along cfa cs (λ (m : Stage). m.reached.places ≡ a.reached.places)
    (λ m c same does. does_places cfa cs m c does ∙ same) a b leads refl

pub fits_by : (cs : List Component) (r s : ReachedSet) → s.places ≡ r.places → HasPlaces cs r
    → HasPlaces cs s
fits_by cs r s same fits = ⊎_elim (λ none. inl (same ∙ none)) (λ all. inr (same ∙ all)) fits

pub fits_along : (cfa : Cfa) (cs : List Component) (a b : Stage) → Leads cfa cs a b
    → HasPlaces cs a.reached → HasPlaces cs b.reached
fits_along cfa cs a b leads fits =
    fits_by cs a.reached b.reached (places_along cfa cs a b leads) fits

-- under components that mean the same
pub fits_on : (cfa : Cfa) (cs ds : List Component) (a b : Stage) → ds ≡ cs → Leads cfa cs a b
    → HasPlaces cs a.reached → HasPlaces ds b.reached
fits_on cfa cs ds a b same leads fits =
    subst (λ (es : List Component). HasPlaces es b.reached) (sym same)
    (fits_along cfa cs a b leads fits)

record HasBoth (m : Stage) : Type 0 where
  ordered : IsOrdered m.reached
  current : IsLive m.reached.live m.current

pub current_along : (cfa : Cfa) (cs : List Component) (a b : Stage) → Leads cfa cs a b
    → IsOrdered a.reached → IsLive a.reached.live a.current
    → IsLive b.reached.live b.current
current_along cfa cs a b leads ordered live =
    (kept_along cfa cs HasBoth
    (λ m c o does. let e = effect cfa cs m c o.ordered does in
    record { ordered = e.ordered; current = e.current o.current })
    a b leads (record { ordered = ordered; current = live })).current
