-- The loop that strengthens a row, component by component.
use Rattle.std.proofs.Common.{zero, suc}
use Rattle.std.proofs.Common.{◌≡◌, ℕ, ◌+◌, ◌<◌, ◌≤◌, Bool, true, false, List, [], ◌∷◌, ◌++◌, length}
use Rattle.std.proofs.Common.{Option, Some, None, drop, refl, sym, ap, ◌∙◌, subst, inl, inr, arith}
use Rattle.std.specs.List.{slice_get}
use Rattle.std.proofs.lemmas.List.{length-append}
use Rattle.cpa_model.specs.declared.facts.Elem.{Elem}
use Rattle.cpa_model.specs.declared.automaton.Cfa.{Cfa}
use Rattle.cpa_iface.specs.declared.merging.Pick.{Pick}
use Rattle.cpa_iface.specs.declared.precisions.Precision.{Precision}
use Rattle.cpa_iface.specs.Meanings.{Meaning, IsShaped, AreShaped}
use Rattle.cpa_composite.specs.Components.{Component, picked, IsPicked}
use Rattle.cpa_composite.specs.Laws.{Strengthens, EachStrengthened}
use Rattle.cpa_composite.specs.Steps.{Strengthened, StrengthensAt}
use Rattle.cpa_composite.proofs.Placed.{left_at, all_both, all_front, all_behind}
use Rattle.cpa_composite_covers.specs.lemmas.PickLaws.{there_is}
use Rattle.cpa_composite.proofs.Placed.{joined, same_length, no_more}
use Rattle.cpa_composite.proofs.Growing.{IsAt, picks_it}

-- The row is strengthened up to this place: what the later analyses make of it the whole row comes
-- to.
pub record Halfway (cfa : Cfa) (cs : List Component) (choice : List Elem) (ps : List Precision)
    (place : ℕ) (row : List Elem) : Type 0 where
  pub before : List Elem
  pub after : List Elem
  pub is : row ≡ before ++ after
  pub size : length before ≡ place
  pub each : length row ≡ length cs
  pub shaped : AreShaped cfa row
  pub leads : (result : Option (List Elem))
      → Strengthens cfa (drop place cs) before after (drop place ps) result
      → Strengthens cfa cs [] choice ps result

pub halfway_none : (cfa : Cfa) (cs : List Component) (choice : List Elem) (ps : List Precision)
    → length choice ≡ length cs → AreShaped cfa choice → Halfway cfa cs choice ps 0 choice
halfway_none cfa cs choice ps each shaped =
    record {
      before = [];
      after = choice;
      is = refl;
      size = refl;
      each = each;
      shaped = shaped;
      leads = λ result h. h;
    }

-- a row from a place within it on begins with an element
after_is : (before after : List Elem) (place many : ℕ) → length before ≡ place
    → length (before ++ after) ≡ many → place < many
    → (own : Elem) × (later : List Elem) × (after ≡ own ∷ later)
after_is before [] place many size each inside =
    absurd (let whole = length-append before [] in omega (arith, whole, size, each, inside))
after_is before (own ∷ later) place many size each inside = (own, later, refl)

-- one component more, or None
pub halfway_more : (cfa : Cfa) (ms now : List Meaning) (picks : List Pick) (place : ℕ) (pick : Pick)
    (choice : List Elem) (ps : List Precision) (p : Precision) (row new : List Elem)
    → IsAt ms now picks place pick → slice_get ps place ≡ Some p
    → place < length (picked ms picks)
    → (stuck : Bool) → stuck ≡ false
    → ((c : Component) → IsPicked now pick c → StrengthensAt cfa c place row p new stuck)
    → Halfway cfa (picked ms picks) choice ps place row
    → Halfway cfa (picked ms picks) choice ps (place + 1) new
halfway_more cfa ms now picks place pick choice ps p row new here precision inside
    stuck at_last laws half =
    let cs = picked ms picks in
    let there = there_is cs place inside in
    let c = there.0 in
    let own = after_is half.before half.after place (length cs) half.size
    (ap length (sym half.is) ∙ half.each) inside in
    let row_is : row ≡ half.before ++ own.0 ∷ own.1 =
    half.is ∙ ap (λ (xs : List Elem). half.before ++ xs) own.2 in
    let made : Strengthened cfa c half.before own.0 own.1 p new false =
    subst (Strengthened cfa c half.before own.0 own.1 p new) at_last
    (laws c (picks_it ms now picks place pick here c there.1) half.before own.1 own.0 row_is
    half.size) in
    let f = made.0 in
    let split : AreShaped cfa (half.before ++ own.0 ∷ own.1) =
    subst (λ (xs : List Elem). AreShaped cfa xs) row_is half.shaped in
    let front = all_front (IsShaped cfa) half.before (own.0 ∷ own.1) split in
    let behind = all_behind (IsShaped cfa) half.before (own.0 ∷ own.1) split in
    record {
      before = half.before ++ f ∷ [];
      after = own.1;
      is = made.2 ∙ sym (joined half.before f own.1);
      size = let longer = length-append half.before (f ∷ []) in let size = half.size in
          omega (arith, longer, size);
      each = ap length made.2 ∙ (same_length half.before f own.0 own.1
          ∙ (ap length (sym row_is) ∙ half.each));
      shaped = subst (λ (xs : List Elem). AreShaped cfa xs) (sym made.2)
          (all_both (IsShaped cfa) half.before (f ∷ own.1) front (made.1.shaped, behind.1));
      leads = λ result h. half.leads result
          (subst (λ (ds : List Component). Strengthens cfa ds half.before half.after (drop place
          ps) result)
          (sym (left_at cs place c there.1))
          (subst (λ (xs : List Elem). Strengthens cfa (c ∷ drop (place + 1) cs) half.before xs
          (drop place ps) result) (sym own.2)
          (subst (λ (qs : List Precision). Strengthens cfa (c ∷ drop (place + 1) cs) half.before
          (own.0 ∷ own.1) qs result) (sym (left_at ps place p precision))
          (inr (f, made.1, h)))));
    }

pub halfway_stops : (cfa : Cfa) (ms now : List Meaning) (picks : List Pick) (place : ℕ)
    (pick : Pick) (choice : List Elem) (ps : List Precision) (p : Precision) (row new : List Elem)
    → IsAt ms now picks place pick → slice_get ps place ≡ Some p
    → place < length (picked ms picks)
    → (stuck : Bool) → stuck ≡ true
    → ((c : Component) → IsPicked now pick c → StrengthensAt cfa c place row p new stuck)
    → Halfway cfa (picked ms picks) choice ps place row
    → Strengthens cfa (picked ms picks) [] choice ps None
halfway_stops cfa ms now picks place pick choice ps p row new here precision inside
    stuck at_last laws half =
    let cs = picked ms picks in
    let there = there_is cs place inside in
    let c = there.0 in
    let own = after_is half.before half.after place (length cs) half.size
    (ap length (sym half.is) ∙ half.each) inside in
    let row_is : row ≡ half.before ++ own.0 ∷ own.1 =
    half.is ∙ ap (λ (xs : List Elem). half.before ++ xs) own.2 in
    let made : Strengthened cfa c half.before own.0 own.1 p new true =
    subst (Strengthened cfa c half.before own.0 own.1 p new) at_last
    (laws c (picks_it ms now picks place pick here c there.1) half.before own.1 own.0 row_is
    half.size) in
    half.leads None
    (subst (λ (ds : List Component). Strengthens cfa ds half.before half.after (drop place ps) None)
    (sym (left_at cs place c there.1))
    (subst (λ (xs : List Elem). Strengthens cfa (c ∷ drop (place + 1) cs) half.before xs
    (drop place ps) None) (sym own.2)
    (subst (λ (qs : List Precision). Strengthens cfa (c ∷ drop (place + 1) cs) half.before
    (own.0 ∷ own.1) qs None) (sym (left_at ps place p precision))
    (inl (made, refl)))))

-- nothing is left behind the end
nothing_left : {X : Type 0} (xs : List X) (n : ℕ) → length xs ≤ n → drop n xs ≡ []
nothing_left [] zero h = refl
nothing_left [] (suc n) h = refl
nothing_left (x ∷ xs) zero h = absurd (omega arith)
nothing_left (x ∷ xs) (suc n) h = nothing_left xs n (omega arith)

none_after : (before after : List Elem) (many : ℕ) → length (before ++ after) ≡ many
    → many ≤ length before → after ≡ []
none_after before [] many each past = refl
none_after before (x ∷ after) many each past =
    absurd (let whole = length-append before (x ∷ after) in omega (arith, whole, each, past))

-- with all components done the row is what they make
pub halfway_whole : (cfa : Cfa) (cs : List Component) (choice : List Elem) (ps : List Precision)
    (place : ℕ) (row : List Elem) → length cs ≤ place → Halfway cfa cs choice ps place row
    → Strengthens cfa cs [] choice ps (Some row)
halfway_whole cfa cs choice ps place row past half =
    let empty = none_after half.before half.after (length cs) (ap length (sym half.is) ∙ half.each)
    (omega (arith, past, half.size)) in
    let row_is : row ≡ half.before =
    half.is ∙ (ap (λ (xs : List Elem). half.before ++ xs) empty ∙ no_more half.before) in
    half.leads (Some row)
    (subst (λ (ds : List Component). Strengthens cfa ds half.before half.after (drop place ps)
    (Some row)) (sym (nothing_left cs place past))
    (ap (λ (xs : List Elem). Some xs) row_is))

-- What is made of the choices that are left comes behind these rows.
pub record Remains (cfa : Cfa) (cs : List Component) (ps : List Precision)
    (choices left rows : List (List Elem)) : Type 0 where
  pub leads : (later : List (List Elem)) → EachStrengthened cfa cs ps left later
      → EachStrengthened cfa cs ps choices (rows ++ later)

pub remains_first : (cfa : Cfa) (cs : List Component) (ps : List Precision)
    (choices : List (List Elem)) → Remains cfa cs ps choices choices []
remains_first cfa cs ps choices = record { leads = λ later h. h }

-- one choice that gives a row
pub remains_taken : (cfa : Cfa) (cs : List Component) (ps : List Precision)
    (choices left rows : List (List Elem)) (choice row : List Elem)
    → Strengthens cfa cs [] choice ps (Some row) → Remains cfa cs ps choices (choice ∷ left) rows
    → Remains cfa cs ps choices left (rows ++ row ∷ [])
remains_taken cfa cs ps choices left rows choice row made is = record {
  leads = λ later h. subst (EachStrengthened cfa cs ps choices) (sym (joined rows row later))
      (is.leads (row ∷ later) (inr (row, later, refl, made, h)));
}

-- one choice that is dropped
pub remains_dropped : (cfa : Cfa) (cs : List Component) (ps : List Precision)
    (choices left rows : List (List Elem)) (choice : List Elem)
    → Strengthens cfa cs [] choice ps None → Remains cfa cs ps choices (choice ∷ left) rows
    → Remains cfa cs ps choices left rows
remains_dropped cfa cs ps choices left rows choice none is = record {
  leads = λ later h. is.leads later (inl (none, h));
}

pub remains_none : (cfa : Cfa) (cs : List Component) (ps : List Precision)
    (choices rows : List (List Elem)) → Remains cfa cs ps choices [] rows
    → EachStrengthened cfa cs ps choices rows
remains_none cfa cs ps choices rows is =
    subst (EachStrengthened cfa cs ps choices) (no_more rows) (is.leads [] refl)
