-- What holds of a reached set holds of what a round that begins leaves of it (`begins_standing`).
use Rattle.std.proofs.Common.{◌≡◌, ℕ, ◌+◌, ◌*◌, ◌<◌, ◌≤◌, Bool, true, false, not, cond, List}
use Rattle.std.proofs.Common.{[]}
use Rattle.std.proofs.Common.{◌∷◌, length, map, Option, refl, sym, ap, ◌∙◌, subst, inl}
use Rattle.std.proofs.Common.{inr, ⊎_elim, arith}
use Rattle.std.specs.Prelude.{◌⊎◌, IfSome}
use Rattle.std.specs.List.{AllByRecursion}
use Rattle.std.proofs.lemmas.Bool.{cond_both}
use Rattle.cpa_model.specs.declared.automaton.Cfa.{Cfa}
use Rattle.cpa_model.specs.declared.facts.Elem.{Elem}
use Rattle.cpa_model.specs.declared.states.State.{State}
use Rattle.cpa_model.specs.Facts.{LiesIn}
use Rattle.cpa_iface.specs.declared.analysis.Settings.{Settings}
use Rattle.cpa_iface.specs.declared.entries.Entry.{Entry}
use Rattle.cpa_iface.specs.declared.entries.Turn.{Turn}
use Rattle.cpa_iface.specs.declared.precisions.Precision.{Precision}
use Rattle.cpa_composite.specs.Components.{Component, AreElems, ArePrecisions, IsEntryOf}
use Rattle.cpa_composite.specs.Exact.{BindAll}
use Rattle.cpa_composite.specs.Ranks.{row_height, IsRanked}
use Rattle.cpa_reached.specs.Calls.{with_precisions}
use Rattle.cpa_reached.specs.Entries.{ReachedSet, IsNumbered, numbers}
use Rattle.cpa_reached.specs.lemmas.MemberLaws.{in_map, map_in, in_filter, in_all, entry_in}
use Rattle.cpa_reached.specs.lemmas.MemberLaws.{numbers_map}
use Rattle.cpa_reached.specs.lemmas.MemberLaws.{ascend_kept}
use Rattle.cpa_model.specs.Ascending.{AreAscending}
use Rattle.cpa_reached.specs.Members.{IsIn, is_in}
use Rattle.cpa_reached.specs.Removal.{RemovesBelow, is_opened, opened, left, without}
use Rattle.cpa_reached.specs.Successors.{CoversSuccessors}
use Rattle.cpa_engine_turn.specs.Bounds.{turns_left, AreBounded, HasKey, ArePinned}
use Rattle.cpa_engine_turn.specs.Journals.{IsJournal, IsJournalOf, all_numbers, all_replaced}
use Rattle.cpa_engine_turn.specs.Journals.{all_taken}
use Rattle.cpa_engine_turn.specs.Keys.{key_of}
use Rattle.cpa_engine_turn.specs.Turns.{HasEdge}
use Rattle.cpa_engine_laws.specs.Lines.{KeyComes, KeyRoot, PinComes, PinRoot}
use Rattle.cpa_engine_laws.specs.lemmas.Kept.{HasRow, row_lines}
use Rattle.cpa_engine_laws.specs.lemmas.Working.{member_of}
use Rattle.cpa_engine_rounds.specs.Clearing.{BeginsBelow, renewed}
use Rattle.cpa_engine_rounds.specs.Errors.{may_err, NoneErrBelow}
use Rattle.cpa_engine.specs.Kept.{IsExactRun}
use Rattle.cpa_engine.specs.Searches.{Stands}

-- ---- what is left

-- The entry is one of those, but that it may wait, use nothing, and have the newest precisions.
record IsLeft (newest : List Precision) (xs : List Entry) (y : Entry) : Type 0 where
  entry : Entry
  is_in : IsIn entry xs
  number : y.number ≡ entry.number
  elems : y.elems ≡ entry.elems
  parent : y.parent ≡ entry.parent
  precisions : (y.precisions ≡ entry.precisions) ⊎ (y.precisions ≡ newest)

left_of : (pivot : ℕ) (newest : List Precision) (old new : ReachedSet)
    → BeginsBelow pivot newest old new → (y : Entry) → IsIn y new.live
    → IsLeft newest old.live y
left_of pivot newest old new begins y there =
    let gone = begins.gone in
    let from = in_map (renewed gone pivot newest) (without gone old.live) y
    (subst (IsIn y) begins.live there) in
    let was = in_filter (λ e. not (is_in e.number gone)) old.live from.0 from.1 in
    subst (IsLeft newest old.live) (sym from.2)
    (cond_both (is_opened gone pivot from.0) (with_precisions newest (opened from.0)) from.0
    (IsLeft newest old.live)
    (λ _. record {
      entry = from.0;
      is_in = was.0;
      number = refl;
      elems = refl;
      parent = refl;
      precisions = inr refl;
    })
    (λ _. record {
      entry = from.0;
      is_in = was.0;
      number = refl;
      elems = refl;
      parent = refl;
      precisions = inl refl;
    }))

renewed_number : (gone : List ℕ) (pivot : ℕ) (newest : List Precision) (e : Entry)
    → (renewed gone pivot newest e).number ≡ e.number
renewed_number gone pivot newest e =
    cond_both (is_opened gone pivot e) (with_precisions newest (opened e)) e
    (λ (y : Entry). y.number ≡ e.number) (λ _. refl) (λ _. refl)

pub begins_ascending : (pivot : ℕ) (newest : List Precision) (old new : ReachedSet)
    → BeginsBelow pivot newest old new → AreAscending (numbers old.live)
    → AreAscending (numbers new.live)
begins_ascending pivot newest old new begins up =
    let gone = begins.gone in
    subst (λ (xs : List Entry). AreAscending (numbers xs)) (sym begins.live)
    (subst AreAscending
    (sym (numbers_map (renewed gone pivot newest) (without gone old.live)
    (renewed_number gone pivot newest)))
    (ascend_kept (λ e. not (is_in e.number gone)) old.live up))

all_of : {X : Type 0} (P : X → Type 0) (xs : List X) → ((x : X) → IsIn x xs → P x)
    → AllByRecursion P xs
all_of P [] each = tt
all_of P (x ∷ xs) each = (each x (inl refl), all_of P xs (λ y there. each y (inr there)))

-- entries that were no errors are none still
pub begins_checked : (cfa : Cfa) (pivot : ℕ) (newest : List Precision) (old new : ReachedSet)
    (checked : ℕ) → BeginsBelow pivot newest old new → NoneErrBelow cfa checked old.live
    → NoneErrBelow cfa checked new.live
begins_checked cfa pivot newest old new checked begins none y there less =
    let was = left_of pivot newest old new begins y there in
    let number : y.number ≡ was.entry.number = was.number in
    ap (may_err cfa) was.elems ∙ none was.entry was.is_in (omega (arith, number, less))

-- ---- covered successors

record IsAlike (x y : Entry) : Type 0 where
  number : x.number ≡ y.number
  elems : x.elems ≡ y.elems
  parent : x.parent ≡ y.parent
  waiting : x.waiting ≡ y.waiting
  uses : x.uses ≡ y.uses

covers_alike : (cfa : Cfa) (f g : Entry → Entry) (xs : List Entry)
    → ((x : Entry) → IsAlike (f x) (g x)) → CoversSuccessors cfa (map f xs)
    → CoversSuccessors cfa (map g xs)
covers_alike cfa f g xs alike covers = record {
  start =
      let from = in_map f xs covers.start.entry covers.start.is_in in
      let same = alike from.0 in
      record {
        entry = g from.0;
        is_in = map_in g xs from.0 from.1;
        root = sym same.parent ∙ ap (λ (e : Entry). e.parent) (sym from.2) ∙ covers.start.root;
        lies = subst (LiesIn _) same.elems
            (subst (λ (e : Entry). LiesIn _ e.elems) from.2 covers.start.lies);
      };
  successors = λ e s t there rests lies step.
      let from = in_map g xs e there in
      let same = alike from.0 in
      let found = covers.successors (f from.0) s t (map_in f xs from.0 from.1)
      (same.waiting ∙ ap (λ (y : Entry). y.waiting) (sym from.2) ∙ rests)
      (subst (LiesIn s) (ap (λ (y : Entry). y.elems) from.2 ∙ sym same.elems) lies) step in
      let to_it = in_map f xs found.entry found.is_in in
      let equal = alike to_it.0 in
      record {
        entry = g to_it.0;
        is_in = map_in g xs to_it.0 to_it.1;
        named = subst (λ (n : ℕ). IsIn n e.uses)
            (ap (λ (y : Entry). y.number) to_it.2 ∙ equal.number)
            (subst (IsIn found.entry.number)
            (same.uses ∙ ap (λ (y : Entry). y.uses) (sym from.2)) found.named);
        lies = subst (LiesIn t) (ap (λ (y : Entry). y.elems) to_it.2 ∙ equal.elems) found.lies;
      };
}

renewed_alike : (gone : List ℕ) (pivot : ℕ) (newest : List Precision) (e : Entry)
    → IsAlike (left gone pivot e) (renewed gone pivot newest e)
renewed_alike gone pivot newest e = by (is_opened gone pivot e)
  where
    by : (b : Bool) → IsAlike (cond b (opened e) e) (cond b (with_precisions newest (opened e)) e)
    by true =
        record { number = refl; elems = refl; parent = refl; waiting = refl; uses = refl }
    by false =
        record { number = refl; elems = refl; parent = refl; waiting = refl; uses = refl }

begins_covering : (cfa : Cfa) (pivot : ℕ) (newest : List Precision) (old new : ReachedSet)
    → ((xs ys : List Entry) → AreAscending (numbers xs) → RemovesBelow pivot xs ys
    → CoversSuccessors cfa xs → CoversSuccessors cfa ys)
    → BeginsBelow pivot newest old new → AreAscending (numbers old.live)
    → CoversSuccessors cfa old.live → CoversSuccessors cfa new.live
begins_covering cfa pivot newest old new removes begins up covers =
    let gone = begins.gone in
    let kept = without gone old.live in
    subst (CoversSuccessors cfa) (sym begins.live)
    (covers_alike cfa (left gone pivot) (renewed gone pivot newest) kept
    (renewed_alike gone pivot newest)
    (removes old.live (map (left gone pivot) kept) up
    (record { gone = gone; all = begins.all; only = begins.only; is = refl }) covers))

-- ---- the journal

in_numbers : (xs : List Entry) (e : Entry) → IsIn e xs → IsIn e.number (numbers xs)
in_numbers [] e there = absurd there
in_numbers (x ∷ xs) e (inl same) = inl (ap (λ (y : Entry). y.number) same)
in_numbers (x ∷ xs) e (inr later) = inr (in_numbers xs e later)

of_numbers : (xs : List Entry) (n : ℕ) → IsIn n (numbers xs)
    → (e : Entry) × IsIn e xs × (e.number ≡ n)
of_numbers [] n there = absurd there
of_numbers (x ∷ xs) n (inl same) = (x, inl refl, same)
of_numbers (x ∷ xs) n (inr later) = let r = of_numbers xs n later in (r.0, inr r.1, r.2)

pub journal_begins : (r : ReachedSet) → r.journal ≡ []
    → ((e : Entry) → IsIn e r.live → e.number < r.next) → IsJournalOf (numbers r.live) r
journal_begins r none below = record {
  journal = subst (IsJournal (numbers r.live)) (sym none) tt;
  began_below = λ n there.
      let e = of_numbers r.live n there in
      subst (λ (k : ℕ). k < r.next) e.2 (below e.0 e.1);
  rows_below = λ n there.
      absurd (subst (λ (rows : List Turn). IsIn n (all_numbers rows)) none there);
  known = λ e there. inl (in_numbers r.live e there);
  lasts = λ e there wrong.
      subst (λ (rows : List Turn). IsIn e.number (all_replaced rows)) none wrong;
  untaken = λ e there waits wrong.
      subst (λ (rows : List Turn). IsIn e.number (all_taken rows)) none wrong;
}

-- ---- all of it

-- What is used of laws.
pub record BeginLaws (cfa : Cfa) (cs : List Component) (pivot : ℕ) : Type 0 where
  pub removes : (xs ys : List Entry) → AreAscending (numbers xs) → RemovesBelow pivot xs ys
      → CoversSuccessors cfa xs → CoversSuccessors cfa ys
  pub keys : (keys : List (List Elem)) (xs : List Entry) → AreAscending (numbers xs)
      → AreBounded cfa cs keys xs
      → turns_left cfa cs (length keys) xs ≤ length keys * (1 + row_height cfa cs)
  pub states : (settings : Settings) (states : List State) (xs : List Entry)
      → IsExactRun cs settings → AreAscending (numbers xs) → ArePinned cfa cs states xs
      → turns_left cfa cs (length states) xs ≤ length states

pub begins_standing : (cfa : Cfa) (cs : List Component) (settings : Settings) (pivot : ℕ)
    (newest : List Precision) (old new : ReachedSet) → BeginLaws cfa cs pivot → IsNumbered old
    → ArePrecisions cfa (length cs) newest → (IsExactRun cs settings → BindAll cfa cs newest)
    → BeginsBelow pivot newest old new → Stands cfa cs settings old → Stands cfa cs settings new
begins_standing cfa cs settings pivot newest old new laws numbered precise binds begins stands =
    let xs = old.live in
    let ys = new.live in
    let from = left_of pivot newest old new begins in
    let up = begins_ascending pivot newest old new begins numbered.ascend in
    let rows : (y : Entry) → IsIn y ys → HasRow xs y =
    λ y there.
    let was = from y there in
    record {
      entry = was.entry;
      is_in = was.is_in;
      number = was.number;
      elems = was.elems;
      parent = was.parent;
    } in
    let own : (key : List Elem → List Elem)
    → ((d e : Entry) → IsIn d xs → IsIn e xs → key d.elems ≡ key e.elems → d.number ≡ e.number)
    → (d e : Entry) → IsIn d ys → IsIn e ys → key d.elems ≡ key e.elems → d.number ≡ e.number =
    λ key was d e in_d in_e same.
    let a = from d in_d in
    let b = from e in_e in
    a.number ∙ was a.entry b.entry a.is_in b.is_in
    (ap key (sym a.elems) ∙ same ∙ ap key b.elems) ∙ sym b.number in
    let none : length new.journal ≡ 0 = ap (λ (rows : List Turn). length rows) begins.journal in
    let pin_binds : IsExactRun cs settings → (y : Entry) → IsIn y ys → BindAll cfa cs y.precisions =
    λ exact y there.
    let was = from y there in
    ⊎_elim
    (λ same. subst (BindAll cfa cs) (sym same)
    ((stands.exact exact).binds was.entry was.is_in))
    (λ is. subst (BindAll cfa cs) (sym is) (binds exact)) was.precisions in
    record {
      entries = record {
        each = all_of (IsEntryOf cfa (length cs)) ys
            (λ y there.
            let was = from y there in
            let shape = member_of (IsEntryOf cfa (length cs)) xs was.entry stands.entries.each
            was.is_in in
            record {
              elems = subst (AreElems cfa (length cs)) (sym was.elems) shape.elems;
              precisions = ⊎_elim
                  (λ same. subst (ArePrecisions cfa (length cs)) (sym same) shape.precisions)
                  (λ is. subst (ArePrecisions cfa (length cs)) (sym is) precise) was.precisions;
            });
        edges = all_of (HasEdge cfa) ys
            (λ y there.
            let was = from y there in
            subst (λ (o : Option (ℕ × ℕ)). IfSome o (λ p. p.1 < length cfa.edges)) (sym was.parent)
            (member_of (HasEdge cfa) xs was.entry stands.entries.edges was.is_in));
      };
      places = begins.places ∙ stands.places;
      covers = begins_covering cfa pivot newest old new laws.removes begins numbered.ascend
          stands.covers;
      began = numbers ys;
      journal = journal_begins new begins.journal
          (λ e there.
          let was = from e there in
          let less = in_all (λ n. n < old.next) (numbers xs) was.entry.number numbered.below
          (entry_in was.entry xs was.is_in) in
          let number = was.number in
          let next = begins.next in omega (arith, less, number, next));
      own = λ widen. own (key_of cs) (stands.own widen);
      lines = row_lines (KeyComes cfa cs) (KeyRoot cfa cs) xs ys rows stands.lines;
      exact = λ exact. record {
        lines = row_lines (PinComes cfa cs) (PinRoot cfa cs) xs ys rows (stands.exact exact).lines;
        binds = pin_binds exact;
      };
      counted = λ keys is.
          let was = (stands.counted keys is).0 in
          let bounded : AreBounded cfa cs keys ys =
          record {
            own = own (key_of cs) was.own;
            keyed = λ y there. let it = from y there in
                subst (HasKey cfa cs keys) (sym it.elems) (was.keyed it.entry it.is_in);
            ranked = λ y there. let it = from y there in
                subst (IsRanked cfa cs) (sym it.elems) (was.ranked it.entry it.is_in);
          } in
          let few = laws.keys keys ys up bounded in (bounded, omega (arith, few, none));
      pinned = λ states is.
          let was = (stands.pinned states is).0 in
          let pinned : ArePinned cfa cs states ys =
          record {
            each = λ y there. let it = from y there in
                let pin = was.each it.entry it.is_in in
                record {
                  state = pin.state;
                  is_state = pin.is_state;
                  is_in = pin.is_in;
                  elems = it.elems ∙ pin.elems;
                  binds = pin_binds is.exact y there;
                };
            once = own (λ (es : List Elem). es) was.once;
          } in
          let few = laws.states settings states ys is.exact up pinned in
          (pinned, omega (arith, few, none));
    }
