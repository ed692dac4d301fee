-- What one step of a turn makes of the entries and of the row (`effect`).
use Rattle.std.proofs.Common.{◌≡◌, ◌≢◌, ℕ, ◌+◌, ◌<◌, ◌≤◌, Bool, true, false, not, eqb, cond, List}
use Rattle.std.proofs.Common.{[]}
use Rattle.std.proofs.Common.{◌∷◌, ◌++◌, map, Some, refl, sym, ap, ◌∙◌, subst, inl}
use Rattle.std.proofs.Common.{inr}
use Rattle.std.proofs.Common.{⊎_elim, arith}
use Rattle.std.specs.Prelude.{◌⊎◌}
use Rattle.std.specs.List.{AllByRecursion}
use Rattle.std.proofs.lemmas.Bool.{cond_both, cases_Bool, both_ways, eqb-true, eq-eqb, ne_eqb}
use Rattle.cpa_model.specs.declared.automaton.Cfa.{Cfa}
use Rattle.cpa_model.specs.declared.facts.Elem.{Elem}
use Rattle.cpa_model.specs.declared.states.State.{State}
use Rattle.cpa_model.specs.Automata.{IsStateOf}
use Rattle.cpa_model.specs.Facts.{LiesIn}
use Rattle.cpa_iface.specs.declared.entries.Entry.{Entry}
use Rattle.cpa_iface.specs.declared.precisions.Precision.{Precision}
use Rattle.cpa_composite.specs.Components.{Component}
use Rattle.cpa_composite.specs.Covers.{all_cover}
use Rattle.cpa_model.specs.Ascending.{AreAscending}
use Rattle.cpa_reached.specs.Members.{IsIn}
use Rattle.cpa_reached.specs.lemmas.MemberLaws.{in_map, map_in, in_append, append_front}
use Rattle.cpa_reached.specs.lemmas.MemberLaws.{append_back}
use Rattle.cpa_reached.specs.lemmas.MemberLaws.{in_filter, filter_in, one_entry, numbers_append}
use Rattle.cpa_reached.specs.lemmas.MemberLaws.{all_push}
use Rattle.cpa_model.specs.lemmas.Ascending.{ascending_push}
use Rattle.cpa_reached.specs.lemmas.MemberLaws.{ascend_kept, all_kept, entry_in, in_all}
use Rattle.cpa_reached.specs.lemmas.MemberLaws.{numbers_map, all_weaker}
use Rattle.cpa_reached.specs.Entries.{ReachedSet, IsLive, numbers}
use Rattle.cpa_reached.specs.Calls.{gains, fresh, rename, renamed}
use Rattle.cpa_reached.specs.Calls.{replacing, others, those, replaced_entries}
use Rattle.cpa_reached.specs.Calls.{replaced}
use Rattle.cpa_engine_turn.specs.Keys.{key_of}
use Rattle.cpa_engine_turn.specs.Turns.{IsNamed, seconds}
use Rattle.cpa_engine_turn.specs.lemmas.Lists.{in_push, in_front, last_in, in_map_of}
use Rattle.cpa_engine_turn.specs.Stages.{Stage, noting, adding, replacing_at}
use Rattle.cpa_engine_turn.specs.Steps.{Does, IsOrdered}

pub below_next : (r : ReachedSet) (e : Entry) → IsOrdered r → IsIn e r.live → e.number < r.next
below_next r e ordered there =
    in_all (λ n. n < r.next) (numbers r.live) e.number ordered.below (entry_in e r.live there)

-- The second entry is the first one, but for what it names.
pub record Alike (x y : Entry) : Type 0 where
  pub number : y.number ≡ x.number
  pub elems : y.elems ≡ x.elems
  pub precisions : y.precisions ≡ x.precisions
  pub waiting : y.waiting ≡ x.waiting

pub same_alike : (x : Entry) → Alike x x
same_alike x = record { number = refl; elems = refl; precisions = refl; waiting = refl }

pub alike_then : (x y z : Entry) → Alike x y → Alike y z → Alike x z
alike_then x y z a b = record {
  number = b.number ∙ a.number;
  elems = b.elems ∙ a.elems;
  precisions = b.precisions ∙ a.precisions;
  waiting = b.waiting ∙ a.waiting;
}

-- an entry of the list is like this one
pub record HasAlike (xs : List Entry) (y : Entry) : Type 0 where
  pub entry : Entry
  pub is_in : IsIn entry xs
  pub alike : Alike entry y

-- an entry like this one is in the list
pub record GoesOnIn (ys : List Entry) (x : Entry) : Type 0 where
  pub entry : Entry
  pub is_in : IsIn entry ys
  pub alike : Alike x entry

-- the entry has just come
pub record IsNew (a b : Stage) (y : Entry) : Type 0 where
  pub number : y.number ≡ a.reached.next
  pub waits : y.waiting ≡ true
  pub rises : a.reached.next < b.reached.next
  pub named : IsNamed b.row y.number

-- another entry has taken its place
pub record GivesWay (cfa : Cfa) (b : Stage) (x : Entry) : Type 0 where
  pub entry : Entry
  pub is_in : IsIn entry b.reached.live
  pub waits : entry.waiting ≡ true
  pub pair : IsIn (x.number, entry.number) b.row.replaced
  pub holds : (s : State) → IsStateOf cfa s → LiesIn s x.elems → LiesIn s entry.elems

-- a number that was added just now, whose entry nothing of its key covers that was there
pub record IsJustAdded (cs : List Component) (a b : Stage) (n : ℕ) : Type 0 where
  pub number : n ≡ a.reached.next
  pub rises : a.reached.next < b.reached.next
  pub uncovered : (y x : Entry) → IsIn y b.reached.live → y.number ≡ n → IsIn x a.reached.live
      → key_of cs y.elems ≡ key_of cs x.elems → all_cover cs y.elems x.elems ≡ false

-- a pair that was noted just now
pub record IsJustPaired (a b : Stage) (p : ℕ × ℕ) : Type 0 where
  pub was : IsLive a.reached.live p.0
  pub next : p.1 ≡ a.reached.next
  pub rises : a.reached.next < b.reached.next
  pub gone : IsLive b.reached.live p.0 → ⊥

pub record Effect (cfa : Cfa) (cs : List Component) (a b : Stage) : Type 0 where
  pub ordered : IsOrdered b.reached
  pub rises : a.reached.next ≤ b.reached.next
  pub journal : b.reached.journal ≡ a.reached.journal
  pub back : (y : Entry) → IsIn y b.reached.live → HasAlike a.reached.live y ⊎ IsNew a b y
  pub forth : (x : Entry) → IsIn x a.reached.live → GoesOnIn b.reached.live x ⊎ GivesWay cfa b x
  pub taken : b.row.taken ≡ a.row.taken
  pub added : (n : ℕ) → IsIn n b.row.added
      → IsIn n a.row.added ⊎ IsJustAdded cs a b n
  pub still_added : (n : ℕ) → IsIn n a.row.added → IsIn n b.row.added
  pub pairs : (p : ℕ × ℕ) → IsIn p b.row.replaced
      → IsIn p a.row.replaced ⊎ IsJustPaired a b p
  pub still_paired : (p : ℕ × ℕ) → IsIn p a.row.replaced → IsIn p b.row.replaced
  pub current : IsLive a.reached.live a.current → IsLive b.reached.live b.current
  pub stands : (b.current ≡ a.current) ⊎ (b.current ≡ a.reached.next)
  -- the firsts of the pairs are as before, or one more that was live
  pub once : (b.row.replaced ≡ a.row.replaced)
      ⊎ ((p : ℕ × ℕ) × (b.row.replaced ≡ a.row.replaced ++ p ∷ [])
      × IsLive a.reached.live p.0)

-- a change of entries that leaves all but what they name
pub record IsMild (g : Entry → Entry) : Type 0 where
  pub alike : (x : Entry) → Alike x (g x)

pub mild_back : (g : Entry → Entry) (xs : List Entry) (y : Entry) → IsMild g → IsIn y (map g xs)
    → HasAlike xs y
mild_back g xs y mild there =
    let from = in_map g xs y there in
    record {
      entry = from.0;
      is_in = from.1;
      alike = subst (Alike from.0) (sym from.2) (mild.alike from.0);
    }

pub mild_forth : (g : Entry → Entry) (xs : List Entry) (x : Entry) → IsMild g → IsIn x xs
    → GoesOnIn (map g xs) x
mild_forth g xs x mild there =
    record { entry = g x; is_in = map_in g xs x there; alike = mild.alike x }

pub gains_mildly : (n by : ℕ) → IsMild (λ e. cond (eqb e.number n) (gains by e) e)
gains_mildly n by = record {
  alike = λ x. cond_both (eqb x.number n) (gains by x) x (Alike x)
      (λ _. record { number = refl; elems = refl; precisions = refl; waiting = refl })
      (λ _. same_alike x);
}

pub renamed_mildly : (old next : ℕ) → IsMild (renamed old next)
renamed_mildly old next = record {
  alike = λ x. record { number = refl; elems = refl; precisions = refl; waiting = refl };
}

mild_numbers : (g : Entry → Entry) (xs : List Entry) → IsMild g → numbers (map g xs) ≡ numbers xs
mild_numbers g xs mild = numbers_map g xs (λ e. (mild.alike e).number)

pub live_alike : (xs ys : List Entry) (n : ℕ)
    → ((x : Entry) → IsIn x xs → GoesOnIn ys x) → IsLive xs n → IsLive ys n
live_alike xs ys n forth l =
    let on = forth l.entry l.is_in in
    record { entry = on.entry; is_in = on.is_in; is = on.alike.number ∙ l.is }

-- `note_use`
notes_effect : (cfa : Cfa) (cs : List Component) (a : Stage) (by : ℕ) → IsOrdered a.reached
    → Effect cfa cs a (noting by a)
notes_effect cfa cs a by ordered =
    let g : Entry → Entry = λ e. cond (eqb e.number a.current) (gains by e) e in
    let mild = gains_mildly a.current by in
    let same = mild_numbers g a.reached.live mild in
    record {
      ordered = record {
        ascend = subst AreAscending (sym same) ordered.ascend;
        below = subst (AllByRecursion (λ n. n < a.reached.next)) (sym same) ordered.below;
      };
      rises = omega arith;
      journal = refl;
      back = λ y there. inl (mild_back g a.reached.live y mild there);
      forth = λ x there. inl (mild_forth g a.reached.live x mild there);
      taken = refl;
      added = λ n there. inl there;
      still_added = λ n there. there;
      pairs = λ p there. inl there;
      still_paired = λ p there. there;
      current = λ l. live_alike a.reached.live (map g a.reached.live) a.current
          (λ x there. mild_forth g a.reached.live x mild there) l;
      stands = inl refl;
      once = inl refl;
    }

-- `add`
adds_effect : (cfa : Cfa) (cs : List Component) (a : Stage) (es : List Elem) (ps : List Precision)
    (edge : ℕ) → IsOrdered a.reached
    → ((e : Entry) → IsIn e a.reached.live → key_of cs es ≡ key_of cs e.elems
    → all_cover cs es e.elems ≡ false)
    → Effect cfa cs a (adding es ps edge a)
adds_effect cfa cs a es ps edge ordered uncovered =
    let next = a.reached.next in
    let xs = a.reached.live in
    let g : Entry → Entry = λ e. cond (eqb e.number a.current) (gains next e) e in
    let mild = gains_mildly a.current next in
    let new = fresh next es ps (Some (a.current, edge)) in
    let b = adding es ps edge a in
    let front : (x : Entry) → IsIn x xs → GoesOnIn b.reached.live x =
    λ x there. let on = mild_forth g xs x mild there in
    record {
      entry = on.entry;
      is_in = append_front (map g xs) (new ∷ []) on.entry on.is_in;
      alike = on.alike;
    } in
    let from : (y : Entry) → IsIn y b.reached.live → HasAlike xs y ⊎ (new ≡ y) =
    λ y there. ⊎_elim (λ old. inl (mild_back g xs y mild old))
    (λ last. ⊎_elim (λ same. inr same) (λ none. absurd none) last)
    (in_append (map g xs) (new ∷ []) y there) in
    let same : numbers b.reached.live ≡ numbers xs ++ next ∷ [] =
    numbers_append (map g xs) (new ∷ [])
    ∙ ap (λ (ns : List ℕ). ns ++ next ∷ []) (mild_numbers g xs mild) in
    let up : (n : ℕ) → n < next → n < next + 1 = λ n less. omega (arith, less) in
    record {
      ordered = record {
        ascend = subst AreAscending (sym same)
            (ascending_push (numbers xs) next ordered.ascend ordered.below);
        below = subst (AllByRecursion (λ n. n < next + 1)) (sym same)
            (all_push (λ n. n < next + 1) (numbers xs) next
            (all_weaker (λ n. n < next) (λ n. n < next + 1) (numbers xs) up ordered.below)
            (omega arith));
      };
      rises = omega arith;
      journal = refl;
      back = λ y there. ⊎_elim (λ old. inl old)
          (λ is. inr (record {
            number = ap (λ (z : Entry). z.number) (sym is);
            waits = ap (λ (z : Entry). z.waiting) (sym is);
            rises = omega arith;
            named = inl (subst (λ (n : ℕ). IsIn n (a.row.added ++ next ∷ []))
                (ap (λ (z : Entry). z.number) is) (last_in a.row.added next));
          })) (from y there);
      forth = λ x there. inl (front x there);
      taken = refl;
      added = λ n there. ⊎_elim (λ old. inl old)
          (λ is. inr (record {
            number = sym is;
            rises = omega arith;
            uncovered = λ y x in_y is_n in_x. ⊎_elim
                (λ old. absurd
                (let low : old.entry.number < next =
                below_next a.reached old.entry ordered old.is_in
                in
                let number = old.alike.number in
                omega (arith, low, number, is, is_n)))
                (λ is_new. subst (λ (z : Entry). key_of cs z.elems ≡ key_of cs x.elems
                → all_cover cs z.elems x.elems ≡ false) is_new (uncovered x in_x))
                (from y in_y);
          })) (in_push a.row.added next n there);
      still_added = λ n there. in_front a.row.added (next ∷ []) n there;
      pairs = λ p there. inl there;
      still_paired = λ p there. there;
      current = λ l. live_alike xs b.reached.live a.current front l;
      stands = inl refl;
      once = inl refl;
    }

-- `replace`
rename_other : (old next n : ℕ) → n ≢ old → rename old next n ≡ n
rename_other old next n other = rw (ne_eqb n old other) refl

rename_own : (old next : ℕ) → rename old next old ≡ next
rename_own old next = rw (eq-eqb old old refl) refl

pub rename_cases : (old next n : ℕ)
    → ((n ≡ old) × (rename old next n ≡ next)) ⊎ ((n ≢ old) × (rename old next n ≡ n))
rename_cases old next n =
    ⊎_elim
    (λ yes. let is : n ≡ old = eqb-true n old yes in
    inl (is, ap (rename old next) is ∙ rename_own old next))
    (λ no. let other : n ≢ old = λ is. both_ways (eqb n old) no (eq-eqb n old is) in
    inr (other, rename_other old next n other))
    (cases_Bool (eqb n old))

-- the one entry of the number
none_above : (n m : ℕ) (xs : List Entry) → n ≤ m → AllByRecursion (λ k. m < k) (numbers xs)
    → those n xs ≡ []
none_above n m [] le above = refl
none_above n m (x ∷ xs) le above =
    let less : m < x.number = above.0 in
    let no : eqb x.number n ≡ false = ne_eqb x.number n (λ e. omega (arith, le, less, e)) in
    rw no (none_above n m xs le above.1)

pub those_one : (xs : List Entry) (old : Entry) → AreAscending (numbers xs) → IsIn old xs
    → those old.number xs ≡ old ∷ []
those_one [] old up there = absurd there
those_one (x ∷ xs) old up (inl same) =
    let yes : eqb x.number old.number ≡ true =
    eq-eqb x.number old.number (ap (λ (z : Entry). z.number) same) in
    let rest : those old.number xs ≡ [] =
    none_above old.number x.number xs
    (let n : x.number ≡ old.number = ap (λ (z : Entry). z.number) same in omega (arith, n)) up.0 in
    rw yes (ap (λ (l : List Entry). x ∷ l) rest ∙ ap (λ (z : Entry). z ∷ []) same)
those_one (x ∷ xs) old up (inr later) =
    let above : x.number < old.number =
    in_all (λ m. x.number < m) (numbers xs) old.number up.0 (entry_in old xs later) in
    let no : eqb x.number old.number ≡ false =
    ne_eqb x.number old.number (λ e. omega (arith, above, e)) in
    rw no (those_one xs old up.1 later)

pub replaced_numbers : (next : ℕ) (xs : List Entry) (old : Entry) (es : List Elem)
    → AreAscending (numbers xs) → IsIn old xs
    → numbers (replaced_entries next xs old.number es) ≡ numbers (others old.number xs) ++ next ∷ []
replaced_numbers next xs old es up there =
    let front = map (renamed old.number next) (others old.number xs) in
    numbers_append front (map (replacing next es) (those old.number xs))
    ∙ (ap (λ (l : List Entry). numbers front ++ numbers (map (replacing next es) l))
    (those_one xs old up there)
    ∙ ap (λ (ns : List ℕ). ns ++ next ∷ [])
    (numbers_map (renamed old.number next) (others old.number xs) (λ e. refl)))

replaced_ordered : (r : ReachedSet) (old : Entry) (es : List Elem) → IsOrdered r → IsIn old r.live
    → IsOrdered (replaced r old.number es)
replaced_ordered r old es ordered there =
    let next = r.next in
    let keep : Entry → Bool = λ e. not (eqb e.number old.number) in
    let same = replaced_numbers next r.live old es ordered.ascend there in
    let low = all_kept (λ n. n < next) keep r.live ordered.below in
    let up : (n : ℕ) → n < next → n < next + 1 = λ n less. omega (arith, less) in
    record {
      ascend = subst AreAscending (sym same)
          (ascending_push (numbers (others old.number r.live)) next
          (ascend_kept keep r.live ordered.ascend) low);
      below = subst (AllByRecursion (λ n. n < next + 1)) (sym same)
          (all_push (λ n. n < next + 1) (numbers (others old.number r.live)) next
          (all_weaker (λ n. n < next) (λ n. n < next + 1) (numbers (others old.number r.live)) up
          low)
          (omega arith));
    }

-- an entry after a replacement: one of another number that was there, or the new one
pub replaced_back : (next : ℕ) (xs : List Entry) (old : Entry) (es : List Elem)
    → AreAscending (numbers xs) → IsIn old xs → (y : Entry)
    → IsIn y (replaced_entries next xs old.number es)
    → ((x : Entry) × IsIn x xs × Alike x y × (x.number ≢ old.number))
    ⊎ (y ≡ replacing next es old)
replaced_back next xs old es up in_old y there =
    let o = old.number in
    let keep : Entry → Bool = λ e. not (eqb e.number o) in
    let take : Entry → Bool = λ e. eqb e.number o in
    let mild = renamed_mildly o next in
    ⊎_elim
    (λ kept. let from = in_map (renamed o next) (others o xs) y kept in
    let was = in_filter keep xs from.0 from.1 in
    inl (
      from.0,
      was.0,
      subst (Alike from.0) (sym from.2) (mild.alike from.0),
      λ is. both_ways (keep from.0) (ap not (eq-eqb from.0.number o is)) was.1,
    ))
    (λ last. let from = in_map (replacing next es) (those o xs) y last in
    let was = in_filter take xs from.0 from.1 in
    let same : from.0 ≡ old =
    one_entry xs from.0 old up was.0 in_old (eqb-true from.0.number o was.1) in
    inr (from.2 ∙ ap (replacing next es) same))
    (in_append (map (renamed o next) (others o xs)) (map (replacing next es) (those o xs)) y there)

replaces_effect : (cfa : Cfa) (cs : List Component) (a : Stage) (old : Entry) (es : List Elem)
    → IsOrdered a.reached → IsIn old a.reached.live
    → ((s : State) → IsStateOf cfa s → LiesIn s old.elems → LiesIn s es)
    → Effect cfa cs a (replacing_at old.number es a)
replaces_effect cfa cs a old es ordered in_old holds =
    let next = a.reached.next in
    let xs = a.reached.live in
    let o = old.number in
    let keep : Entry → Bool = λ e. not (eqb e.number o) in
    let take : Entry → Bool = λ e. eqb e.number o in
    let front = map (renamed o next) (others o xs) in
    let behind = map (replacing next es) (those o xs) in
    let b = replacing_at o es a in
    let mild = renamed_mildly o next in
    let new = replacing next es old in
    let in_new : IsIn new (front ++ behind) =
    append_back front behind new
    (map_in (replacing next es) (those o xs) old
    (filter_in take xs old in_old (eq-eqb o o refl))) in
    let pair : IsIn (o, next) (a.row.replaced ++ (o, next) ∷ []) =
    last_in a.row.replaced (o, next) in
    let forth : (x : Entry) → IsIn x xs → GoesOnIn (front ++ behind) x ⊎ (x ≡ old) =
    λ x there. ⊎_elim
    (λ yes. inr (one_entry xs x old ordered.ascend there in_old (eqb-true x.number o yes)))
    (λ no. inl (record {
      entry = renamed o next x;
      is_in = append_front front behind (renamed o next x)
          (map_in (renamed o next) (others o xs) x (filter_in keep xs x there (rw no refl)));
      alike = mild.alike x;
    })) (cases_Bool (eqb x.number o)) in
    let back : (y : Entry) → IsIn y (front ++ behind)
    → ((x : Entry) × IsIn x xs × Alike x y × (x.number ≢ o)) ⊎ (y ≡ new) =
    replaced_back next xs old es ordered.ascend in_old in
    let ordered_after : IsOrdered b.reached =
    replaced_ordered a.reached old es ordered in_old in
    record {
      ordered = ordered_after;
      rises = omega arith;
      journal = refl;
      back = λ y there. ⊎_elim
          (λ (x : (x : Entry) × IsIn x xs × Alike x y × (x.number ≢ o)).
          inl (record { entry = x.0; is_in = x.1; alike = x.2 }))
          (λ is. inr (record {
            number = ap (λ (z : Entry). z.number) is;
            waits = ap (λ (z : Entry). z.waiting) is;
            rises = omega arith;
            named = inr (subst (λ (n : ℕ). IsIn n (seconds b.row.replaced))
                (sym (ap (λ (z : Entry). z.number) is))
                (in_map_of (λ (p : ℕ × ℕ). p.1) b.row.replaced (o, next) pair));
          })) (back y there);
      forth = λ x there. ⊎_elim (λ on. inl on)
          (λ is. inr (record {
            entry = new;
            is_in = in_new;
            waits = refl;
            pair = subst (λ (z : Entry). IsIn (z.number, next) b.row.replaced) (sym is) pair;
            holds = subst (λ (z : Entry). (s : State) → IsStateOf cfa s → LiesIn s z.elems
                → LiesIn s es) (sym is) holds;
          })) (forth x there);
      taken = refl;
      added = λ n there. inl there;
      still_added = λ n there. there;
      pairs = λ p there. ⊎_elim (λ was. inl was)
          (λ is. inr (record {
            was = subst (λ (q : ℕ × ℕ). IsLive xs q.0) is
                (record { entry = old; is_in = in_old; is = refl });
            next = ap (λ (q : ℕ × ℕ). q.1) (sym is);
            rises = omega arith;
            gone = λ l. ⊎_elim
                (λ (x : (x : Entry) × IsIn x xs × Alike x l.entry × (x.number ≢ o)).
                x.3 (sym x.2.number ∙ (l.is ∙ ap (λ (q : ℕ × ℕ). q.0) (sym is))))
                (λ is_new.
                let low : old.number < next = below_next a.reached old ordered in_old in
                let first : p.0 ≡ old.number = ap (λ (q : ℕ × ℕ). q.0) (sym is) in
                let here : l.entry.number ≡ next = ap (λ (z : Entry). z.number) is_new in
                let at = l.is in
                absurd (omega (arith, low, first, here, at)))
                (back l.entry l.is_in);
          })) (in_push a.row.replaced (o, next) p there);
      still_paired = λ p there. in_front a.row.replaced ((o, next) ∷ []) p there;
      current = λ l. ⊎_elim
          (λ (own : (a.current ≡ o) × (rename o next a.current ≡ next)).
          record { entry = new; is_in = in_new; is = sym own.1 })
          (λ (other : (a.current ≢ o) × (rename o next a.current ≡ a.current)).
          ⊎_elim
          (λ on. record {
            entry = on.entry;
            is_in = on.is_in;
            is = on.alike.number ∙ (l.is ∙ sym other.1);
          })
          (λ is. absurd (other.0 (sym l.is ∙ ap (λ (z : Entry). z.number) is)))
          (forth l.entry l.is_in))
          (rename_cases o next a.current);
      stands = ⊎_elim
          (λ (own : (a.current ≡ o) × (rename o next a.current ≡ next)). inr own.1)
          (λ (other : (a.current ≢ o) × (rename o next a.current ≡ a.current)).
          inl other.1)
          (rename_cases o next a.current);
      once = inr ((o, next), refl, record { entry = old; is_in = in_old; is = refl });
    }

pub effect : (cfa : Cfa) (cs : List Component) (a b : Stage) → IsOrdered a.reached
    → Does cfa cs a b → Effect cfa cs a b
effect cfa cs a b ordered (inl notes) =
    subst (Effect cfa cs a) (sym notes.is) (notes_effect cfa cs a notes.by ordered)
effect cfa cs a b ordered (inr (inl adds)) =
    subst (Effect cfa cs a) (sym adds.is)
    (adds_effect cfa cs a adds.elems adds.precisions adds.edge ordered adds.uncovered)
effect cfa cs a b ordered (inr (inr replaces)) =
    subst (Effect cfa cs a) (sym replaces.is)
    (replaces_effect cfa cs a replaces.entry replaces.elems ordered replaces.is_in
    replaces.merged.covers)
