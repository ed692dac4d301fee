-- That a turn which goes from stage to stage is a turn (`turned`), and keeps covered successors
-- (`turned_covers`).
use Rattle.std.proofs.Common.{◌≡◌, ◌≢◌, ℕ, ◌<◌, true, false, eqb, cond, List, []}
use Rattle.std.proofs.Common.{◌∷◌}
use Rattle.std.proofs.Common.{length}
use Rattle.std.proofs.Common.{◌++◌, refl, sym, ap, ◌∙◌, subst, inl, inr, ⊎_elim, arith}
use Rattle.std.specs.Prelude.{◌⊎◌}
use Rattle.std.specs.List.{filter, AllByRecursion}
use Rattle.std.proofs.lemmas.Bool.{cond_both, both_ways, eq-eqb, ne_eqb}
use Rattle.cpa_model.specs.declared.automaton.Cfa.{Cfa}
use Rattle.cpa_model.specs.declared.states.State.{State}
use Rattle.cpa_model.specs.Automata.{IsStateOf, EdgeStep, initial_state}
use Rattle.cpa_model.specs.Facts.{LiesIn}
use Rattle.cpa_iface.specs.declared.entries.Entry.{Entry}
use Rattle.cpa_iface.specs.declared.entries.Turn.{Turn}
use Rattle.cpa_iface.specs.declared.merging.Order.{Order}
use Rattle.cpa_composite.specs.Components.{Component}
use Rattle.cpa_model.specs.Ascending.{AreAscending}
use Rattle.cpa_reached.specs.Members.{IsIn}
use Rattle.cpa_reached.specs.lemmas.MemberLaws.{in_map, map_in, in_filter, one_entry, numbers_map}
use Rattle.cpa_reached.specs.Entries.{ReachedSet, IsLive, IsNext, numbers, waiting_numbers}
use Rattle.cpa_reached.specs.Calls.{at_number, rests, taken}
use Rattle.cpa_reached.specs.Successors.{LiesInNamed, CoversSuccessors}
use Rattle.cpa_engine_turn.specs.Turns.{AreEntries}
use Rattle.cpa_engine_turn.specs.Turns.{IsTurn, Turned, IsTaken, Stays, IsReplaced, IsFollowedBy}
use Rattle.cpa_engine_turn.specs.lemmas.Lists.{of_map}
use Rattle.cpa_engine_turn.proofs.Effects.{HasAlike, GoesOnIn, same_alike, effect, below_next}
use Rattle.cpa_engine_turn.proofs.Chains.{kept_along}
use Rattle.cpa_engine_turn.proofs.Shapes.{entries_along, taken_entries}
use Rattle.cpa_engine_turn.proofs.Progress.{SoFar, CameIn, so_far_along, places_along}
use Rattle.cpa_engine_turn.proofs.Waiting.{CoversBut, covers_along, taken_covers, covers_last}
use Rattle.cpa_engine_turn.specs.Stages.{Stage, taking, Works}
use Rattle.cpa_engine_turn.specs.Steps.{Leads, IsPlaced, GoesOn, IsOrdered}

-- a waiting number is that of an entry that waits
pub record Waits (xs : List Entry) (n : ℕ) : Type 0 where
  pub entry : Entry
  pub is_in : IsIn entry xs
  pub is : entry.number ≡ n
  pub waiting : entry.waiting ≡ true

pub waits_there : (xs : List Entry) (n : ℕ) → IsIn n (waiting_numbers xs) → Waits xs n
waits_there xs n there =
    let from = of_map (λ (e : Entry). e.number) (filter (λ (e : Entry). e.waiting) xs) n there in
    let was = in_filter (λ (e : Entry). e.waiting) xs from.0 from.1 in
    record { entry = from.0; is_in = was.0; is = from.2; waiting = was.1 }

-- the entry as the taking leaves it
abbrev pub at_rest : ℕ → Entry → Entry
at_rest n e = cond (eqb e.number n) (rests e) e

pub rest_number : (n : ℕ) (e : Entry) → (at_rest n e).number ≡ e.number
rest_number n e =
    cond_both (eqb e.number n) (rests e) e (λ y. y.number ≡ e.number) (λ _. refl) (λ _. refl)

rest_elems : (n : ℕ) (e : Entry) → (at_rest n e).elems ≡ e.elems
rest_elems n e =
    cond_both (eqb e.number n) (rests e) e (λ y. y.elems ≡ e.elems) (λ _. refl) (λ _. refl)

rest_waiting : (n : ℕ) (e : Entry) → e.number ≢ n → (at_rest n e).waiting ≡ e.waiting
rest_waiting n e other = rw (ne_eqb e.number n other) refl

rest_rests : (n : ℕ) (e : Entry) → e.number ≡ n → (at_rest n e).waiting ≡ false
rest_rests n e is = rw (eq-eqb e.number n is) refl

-- an entry after the taking is one of before
pub record WasThere (n : ℕ) (xs : List Entry) (o : Entry) : Type 0 where
  pub entry : Entry
  pub is_in : IsIn entry xs
  pub number : o.number ≡ entry.number
  pub elems : o.elems ≡ entry.elems
  pub waited : o.waiting ≡ true → entry.waiting ≡ true
  pub rests : o.number ≡ n → o.waiting ≡ false

pub was_there : (n : ℕ) (xs : List Entry) (o : Entry) → IsIn o (at_number n rests xs)
    → WasThere n xs o
was_there n xs o there =
    let from = in_map (at_rest n) xs o there in
    record {
      entry = from.0;
      is_in = from.1;
      number = ap (λ (y : Entry). y.number) from.2 ∙ rest_number n from.0;
      elems = ap (λ (y : Entry). y.elems) from.2 ∙ rest_elems n from.0;
      waited = λ is. cond_both (eqb from.0.number n) (rests from.0) from.0
          (λ y. y.waiting ≡ true → from.0.waiting ≡ true) (λ _ wrong. absurd (cc)) (λ _ same. same)
          (ap (λ (y : Entry). y.waiting) (sym from.2) ∙ is);
      rests = λ is. ap (λ (y : Entry). y.waiting) from.2
          ∙ rest_rests n from.0
          (sym (rest_number n from.0) ∙ (ap (λ (y : Entry). y.number) (sym from.2) ∙ is));
    }

-- the turn begins
none_named : (n : ℕ) → IsIn n [] ⊎ IsIn n [] → ⊥
none_named n (inl wrong) = wrong
none_named n (inr wrong) = wrong

-- the numbers before are those after the taking
pub ordered_before : (r : ReachedSet) (n : ℕ) → IsOrdered (taken n r) → IsOrdered r
ordered_before r n ordered =
    let same : numbers (at_number n rests r.live) ≡ numbers r.live =
    numbers_map (at_rest n) r.live (rest_number n) in
    record {
      ascend = subst AreAscending same ordered.ascend;
      below = subst (AllByRecursion (λ m. m < r.next)) same ordered.below;
    }

pub so_far_begins : (cfa : Cfa) (cs : List Component) (r : ReachedSet) (n : ℕ)
    → IsOrdered (taken n r) → Waits r.live n
    → SoFar cfa cs (taken n r).live r.next (taking (taken n r) n)
so_far_begins cfa cs r n ordered waiting =
    record {
      ordered = ordered;
      rises = omega arith;
      entries = λ o there. inl (record { entry = o; is_in = there; alike = same_alike o });
      known = λ e there. inl (record { entry = e; is_in = there; alike = same_alike e });
      brought = λ m named. absurd (none_named m named);
      first = λ m there. absurd there;
      gone = λ m there l. there;
      once = tt;
      uncovered = λ e f in_e none in_f less. absurd none;
      current = record {
        entry = at_rest n waiting.entry;
        is_in = map_in (at_rest n) r.live waiting.entry waiting.is_in;
        is = rest_number n waiting.entry ∙ waiting.is;
      };
      stands = inl refl;
    }

record TakenIs (n : ℕ) (m : Stage) : Type 0 where
  ordered : IsOrdered m.reached
  taken : m.row.taken ≡ n

taken_along : (cfa : Cfa) (cs : List Component) (n : ℕ) (a b : Stage) → Leads cfa cs a b
    → IsOrdered a.reached → a.row.taken ≡ n → b.row.taken ≡ n
taken_along cfa cs n a b leads ordered is =
    (kept_along cfa cs (TakenIs n)
    (λ m c o does. let e = effect cfa cs m c o.ordered does in
    record { ordered = e.ordered; taken = e.taken ∙ o.taken })
    a b leads (record { ordered = ordered; taken = is })).taken

-- the journal is as before
record JournalIs (rows : List Turn) (m : Stage) : Type 0 where
  ordered : IsOrdered m.reached
  journal : m.reached.journal ≡ rows

journal_along : (cfa : Cfa) (cs : List Component) (a b : Stage) → Leads cfa cs a b
    → IsOrdered a.reached → b.reached.journal ≡ a.reached.journal
journal_along cfa cs a b leads ordered =
    (kept_along cfa cs (JournalIs a.reached.journal)
    (λ m c o does. let e = effect cfa cs m c o.ordered does in
    record { ordered = e.ordered; journal = e.journal ∙ o.journal })
    a b leads (record { ordered = ordered; journal = refl })).journal

-- What is known when the last stage is come to.
pub record Ended (cfa : Cfa) (cs : List Component) (r : ReachedSet) (n : ℕ) (last : Stage) : Type 0
  where
    pub numbered : IsOrdered r
    pub waiting : Waits r.live n
    pub so : SoFar cfa cs (taken n r).live r.next last
    pub taken : last.row.taken ≡ n
    pub journal : last.reached.journal ≡ r.journal

pub ended : (cfa : Cfa) (cs : List Component) (r : ReachedSet) (n : ℕ) (last : Stage)
    → IsOrdered (taken n r) → Waits r.live n → Leads cfa cs (taking (taken n r) n) last
    → Ended cfa cs r n last
ended cfa cs r n last ordered waiting leads =
    let start = so_far_begins cfa cs r n ordered waiting in
    let a = taking (taken n r) n in
    record {
      numbered = ordered_before r n ordered;
      waiting = waiting;
      so = so_far_along cfa cs (taken n r).live r.next a last leads start;
      taken = taken_along cfa cs n a last leads start.ordered refl;
      journal = journal_along cfa cs a last leads start.ordered;
    }

pub old_below : (r : ReachedSet) (e : Entry) → IsOrdered r → IsIn e r.live → e.number < r.next
old_below r e ordered there = below_next r e ordered there

-- an entry of the beginning is one of before
pub alike_was : (r : ReachedSet) (n : ℕ) (e : Entry) → HasAlike (taken n r).live e
    → WasThere n r.live e
alike_was r n e has =
    let was = was_there n r.live has.entry has.is_in in
    record {
      entry = was.entry;
      is_in = was.is_in;
      number = has.alike.number ∙ was.number;
      elems = has.alike.elems ∙ was.elems;
      waited = λ is. was.waited (sym has.alike.waiting ∙ is);
      rests = λ is. has.alike.waiting ∙ was.rests (sym has.alike.number ∙ is);
    }

stays_or_not : (cfa : Cfa) (cs : List Component) (r : ReachedSet) (n : ℕ) (last : Stage)
    (e : Entry) → Ended cfa cs r n last → IsIn e r.live
    → Stays last.row last.reached.live e ⊎ IsReplaced cfa last.row last.reached.live e
stays_or_not cfa cs r n last e end there =
    ⊎_elim
    (λ (on : GoesOnIn last.reached.live (at_rest n e)). inl (record {
      entry = on.entry;
      is_in = on.is_in;
      number = on.alike.number ∙ rest_number n e;
      elems = on.alike.elems ∙ rest_elems n e;
      waits = λ other waited. on.alike.waiting
          ∙ (rest_waiting n e (λ is. other (is ∙ sym end.taken)) ∙ waited);
    }))
    (λ (is : IsReplaced cfa last.row last.reached.live (at_rest n e)). inr (record {
      entry = is.entry;
      is_in = is.is_in;
      follows = subst (λ (k : ℕ). IsFollowedBy last.row.replaced k is.entry.number)
          (rest_number n e) is.follows;
      waits = is.waits;
      holds = λ s state lies. is.holds s state
          (subst (λ es. LiesIn s es) (sym (rest_elems n e)) lies);
    }))
    (end.so.entries (at_rest n e) (map_in (at_rest n) r.live e there))

pub is_turn : (cfa : Cfa) (cs : List Component) (r : ReachedSet) (n : ℕ) (last : Stage)
    → Ended cfa cs r n last
    → ((e : Entry) (s t : State) → IsIn e (taken n r).live → e.number ≡ n → LiesIn s e.elems
    → EdgeStep cfa s t → IsPlaced t last)
    → IsTurn cfa cs r.live last.reached.live last.row
is_turn cfa cs r n last end placed =
    let so = end.so in
    let row = last.row in
    record {
      taken = subst (IsTaken r.live last.reached.live) (sym end.taken) (record {
        entry = end.waiting.entry;
        is_in = end.waiting.is_in;
        number = end.waiting.is;
        waited = end.waiting.waiting;
        rests = λ e there is. ⊎_elim
            (λ (has : HasAlike (taken n r).live e). (alike_was r n e has).rests is)
            (λ (came : CameIn r.next last e). absurd (
            let low = came.from in
            let under = old_below r end.waiting.entry end.numbered end.waiting.is_in in
            let same = end.waiting.is in omega (arith, low, under, same, is)))
            (so.known e there);
      });
      entries = λ e there. stays_or_not cfa cs r n last e end there;
      successors = λ e s t there is lies steps.
          (placed (at_rest n e) s t (map_in (at_rest n) r.live e there)
          (rest_number n e ∙ (is ∙ end.taken))
          (subst (λ es. LiesIn s es) (sym (rest_elems n e)) lies) steps).lies;
      waits = λ e there is_added. ⊎_elim
          (λ (has : HasAlike (taken n r).live e). absurd (
          let was = alike_was r n e has in
          let under = old_below r was.entry end.numbered was.is_in in
          let same = was.number in
          let low = (so.brought e.number (inl is_added)).0 in omega (arith, under, same, low)))
          (λ (came : CameIn r.next last e). came.waits)
          (so.known e there);
      named = λ e there. ⊎_elim
          (λ (has : HasAlike (taken n r).live e).
          let was = alike_was r n e has in
          inl (record { entry = was.entry; is_in = was.is_in; is = sym was.number }))
          (λ (came : CameIn r.next last e). inr came.named)
          (so.known e there);
      gone = so.gone;
      known = λ m there. ⊎_elim
          (λ (l : IsLive (taken n r).live m).
          let was = was_there n r.live l.entry l.is_in in
          inl (record { entry = was.entry; is_in = was.is_in; is = sym was.number ∙ l.is }))
          (λ named. inr named)
          ((so.first m there).1);
      once = so.once;
      uncovered = so.uncovered;
    }

pub turned : (cfa : Cfa) (cs : List Component) (order : Order) (r : ReachedSet) (n : ℕ)
    (new : ReachedSet) → IsNext order r.live n → GoesOn cfa cs n (taken n r) new
    → Works cfa cs n (taken n r) new → Turned cfa cs order r new
turned cfa cs order r n new next goes works =
    let last = goes.last in
    let end = ended cfa cs r n last goes.ordered (waits_there r.live n next.waits) goes.leads in
    record {
      row = last.row;
      next = subst (IsNext order r.live) (sym end.taken) next;
      turn = subst (λ (s : ReachedSet). IsTurn cfa cs r.live s.live last.row) (sym goes.closed)
          (is_turn cfa cs r n last end goes.placed);
      works = subst (λ (k : ℕ). Works cfa cs k (taken k r) new) (sym end.taken) works;
      closed = ap (λ (s : ReachedSet). s.journal) goes.closed
          ∙ ap (λ (rows : List Turn). rows ++ last.row ∷ []) end.journal;
    }

-- the places by which the entries are indexed
pub turned_places : (cfa : Cfa) (cs : List Component) (r : ReachedSet) (n : ℕ) (new : ReachedSet)
    → GoesOn cfa cs n (taken n r) new → new.places ≡ r.places
turned_places cfa cs r n new goes =
    ap (λ (s : ReachedSet). s.places) goes.closed
    ∙ places_along cfa cs (taking (taken n r) n) goes.last goes.leads

-- what stands for the taken entry and waits no longer is that entry
own_covered : (cfa : Cfa) (cs : List Component) (r : ReachedSet) (n : ℕ) (last : Stage)
    → Ended cfa cs r n last
    → ((e : Entry) (s t : State) → IsIn e (taken n r).live → e.number ≡ n → LiesIn s e.elems
    → EdgeStep cfa s t → IsPlaced t last)
    → (e : Entry) (s t : State) → IsIn e last.reached.live → e.number ≡ last.current
    → e.waiting ≡ false → LiesIn s e.elems → EdgeStep cfa s t
    → LiesInNamed t e.uses last.reached.live
own_covered cfa cs r n last end placed e s t there is rests lies steps =
    ⊎_elim
    (λ (has : HasAlike (taken n r).live e).
    let was = alike_was r n e has in
    let under = old_below r was.entry end.numbered was.is_in in
    let same = was.number in
    let own : has.entry.number ≡ n = ⊎_elim
    (λ current. sym has.alike.number ∙ (is ∙ (current ∙ end.taken)))
    (λ low. absurd (omega (arith, under, same, is, low))) end.so.stands in
    let at = placed has.entry s t has.is_in own
    (subst (λ es. LiesIn s es) has.alike.elems lies) steps in
    let served = at.served in
    let is_e : served.entry ≡ e =
    one_entry last.reached.live served.entry e end.so.ordered.ascend served.is_in there
    (served.number ∙ sym is) in
    ⊎_elim
    (λ waiting. absurd (both_ways e.waiting rests
    (ap (λ (y : Entry). y.waiting) (sym is_e) ∙ waiting)))
    (λ named. subst (λ (y : Entry). LiesInNamed t y.uses last.reached.live) is_e named)
    served.serves)
    (λ (came : CameIn r.next last e). absurd (both_ways e.waiting rests came.waits))
    (end.so.known e there)

pub turned_covers : (cfa : Cfa) (cs : List Component) (order : Order) (r : ReachedSet) (n : ℕ)
    (new : ReachedSet) → IsStateOf cfa (initial_state cfa)
    → IsNext order r.live n → GoesOn cfa cs n (taken n r) new → CoversSuccessors cfa r.live
    → CoversSuccessors cfa new.live
turned_covers cfa cs order r n new begins next goes covers =
    let last = goes.last in
    let waiting = waits_there r.live n next.waits in
    let end = ended cfa cs r n last goes.ordered waiting goes.leads in
    let a = taking (taken n r) n in
    let first : CoversBut cfa a = taken_covers cfa n r.live
    (λ e there is. ap (λ (y : Entry). y.waiting)
    (one_entry r.live e waiting.entry end.numbered.ascend there waiting.is_in (is ∙ sym waiting.is))
    ∙ waiting.waiting) covers in
    let but = covers_along cfa cs a last begins goes.leads
    goes.ordered first in
    subst (λ (s : ReachedSet). CoversSuccessors cfa s.live) (sym goes.closed)
    (covers_last cfa last.current last.reached.live but
    (own_covered cfa cs r n last end goes.placed))

pub turned_entries : (cfa : Cfa) (cs : List Component) (r : ReachedSet) (n : ℕ) (new : ReachedSet)
    → GoesOn cfa cs n (taken n r) new → AreEntries cfa (length cs) r.live
    → AreEntries cfa (length cs) new.live
turned_entries cfa cs r n new goes are =
    subst (λ (s : ReachedSet). AreEntries cfa (length cs) s.live) (sym goes.closed)
    (entries_along cfa cs (taking (taken n r) n) goes.last goes.leads
    (taken_entries cfa (length cs) n r.live are))
