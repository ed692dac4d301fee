-- Where all is exact and kept apart, entries stay rows of pins, each state once, and each turn
-- leaves
-- fewer turns (`turned_pins`).
use Rattle.std.proofs.Common.{◌≡◌, ◌≢◌, ℕ, zero, suc, ◌+◌, ◌<◌, ◌≤◌, Bool, true, ◌&&◌, eqb}
use Rattle.std.proofs.Common.{cond}
use Rattle.std.proofs.Common.{List, [], ◌∷◌, length, map, Option, Some, None, refl, sym, ap, ◌∙◌}
use Rattle.std.proofs.Common.{subst}
use Rattle.std.proofs.Common.{inl, inr, ⊎_elim, arith}
use Rattle.std.specs.Prelude.{◌⊎◌}
use Rattle.std.specs.List.{slice_get, AllByRecursion}
use Rattle.std.proofs.lemmas.Bool.{both_ways, cond_both}
use Rattle.cpa_model.specs.declared.automaton.Cfa.{Cfa}
use Rattle.cpa_model.specs.declared.automaton.Edge.{Edge}
use Rattle.cpa_model.specs.declared.facts.Elem.{Elem}
use Rattle.cpa_model.specs.declared.states.State.{State}
use Rattle.cpa_model.specs.Automata.{IsStateOf, StepsAlong}
use Rattle.cpa_iface.specs.declared.analysis.Part.TheVariants.{Store}
use Rattle.cpa_iface.specs.declared.entries.Entry.{Entry}
use Rattle.cpa_iface.specs.declared.merging.MergeRule.TheVariants.{Sep}
use Rattle.cpa_iface.specs.declared.merging.Order.{Order}
use Rattle.cpa_iface.specs.declared.precisions.Precision.{Precision}
use Rattle.cpa_iface.specs.Pins.{IsSettledBy}
use Rattle.cpa_composite.specs.Components.{Component, AreElems, ArePrecisions, IsEntryOf}
use Rattle.cpa_composite.specs.Covers.{all_cover}
use Rattle.cpa_composite.specs.Exact.{AreExact, BindAll, HaveEachPart, pins}
use Rattle.cpa_composite.specs.Laws.{SuccessorRows, AdjustedRow}
use Rattle.cpa_reached.specs.Members.{IsIn}
use Rattle.cpa_reached.specs.Entries.{ReachedSet, IsNext, numbers}
use Rattle.cpa_reached.specs.Calls.{taken, gains, fresh, rests}
use Rattle.cpa_reached.specs.lemmas.MemberLaws.{in_map}
use Rattle.cpa_engine_turn.specs.Bounds.{turns_left, StatesBound, IsPinned, ArePinned}
use Rattle.cpa_reached_key.specs.Rows.{picked}
use Rattle.cpa_engine_turn.specs.Keys.{HasPlaces}
use Rattle.cpa_engine_turn.specs.Stages.{Stage, taking, ComparesAll, first_cover, fellows}
use Rattle.cpa_engine_turn.specs.Stages.{covered_or_added, Settles, SettlesAll, FollowsAll, Works}
use Rattle.cpa_engine_turn.specs.Steps.{IsOrdered}
use Rattle.cpa_engine_turn.specs.Turns.{AreEntries}
use Rattle.cpa_engine_turn.proofs.Counting.{ended_left, taken_left}
use Rattle.cpa_engine_turn.specs.lemmas.Counted.{at_most_states, no_ranks, apart_merged}
use Rattle.cpa_engine_turn.proofs.Effects.{HasAlike, Alike, mild_back, gains_mildly}
use Rattle.cpa_engine_turn.specs.lemmas.Keyed.{there_is}
use Rattle.cpa_engine_turn.specs.lemmas.Lists.{in_push}
use Rattle.cpa_engine_turn.proofs.Fellows.{same_fellow}
use Rattle.cpa_engine_turn.proofs.Progress.{ordered_along, fits_along}
use Rattle.cpa_engine_turn.proofs.Settled.{none_found}
use Rattle.cpa_engine_turn.proofs.Shapes.{each_in, entries_along, taken_entries}
use Rattle.cpa_engine_turn.proofs.Turning.{waits_there, ordered_before}
use Rattle.cpa_engine_turn.proofs.Working.{settles_lead}

-- What the laws of a composite say of pins.
pub record PinLaws (cfa : Cfa) (cs : List Component) : Type 0 where
  pub next : (edge : ℕ) (ps : List Precision) (rows : List (List Elem)) (g : Edge) (s : State)
      → AreExact cs → HaveEachPart cs → BindAll cfa cs ps → length ps ≡ length cs
      → SuccessorRows cs cfa edge (pins cs s) ps rows → slice_get cfa.edges edge ≡ Some g
      → IsSettledBy Store g.act → IsStateOf cfa s
      → (rows ≡ []) ⊎ ((t : State) × StepsAlong cfa g s t × (rows ≡ pins cs t ∷ []))
  pub adjust : (es : List Elem) (ps : List Precision) (reached : List Entry) (after : List Elem)
      (next : List Precision) → BindAll cfa cs ps → length es ≡ length cs → length ps ≡ length cs
      → AdjustedRow cs cfa es ps reached after next → (after ≡ es) × BindAll cfa cs next

-- so no comparison changes anything
compares_nothing : (cfa : Cfa) (cs : List Component) (es : List Elem) (ps : List Precision)
    (ns : List ℕ) (a b : Stage) → AllByRecursion (λ c. c.rule ≡ Sep) cs
    → AreElems cfa (length cs) es → ArePrecisions cfa (length cs) ps
    → AreEntries cfa (length cs) a.reached.live → ComparesAll cfa cs es ps ns a b → b ≡ a
compares_nothing cfa cs es ps [] a b apart shaped precise are is = is
compares_nothing cfa cs es ps (n ∷ ns) a b apart shaped precise are all =
    let same : all.0 ≡ a =
    ⊎_elim (λ leaves. leaves.is)
    (λ replaces.
    let shape = each_in (IsEntryOf cfa (length cs)) a.reached.live replaces.entry are.each
    replaces.is_in in
    absurd (replaces.merged.differs
    (apart_merged cfa cs es replaces.entry.elems ps replaces.elems apart shaped.size
    shape.elems.size
    precise.size replaces.merged.elems.size replaces.merged.each)))
    all.1 in
    compares_nothing cfa cs es ps ns all.0 b apart shaped precise
    (subst (λ (m : Stage). AreEntries cfa (length cs) m.reached.live) (sym same) are) all.2 ∙ same

-- a row covers itself
covers_itself : (cs : List Component) (es : List Elem) → all_cover cs es es ≡ true
covers_itself [] es = refl
covers_itself (c ∷ cs) [] = refl
covers_itself (c ∷ cs) (e ∷ es) =
    ap (λ (b : Bool). b && all_cover cs es es) (c.meaning.same e) ∙ covers_itself cs es

-- what is known of a stage, and of a row
record PinsWithin (cfa : Cfa) (cs : List Component) (states : List State) (limit : ℕ) (a : Stage)
    : Type 0 where
  ordered : IsOrdered a.reached
  are : AreEntries cfa (length cs) a.reached.live
  fits : HasPlaces cs a.reached
  pinned : ArePinned cfa cs states a.reached.live
  left : turns_left cfa cs (length states) a.reached.live ≤ limit

record IsRowOf (cfa : Cfa) (cs : List Component) (states : List State) (row : List Elem) : Type 0
  where
    state : State
    is_state : IsStateOf cfa state
    is_in : IsIn state states
    is : row ≡ pins cs state

alike_pinned : (cfa : Cfa) (cs : List Component) (states : List State) (x y : Entry) → Alike x y
    → IsPinned cfa cs states x → IsPinned cfa cs states y
alike_pinned cfa cs states x y alike is = record {
  state = is.state;
  is_state = is.is_state;
  is_in = is.is_in;
  elems = alike.elems ∙ is.elems;
  binds = subst (BindAll cfa cs) (sym alike.precisions) is.binds;
}

-- entries that go on, and a new one whose row is another one
once_more : (xs : List Entry) (new : Entry)
    → ((e f : Entry) → IsIn e xs → IsIn f xs → e.elems ≡ f.elems → e.number ≡ f.number)
    → ((e : Entry) → IsIn e xs → e.elems ≢ new.elems) → (e f : Entry)
    → HasAlike xs e ⊎ (new ≡ e) → HasAlike xs f ⊎ (new ≡ f) → e.elems ≡ f.elems
    → e.number ≡ f.number
once_more xs new once other e f (inl a) (inl b) same =
    a.alike.number
    ∙ (once a.entry b.entry a.is_in b.is_in (sym a.alike.elems ∙ (same ∙ b.alike.elems))
    ∙ sym b.alike.number)
once_more xs new once other e f (inl a) (inr is) same =
    absurd (other a.entry a.is_in
    (sym a.alike.elems ∙ (same ∙ ap (λ (z : Entry). z.elems) (sym is))))
once_more xs new once other e f (inr is) (inl b) same =
    absurd (other b.entry b.is_in
    (sym b.alike.elems ∙ (sym same ∙ ap (λ (z : Entry). z.elems) (sym is))))
once_more xs new once other e f (inr is) (inr too) same =
    ap (λ (z : Entry). z.number) (sym is ∙ too)

-- what comes of a successor that is covered or added
ended_pinned : (cfa : Cfa) (cs : List Component) (states : List State) (es : List Elem)
    (ps : List Precision) (edge : ℕ) (o : Option ℕ) (m b : Stage)
    → first_cover cs es (fellows m.reached es) ≡ o → b ≡ covered_or_added es ps edge o m
    → IsRowOf cfa cs states es → BindAll cfa cs ps → ArePinned cfa cs states m.reached.live
    → ArePinned cfa cs states b.reached.live
ended_pinned cfa cs states es ps edge (Some by) m b first is row binds pinned =
    let g : Entry → Entry = λ x. cond (eqb x.number m.current) (gains by x) x in
    let from : (y : Entry) → IsIn y b.reached.live → HasAlike m.reached.live y =
    λ y there. mild_back g m.reached.live y (gains_mildly m.current by)
    (subst (λ (c : Stage). IsIn y c.reached.live) is there) in
    record {
      each = λ y there. let has = from y there in
          alike_pinned cfa cs states has.entry y has.alike (pinned.each has.entry has.is_in);
      once = λ e f in_e in_f same.
          let a = from e in_e in
          let d = from f in_f in
          a.alike.number
          ∙ (pinned.once a.entry d.entry a.is_in d.is_in
          (sym a.alike.elems ∙ (same ∙ d.alike.elems)) ∙ sym d.alike.number);
    }
ended_pinned cfa cs states es ps edge None m b first is row binds pinned =
    let next = m.reached.next in
    let g : Entry → Entry = λ x. cond (eqb x.number m.current) (gains next x) x in
    let new = fresh next es ps (Some (m.current, edge)) in
    let from : (y : Entry) → IsIn y b.reached.live → HasAlike m.reached.live y ⊎ (new ≡ y) =
    λ y there. ⊎_elim
    (λ old. inl (mild_back g m.reached.live y (gains_mildly m.current next) old))
    (λ same. inr same)
    (in_push (map g m.reached.live) new y
    (subst (λ (c : Stage). IsIn y c.reached.live) is there)) in
    record {
      each = λ y there. ⊎_elim
          (λ (has : HasAlike m.reached.live y).
          alike_pinned cfa cs states has.entry y has.alike (pinned.each has.entry has.is_in))
          (λ same. subst (IsPinned cfa cs states) same (record {
            state = row.state;
            is_state = row.is_state;
            is_in = row.is_in;
            elems = row.is;
            binds = binds;
          }))
          (from y there);
      once = λ e f in_e in_f same.
          once_more m.reached.live new pinned.once
          (λ x there equal.
          both_ways (all_cover cs es x.elems)
          (none_found cs es (fellows m.reached es) first x
          (same_fellow m.reached es x (ap (picked m.reached.places) equal) there))
          (subst (λ (fs : List Elem). all_cover cs es fs ≡ true) (sym equal) (covers_itself cs es)))
          e f (from e in_e) (from f in_f) same;
    }

-- one successor
settles_pins : (cfa : Cfa) (cs : List Component) (states : List State) (limit : ℕ)
    (ps : List Precision) (edge : ℕ) (row : List Elem) (a b : Stage) → PinLaws cfa cs
    → StatesBound cfa cs states → edge < length cfa.edges → length ps ≡ length cs
    → BindAll cfa cs ps → length row ≡ length cs → IsRowOf cfa cs states row
    → Settles cfa cs ps edge row a b → PinsWithin cfa cs states limit a
    → PinsWithin cfa cs states limit b
settles_pins cfa cs states limit ps edge row a b laws bound less size binds many is settles w =
    let es = settles.elems in
    let qs = settles.precisions in
    let m = settles.compared in
    let adjusted = settles.adjusted in
    let kept = laws.adjust row ps a.reached.live es qs binds many size adjusted in
    let same : m ≡ a =
    compares_nothing cfa cs es qs (numbers (fellows a.reached es)) a m bound.apart adjusted.elems
    adjusted.precisions w.are settles.compares in
    let o = first_cover cs es (fellows m.reached es) in
    let leads = settles_lead cfa cs ps edge row a b less w.are w.ordered w.fits settles in
    let ordered = ordered_along cfa cs a b leads w.ordered in
    let new : IsRowOf cfa cs states es = subst (IsRowOf cfa cs states) (sym kept.0) is in
    let pinned : ArePinned cfa cs states b.reached.live =
    ended_pinned cfa cs states es qs edge o m b refl settles.is new kept.1
    (subst (λ (c : Stage). ArePinned cfa cs states c.reached.live) (sym same) w.pinned) in
    let none = no_ranks cfa cs es bound.apart in
    record {
      ordered = ordered;
      are = entries_along cfa cs a b leads w.are;
      fits = fits_along cfa cs a b leads w.fits;
      pinned = pinned;
      left = ended_left cfa cs (length states) limit es qs edge o m b settles.is
          (omega (arith, none)) (at_most_states cfa cs states b.reached.live ordered.ascend pinned)
          (subst (λ (c : Stage). turns_left cfa cs (length states) c.reached.live ≤ limit)
          (sym same)
          w.left);
    }

record RowFits (cfa : Cfa) (cs : List Component) (states : List State) (row : List Elem) : Type 0
  where
    size : length row ≡ length cs
    is : IsRowOf cfa cs states row

all_settles_pins : (cfa : Cfa) (cs : List Component) (states : List State) (limit : ℕ)
    (ps : List Precision) (edge : ℕ) (rows : List (List Elem)) (a b : Stage) → PinLaws cfa cs
    → StatesBound cfa cs states → edge < length cfa.edges → length ps ≡ length cs
    → BindAll cfa cs ps → AllByRecursion (RowFits cfa cs states) rows
    → SettlesAll cfa cs ps edge rows a b → PinsWithin cfa cs states limit a
    → PinsWithin cfa cs states limit b
all_settles_pins cfa cs states limit ps edge [] a b laws bound less size binds fit is w =
    subst (PinsWithin cfa cs states limit) (sym is) w
all_settles_pins cfa cs states limit ps edge (row ∷ rows) a b laws bound less size binds fit all w =
    all_settles_pins cfa cs states limit ps edge rows all.0 b laws bound less size binds fit.1 all.2
    (settles_pins cfa cs states limit ps edge row a all.0 laws bound less size binds fit.0.size
    fit.0.is all.1 w)

rows_are : (cfa : Cfa) (cs : List Component) (states : List State) (edge : ℕ) (es : List Elem)
    (ps : List Precision) (rows : List (List Elem)) → PinLaws cfa cs → StatesBound cfa cs states
    → edge < length cfa.edges → length ps ≡ length cs → BindAll cfa cs ps
    → IsRowOf cfa cs states es → SuccessorRows cs cfa edge es ps rows
    → AllByRecursion (RowFits cfa cs states) rows
rows_are cfa cs states edge es ps rows laws bound less size binds row made =
    let g = there_is cfa.edges edge less in
    let s = row.state in
    ⊎_elim
    (λ none. subst (AllByRecursion (RowFits cfa cs states)) (sym none) tt)
    (λ (one : (t : State) × StepsAlong cfa g.0 s t × (rows ≡ pins cs t ∷ [])).
    let shaped = subst (AllByRecursion (AreElems cfa (length cs))) one.2 made.elems in
    subst (AllByRecursion (RowFits cfa cs states)) (sym one.2) (
      record {
        size = shaped.0.size;
        is = record {
          state = one.0;
          is_state = one.1.after;
          is_in = bound.closed edge g.0 s one.0 g.1 row.is_in one.1;
          is = refl;
        };
      },
      tt,
    ))
    (laws.next edge ps rows g.0 s bound.exact bound.parts binds size
    (subst (λ (fs : List Elem). SuccessorRows cs cfa edge fs ps rows) row.is made) g.1
    (bound.settled edge g.0 g.1) row.is_state)

edges_pins : (cfa : Cfa) (cs : List Component) (states : List State) (limit : ℕ) (es : List Elem)
    (ps : List Precision) (first count : ℕ) (a b : Stage) → PinLaws cfa cs
    → StatesBound cfa cs states → first + count ≤ length cfa.edges → length ps ≡ length cs
    → BindAll cfa cs ps → IsRowOf cfa cs states es → FollowsAll cfa cs es ps first count a b
    → PinsWithin cfa cs states limit a → PinsWithin cfa cs states limit b
edges_pins cfa cs states limit es ps first zero a b laws bound less size binds row is w =
    subst (PinsWithin cfa cs states limit) (sym is) w
edges_pins cfa cs states limit es ps first (suc count) a b laws bound less size binds row all w =
    let inside : first + count < length cfa.edges = omega (arith, less) in
    all_settles_pins cfa cs states limit ps (first + count) all.2.rows all.0 b laws bound inside
    size
    binds
    (rows_are cfa cs states (first + count) es ps all.2.rows laws bound inside size binds row
    all.2.successors) all.2.settles
    (edges_pins cfa cs states limit es ps first count a all.0 laws bound (omega (arith, less)) size
    binds row all.1 w)

-- the taking changes neither of these
record IsPinnedAs (x y : Entry) : Type 0 where
  number : y.number ≡ x.number
  elems : y.elems ≡ x.elems
  precisions : y.precisions ≡ x.precisions

rests_alike : (n : ℕ) (x : Entry) → IsPinnedAs x (cond (eqb x.number n) (rests x) x)
rests_alike n x =
    cond_both (eqb x.number n) (rests x) x (IsPinnedAs x)
    (λ _. record { number = refl; elems = refl; precisions = refl })
    (λ _. record { number = refl; elems = refl; precisions = refl })

taken_pinned : (cfa : Cfa) (cs : List Component) (states : List State) (r : ReachedSet) (n : ℕ)
    → ArePinned cfa cs states r.live → ArePinned cfa cs states (taken n r).live
taken_pinned cfa cs states r n pinned =
    let g : Entry → Entry = λ x. cond (eqb x.number n) (rests x) x in
    record {
      each = λ y there.
          let from = in_map g r.live y there in
          let alike = rests_alike n from.0 in
          let is = pinned.each from.0 from.1 in
          subst (IsPinned cfa cs states) (sym from.2) (record {
            state = is.state;
            is_state = is.is_state;
            is_in = is.is_in;
            elems = alike.elems ∙ is.elems;
            binds = subst (BindAll cfa cs) (sym alike.precisions) is.binds;
          });
      once = λ e f in_e in_f same.
          let a = in_map g r.live e in_e in
          let b = in_map g r.live f in_f in
          let as_a = rests_alike n a.0 in
          let as_b = rests_alike n b.0 in
          ap (λ (z : Entry). z.number) a.2
          ∙ (as_a.number
          ∙ (pinned.once a.0 b.0 a.1 b.1
          (sym as_a.elems ∙ (ap (λ (z : Entry). z.elems) (sym a.2)
          ∙ (same ∙ (ap (λ (z : Entry). z.elems) b.2 ∙ as_b.elems))))
          ∙ (sym as_b.number ∙ ap (λ (z : Entry). z.number) (sym b.2))));
    }

-- A turn leaves fewer.
pub record Pinned (cfa : Cfa) (cs : List Component) (states : List State) (old new : List Entry)
    : Type 0 where
  pub pinned : ArePinned cfa cs states new
  pub fewer : turns_left cfa cs (length states) new < turns_left cfa cs (length states) old

pub turned_pins : (cfa : Cfa) (cs : List Component) (order : Order) (r : ReachedSet) (n : ℕ)
    (new : ReachedSet) (states : List State) → PinLaws cfa cs → StatesBound cfa cs states
    → IsNext order r.live n → IsOrdered (taken n r) → AreEntries cfa (length cs) r.live
    → HasPlaces cs r → Works cfa cs n (taken n r) new → ArePinned cfa cs states r.live
    → Pinned cfa cs states r.live new.live
turned_pins cfa cs order r n new states laws bound next ordered are fits works pinned =
    let limit = turns_left cfa cs (length states) (taken n r).live in
    let waiting = waits_there r.live n next.waits in
    let x = works.entry in
    let edges = works.expands in
    let first = taken_pinned cfa cs states r n pinned in
    let is = first.each x works.is_in in
    let entries = taken_entries cfa (length cs) n r.live are in
    let shape = each_in (IsEntryOf cfa (length cs)) (taken n r).live x entries.each works.is_in in
    let last = edges_pins cfa cs states limit x.elems x.precisions edges.first edges.count
    (taking (taken n r) n) works.last laws bound edges.within shape.precisions.size is.binds
    (record {
      state = is.state;
      is_state = is.is_state;
      is_in = is.is_in;
      is = is.elems;
    }) edges.follows
    (record {
      ordered = ordered;
      are = entries;
      fits = fits;
      pinned = first;
      left = omega arith;
    }) in
    let less = taken_left cfa cs (length states) n r.live waiting.entry
    (ordered_before r n ordered).ascend waiting.is_in waiting.is waiting.waiting in
    let left = last.left in
    subst (λ (s : ReachedSet). Pinned cfa cs states r.live s.live) (sym works.closed) (record {
      pinned = last.pinned;
      fewer = omega (arith, less, left);
    })
