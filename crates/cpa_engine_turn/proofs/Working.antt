-- That the work of a turn is a chain of steps (`goes_on`), in which each successor is placed.
use Rattle.std.proofs.Common.{◌≡◌, ℕ, zero, suc, ◌+◌, ◌-◌, ◌<◌, ◌≤◌, List, []}
use Rattle.std.proofs.Common.{◌∷◌, ◌++◌}
use Rattle.std.proofs.Common.{length}
use Rattle.std.proofs.Common.{Option, Some, None, refl, sym, ap, ◌∙◌, subst, inl, inr, ⊎_elim}
use Rattle.std.proofs.Common.{arith}
use Rattle.std.specs.Prelude.{◌⊎◌}
use Rattle.std.specs.List.{slice_get, AllByRecursion}
use Rattle.cpa_model.specs.declared.automaton.Cfa.{Cfa}
use Rattle.cpa_model.specs.declared.automaton.Edge.{Edge}
use Rattle.cpa_model.specs.declared.facts.Elem.{Elem}
use Rattle.cpa_model.specs.declared.states.State.{State}
use Rattle.cpa_model.specs.Automata.{IsStateOf, StepsAlong}
use Rattle.cpa_model.specs.Covers.{LiesInSome}
use Rattle.cpa_model.specs.Facts.{LiesIn}
use Rattle.cpa_model.specs.lemmas.Lists.{place_of}
use Rattle.cpa_iface.specs.declared.entries.Entry.{Entry}
use Rattle.cpa_iface.specs.declared.precisions.Precision.{Precision}
use Rattle.cpa_composite.specs.Components.{Component, AreElems, ArePrecisions, IsEntryOf}
use Rattle.cpa_composite.specs.lemmas.CoverLaws.{cover_within}
use Rattle.cpa_reached.specs.Members.{IsIn}
use Rattle.cpa_reached.specs.lemmas.MemberLaws.{one_entry}
use Rattle.cpa_reached.specs.Entries.{ReachedSet, numbers}
use Rattle.cpa_reached.specs.Calls.{taken}
use Rattle.cpa_reached_key.specs.Rows.{picked}
use Rattle.cpa_engine_turn.specs.Keys.{WidenBesideKeys, CoversKey, rows_of, HasPlaces}
use Rattle.cpa_engine_turn.specs.Stages.{Stage, taking, noting, Compares, ComparesAll, first_cover}
use Rattle.cpa_engine_turn.specs.Stages.{fellows}
use Rattle.cpa_engine_turn.specs.Stages.{covered_or_added, Settles, SettlesAll, Follows, FollowsAll}
use Rattle.cpa_engine_turn.specs.Stages.{Works}
use Rattle.cpa_engine_turn.specs.Steps.{IsOrdered, Leads, stays, IsPlaced, HasCurrent, GoesOn}
use Rattle.cpa_engine_turn.specs.Turns.{AreEntries}
use Rattle.cpa_engine_turn.proofs.Chains.{leads_one, leads_then}
use Rattle.cpa_engine_turn.proofs.Comparing.{stays_good, merged_good}
use Rattle.cpa_engine_turn.proofs.Effects.{replaced_back}
use Rattle.cpa_engine_turn.proofs.Leaving.{leaves_along}
use Rattle.cpa_engine_turn.specs.lemmas.Picked.{in_under}
use Rattle.cpa_engine_turn.proofs.Fellows.{fellow, known}
use Rattle.cpa_engine_turn.proofs.Placing.{placed_along, noted_places, added_places}
use Rattle.cpa_engine_turn.proofs.Progress.{ordered_along, fits_along, current_along}
use Rattle.cpa_engine_turn.proofs.Settled.{found, none_found}
use Rattle.cpa_engine_turn.proofs.Shapes.{each_in, entries_along, taken_entries}

-- one comparison
pub compares_lead : (cfa : Cfa) (cs : List Component) (es : List Elem) (ps : List Precision) (n : ℕ)
    (a b : Stage) → AreElems cfa (length cs) es → ArePrecisions cfa (length cs) ps
    → AreEntries cfa (length cs) a.reached.live → Compares cfa cs es ps n a b → Leads cfa cs a b
compares_lead cfa cs es ps n a b shaped precise are (inl leaves) = stays b leaves.is
compares_lead cfa cs es ps n a b shaped precise are (inr replaces) =
    leads_one cfa cs a b (inr (inr (record {
      entry = replaces.entry;
      is_in = replaces.is_in;
      successor = es;
      precisions = ps;
      elems = replaces.elems;
      are_successor = shaped;
      are_old = (each_in (IsEntryOf cfa (length cs)) a.reached.live replaces.entry are.each
          replaces.is_in).elems;
      are_precisions = precise;
      merged = replaces.merged;
      is = replaces.is;
    })))

pub all_compares_lead : (cfa : Cfa) (cs : List Component) (es : List Elem) (ps : List Precision)
    (ns : List ℕ) (a b : Stage) → AreElems cfa (length cs) es → ArePrecisions cfa (length cs) ps
    → AreEntries cfa (length cs) a.reached.live → ComparesAll cfa cs es ps ns a b → Leads cfa cs a b
all_compares_lead cfa cs es ps [] a b shaped precise are is = stays b is
all_compares_lead cfa cs es ps (n ∷ ns) a b shaped precise are all =
    let first = compares_lead cfa cs es ps n a all.0 shaped precise are all.1 in
    leads_then cfa cs a all.0 b first
    (all_compares_lead cfa cs es ps ns all.0 b shaped precise
    (entries_along cfa cs a all.0 first are) all.2)

-- an entry that was compared, or came of it, covers what has its key
good_step : (cfa : Cfa) (cs : List Component) (es : List Elem) (ps : List Precision) (n : ℕ)
    (ns : List ℕ) (a m : Stage) → WidenBesideKeys cs → AreElems cfa (length cs) es
    → ArePrecisions cfa (length cs) ps → AreEntries cfa (length cs) a.reached.live
    → IsOrdered a.reached → Compares cfa cs es ps n a m
    → ((x : Entry) → IsIn x a.reached.live → IsIn x.number (n ∷ ns) ⊎ CoversKey cs es x.elems)
    → (y : Entry) → IsIn y m.reached.live → IsIn y.number ns ⊎ CoversKey cs es y.elems
good_step cfa cs es ps n ns a m all shaped precise are ordered (inl leaves) known y there =
    let in_a : IsIn y a.reached.live =
    subst (λ (b : Stage). IsIn y b.reached.live) leaves.is there in
    ⊎_elim
    (λ todo. ⊎_elim
    (λ here.
    let same : leaves.entry ≡ y =
    one_entry a.reached.live leaves.entry y ordered.ascend leaves.is_in in_a
    (leaves.number ∙ here) in
    inr (subst (λ (e : Entry). CoversKey cs es e.elems) same
    (stays_good cs es leaves.entry.elems all leaves.covers)))
    (λ later. inl later) todo)
    (λ good. inr good)
    (known y in_a)
good_step cfa cs es ps n ns a m all shaped precise are ordered (inr replaces) known y there =
    let old = replaces.entry in
    ⊎_elim
    (λ was. ⊎_elim
    (λ todo. ⊎_elim
    (λ here. absurd (was.3 (sym here ∙ sym replaces.number)))
    (λ later. inl (subst (λ (k : ℕ). IsIn k ns) (sym was.2.number) later)) todo)
    (λ good. inr (subst (CoversKey cs es) (sym was.2.elems) good))
    (known was.0 was.1))
    (λ new. inr (subst (λ (e : Entry). CoversKey cs es e.elems) (sym new)
    (merged_good cfa cs es old.elems ps replaces.elems all shaped.size
    (each_in (IsEntryOf cfa (length cs)) a.reached.live old are.each replaces.is_in).elems.size
    precise.size replaces.merged)))
    (replaced_back a.reached.next a.reached.live old replaces.elems ordered.ascend replaces.is_in y
    (subst (λ (b : Stage). IsIn y b.reached.live) replaces.is there))

pub compares_good : (cfa : Cfa) (cs : List Component) (es : List Elem) (ps : List Precision)
    (ns : List ℕ) (a b : Stage) → WidenBesideKeys cs → AreElems cfa (length cs) es
    → ArePrecisions cfa (length cs) ps → AreEntries cfa (length cs) a.reached.live
    → IsOrdered a.reached → ComparesAll cfa cs es ps ns a b
    → ((x : Entry) → IsIn x a.reached.live → IsIn x.number ns ⊎ CoversKey cs es x.elems)
    → (y : Entry) → IsIn y b.reached.live → CoversKey cs es y.elems
compares_good cfa cs es ps [] a b all shaped precise are ordered is known y there =
    ⊎_elim (λ none. absurd none) (λ good. good)
    (known y (subst (λ (m : Stage). IsIn y m.reached.live) is there))
compares_good cfa cs es ps (n ∷ ns) a b all shaped precise are ordered compares known y there =
    let m = compares.0 in
    let first = compares_lead cfa cs es ps n a m shaped precise are compares.1 in
    compares_good cfa cs es ps ns m b all shaped precise (entries_along cfa cs a m first are)
    (ordered_along cfa cs a m first ordered) compares.2
    (good_step cfa cs es ps n ns a m all shaped precise are ordered compares.1 known) y there

rows_good : (cs : List Component) (es : List Elem) (xs : List Entry)
    → ((x : Entry) → IsIn x xs → CoversKey cs es x.elems)
    → AllByRecursion (CoversKey cs es) (rows_of xs)
rows_good cs es [] each = tt
rows_good cs es (x ∷ xs) each =
    (each x (inl refl), rows_good cs es xs (λ y there. each y (inr there)))

-- what is covered or added
ends_lead : (cfa : Cfa) (cs : List Component) (es : List Elem) (ps : List Precision) (edge : ℕ)
    (o : Option ℕ) (m b : Stage) → AreElems cfa (length cs) es → ArePrecisions cfa (length cs) ps
    → edge < length cfa.edges → AreEntries cfa (length cs) m.reached.live
    → HasPlaces cs m.reached → first_cover cs es (fellows m.reached es) ≡ o
    → b ≡ covered_or_added es ps edge o m
    → (WidenBesideKeys cs → AllByRecursion (CoversKey cs es) (rows_of m.reached.live))
    → Leads cfa cs m b
ends_lead cfa cs es ps edge (Some by) m b shaped precise less are fits first is compared =
    let c = found cs es (fellows m.reached es) by first in
    leads_one cfa cs m b (inl (record {
      by = by;
      live = record {
        entry = c.entry;
        is_in = (in_under m.reached (picked m.reached.places es) c.entry c.is_in).0;
        is = c.number;
      };
      is = is;
    }))
ends_lead cfa cs es ps edge None m b shaped precise less are fits first is compared =
    leads_one cfa cs m b (inr (inl (record {
      elems = es;
      precisions = ps;
      edge = edge;
      are_elems = shaped;
      are_precisions = precise;
      is_edge = less;
      uncovered = λ e there key. none_found cs es (fellows m.reached es) first e
          (fellow cs m.reached es e fits shaped.size
          (each_in (IsEntryOf cfa (length cs)) m.reached.live e are.each there).elems.size
          (sym key) there);
      compared = compared;
      is = is;
    })))

ends_placed : (cfa : Cfa) (cs : List Component) (es : List Elem) (ps : List Precision) (edge : ℕ)
    (o : Option ℕ) (m b : Stage) (t : State) → length es ≡ length cs
    → AreEntries cfa (length cs) m.reached.live → HasCurrent m → LiesIn t es
    → first_cover cs es (fellows m.reached es) ≡ o → b ≡ covered_or_added es ps edge o m
    → IsPlaced t b
ends_placed cfa cs es ps edge (Some by) m b t size are current lies first is =
    let c = found cs es (fellows m.reached es) by first in
    let there = (in_under m.reached (picked m.reached.places es) c.entry c.is_in).0 in
    let shape = each_in (IsEntryOf cfa (length cs)) m.reached.live c.entry are.each there in
    let within : LiesIn t c.entry.elems =
    cover_within cs es c.entry.elems size shape.elems.size c.covers t lies in
    subst (IsPlaced t) (ap (λ (k : ℕ). noting k m) c.number ∙ sym is)
    (noted_places t m c.entry there current within)
ends_placed cfa cs es ps edge None m b t size are current lies first is =
    subst (IsPlaced t) (sym is) (added_places t m es ps edge current lies)

-- one successor
pub settles_lead : (cfa : Cfa) (cs : List Component) (ps : List Precision) (edge : ℕ)
    (row : List Elem) (a b : Stage) → edge < length cfa.edges
    → AreEntries cfa (length cs) a.reached.live → IsOrdered a.reached → HasPlaces cs a.reached
    → Settles cfa cs ps edge row a b → Leads cfa cs a b
settles_lead cfa cs ps edge row a b less are ordered fits settles =
    let es = settles.elems in
    let qs = settles.precisions in
    let m = settles.compared in
    let shaped = settles.adjusted.elems in
    let precise = settles.adjusted.precisions in
    let ns = numbers (fellows a.reached es) in
    let first = all_compares_lead cfa cs es qs ns a m shaped precise are settles.compares in
    leads_then cfa cs a m b first
    (ends_lead cfa cs es qs edge (first_cover cs es (fellows m.reached es)) m b shaped precise less
    (entries_along cfa cs a m first are) (fits_along cfa cs a m first fits) refl settles.is
    (λ all. rows_good cs es m.reached.live
    (compares_good cfa cs es qs ns a m all shaped precise are ordered settles.compares
    (λ x there. known cfa cs a.reached es x fits shaped.size are there))))

settles_placed : (cfa : Cfa) (cs : List Component) (ps : List Precision) (edge : ℕ)
    (row : List Elem) (a b : Stage) (t : State) → AreEntries cfa (length cs) a.reached.live
    → IsOrdered a.reached → HasCurrent a → IsStateOf cfa t → LiesIn t row
    → Settles cfa cs ps edge row a b → IsPlaced t b
settles_placed cfa cs ps edge row a b t are ordered current state lies settles =
    let es = settles.elems in
    let m = settles.compared in
    let first = all_compares_lead cfa cs es settles.precisions (numbers (fellows a.reached es)) a m
    settles.adjusted.elems settles.adjusted.precisions are settles.compares in
    ends_placed cfa cs es settles.precisions edge (first_cover cs es (fellows m.reached es)) m b t
    settles.adjusted.elems.size (entries_along cfa cs a m first are)
    (current_along cfa cs a m first ordered current) (settles.adjusted.covers t state lies) refl
    settles.is

-- all rows of an edge
pub all_settles_lead : (cfa : Cfa) (cs : List Component) (ps : List Precision) (edge : ℕ)
    (rows : List (List Elem)) (a b : Stage) → edge < length cfa.edges
    → AreEntries cfa (length cs) a.reached.live → IsOrdered a.reached → HasPlaces cs a.reached
    → SettlesAll cfa cs ps edge rows a b → Leads cfa cs a b
all_settles_lead cfa cs ps edge [] a b less are ordered fits is = stays b is
all_settles_lead cfa cs ps edge (row ∷ rows) a b less are ordered fits all =
    let first = settles_lead cfa cs ps edge row a all.0 less are ordered fits all.1 in
    leads_then cfa cs a all.0 b first
    (all_settles_lead cfa cs ps edge rows all.0 b less (entries_along cfa cs a all.0 first are)
    (ordered_along cfa cs a all.0 first ordered) (fits_along cfa cs a all.0 first fits)
    all.2)

rows_placed : (cfa : Cfa) (cs : List Component) (ps : List Precision) (edge : ℕ)
    (rows : List (List Elem)) (a b : Stage) (t : State) → edge < length cfa.edges
    → AreEntries cfa (length cs) a.reached.live → IsOrdered a.reached → HasPlaces cs a.reached
    → HasCurrent a → IsStateOf cfa t → LiesInSome t rows → SettlesAll cfa cs ps edge rows a b
    → IsPlaced t b
rows_placed cfa cs ps edge [] a b t less are ordered fits current state lies is = absurd lies
rows_placed cfa cs ps edge (row ∷ rows) a b t less are ordered fits current state lies all =
    let m = all.0 in
    let first = settles_lead cfa cs ps edge row a m less are ordered fits all.1 in
    let next_are = entries_along cfa cs a m first are in
    let next_ordered = ordered_along cfa cs a m first ordered in
    let next_fits = fits_along cfa cs a m first fits in
    ⊎_elim
    (λ here. placed_along cfa cs m b t state
    (all_settles_lead cfa cs ps edge rows m b less next_are next_ordered next_fits all.2)
    next_ordered
    (settles_placed cfa cs ps edge row a m t are ordered current state here all.1))
    (λ later. rows_placed cfa cs ps edge rows m b t less next_are next_ordered next_fits
    (current_along cfa cs a m first ordered current) state later all.2)
    lies

-- all edges
edges_lead : (cfa : Cfa) (cs : List Component) (es : List Elem) (ps : List Precision)
    (first count : ℕ) (a b : Stage) → first + count ≤ length cfa.edges
    → AreEntries cfa (length cs) a.reached.live → IsOrdered a.reached → HasPlaces cs a.reached
    → FollowsAll cfa cs es ps first count a b → Leads cfa cs a b
edges_lead cfa cs es ps first zero a b less are ordered fits is = stays b is
edges_lead cfa cs es ps first (suc count) a b less are ordered fits all =
    let m = all.0 in
    let front =
    edges_lead cfa cs es ps first count a m (omega (arith, less)) are ordered fits all.1 in
    leads_then cfa cs a m b front
    (all_settles_lead cfa cs ps (first + count) all.2.rows m b (omega (arith, less))
    (entries_along cfa cs a m front are) (ordered_along cfa cs a m front ordered)
    (fits_along cfa cs a m front fits) all.2.settles)

edges_placed : (cfa : Cfa) (cs : List Component) (es : List Elem) (ps : List Precision)
    (first count : ℕ) (a b : Stage) (k : ℕ) (g : Edge) (s t : State)
    → first + count ≤ length cfa.edges → AreEntries cfa (length cs) a.reached.live
    → IsOrdered a.reached → HasPlaces cs a.reached → HasCurrent a → first ≤ k
    → k < first + count → slice_get cfa.edges k ≡ Some g → LiesIn s es → StepsAlong cfa g s t
    → FollowsAll cfa cs es ps first count a b → IsPlaced t b
edges_placed cfa cs es ps first zero a b k g s t less are ordered fits current low high at lies
    step is = absurd (omega (arith, low, high))
edges_placed cfa cs es ps first (suc count) a b k g s t less are ordered fits current low high at
    lies step all =
    let m = all.0 in
    let front =
    edges_lead cfa cs es ps first count a m (omega (arith, less)) are ordered fits all.1 in
    let next_are = entries_along cfa cs a m front are in
    let next_ordered = ordered_along cfa cs a m front ordered in
    let next_fits = fits_along cfa cs a m front fits in
    ⊎_elim
    (λ earlier. placed_along cfa cs m b t step.after
    (all_settles_lead cfa cs ps (first + count) all.2.rows m b (omega (arith, less)) next_are
    next_ordered next_fits all.2.settles) next_ordered
    (edges_placed cfa cs es ps first count a m k g s t (omega (arith, less)) are ordered fits
    current low earlier at lies step all.1))
    (λ same. rows_placed cfa cs ps (first + count) all.2.rows m b t (omega (arith, less)) next_are
    next_ordered next_fits (current_along cfa cs a m front ordered current) step.after
    (all.2.successors.covers g s t
    (ap (λ (j : ℕ). slice_get cfa.edges j) (sym same) ∙ at) lies step) all.2.settles)
    (below_or_last k (first + count) (omega (arith, high)))
  where
    below_or_last : (j n : ℕ) → j < suc n → (j < n) ⊎ (j ≡ n)
    below_or_last zero zero low = inr refl
    below_or_last zero (suc n) low = inl (omega arith)
    below_or_last (suc j) zero low = absurd (omega (arith, low))
    below_or_last (suc j) (suc n) low =
        ⊎_elim (λ less. inl (omega (arith, less))) (λ same. inr (ap suc same))
        (below_or_last j n (omega (arith, low)))

pub goes_on_from : (cfa : Cfa) (cs : List Component) (n : ℕ) (r new : ReachedSet) → IsOrdered r
    → AreEntries cfa (length cs) r.live → HasPlaces cs r → Works cfa cs n r new
    → GoesOn cfa cs n r new
goes_on_from cfa cs n r new ordered are fits works =
    let x = works.entry in
    let edges = works.expands in
    let a = taking r n in
    let current : HasCurrent a = record { entry = x; is_in = works.is_in; is = works.number } in
    record {
      ordered = ordered;
      last = works.last;
      leads = edges_lead cfa cs x.elems x.precisions edges.first edges.count a works.last
          edges.within are ordered fits edges.follows;
      placed = λ e s t there number lies steps.
          let same : e ≡ x =
          one_entry r.live e x ordered.ascend there works.is_in (number ∙ sym works.number) in
          let here : LiesIn s x.elems = subst (λ (y : Entry). LiesIn s y.elems) same lies in
          let place = place_of cfa.edges steps.0 steps.1 in
          let range = leaves_along cfa x.elems edges.first edges.count edges.edges place.0 steps.0 s
          place.1 here steps.2.from in
          edges_placed cfa cs x.elems x.precisions edges.first edges.count a works.last place.0
          steps.0 s t edges.within are ordered fits current range.0 range.1 place.1 here steps.2
          edges.follows;
      closed = works.closed;
    }

-- one row more, and one edge more
pub settles_push : (cfa : Cfa) (cs : List Component) (ps : List Precision) (edge : ℕ)
    (rows : List (List Elem)) (row : List Elem) (a m b : Stage)
    → SettlesAll cfa cs ps edge rows a m → Settles cfa cs ps edge row m b
    → SettlesAll cfa cs ps edge (rows ++ row ∷ []) a b
settles_push cfa cs ps edge [] row a m b is one =
    (b, subst (λ (s : Stage). Settles cfa cs ps edge row s b) is one, refl)
settles_push cfa cs ps edge (first ∷ rows) row a m b all one =
    (all.0, all.1, settles_push cfa cs ps edge rows row all.0 m b all.2 one)

pub follows_none : (cfa : Cfa) (cs : List Component) (es : List Elem) (ps : List Precision)
    (first count : ℕ) (a : Stage) → first + count ≡ first → FollowsAll cfa cs es ps first count a a
follows_none cfa cs es ps first zero a same = refl
follows_none cfa cs es ps first (suc count) a same = absurd (omega (arith, same))

pub follows_push : (cfa : Cfa) (cs : List Component) (es : List Elem) (ps : List Precision)
    (first edge count : ℕ) (a m b : Stage) → first ≤ edge → first + count ≡ edge + 1
    → ((k : ℕ) → first + k ≡ edge → FollowsAll cfa cs es ps first k a m)
    → Follows cfa cs es ps edge m b → FollowsAll cfa cs es ps first count a b
follows_push cfa cs es ps first edge zero a m b low is all one = absurd (omega (arith, low, is))
follows_push cfa cs es ps first edge (suc count) a m b low is all one =
    let same : first + count ≡ edge = omega (arith, is) in
    (m, all count same, subst (λ (k : ℕ). Follows cfa cs es ps k m b) (sym same) one)

-- the edges so far lead here
pub so_far_lead : (cfa : Cfa) (cs : List Component) (es : List Elem) (ps : List Precision)
    (first edge : ℕ) (a b : Stage) → first ≤ edge → edge ≤ length cfa.edges
    → AreEntries cfa (length cs) a.reached.live → IsOrdered a.reached → HasPlaces cs a.reached
    → ((count : ℕ) → first + count ≡ edge → FollowsAll cfa cs es ps first count a b)
    → Leads cfa cs a b
so_far_lead cfa cs es ps first edge a b low high are ordered fits follows =
    let same : first + (edge - first) ≡ edge = omega (arith, low) in
    edges_lead cfa cs es ps first (edge - first) a b (omega (arith, same, high)) are ordered fits
    (follows (edge - first) same)

-- The work of a turn after the taking, both ways.
pub record Worked (cfa : Cfa) (cs : List Component) (n : ℕ) (r new : ReachedSet) : Type 0 where
  pub works : Works cfa cs n (taken n r) new
  pub goes : GoesOn cfa cs n (taken n r) new

pub works_after : (cfa : Cfa) (cs : List Component) (n : ℕ) (r now new : ReachedSet)
    → now ≡ taken n r → Works cfa cs n now new → IsOrdered now
    → AreEntries cfa (length cs) r.live → HasPlaces cs r → Worked cfa cs n r new
works_after cfa cs n r now new is works ordered are fits =
    let after : Works cfa cs n (taken n r) new =
    subst (λ (s : ReachedSet). Works cfa cs n s new) is works in
    record {
      works = after;
      goes = goes_on_from cfa cs n (taken n r) new (subst IsOrdered is ordered)
          (taken_entries cfa (length cs) n r.live are) fits after;
    }
