-- Where keys and heights bound the turns, each turn leaves fewer (`turned_bound`).
use Rattle.std.proofs.Common.{◌≡◌, ℕ, zero, suc, ◌+◌, ◌<◌, ◌≤◌, List, [], ◌∷◌, length, Option, Some}
use Rattle.std.proofs.Common.{None}
use Rattle.std.proofs.Common.{refl, sym, ap, subst, inl, inr, ⊎_elim, arith, eqb, cond, map}
use Rattle.std.specs.Prelude.{◌⊎◌}
use Rattle.std.specs.List.{slice_get, AllByRecursion}
use Rattle.cpa_model.specs.declared.automaton.Cfa.{Cfa}
use Rattle.cpa_model.specs.declared.automaton.Edge.{Edge}
use Rattle.cpa_model.specs.declared.facts.Elem.{Elem}
use Rattle.cpa_model.specs.declared.states.State.{State}
use Rattle.cpa_model.specs.Acts.{IsEdgeOf}
use Rattle.cpa_model.specs.Automata.{IsStateOf}
use Rattle.cpa_iface.specs.declared.entries.Entry.{Entry}
use Rattle.cpa_iface.specs.declared.merging.Order.{Order}
use Rattle.cpa_iface.specs.declared.precisions.Precision.{Precision}
use Rattle.cpa_composite.specs.Components.{Component, AreElems, ArePrecisions, IsEntryOf}
use Rattle.cpa_composite.specs.Exact.{ControlSteps}
use Rattle.cpa_composite.specs.Laws.{SuccessorRows, MergedRow, AdjustedRow}
use Rattle.cpa_composite.specs.Ranks.{row_rank, row_height, HaveFixedHeights, IsRanked, JoinNone}
use Rattle.cpa_reached.specs.Members.{IsIn}
use Rattle.cpa_reached.specs.Entries.{ReachedSet, IsNext, numbers}
use Rattle.cpa_reached.specs.Calls.{taken, gains, fresh}
use Rattle.cpa_engine_turn.specs.Bounds.{turns_left, KeysBound, HasKey, AreBounded}
use Rattle.cpa_engine_turn.specs.Keys.{key_of, HasPlaces}
use Rattle.cpa_engine_turn.specs.Stages.{Stage, taking, Compares, ComparesAll}
use Rattle.cpa_engine_turn.specs.Stages.{first_cover, fellows}
use Rattle.cpa_engine_turn.specs.Stages.{covered_or_added, Settles, SettlesAll, FollowsAll, Works}
use Rattle.cpa_engine_turn.specs.Steps.{IsOrdered}
use Rattle.cpa_engine_turn.specs.Turns.{AreEntries}
use Rattle.cpa_engine_turn.proofs.Comparing.{none_joins}
use Rattle.cpa_engine_turn.proofs.Counting.{replacing_left, ended_left, taken_left}
use Rattle.cpa_engine_turn.specs.lemmas.Counted.{at_most_keys}
use Rattle.cpa_engine_turn.proofs.Effects.{HasAlike, replaced_back, mild_back, gains_mildly}
use Rattle.cpa_engine_turn.specs.lemmas.Keyed.{row_key, key_kept, adjusted_key, there_is, by_place}
use Rattle.cpa_engine_turn.specs.lemmas.Keyed.{merged_key}
use Rattle.cpa_engine_turn.specs.lemmas.Lists.{in_push}
use Rattle.cpa_engine_turn.proofs.Owning.{own_along, own_taken}
use Rattle.cpa_engine_turn.proofs.Places.{each_at}
use Rattle.cpa_engine_turn.proofs.Progress.{ordered_along, fits_along}
use Rattle.cpa_engine_turn.proofs.Shapes.{each_in, entries_along, taken_entries}
use Rattle.cpa_engine_turn.proofs.Turning.{waits_there, was_there, ordered_before}
use Rattle.cpa_engine_turn.proofs.Working.{compares_lead, settles_lead}

-- What the laws of a composite say of ranks and of control.
pub record Laws (cfa : Cfa) (cs : List Component) : Type 0 where
  pub falls : (new old : List Elem) (ps : List Precision) (merged : List Elem) → JoinNone cs
      → length new ≡ length cs → length old ≡ length cs → length ps ≡ length cs
      → MergedRow cs cfa new old ps merged → row_rank cfa cs merged < row_rank cfa cs old
  pub successors : (edge : ℕ) (es : List Elem) (ps : List Precision) (rows : List (List Elem))
      → HaveFixedHeights cfa cs → length es ≡ length cs → ArePrecisions cfa (length cs) ps
      → IsRanked cfa cs es → SuccessorRows cs cfa edge es ps rows
      → AllByRecursion (IsRanked cfa cs) rows
  pub adjust : (es : List Elem) (ps : List Precision) (reached : List Entry) (after : List Elem)
      (next : List Precision) → HaveFixedHeights cfa cs → length es ≡ length cs
      → ArePrecisions cfa (length cs) ps → AllByRecursion (IsEntryOf cfa (length cs)) reached
      → AllByRecursion (λ entry. IsRanked cfa cs entry.elems) reached → IsRanked cfa cs es
      → AdjustedRow cs cfa es ps reached after next → IsRanked cfa cs after
  pub merge : (new old : List Elem) (ps : List Precision) (merged : List Elem)
      → HaveFixedHeights cfa cs → length new ≡ length cs → length old ≡ length cs
      → ArePrecisions cfa (length cs) ps → IsRanked cfa cs new → IsRanked cfa cs old
      → MergedRow cs cfa new old ps merged → IsRanked cfa cs merged
  pub height : (es : List Elem) → IsRanked cfa cs es → row_rank cfa cs es ≤ row_height cfa cs
  pub control : (edge : ℕ) (es : List Elem) (ps : List Precision) (rows : List (List Elem))
      (g : Edge) (s : State) (k : ℕ) (row : List Elem) → length ps ≡ length cs
      → SuccessorRows cs cfa edge es ps rows → slice_get cfa.edges edge ≡ Some g → IsEdgeOf cfa g
      → IsStateOf cfa s → slice_get rows k ≡ Some row → ControlSteps cs cfa g s es row
  pub edges : (k : ℕ) (g : Edge) → slice_get cfa.edges k ≡ Some g → IsEdgeOf cfa g

-- what is known of a stage
record Within (cfa : Cfa) (cs : List Component) (keys : List (List Elem)) (limit : ℕ) (a : Stage)
    : Type 0 where
  ordered : IsOrdered a.reached
  are : AreEntries cfa (length cs) a.reached.live
  fits : HasPlaces cs a.reached
  bounded : AreBounded cfa cs keys a.reached.live
  left : turns_left cfa cs (length keys) a.reached.live ≤ limit

-- what is known of a row
record Fits (cfa : Cfa) (cs : List Component) (keys : List (List Elem)) (es : List Elem) : Type 0
  where
    size : length es ≡ length cs
    key : HasKey cfa cs keys es
    ranked : IsRanked cfa cs es

-- what is said of all elements of entries that go on, and of a new one
all_along : (P : List Elem → Type 0) (xs ys : List Entry) (es : List Elem)
    → ((y : Entry) → IsIn y ys → HasAlike xs y ⊎ (y.elems ≡ es))
    → ((x : Entry) → IsIn x xs → P x.elems) → P es → (y : Entry) → IsIn y ys → P y.elems
all_along P xs ys es from each new y there =
    ⊎_elim
    (λ (has : HasAlike xs y). subst P (sym has.alike.elems) (each has.entry has.is_in))
    (λ same. subst P (sym same) new)
    (from y there)

each_by : (P : Entry → Type 0) (xs : List Entry) → ((x : Entry) → IsIn x xs → P x)
    → AllByRecursion P xs
each_by P [] each = tt
each_by P (x ∷ xs) each = (each x (inl refl), each_by P xs (λ y there. each y (inr there)))

-- one comparison
compares_within : (cfa : Cfa) (cs : List Component) (keys : List (List Elem)) (limit : ℕ)
    (es : List Elem) (ps : List Precision) (n : ℕ) (a b : Stage) → Laws cfa cs
    → KeysBound cfa cs keys → AreElems cfa (length cs) es → ArePrecisions cfa (length cs) ps
    → Fits cfa cs keys es → Compares cfa cs es ps n a b → Within cfa cs keys limit a
    → Within cfa cs keys limit b
compares_within cfa cs keys limit es ps n a b laws bound shaped precise fits (inl leaves) w =
    subst (Within cfa cs keys limit) (sym leaves.is) w
compares_within cfa cs keys limit es ps n a b laws bound shaped precise fits (inr replaces) w =
    let xs = a.reached.live in
    let old = replaces.entry in
    let shape = each_in (IsEntryOf cfa (length cs)) xs old w.are.each replaces.is_in in
    let leads = compares_lead cfa cs es ps n a b shaped precise w.are (inr replaces) in
    let from : (y : Entry) → IsIn y b.reached.live → HasAlike xs y ⊎ (y.elems ≡ replaces.elems) =
    λ y there. ⊎_elim
    (λ was. inl (record { entry = was.0; is_in = was.1; alike = was.2 }))
    (λ new. inr (ap (λ (z : Entry). z.elems) new))
    (replaced_back a.reached.next xs old replaces.elems w.ordered.ascend replaces.is_in y
    (subst (λ (m : Stage). IsIn y m.reached.live) replaces.is there)) in
    record {
      ordered = ordered_along cfa cs a b leads w.ordered;
      are = entries_along cfa cs a b leads w.are;
      fits = fits_along cfa cs a b leads w.fits;
      bounded = record {
        own = own_along cfa cs a b bound.widen leads w.ordered w.bounded.own;
        keyed = all_along (HasKey cfa cs keys) xs b.reached.live replaces.elems from
            w.bounded.keyed
            (key_kept cfa cs keys old.elems replaces.elems
            (merged_key cfa cs es old.elems ps replaces.elems shaped.size shape.elems.size
            precise.size
            replaces.merged.elems.size replaces.merged.each)
            (w.bounded.keyed old replaces.is_in));
        ranked = all_along (IsRanked cfa cs) xs b.reached.live replaces.elems from
            w.bounded.ranked
            (laws.merge es old.elems ps replaces.elems bound.heights shaped.size shape.elems.size
            precise fits.ranked (w.bounded.ranked old replaces.is_in) replaces.merged);
      };
      left =
          let down = replacing_left cfa cs (length keys) old replaces.elems a w.ordered.ascend
          replaces.is_in
          (laws.falls es old.elems ps replaces.elems (none_joins cs bound.widen) shaped.size
          shape.elems.size precise.size replaces.merged) in
          let before = w.left in
          subst (λ (m : Stage). turns_left cfa cs (length keys) m.reached.live ≤ limit)
          (sym replaces.is) (omega (arith, down, before));
    }

all_compares_within : (cfa : Cfa) (cs : List Component) (keys : List (List Elem)) (limit : ℕ)
    (es : List Elem) (ps : List Precision) (ns : List ℕ) (a b : Stage) → Laws cfa cs
    → KeysBound cfa cs keys → AreElems cfa (length cs) es → ArePrecisions cfa (length cs) ps
    → Fits cfa cs keys es → ComparesAll cfa cs es ps ns a b → Within cfa cs keys limit a
    → Within cfa cs keys limit b
all_compares_within cfa cs keys limit es ps [] a b laws bound shaped precise fits is w =
    subst (Within cfa cs keys limit) (sym is) w
all_compares_within cfa cs keys limit es ps (n ∷ ns) a b laws bound shaped precise fits all w =
    all_compares_within cfa cs keys limit es ps ns all.0 b laws bound shaped precise fits all.2
    (compares_within cfa cs keys limit es ps n a all.0 laws bound shaped precise fits all.1 w)

-- the entries at the end of a successor
ended_from : (cfa : Cfa) (es : List Elem) (ps : List Precision) (edge : ℕ) (o : Option ℕ)
    (m b : Stage) → b ≡ covered_or_added es ps edge o m → (y : Entry) → IsIn y b.reached.live
    → HasAlike m.reached.live y ⊎ (y.elems ≡ es)
ended_from cfa es ps edge (Some by) m b is y there =
    inl (mild_back (λ (x : Entry). cond (eqb x.number m.current) (gains by x) x) m.reached.live y
    (gains_mildly m.current by) (subst (λ (c : Stage). IsIn y c.reached.live) is there))
ended_from cfa es ps edge None m b is y there =
    let next = m.reached.next in
    let g : Entry → Entry = λ x. cond (eqb x.number m.current) (gains next x) x in
    ⊎_elim
    (λ old. inl (mild_back g m.reached.live y (gains_mildly m.current next) old))
    (λ new. inr (ap (λ (z : Entry). z.elems) (sym new)))
    (in_push (map g m.reached.live) (fresh next es ps (Some (m.current, edge))) y
    (subst (λ (c : Stage). IsIn y c.reached.live) is there))

-- one successor
settles_within : (cfa : Cfa) (cs : List Component) (keys : List (List Elem)) (limit : ℕ)
    (ps : List Precision) (edge : ℕ) (row : List Elem) (a b : Stage) → Laws cfa cs
    → KeysBound cfa cs keys → edge < length cfa.edges → ArePrecisions cfa (length cs) ps
    → Fits cfa cs keys row → Settles cfa cs ps edge row a b → Within cfa cs keys limit a
    → Within cfa cs keys limit b
settles_within cfa cs keys limit ps edge row a b laws bound less precise fits settles w =
    let es = settles.elems in
    let qs = settles.precisions in
    let m = settles.compared in
    let adjusted = settles.adjusted in
    let o = first_cover cs es (fellows m.reached es) in
    let new : Fits cfa cs keys es = record {
      size = adjusted.elems.size;
      key = key_kept cfa cs keys row es
          (adjusted_key cfa cs row ps a.reached.live es qs fits.size precise.size adjusted)
          fits.key;
      ranked = laws.adjust row ps a.reached.live es qs bound.heights fits.size precise w.are.each
          (each_by (λ (x : Entry). IsRanked cfa cs x.elems) a.reached.live w.bounded.ranked)
          fits.ranked
          adjusted;
    } in
    let middle : Within cfa cs keys limit m =
    all_compares_within cfa cs keys limit es qs (numbers (fellows a.reached es)) a m laws bound
    adjusted.elems adjusted.precisions new settles.compares w in
    let leads = settles_lead cfa cs ps edge row a b less w.are w.ordered w.fits settles in
    let ordered = ordered_along cfa cs a b leads w.ordered in
    let own = own_along cfa cs a b bound.widen leads w.ordered w.bounded.own in
    let from = ended_from cfa es qs edge o m b settles.is in
    let keyed : (y : Entry) → IsIn y b.reached.live → HasKey cfa cs keys y.elems =
    all_along (HasKey cfa cs keys) m.reached.live b.reached.live es from middle.bounded.keyed
    new.key in
    record {
      ordered = ordered;
      are = entries_along cfa cs a b leads w.are;
      fits = fits_along cfa cs a b leads w.fits;
      bounded = record {
        own = own;
        keyed = keyed;
        ranked = all_along (IsRanked cfa cs) m.reached.live b.reached.live es from
            middle.bounded.ranked new.ranked;
      };
      left = ended_left cfa cs (length keys) limit es qs edge o m b settles.is
          (laws.height es new.ranked)
          (at_most_keys (key_of cs) keys b.reached.live (λ e there. (keyed e there).is_in) own
          ordered.ascend) middle.left;
    }

-- the rows of an edge
all_settles_within : (cfa : Cfa) (cs : List Component) (keys : List (List Elem)) (limit : ℕ)
    (ps : List Precision) (edge : ℕ) (rows : List (List Elem)) (a b : Stage) → Laws cfa cs
    → KeysBound cfa cs keys → edge < length cfa.edges → ArePrecisions cfa (length cs) ps
    → AllByRecursion (Fits cfa cs keys) rows → SettlesAll cfa cs ps edge rows a b
    → Within cfa cs keys limit a → Within cfa cs keys limit b
all_settles_within cfa cs keys limit ps edge [] a b laws bound less precise fit is w =
    subst (Within cfa cs keys limit) (sym is) w
all_settles_within cfa cs keys limit ps edge (row ∷ rows) a b laws bound less precise fit all w =
    all_settles_within cfa cs keys limit ps edge rows all.0 b laws bound less precise fit.1 all.2
    (settles_within cfa cs keys limit ps edge row a all.0 laws bound less precise fit.0 all.1 w)

rows_fit : (cfa : Cfa) (cs : List Component) (keys : List (List Elem)) (edge : ℕ)
    (es : List Elem) (ps : List Precision) (rows : List (List Elem)) → Laws cfa cs
    → KeysBound cfa cs keys → edge < length cfa.edges → ArePrecisions cfa (length cs) ps
    → Fits cfa cs keys es → SuccessorRows cs cfa edge es ps rows
    → AllByRecursion (Fits cfa cs keys) rows
rows_fit cfa cs keys edge es ps rows laws bound less precise fits made =
    let g = there_is cfa.edges edge less in
    let ranked = laws.successors edge es ps rows bound.heights fits.size precise fits.ranked made in
    by_place (Fits cfa cs keys) rows (λ k row at.
    let shaped = each_at (AreElems cfa (length cs)) rows made.elems k row at in
    record {
      size = shaped.size;
      key = row_key cfa cs keys edge g.0 es row bound fits.size shaped.size g.1 fits.key
          (laws.control edge es ps rows g.0 fits.key.state k row precise.size made g.1
          (laws.edges edge g.0 g.1) fits.key.is_state at);
      ranked = each_at (IsRanked cfa cs) rows ranked k row at;
    })

-- all edges
edges_within : (cfa : Cfa) (cs : List Component) (keys : List (List Elem)) (limit : ℕ)
    (es : List Elem) (ps : List Precision) (first count : ℕ) (a b : Stage) → Laws cfa cs
    → KeysBound cfa cs keys → first + count ≤ length cfa.edges → ArePrecisions cfa (length cs) ps
    → Fits cfa cs keys es → FollowsAll cfa cs es ps first count a b → Within cfa cs keys limit a
    → Within cfa cs keys limit b
edges_within cfa cs keys limit es ps first zero a b laws bound less precise fits is w =
    subst (Within cfa cs keys limit) (sym is) w
edges_within cfa cs keys limit es ps first (suc count) a b laws bound less precise fits all w =
    let inside : first + count < length cfa.edges = omega (arith, less) in
    all_settles_within cfa cs keys limit ps (first + count) all.2.rows all.0 b laws bound inside
    precise
    (rows_fit cfa cs keys (first + count) es ps all.2.rows laws bound inside precise fits
    all.2.successors) all.2.settles
    (edges_within cfa cs keys limit es ps first count a all.0 laws bound (omega (arith, less))
    precise
    fits all.1 w)

-- the taking
bounded_taken : (cfa : Cfa) (cs : List Component) (keys : List (List Elem)) (r : ReachedSet)
    (n : ℕ) → AreBounded cfa cs keys r.live → AreBounded cfa cs keys (taken n r).live
bounded_taken cfa cs keys r n bounded = record {
  own = own_taken cs r n bounded.own;
  keyed = λ e there.
      let was = was_there n r.live e there in
      subst (HasKey cfa cs keys) (sym was.elems) (bounded.keyed was.entry was.is_in);
  ranked = λ e there.
      let was = was_there n r.live e there in
      subst (IsRanked cfa cs) (sym was.elems) (bounded.ranked was.entry was.is_in);
}

-- A turn leaves fewer.
pub record Bounded (cfa : Cfa) (cs : List Component) (keys : List (List Elem))
    (old new : List Entry) : Type 0 where
  pub bounded : AreBounded cfa cs keys new
  pub fewer : turns_left cfa cs (length keys) new < turns_left cfa cs (length keys) old

pub turned_bound : (cfa : Cfa) (cs : List Component) (order : Order) (r : ReachedSet) (n : ℕ)
    (new : ReachedSet) (keys : List (List Elem)) → Laws cfa cs → KeysBound cfa cs keys
    → IsNext order r.live n → IsOrdered (taken n r) → AreEntries cfa (length cs) r.live
    → HasPlaces cs r → Works cfa cs n (taken n r) new → AreBounded cfa cs keys r.live
    → Bounded cfa cs keys r.live new.live
turned_bound cfa cs order r n new keys laws bound next ordered are fits works bounded =
    let limit = turns_left cfa cs (length keys) (taken n r).live in
    let waiting = waits_there r.live n next.waits in
    let x = works.entry in
    let edges = works.expands in
    let first : AreBounded cfa cs keys (taken n r).live = bounded_taken cfa cs keys r n bounded in
    let entries = taken_entries cfa (length cs) n r.live are in
    let shape = each_in (IsEntryOf cfa (length cs)) (taken n r).live x entries.each works.is_in in
    let last = edges_within cfa cs keys limit x.elems x.precisions edges.first edges.count
    (taking (taken n r) n) works.last laws bound edges.within shape.precisions
    (record {
      size = shape.elems.size;
      key = first.keyed x works.is_in;
      ranked = first.ranked x works.is_in;
    }) edges.follows
    (record {
      ordered = ordered;
      are = entries;
      fits = fits;
      bounded = first;
      left = omega arith;
    }) in
    let less = taken_left cfa cs (length keys) n r.live waiting.entry
    (ordered_before r n ordered).ascend
    waiting.is_in waiting.is waiting.waiting in
    let left = last.left in
    subst (λ (s : ReachedSet). Bounded cfa cs keys r.live s.live) (sym works.closed) (record {
      bounded = last.bounded;
      fewer = omega (arith, less, left);
    })
