-- Where components pin whole states, a turn keeps lines of pins (`pins_kept`), since nothing is
-- merged, and the first entry begins them.
use Rattle.std.proofs.Common.{◌≡◌, ◌≢◌, ℕ, zero, suc, true, List, [], ◌∷◌, length, Some, refl, sym}
use Rattle.std.proofs.Common.{ap, ◌∙◌, subst, inl, inr, ⊎_elim, arith}
use Rattle.std.specs.Prelude.{◌⊎◌}
use Rattle.std.specs.List.{slice_get}
use Rattle.std.proofs.lemmas.Option.{same_Some, slice_get_within}
use Rattle.cpa_model.specs.declared.automaton.Cfa.{Cfa}
use Rattle.cpa_model.specs.declared.automaton.Edge.{Edge}
use Rattle.cpa_model.specs.declared.facts.Elem.{Elem}
use Rattle.cpa_model.specs.declared.states.State.{State}
use Rattle.cpa_model.specs.Automata.{IsStateOf, StepsAlong, initial_state}
use Rattle.cpa_iface.specs.declared.analysis.Part.{Part}
use Rattle.cpa_iface.specs.declared.analysis.Part.TheVariants as part
use Rattle.cpa_iface.specs.declared.analysis.Settings.{Settings}
use Rattle.cpa_iface.specs.declared.entries.Entry.{Entry}
use Rattle.cpa_iface.specs.declared.merging.Order.{Order}
use Rattle.cpa_iface.specs.declared.precisions.Precision.{Precision}
use Rattle.cpa_iface.specs.Pins.{IsSettledBy, MustBeExact, TracksAll}
use Rattle.cpa_composite.specs.Components.{Component, AreElems}
use Rattle.cpa_composite.specs.Exact.{IsControl, AreControl, AreExact, BindAll, HaveEachPart, pins}
use Rattle.cpa_composite.specs.Laws.{InitialRow, SuccessorRows, AdjustedRow, MergedRow}
use Rattle.cpa_reached.specs.Calls.{begun}
use Rattle.cpa_reached.specs.Entries.{ReachedSet, IsNumbered}
use Rattle.cpa_engine_turn.specs.Turns.{AreEntries, Turned}
use Rattle.cpa_engine_turn.specs.lemmas.Counted.{apart_merged}
use Rattle.cpa_engine_turn.specs.lemmas.Keyed.{there_is}
use Rattle.cpa_engine_laws.specs.Lines.{PinComes, PinRoot, PinStates, ArePinLines}
use Rattle.cpa_engine_laws.specs.lemmas.Kept.{lines_begin}
use Rattle.cpa_engine_laws.specs.lemmas.Working.{Relates, turn_lined, shape_of, each_at}

module _ (cfa : Cfa) (cs : List Component) where
  -- by the laws on pins; nothing is merged where all are kept apart
  pins_relate : (es : List Elem) (ps : List Precision) → BindAll cfa cs ps
      → ((edge : ℕ) (rows : List (List Elem)) (g : Edge) (s : State)
      → SuccessorRows cs cfa edge (pins cs s) ps rows → slice_get cfa.edges edge ≡ Some g
      → IsSettledBy part.Store g.act → IsStateOf cfa s
      → (rows ≡ []) ⊎ ((t : State) × StepsAlong cfa g s t × (rows ≡ pins cs t ∷ [])))
      → ((edge : ℕ) (rows : List (List Elem)) (k : ℕ) (row : List Elem)
      → SuccessorRows cs cfa edge es ps rows → slice_get rows k ≡ Some row
      → length row ≡ length cs)
      → ((row : List Elem) (reached : List Entry) (after : List Elem) (next : List Precision)
      → length row ≡ length cs → AdjustedRow cs cfa row ps reached after next
      → (after ≡ row) × BindAll cfa cs next)
      → ((new old : List Elem) (qs : List Precision) (merged : List Elem)
      → length new ≡ length cs → length old ≡ length cs → length qs ≡ length cs
      → MergedRow cs cfa new old qs merged → ⊥)
      → Relates cfa cs (PinComes cfa cs) (PinRoot cfa cs) (BindAll cfa cs) es ps
  pins_relate es ps binds next sized adjust never = record {
    comes = λ edge rows k row reached after qs less made at adjusted g s at_g settled is same.
        let made_s = subst (λ (xs : List Elem). SuccessorRows cs cfa edge xs ps rows) same made in
        let as_was = (adjust row reached after qs (sized edge rows k row made at) adjusted).0 in
        ⊎_elim
        (λ none. absurd (let wrong = ap (λ (rs : List (List Elem)). slice_get rs k) (sym none) ∙ at
        in none_there k row wrong))
        (λ one.
        let only : slice_get (pins cs one.0 ∷ []) k ≡ Some row =
        ap (λ (rs : List (List Elem)). slice_get rs k) (sym one.2) ∙ at in
        (one.0, one.1, as_was ∙ sym (first_there k (pins cs one.0) row only)))
        (next edge rows g s made_s at_g settled is);
    each = λ edge rows k row reached after qs less made at adjusted.
        (adjust row reached after qs (sized edge rows k row made at) adjusted).1;
    parent = λ new old qs merged a b d row. absurd (never new old qs merged a b d row);
    child = λ new old qs merged a b d row. absurd (never new old qs merged a b d row);
    root = λ new old qs merged a b d row. absurd (never new old qs merged a b d row);
  }
    where
      none_there : (k : ℕ) (row : List Elem) → slice_get [] k ≡ Some row → ⊥
      none_there zero row wrong = absurd (cc)
      none_there (suc k) row wrong = absurd (cc)

      first_there : (k : ℕ) (x row : List Elem) → slice_get (x ∷ []) k ≡ Some row → x ≡ row
      first_there zero x row is = same_Some x row is
      first_there (suc k) x row is = absurd (none_there k row is)

-- ---- the first entry

binds_at : (which : Part) (cfa : Cfa) (p : Precision) → which ≢ part.Nothing
    → (which ≡ part.Store → TracksAll cfa p) → MustBeExact which cfa p
binds_at part.Nothing cfa p other all = absurd (other refl)
binds_at part.Point cfa p other all = tt
binds_at part.Stack cfa p other all = tt
binds_at part.Store cfa p other all = all refl

is_exact : (cs : List Component) → AreExact cs → (i : ℕ) (c : Component) → slice_get cs i ≡ Some c
    → c.meaning.part ≢ part.Nothing
is_exact [] exact i c at = absurd (cc)
is_exact (d ∷ cs) (inl both) zero c at =
    subst (λ (b : Component). b.meaning.part ≢ part.Nothing) (same_Some d c at)
    (control_is d.meaning.part both.0)
  where
    control_is : (which : Part) → IsControl which → which ≢ part.Nothing
    control_is which (inl is) = λ none. absurd (cc (is, none))
    control_is which (inr is) = λ none. absurd (cc (is, none))
is_exact (d ∷ cs) (inl both) (suc i) c at = is_exact cs both.1 i c at
is_exact (d ∷ cs) (inr both) zero c at =
    subst (λ (b : Component). b.meaning.part ≢ part.Nothing) (same_Some d c at)
    (λ none. absurd (let is = both.0 in cc (is, none)))
is_exact (d ∷ cs) (inr both) (suc i) c at = are_control cs both.1 i c at
  where
    are_control : (cs : List Component) → AreControl cs → (i : ℕ) (c : Component)
        → slice_get cs i ≡ Some c → c.meaning.part ≢ part.Nothing
    are_control [] all i c at = absurd (cc)
    are_control (d ∷ cs) all zero c at =
        ⊎_elim (λ is. λ none. absurd (let same = same_Some d c at in cc (is, none, same)))
        (λ is. λ none. absurd (let same = same_Some d c at in cc (is, none, same))) all.0
    are_control (d ∷ cs) all (suc i) c at = are_control cs all.1 i c at

pub first_binds : (cfa : Cfa) (cs : List Component) (settings : Settings) (es : List Elem)
    (ps : List Precision) → AreExact cs → settings.tracked_all ≡ true → settings.limit ≡ 0
    → InitialRow cs cfa settings es ps → BindAll cfa cs ps
first_binds cfa cs settings es ps exact all unlimited row i c p at at_p =
    let inside = slice_get_within cs i c at in
    let size = row.elems.size in
    let e = there_is es i (omega (arith, inside, size)) in
    let laws = row.each i c e.0 p (record { component = at; elem = e.1; precision = at_p }) in
    binds_at c.meaning.part cfa p (is_exact cs exact i c at)
    (λ store. laws.1.exact store all unlimited)

pub pins_begin : (cfa : Cfa) (cs : List Component) (settings : Settings) (es : List Elem)
    (ps : List Precision) → PinStates cs → settings.tracked_all ≡ true → settings.limit ≡ 0
    → InitialRow cs cfa settings es ps → es ≡ pins cs (initial_state cfa)
    → ArePinLines cfa cs (begun es ps).live
pins_begin cfa cs settings es ps pinning all unlimited row is = record {
  lines = lines_begin (PinComes cfa cs) (PinRoot cfa cs) es ps is;
  binds = λ e there. ⊎_elim
      (λ same. subst (λ (y : Entry). BindAll cfa cs y.precisions) same
      (first_binds cfa cs settings es ps pinning.exact all unlimited row))
      (λ wrong. absurd wrong) there;
}

-- ---- a turn

pub pins_kept : (cfa : Cfa) (cs : List Component)
    → ((edge : ℕ) (ps : List Precision) (rows : List (List Elem)) (g : Edge) (s : State)
    → AreExact cs → HaveEachPart cs → BindAll cfa cs ps → length ps ≡ length cs
    → SuccessorRows cs cfa edge (pins cs s) ps rows → slice_get cfa.edges edge ≡ Some g
    → IsSettledBy part.Store g.act → IsStateOf cfa s
    → (rows ≡ []) ⊎ ((t : State) × StepsAlong cfa g s t × (rows ≡ pins cs t ∷ [])))
    → ((es : List Elem) (ps : List Precision) (reached : List Entry) (after : List Elem)
    (next : List Precision) → BindAll cfa cs ps → length es ≡ length cs → length ps ≡ length cs
    → AdjustedRow cs cfa es ps reached after next → (after ≡ es) × BindAll cfa cs next)
    → (order : Order) (old new : ReachedSet) → IsNumbered old
    → AreEntries cfa (length cs) old.live → Turned cfa cs order old new → PinStates cs
    → ArePinLines cfa cs old.live → ArePinLines cfa cs new.live
pins_kept cfa cs next adjust order old new numbered are turned pinning lines =
    let kept = turn_lined cfa cs (PinComes cfa cs) (PinRoot cfa cs) (BindAll cfa cs) order old new
    numbered are turned
    (λ e there.
    let shape = shape_of cfa (length cs) old.live are e there in
    pins_relate cfa cs e.elems e.precisions (lines.binds e there)
    (λ edge rows g s made at settled is. next edge e.precisions rows g s pinning.exact pinning.parts
    (lines.binds e there) shape.precisions.size made at settled is)
    (λ edge rows k row made at.
    (each_at (AreElems cfa (length cs)) rows k row made.elems at).size)
    (λ row reached after qs long adjusted. adjust row e.precisions reached after qs
    (lines.binds e there) long shape.precisions.size adjusted)
    (λ fresh prior qs merged a b d row. row.differs
    (apart_merged cfa cs fresh prior qs merged pinning.apart a b d row.elems.size row.each)))
    lines.binds lines.lines in
    record { lines = kept.0; binds = kept.1 }
