-- What holds of the first reached set (`start_stands`): one entry, which is the first row.
use Rattle.std.proofs.Common.{◌≡◌, ◌+◌, ◌*◌, ◌<◌, ◌≤◌, true, List, length, None, refl}
use Rattle.std.proofs.Common.{sym}
use Rattle.std.proofs.Common.{subst, inl, ⊎_elim, arith}
use Rattle.cpa_model.specs.declared.automaton.Cfa.{Cfa}
use Rattle.cpa_model.specs.declared.facts.Elem.{Elem}
use Rattle.cpa_model.specs.declared.states.State.{State}
use Rattle.cpa_model.specs.Automata.{IsStateOf, initial_state}
use Rattle.cpa_iface.specs.declared.analysis.Settings.{Settings}
use Rattle.cpa_iface.specs.declared.entries.Entry.{Entry}
use Rattle.cpa_iface.specs.declared.precisions.Precision.{Precision}
use Rattle.cpa_composite.specs.Components.{Component}
use Rattle.cpa_composite.specs.Keys.{key_places}
use Rattle.cpa_composite.specs.Laws.{InitialRow}
use Rattle.cpa_composite.specs.Ranks.{row_height, HaveFixedHeights, IsRanked}
use Rattle.cpa_reached.specs.Calls.{begun, indexed, fresh}
use Rattle.cpa_reached.specs.Entries.{numbers}
use Rattle.cpa_model.specs.Ascending.{AreAscending}
use Rattle.cpa_reached.specs.Members.{IsIn}
use Rattle.cpa_engine_turn.specs.Bounds.{turns_left, AreBounded, HasKey, ArePinned, IsPinned}
use Rattle.cpa_engine_laws.specs.Lines.{AreKeyLines, ArePinLines, KeyRoot, PinStates}
use Rattle.cpa_engine.specs.Kept.{IsExactRun}
use Rattle.cpa_engine.specs.Searches.{Stands}
use Rattle.cpa_engine.proofs.Beginning.{journal_begins}

-- What is used of laws.
pub record StartLaws (cfa : Cfa) (cs : List Component) (settings : Settings) (es : List Elem)
    (ps : List Precision) : Type 0 where
  pub state : IsStateOf cfa (initial_state cfa)
  pub ranked : HaveFixedHeights cfa cs → IsRanked cfa cs es
  pub lines : AreKeyLines cfa cs (begun es ps).live
  pub exact : IsExactRun cs settings → ArePinLines cfa cs (begun es ps).live
  pub keys : (keys : List (List Elem)) (xs : List Entry) → AreAscending (numbers xs)
      → AreBounded cfa cs keys xs
      → turns_left cfa cs (length keys) xs ≤ length keys * (1 + row_height cfa cs)
  pub states : (states : List State) (xs : List Entry) → PinStates cs → AreAscending (numbers xs)
      → ArePinned cfa cs states xs → turns_left cfa cs (length states) xs ≤ length states

-- the first entry
abbrev pub first : List Elem → List Precision → Entry
first es ps = fresh 0 es ps None

pub start_stands : (cfa : Cfa) (cs : List Component) (settings : Settings) (es : List Elem)
    (ps : List Precision) → StartLaws cfa cs settings es ps → InitialRow cs cfa settings es ps
    → Stands cfa cs settings (indexed (begun es ps) (key_places cs))
start_stands cfa cs settings es ps laws row =
    let r = indexed (begun es ps) (key_places cs) in
    let x = first es ps in
    let key : KeyRoot cfa cs es = laws.lines.roots x (inl refl) refl in
    let one : (P : Entry → Type 0) → P x → (e : Entry) → IsIn e r.live → P e =
    λ P is e there. ⊎_elim (λ same. subst P same is) (λ none. absurd none) there in
    let alone : (d e : Entry) → IsIn d r.live → IsIn e r.live → d.number ≡ e.number =
    λ d e in_d in_e. one (λ y. y.number ≡ e.number) (one (λ y. 0 ≡ y.number) refl e in_e) d in_d in
    record {
      entries = record {
        each = (record { elems = row.elems; precisions = row.precisions }, tt);
        edges = (tt, tt);
      };
      places = refl;
      covers = record {
        start = record { entry = x; is_in = inl refl; root = refl; lies = row.holds };
        successors = λ e s t there rests lies step.
            absurd (let waits = one (λ y. y.waiting ≡ true) refl e there in cc (waits, rests));
      };
      began = numbers r.live;
      journal = journal_begins r refl (one (λ y. y.number < 1) (omega arith));
      own = λ widen d e in_d in_e same. alone d e in_d in_e;
      lines = laws.lines;
      exact = laws.exact;
      counted = λ keys is.
          let bounded : AreBounded cfa cs keys r.live =
          record {
            own = λ d e in_d in_e same. alone d e in_d in_e;
            keyed = one (λ y. HasKey cfa cs keys y.elems)
                (record {
                  state = initial_state cfa;
                  is_state = laws.state;
                  key = key;
                  is_in = subst (λ (k : List Elem). IsIn k keys) (sym key) is.first;
                });
            ranked = one (λ y. IsRanked cfa cs y.elems) (laws.ranked is.bound.heights);
          } in
          let few = laws.keys keys r.live (tt, tt) bounded in (bounded, omega (arith, few));
      pinned = λ states is.
          let at = (laws.exact is.exact) in
          let pinned : ArePinned cfa cs states r.live =
          record {
            each = one (IsPinned cfa cs states)
                (record {
                  state = initial_state cfa;
                  is_state = laws.state;
                  is_in = is.first;
                  elems = at.lines.roots x (inl refl) refl;
                  binds = at.binds x (inl refl);
                });
            once = λ d e in_d in_e same. alone d e in_d in_e;
          } in
          let few = laws.states states r.live is.exact.pinning (tt, tt) pinned in
          (pinned, omega (arith, few));
    }
