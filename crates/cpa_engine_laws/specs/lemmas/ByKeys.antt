-- A turn keeps lines of keys (`keys_kept`), and the first entry begins them (`initial_key`).
use Rattle.std.proofs.Common.{◌≡◌, ◌≢◌, ℕ, true, ◌∙◌, List, length, Some, sym, ap, arith}
use Rattle.std.specs.Prelude.{⊤}
use Rattle.std.specs.List.{slice_get}
use Rattle.std.proofs.lemmas.Bool.{and_parts}
use Rattle.std.proofs.lemmas.Option.{same_Some, slice_get_within}
use Rattle.cpa_model.specs.declared.automaton.Cfa.{Cfa}
use Rattle.cpa_model.specs.declared.automaton.Edge.{Edge}
use Rattle.cpa_model.specs.declared.facts.Elem.{Elem}
use Rattle.cpa_model.specs.declared.states.State.{State}
use Rattle.cpa_model.specs.Acts.{IsEdgeOf}
use Rattle.cpa_model.specs.Automata.{IsStateOf, initial_state}
use Rattle.cpa_iface.specs.declared.analysis.Part.{Part}
use Rattle.cpa_iface.specs.declared.analysis.Part.TheVariants as part
use Rattle.cpa_iface.specs.declared.analysis.Settings.{Settings}
use Rattle.cpa_iface.specs.declared.precisions.Precision.{Precision}
use Rattle.cpa_iface.specs.Pins.{pin_of}
use Rattle.cpa_composite.specs.Comparisons.{keeps_apart}
use Rattle.cpa_iface.specs.declared.merging.Order.{Order}
use Rattle.cpa_composite.specs.Components.{Component, AreElems}
use Rattle.cpa_composite.specs.Exact.{ControlSteps, pins}
use Rattle.cpa_composite.specs.Keys.{is_control}
use Rattle.cpa_composite.specs.Laws.{InitialRow, SuccessorRows}
use Rattle.cpa_reached.specs.Calls.{begun}
use Rattle.cpa_reached.specs.Entries.{ReachedSet, IsNumbered}
use Rattle.cpa_engine_turn.specs.Bounds.{KeyStepsTo}
use Rattle.cpa_engine_turn.specs.Keys.{key_of}
use Rattle.cpa_engine_turn.specs.lemmas.Keyed.{row_steps, adjusted_key, merged_key, there_is}
use Rattle.cpa_engine_turn.specs.lemmas.Keyed.{key_by, pins_size, pin_there}
use Rattle.cpa_engine_turn.specs.Turns.{AreEntries, Turned}
use Rattle.cpa_engine_laws.specs.Lines.{KeyComes, KeyRoot, AreKeyLines}
use Rattle.cpa_engine_laws.specs.lemmas.Kept.{lines_begin}
use Rattle.cpa_engine_laws.specs.lemmas.Working.{Relates, turn_lined, shape_of, each_at}

module _ (cfa : Cfa) (cs : List Component) where
  key_stands : (g : Edge) (s : State) (row other : List Elem) → key_of cs other ≡ key_of cs row
      → KeyStepsTo cfa cs g s row → KeyStepsTo cfa cs g s other
  key_stands g s row other same steps = record {
    state = steps.state;
    is_state = steps.is_state;
    step = steps.step;
    key = same ∙ steps.key;
  }

  -- by the law on control
  keys_relate : (es : List Elem) (ps : List Precision) → length es ≡ length cs
      → length ps ≡ length cs
      → ((edge : ℕ) (rows : List (List Elem)) (g : Edge) (s : State) (k : ℕ) (row : List Elem)
      → SuccessorRows cs cfa edge es ps rows → slice_get cfa.edges edge ≡ Some g → IsEdgeOf cfa g
      → IsStateOf cfa s → slice_get rows k ≡ Some row → ControlSteps cs cfa g s es row)
      → ((k : ℕ) (g : Edge) → slice_get cfa.edges k ≡ Some g → IsEdgeOf cfa g)
      → ((rows : List (List Elem)) (edge k : ℕ) (row : List Elem) → SuccessorRows cs cfa edge es ps
      rows → slice_get rows k ≡ Some row → length row ≡ length cs)
      → Relates cfa cs (KeyComes cfa cs) (KeyRoot cfa cs) (λ qs. ⊤) es ps
  keys_relate es ps many precise control sound sized = record {
    comes = λ edge rows k row reached after next less made at adjusted g s at_g is key.
        let long = sized rows edge k row made at in
        key_stands g s row after
        (adjusted_key cfa cs row ps reached after next long precise adjusted)
        (row_steps cfa cs g s es row many long key
        (control edge rows g s k row made at_g (sound edge g at_g) is at));
    each = λ edge rows k row reached after next less made at adjusted. tt;
    parent = λ new old qs merged a b d row edge fs comes g s at_g is key.
        comes g s at_g is
        (sym (merged_key cfa cs new old qs merged a b d row.elems.size row.each) ∙ key);
    child = λ new old qs merged a b d row edge fs comes g s at_g is key.
        key_stands g s old merged
        (merged_key cfa cs new old qs merged a b d row.elems.size row.each)
        (comes g s at_g is key);
    root = λ new old qs merged a b d row is.
        merged_key cfa cs new old qs merged a b d row.elems.size row.each ∙ is;
  }

-- the first row
not_nothing : (which : Part) → is_control which ≡ true → which ≢ part.Nothing
not_nothing which is same =
    absurd (let wrong = ap (λ (w : Part). is_control w) same in cc (is, wrong))

pub initial_key : (cfa : Cfa) (cs : List Component) (settings : Settings) (es : List Elem)
    (ps : List Precision) → InitialRow cs cfa settings es ps → KeyRoot cfa cs es
initial_key cfa cs settings es ps row =
    key_by cs es (pins cs (initial_state cfa)) row.elems.size (pins_size cs (initial_state cfa))
    (λ i c e f at at_e at_f key.
    let inside = slice_get_within cs i c at in
    let long = row.precisions.size in
    let p = there_is ps i (omega (arith, inside, long)) in
    let laws = row.each i c e p.0 (record { component = at; elem = at_e; precision = p.1 }) in
    let exact = laws.0.exact
    (not_nothing c.meaning.part (and_parts (is_control c.meaning.part) (keeps_apart c.rule) key).0)
    in
    exact ∙ same_Some (pin_of c.meaning.part (initial_state cfa)) f
    (sym (pin_there cs (initial_state cfa) i c at) ∙ at_f))

pub keys_begin : (cfa : Cfa) (cs : List Component) (settings : Settings) (es : List Elem)
    (ps : List Precision) → InitialRow cs cfa settings es ps → AreKeyLines cfa cs (begun es ps).live
keys_begin cfa cs settings es ps row =
    lines_begin (KeyComes cfa cs) (KeyRoot cfa cs) es ps (initial_key cfa cs settings es ps row)

-- a turn
pub keys_kept : (cfa : Cfa) (cs : List Component)
    → ((edge : ℕ) (es : List Elem) (ps : List Precision) (rows : List (List Elem)) (g : Edge)
    (s : State) (k : ℕ) (row : List Elem) → length ps ≡ length cs
    → SuccessorRows cs cfa edge es ps rows → slice_get cfa.edges edge ≡ Some g → IsEdgeOf cfa g
    → IsStateOf cfa s → slice_get rows k ≡ Some row → ControlSteps cs cfa g s es row)
    → ((k : ℕ) (g : Edge) → slice_get cfa.edges k ≡ Some g → IsEdgeOf cfa g) → (order : Order)
    (old new : ReachedSet) → IsNumbered old → AreEntries cfa (length cs) old.live
    → Turned cfa cs order old new → AreKeyLines cfa cs old.live → AreKeyLines cfa cs new.live
keys_kept cfa cs control sound order old new numbered are turned lines =
    (turn_lined cfa cs (KeyComes cfa cs) (KeyRoot cfa cs) (λ ps. ⊤) order old new numbered are
    turned
    (λ e there.
    let shape = shape_of cfa (length cs) old.live are e there in
    keys_relate cfa cs e.elems e.precisions shape.elems.size shape.precisions.size
    (λ edge rows g s k row made at_g sound_g is at.
    control edge e.elems e.precisions rows g s k row shape.precisions.size made at_g sound_g is at)
    sound
    (λ rows edge k row made at.
    (each_at (AreElems cfa (length cs)) rows k row made.elems at).size))
    (λ e there. tt) lines).0
