-- Along lines of pins the edges before the first input are those of an execution, and a path to an
-- error that has no run has an input (`kept_inputs`).
use Rattle.std.proofs.Common.{◌≡◌, ℕ, ◌<◌, List, [], ◌∷◌, ◌++◌, length, Some, refl, sym, ap, ◌∙◌}
use Rattle.std.proofs.Common.{subst, inl, inr, ⊎_elim}
use Rattle.std.specs.Prelude.{◌⊎◌, reverse}
use Rattle.std.specs.List.{slice_get, AllByRecursion, Contains}
use Rattle.std.proofs.lemmas.List.{reverse-reverse}
use Rattle.std.proofs.lemmas.Option.{same_Some}
use Rattle.cpa_model.specs.declared.automaton.Act.{Act}
use Rattle.cpa_model.specs.declared.automaton.Act.TheVariants as act
use Rattle.cpa_model.specs.declared.automaton.Cfa.{Cfa}
use Rattle.cpa_model.specs.declared.automaton.Edge.{Edge}
use Rattle.cpa_model.specs.declared.facts.Elem.{Elem}
use Rattle.cpa_model.specs.declared.states.State.{State}
use Rattle.cpa_model.specs.Automata.{IsStateOf, initial_state}
use Rattle.cpa_iface.specs.declared.analysis.Part.{Part}
use Rattle.cpa_iface.specs.declared.analysis.Part.TheVariants as part
use Rattle.cpa_iface.specs.declared.entries.Entry.{Entry}
use Rattle.cpa_iface.specs.Pins.{pin, pin_of, IsSettledBy}
use Rattle.cpa_composite.specs.Components.{Component}
use Rattle.cpa_composite.specs.Exact.{HavePart, pins}
use Rattle.cpa_model.specs.Ascending.{AreAscending}
use Rattle.cpa_reached.specs.Members.{IsIn}
use Rattle.cpa_reached.specs.Entries.{numbers}
use Rattle.cpa_reached.specs.Paths.{IsPathTo}
use Rattle.cpa_engine_turn.specs.lemmas.Keyed.{pin_there, there_is}
use Rattle.cpa_engine_laws.specs.Chains.{WalksTo, StepsBy, AreSettled, RunsToInput}
use Rattle.cpa_engine_laws.specs.Lines.{AreLines, PinComes, PinRoot}
use Rattle.cpa_engine_laws.specs.lemmas.KeyWays.{inside}
use Rattle.cpa_engine_laws.specs.lemmas.Ways.{leads_to}

-- an input is first, or there is none
record HasFirstInput (cfa : Cfa) (path : List ℕ) : Type 0 where
  front : List ℕ
  number : ℕ
  back : List ℕ
  is : path ≡ front ++ number ∷ back
  settled : AreSettled cfa front
  edge : Edge
  at : slice_get cfa.edges number ≡ Some edge
  input : IsSettledBy part.Store edge.act → ⊥

settled_or : (a : Act) → IsSettledBy part.Store a ⊎ (IsSettledBy part.Store a → ⊥)
settled_or act.Skip = inl tt
settled_or (act.Assign base len index value) = inl tt
settled_or (act.Assume test holds) = inl tt
settled_or (act.Input cell) = inr (λ h. h)
settled_or (act.Call site) = inl tt
settled_or (act.Return site) = inl tt

first_input : (cfa : Cfa) (path : List ℕ) → AllByRecursion (λ n. n < length cfa.edges) path
    → AreSettled cfa path ⊎ HasFirstInput cfa path
first_input cfa [] inside = inl tt
first_input cfa (n ∷ path) inside =
    let g = there_is cfa.edges n inside.0 in
    ⊎_elim
    (λ settles.
    let here : (h : Edge) → slice_get cfa.edges n ≡ Some h → IsSettledBy part.Store h.act =
    λ h at. subst (λ (e : Edge). IsSettledBy part.Store e.act) (same_Some g.0 h (sym g.1 ∙ at))
    settles in
    ⊎_elim
    (λ rest. inl (here, rest))
    (λ has. inr (record {
      front = n ∷ has.front;
      number = has.number;
      back = has.back;
      is = ap (λ (ns : List ℕ). n ∷ ns) has.is;
      settled = (here, has.settled);
      edge = has.edge;
      at = has.at;
      input = has.input;
    }))
    (first_input cfa path inside.1))
    (λ input. inr (record {
      front = [];
      number = n;
      back = path;
      is = refl;
      settled = tt;
      edge = g.0;
      at = g.1;
      input = input;
    }))
    (settled_or g.0.act)

module _ (cfa : Cfa) (cs : List Component) where
  -- the state to which a run along the edges leads
  record RunsTo (s : State) (path : List ℕ) (fs : List Elem) : Type 0 where
    state : State
    runs : WalksTo (StepsBy cfa) s path state
    is_state : IsStateOf cfa state
    row : fs ≡ pins cs state

  pins_run : (path : List ℕ) (es fs : List Elem) (s : State)
      → AllByRecursion (λ n. n < length cfa.edges) path → AreSettled cfa path
      → WalksTo (PinComes cfa cs) es path fs → IsStateOf cfa s → es ≡ pins cs s
      → RunsTo s path fs
  pins_run [] es fs s inside settled walks is same =
      record { state = s; runs = refl; is_state = is; row = walks ∙ same }
  pins_run (n ∷ path) es fs s inside settled (m, comes, walks) is same =
      let g = there_is cfa.edges n inside.0 in
      let on = comes g.0 s g.1 (settled.0 g.0 g.1) is same in
      let rest = pins_run path m fs on.0 inside.1 settled.1 walks on.1.after on.2 in
      record {
        state = rest.state;
        runs = (on.0, (g.0, g.1, on.1), rest.runs);
        is_state = rest.is_state;
        row = rest.row;
      }

  -- the front of a walk
  walks_front : (R : ℕ → List Elem → List Elem → Type 0) (front back : List ℕ)
      (es fs : List Elem) → WalksTo R es (front ++ back) fs
      → (ms : List Elem) × WalksTo R es front ms
  walks_front R [] back es fs walks = (es, refl)
  walks_front R (n ∷ front) back es fs (m, step, walks) =
      let rest = walks_front R front back m fs walks in (rest.0, (m, step, rest.1))

all_front : (P : ℕ → Type 0) (xs ys : List ℕ) → AllByRecursion P (xs ++ ys) → AllByRecursion P xs
all_front P [] ys all = tt
all_front P (x ∷ xs) ys all = (all.0, all_front P xs ys all.1)

pub kept_inputs : (cfa : Cfa) (cs : List Component) (xs : List Entry) → AreAscending (numbers xs)
    → ((e : Entry) → IsIn e xs → length e.elems ≡ length cs)
    → ((e : Entry) (p edge : ℕ) → IsIn e xs → e.parent ≡ Some (p, edge)
    → edge < length cfa.edges)
    → IsStateOf cfa (initial_state cfa) → AreLines (PinComes cfa cs) (PinRoot cfa cs) xs
    → HavePart cs part.Point → (e : Entry) → IsIn e xs
    → ((i p : ℕ) → slice_get e.elems i ≡ Some (pin p) → Contains cfa.errors p)
    → (path : List ℕ) → IsPathTo xs e.number path
    → (AreSettled cfa path → (t : State) → WalksTo (StepsBy cfa) (initial_state cfa) path t
    → Contains cfa.errors t.point → ⊥) → RunsToInput cfa path
kept_inputs cfa cs xs up sized edges first lines has e there errs path way none =
    let on = leads_to (PinComes cfa cs) (PinRoot cfa cs) xs up lines e there e.number refl
    (reverse path) way in
    let walks = subst (λ (ns : List ℕ). WalksTo (PinComes cfa cs) on.first ns e.elems)
    (reverse-reverse path) on.walks in
    let within = subst (AllByRecursion (λ k. k < length cfa.edges)) (reverse-reverse path)
    (inside cfa cs xs up sized edges first e.number (reverse path) way) in
    ⊎_elim
    (λ settled.
    let run = pins_run cfa cs path on.first e.elems (initial_state cfa) within settled walks first
    on.root in
    let t = run.state in
    let at : slice_get e.elems has.place ≡ Some (pin t.point) =
    ap (λ (es : List Elem). slice_get es has.place) run.row
    ∙ pin_there cs t has.place has.component has.at
    ∙ ap (λ (w : Part). Some (pin_of w t)) has.is in
    absurd (none settled t run.runs (errs has.place t.point at)))
    (λ input.
    let whole = subst (λ (ns : List ℕ). WalksTo (PinComes cfa cs) on.first ns e.elems) input.is
    walks in
    let front = walks_front cfa cs (PinComes cfa cs) input.front (input.number ∷ input.back)
    on.first
    e.elems whole in
    let run = pins_run cfa cs input.front on.first front.0 (initial_state cfa)
    (all_front (λ k. k < length cfa.edges) input.front (input.number ∷ input.back)
    (subst (AllByRecursion (λ k. k < length cfa.edges)) input.is within))
    input.settled front.1 first on.root in
    record {
      front = input.front;
      number = input.number;
      back = input.back;
      is = input.is;
      settled = input.settled;
      edge = input.edge;
      at = input.at;
      input = input.input;
      state = run.state;
      runs = run.runs;
    })
    (first_input cfa path within)
