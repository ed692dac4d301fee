-- The keys of the pairs that fit: steps do not leave them (`pairs_closed`), each entry has one, and
-- where no two have the same, a path is shorter than the pairs are many (`kept_short`).
use Rattle.std.proofs.Common.{◌≡◌, ℕ, ◌<◌, true, List, [], ◌∷◌, length, Some}
use Rattle.std.proofs.Common.{None, Option, refl, sym, ap, ◌∙◌, subst, inl, inr, ⊎_elim, arith}
use Rattle.std.specs.Prelude.{reverse}
use Rattle.std.specs.List.{slice_get}
use Rattle.std.proofs.lemmas.Bool.{cases_Bool}
use Rattle.std.proofs.lemmas.List.{length-map, length-reverse}
use Rattle.std.proofs.lemmas.Option.{same_Some}
use Rattle.cpa_facts.specs.declared.fact.Fact.{Fact}
use Rattle.cpa_facts.specs.declared.fact.Fact.TheVariants.{At, Stack, Equals, Within, Truth}
use Rattle.cpa_model.specs.declared.automaton.Cfa.{Cfa}
use Rattle.cpa_model.specs.declared.automaton.Edge.{Edge}
use Rattle.cpa_model.specs.declared.facts.Elem.{Elem}
use Rattle.cpa_model.specs.declared.states.State.{State}
use Rattle.cpa_model.specs.declared.program.Program.{Program}
use Rattle.cpa_model.specs.Automata.{IsStateOf, IsAutomatonOf, initial_state}
use Rattle.cpa_model.specs.Programs.{IsWellFormed, function_body}
use Rattle.cpa_model.specs.States.{state_at}
use Rattle.cpa_model.specs.Steps.{StepsStack}
use Rattle.cpa_model.specs.lemmas.Lists.{in_list}
use Rattle.cpa_interp.specs.lemmas.Calling.{Fits, moves_fit, calls_none}
use Rattle.cpa_iface.specs.declared.analysis.Part.{Part}
use Rattle.cpa_iface.specs.declared.analysis.Part.TheVariants as part
use Rattle.cpa_iface.specs.declared.entries.Entry.{Entry}
use Rattle.cpa_iface.specs.Pins.{pin, pin_of, StepsPart}
use Rattle.cpa_composite.specs.Components.{Component}
use Rattle.cpa_composite.specs.Exact.{IsControl, pins}
use Rattle.cpa_composite.specs.Keys.{is_key}
use Rattle.cpa_model.specs.Ascending.{AreAscending}
use Rattle.cpa_reached.specs.Members.{IsIn}
use Rattle.cpa_reached.specs.Entries.{numbers}
use Rattle.cpa_reached.specs.Paths.{LeadsBack, IsPathTo}
use Rattle.cpa_engine_turn.specs.Bounds.{KeysStep}
use Rattle.cpa_engine_turn.specs.Keys.{key_of, HaveOwnKeys}
use Rattle.cpa_engine_turn.specs.Points.{point_in}
use Rattle.cpa_engine_turn.specs.lemmas.Keyed.{key_at, key_control, pins_size, pin_there}
use Rattle.cpa_engine_turn.specs.lemmas.Lists.{in_map_of, of_map}
use Rattle.cpa_engine_laws.specs.Chains.{HaveApart, WalksTo}
use Rattle.cpa_engine_laws.specs.Lines.{AreLines, KeyComes, KeyRoot}
use Rattle.cpa_engine_laws.specs.Pairs.{ArePairs, pair_key, pair_keys}
use Rattle.cpa_engine_laws.specs.lemmas.KeyWays.{Steps, ends_at, step_at, key_of_point}
use Rattle.cpa_engine_laws.specs.lemmas.KeyWays.{key_of_stack}
use Rattle.cpa_engine_laws.specs.lemmas.Ways.{way_below}

-- the stack that a fact names
stack_in : List Fact → Option (List ℕ)
stack_in [] = None
stack_in (At p ∷ facts) = stack_in facts
stack_in (Stack sites ∷ facts) = Some sites
stack_in (Equals c v ∷ facts) = stack_in facts
stack_in (Within c lo hi ∷ facts) = stack_in facts
stack_in (Truth e h ∷ facts) = stack_in facts

stack_pin : (s t : State) → pin_of part.Stack s ≡ pin_of part.Stack t → s.stack ≡ t.stack
unfolding stack_in
stack_pin s t same = same_Some s.stack t.stack (ap (λ (e : Elem). stack_in e.facts) same)

point_pin : (s t : State) → pin_of part.Point s ≡ pin_of part.Point t → s.point ≡ t.point
point_pin s t same = same_Some s.point t.point (ap (λ (e : Elem). point_in e.facts) same)

-- a pin of control is one of the point or of the stack
control_pin : (which : Part) (s t : State) → IsControl which → s.point ≡ t.point
    → s.stack ≡ t.stack → pin_of which s ≡ pin_of which t
control_pin which s t (inl is) point stack =
    subst (λ (w : Part). pin_of w s ≡ pin_of w t) (sym is) (ap pin point)
control_pin which s t (inr is) point stack =
    subst (λ (w : Part). pin_of w s ≡ pin_of w t) (sym is)
    (ap (λ (sites : List ℕ). record { facts = Stack sites ∷ [] }) stack)

pub key_by_control : (cs : List Component) (s t : State) → s.point ≡ t.point → s.stack ≡ t.stack
    → key_of cs (pins cs s) ≡ key_of cs (pins cs t)
key_by_control [] s t point stack = refl
key_by_control (c ∷ cs) s t point stack =
    let later = key_by_control cs s t point stack in
    ⊎_elim
    (λ key.
    let first = control_pin c.meaning.part s t (key_control c key) point stack in
    rw key (ap (λ (e : Elem). e ∷ key_of cs (pins cs s)) first
    ∙ ap (λ (l : List Elem). pin_of c.meaning.part t ∷ l) later))
    (λ other. rw other later)
    (cases_Bool (is_key c))

module _ (cfa : Cfa) (cs : List Component) (points : HaveApart cs part.Point)
    (stacks : HaveApart cs part.Stack) where
  -- a key tells point and stack
  pub key_tells : (s t : State) → key_of cs (pins cs s) ≡ key_of cs (pins cs t)
      → (s.point ≡ t.point) × (s.stack ≡ t.stack)
  key_tells s t same =
      let p = points.component in
      let k = stacks.component in
      let one = key_at cs (pins cs s) (pins cs t) (pins_size cs s) (pins_size cs t) same
      points.place
      p (pin_of p.meaning.part s) (pin_of p.meaning.part t) points.at
      (pin_there cs s points.place p points.at) (pin_there cs t points.place p points.at)
      (key_of_point cfa cs p points.is points.sep) in
      let two = key_at cs (pins cs s) (pins cs t) (pins_size cs s) (pins_size cs t) same
      stacks.place
      k (pin_of k.meaning.part s) (pin_of k.meaning.part t) stacks.at
      (pin_there cs s stacks.place k stacks.at) (pin_there cs t stacks.place k stacks.at)
      (key_of_stack cfa cs k stacks.is stacks.sep) in (
        point_pin s t (subst (λ (w : Part). pin_of w s ≡ pin_of w t) points.is one),
        stack_pin s t (subst (λ (w : Part). pin_of w s ≡ pin_of w t) stacks.is two),
      )

  -- the steps of point and stack are among those of the parts that tell entries apart
  control_step : (g : Edge) (s t : State) → KeysStep cfa cs g s t
      → (s.point ≡ g.from) × (t.point ≡ g.to) × StepsStack g.act s.stack t.stack
  control_step g s t step =
      let p = points.component in
      let c = stacks.component in
      let one = subst (λ (w : Part). StepsPart w cfa g s t) points.is
      (step_at cfa cs cs (λ d. is_key d ≡ true → StepsPart d.meaning.part cfa g s t) points.place p
      step points.at (key_of_point cfa cs p points.is points.sep)) in
      let two = subst (λ (w : Part). StepsPart w cfa g s t) stacks.is
      (step_at cfa cs cs (λ d. is_key d ≡ true → StepsPart d.meaning.part cfa g s t) stacks.place c
      step stacks.at (key_of_stack cfa cs c stacks.is stacks.sep)) in
      (one.0, one.1, two)

  -- what fits goes on to fit
  steps_fit : (P : Program) → IsWellFormed P → IsAutomatonOf P cfa → (k : ℕ) (g : Edge)
      (s t : State) → slice_get cfa.edges k ≡ Some g → KeysStep cfa cs g s t
      → Fits P s.point s.stack → Fits P t.point t.stack
  steps_fit P W of k g s t at step fits =
      let moves = control_step g s t step in
      subst (λ (q : ℕ). Fits P q t.stack) (sym moves.1)
      (moves_fit P W g.from g.act g.to s.stack t.stack (of.moves g (in_list cfa.edges k g at))
      moves.2
      (subst (λ (q : ℕ). Fits P q s.stack) moves.0 fits))

  fits_on : (P : Program) → IsWellFormed P → IsAutomatonOf P cfa → (path : List ℕ) (s t : State)
      → WalksTo (Steps cfa cs) s path t → Fits P s.point s.stack → Fits P t.point t.stack
  fits_on P W of [] s t walks fits =
      subst (λ (u : State). Fits P u.point u.stack) (sym walks) fits
  fits_on P W of (n ∷ path) s t (m, (g, at, is, step), walks) fits =
      fits_on P W of path m t walks (steps_fit P W of n g s m at step fits)

-- the start fits
pub start_fits : (P : Program) (cfa : Cfa) → IsAutomatonOf P cfa → Fits P cfa.start []
start_fits P cfa of = record {
  function = P.main;
  stands = inl (function_body of.start);
  calls = calls_none refl refl;
}

-- the key of a state whose point and stack fit is among those of the pairs
pub key_there : (P : Program) (cs : List Component) (pairs : List (ℕ × List ℕ)) → ArePairs P pairs
    → (t : State) → Fits P t.point t.stack → IsIn (key_of cs (pins cs t)) (pair_keys cs pairs)
key_there P cs pairs are t fits =
    subst (λ (k : List Elem). IsIn k (pair_keys cs pairs))
    (key_by_control cs (state_at t.point t.stack []) t refl refl)
    (in_map_of (pair_key cs) pairs (t.point, t.stack) ((are t.point t.stack).0 fits))

-- the keys of the pairs are closed
pub pairs_closed : (P : Program) (cfa : Cfa) (cs : List Component) (pairs : List (ℕ × List ℕ))
    → IsWellFormed P → IsAutomatonOf P cfa → ArePairs P pairs → HaveApart cs part.Point
    → HaveApart cs part.Stack → (k : ℕ) (g : Edge) (s t : State) → slice_get cfa.edges k ≡ Some g
    → KeysStep cfa cs g s t → IsIn (key_of cs (pins cs s)) (pair_keys cs pairs)
    → IsIn (key_of cs (pins cs t)) (pair_keys cs pairs)
pairs_closed P cfa cs pairs W of are points stacks k g s t at step there =
    let from = of_map (pair_key cs) pairs (key_of cs (pins cs s)) there in
    let pair = from.0 in
    let tells = key_tells cfa cs points stacks (state_at pair.0 pair.1 []) s from.2 in
    let fits : Fits P s.point s.stack =
    subst (λ (p : ℕ). Fits P p s.stack) tells.0
    (subst (λ (calls : List ℕ). Fits P pair.0 calls) tells.1 ((are pair.0 pair.1).1 from.1)) in
    key_there P cs pairs are t (steps_fit cfa cs points stacks P W of k g s t at step fits)

entry_of : (xs : List Entry) (n : ℕ) (back : List ℕ) → LeadsBack xs n back
    → (e : Entry) × IsIn e xs × (e.number ≡ n)
entry_of xs n [] (e, there, is, none) = (e, there, is)
entry_of xs n (edge ∷ back) (e, p, there, is, has, rest) = (e, there, is)

pub kept_short : (P : Program) (cfa : Cfa) (cs : List Component) (xs : List Entry)
    (pairs : List (ℕ × List ℕ)) → AreAscending (numbers xs)
    → ((e : Entry) → IsIn e xs → length e.elems ≡ length cs)
    → ((e : Entry) (p edge : ℕ) → IsIn e xs → e.parent ≡ Some (p, edge)
    → edge < length cfa.edges)
    → IsStateOf cfa (initial_state cfa) → AreLines (KeyComes cfa cs) (KeyRoot cfa cs) xs
    → HaveApart cs part.Point → HaveApart cs part.Stack → HaveOwnKeys cs xs → IsWellFormed P
    → IsAutomatonOf P cfa → ArePairs P pairs → (n : ℕ) (path : List ℕ) → IsPathTo xs n path
    → length path < length pairs
kept_short P cfa cs xs pairs up sized edges first lines points stacks own W of are n path way =
    let below = way_below
    (λ m k. (e : Entry) × IsIn e xs × (e.number ≡ m) × (key_of cs e.elems ≡ k)) xs up n
    (reverse path) way (pair_keys cs pairs)
    (λ m behind his.
    let e = entry_of xs m behind his in
    let ends = ends_at cfa cs xs up sized edges first lines e.0 e.1 m e.2 behind his in
    let t = ends.state in
    let fits = fits_on cfa cs points stacks P W of (reverse behind) (initial_state cfa) t ends.walks
    (start_fits P cfa of) in (
      key_of cs e.0.elems,
      (e.0, e.1, e.2, refl),
      subst (λ (k : List Elem). IsIn k (pair_keys cs pairs)) (sym ends.key)
          (key_there P cs pairs are t fits),
    ))
    (λ m j k x y. sym x.2 ∙ own x.0 y.0 x.1 y.1 (x.3 ∙ sym y.3) ∙ y.2) in
    let size : length (pair_keys cs pairs) ≡ length pairs = length-map pairs (pair_key cs) in
    let back : length (reverse path) ≡ length path = length-reverse path in
    omega (arith, below, size, back)
