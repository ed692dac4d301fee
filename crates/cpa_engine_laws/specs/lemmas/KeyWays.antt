-- The states to which the parts step along the way to an entry (`ends_at`), whose points and call
-- sites chain (`kept_points`, `kept_sites`).
use Rattle.std.proofs.Common.{◌≡◌, ℕ, zero, suc, ◌<◌, true, ◌&&◌, List, [], ◌∷◌}
use Rattle.std.proofs.Common.{length, Some, refl, sym, ap, ◌∙◌, subst, arith}
use Rattle.std.specs.Prelude.{reverse}
use Rattle.std.specs.List.{slice_get, AllByRecursion, Contains}
use Rattle.std.proofs.lemmas.List.{reverse-reverse, reverse-append}
use Rattle.std.proofs.lemmas.Option.{same_Some, slice_get_within}
use Rattle.cpa_model.specs.declared.automaton.Cfa.{Cfa}
use Rattle.cpa_model.specs.declared.automaton.Edge.{Edge}
use Rattle.cpa_model.specs.declared.automaton.Path.{Path}
use Rattle.cpa_model.specs.declared.facts.Elem.{Elem}
use Rattle.cpa_model.specs.declared.states.State.{State}
use Rattle.cpa_model.specs.Automata.{IsStateOf, initial_state}
use Rattle.cpa_model.specs.lemmas.Lists.{AllByRecursion-push}
use Rattle.cpa_iface.specs.declared.analysis.Part.{Part}
use Rattle.cpa_iface.specs.declared.analysis.Part.TheVariants as part
use Rattle.cpa_iface.specs.declared.entries.Entry.{Entry}
use Rattle.cpa_iface.specs.declared.merging.MergeRule.{MergeRule}
use Rattle.cpa_iface.specs.declared.merging.MergeRule.TheVariants.{Sep}
use Rattle.cpa_iface.specs.Meanings.{IsPathOf}
use Rattle.cpa_iface.specs.Pins.{pin, pin_of, StepsPart}
use Rattle.cpa_composite.specs.Comparisons.{keeps_apart}
use Rattle.cpa_composite.specs.Components.{Component}
use Rattle.cpa_composite.specs.Exact.{pins}
use Rattle.cpa_composite.specs.Keys.{is_control, is_key}
use Rattle.cpa_model.specs.Ascending.{AreAscending}
use Rattle.cpa_reached.specs.Members.{IsIn}
use Rattle.cpa_reached.specs.Entries.{numbers}
use Rattle.cpa_reached.specs.Paths.{LeadsBack, IsPathTo}
use Rattle.cpa_engine_turn.specs.Bounds.{KeysStep}
use Rattle.cpa_engine_turn.specs.Keys.{key_of}
use Rattle.cpa_engine_turn.specs.Turns.{AreEntries}
use Rattle.cpa_engine_turn.specs.lemmas.Keyed.{key_at, pins_size, pin_there, there_is}
use Rattle.cpa_engine_laws.specs.Chains.{HaveApart, WalksTo, PointsChain, SitesChain}
use Rattle.cpa_engine_laws.specs.Lines.{AreLines, KeyComes, KeyRoot}
use Rattle.cpa_engine_laws.specs.lemmas.Ways.{leads_to}
use Rattle.cpa_engine_laws.specs.lemmas.Working.{edges_of}

pub all_reverse : (P : ℕ → Type 0) (ns : List ℕ) → AllByRecursion P ns
    → AllByRecursion P (reverse ns)
all_reverse P [] all = tt
all_reverse P (n ∷ ns) all =
    subst (AllByRecursion P) (sym (reverse-append (n ∷ []) ns))
    (AllByRecursion-push P (reverse ns) n (all_reverse P ns all.1) all.0)

-- the edges of a way are those of entries
pub way_inside : (P : ℕ → Type 0) (xs : List Entry)
    → ((e : Entry) (p edge : ℕ) → IsIn e xs → e.parent ≡ Some (p, edge) → P edge) → (n : ℕ)
    → (back : List ℕ) → LeadsBack xs n back → AllByRecursion P back
way_inside P xs each n [] way = tt
way_inside P xs each n (edge ∷ back) (e, p, there, is, has, rest) =
    (each e p edge there has, way_inside P xs each p back rest)

module _ (cfa : Cfa) (cs : List Component) where
  -- states whose parts step along the edges
  abbrev pub Steps : ℕ → State → State → Type 0
  Steps n s t =
      (g : Edge) × (slice_get cfa.edges n ≡ Some g) × IsStateOf cfa t × KeysStep cfa cs g s t

  pub record Ends (s : State) (path : List ℕ) (fs : List Elem) : Type 0 where
    pub state : State
    pub is_state : IsStateOf cfa state
    pub key : key_of cs fs ≡ key_of cs (pins cs state)
    pub walks : WalksTo Steps s path state

  pub control_walks : (path : List ℕ) (es fs : List Elem) (s : State)
      → AllByRecursion (λ n. n < length cfa.edges) path → WalksTo (KeyComes cfa cs) es path fs
      → IsStateOf cfa s → key_of cs es ≡ key_of cs (pins cs s) → Ends s path fs
  control_walks [] es fs s inside walks is key = record {
    state = s;
    is_state = is;
    key = ap (λ (xs : List Elem). key_of cs xs) walks ∙ key;
    walks = refl;
  }
  control_walks (n ∷ path) es fs s inside walks is key =
      let g = there_is cfa.edges n inside.0 in
      let on = walks.1 g.0 s g.1 is key in
      let rest = control_walks path walks.0 fs on.state inside.1 walks.2 on.is_state on.key in
      record {
        state = rest.state;
        is_state = rest.is_state;
        key = rest.key;
        walks = (on.state, (g.0, g.1, on.is_state, on.step), rest.walks);
      }

  -- one component of them
  pub step_at : (ds : List Component) (P : Component → Type 0) (i : ℕ) (c : Component)
      → AllByRecursion P ds → slice_get ds i ≡ Some c → P c
  step_at [] P i c all at = absurd (cc)
  step_at (d ∷ ds) P zero c all at = subst P (same_Some d c at) all.0
  step_at (d ∷ ds) P (suc i) c all at = step_at ds P i c all.1 at

  pub key_of_point : (c : Component) → c.meaning.part ≡ part.Point → c.rule ≡ Sep → is_key c ≡ true
  key_of_point c is sep =
      ap (λ (w : Part). is_control w && keeps_apart c.rule) is
      ∙ ap (λ (r : MergeRule). keeps_apart r) sep

  pub key_of_stack : (c : Component) → c.meaning.part ≡ part.Stack → c.rule ≡ Sep → is_key c ≡ true
  key_of_stack c is sep =
      ap (λ (w : Part). is_control w && keeps_apart c.rule) is
      ∙ ap (λ (r : MergeRule). keeps_apart r) sep

  pub points_chain : HaveApart cs part.Point → (path : List ℕ) (s t : State)
      → WalksTo Steps s path t → PointsChain cfa s.point path t.point
  points_chain has [] s t walks = ap (λ (u : State). u.point) walks
  points_chain has (n ∷ path) s t (m, (g, at, is, step), walks) =
      let c = has.component in
      let one : StepsPart c.meaning.part cfa g s m =
      step_at cs (λ d. is_key d ≡ true → StepsPart d.meaning.part cfa g s m) has.place c step has.at
      (key_of_point c has.is has.sep) in
      let moves = subst (λ (w : Part). StepsPart w cfa g s m) has.is one in (
        g,
        at,
        sym moves.0,
        subst (λ (p : ℕ). PointsChain cfa p path t.point) moves.1
            (points_chain has path m t walks),
      )

  pub sites_chain : HaveApart cs part.Stack → (path : List ℕ) (s t : State)
      → WalksTo Steps s path t → SitesChain cfa s.stack path t.stack
  sites_chain has [] s t walks = ap (λ (u : State). u.stack) walks
  sites_chain has (n ∷ path) s t (m, (g, at, is, step), walks) =
      let c = has.component in
      let one : StepsPart c.meaning.part cfa g s m =
      step_at cs (λ d. is_key d ≡ true → StepsPart d.meaning.part cfa g s m) has.place c step has.at
      (key_of_stack c has.is has.sep) in (
        g,
        m.stack,
        at,
        subst (λ (w : Part). StepsPart w cfa g s m) has.is one,
        sites_chain has path m t walks,
      )

module _ (cfa : Cfa) (cs : List Component) (xs : List Entry) (up : AreAscending (numbers xs))
    (sized : (e : Entry) → IsIn e xs → length e.elems ≡ length cs)
    (edges : (e : Entry) (p edge : ℕ) → IsIn e xs → e.parent ≡ Some (p, edge)
    → edge < length cfa.edges)
    (first : IsStateOf cfa (initial_state cfa)) where
  pub inside : (n : ℕ) (back : List ℕ) → LeadsBack xs n back
      → AllByRecursion (λ k. k < length cfa.edges) (reverse back)
  inside n back way =
      all_reverse (λ k. k < length cfa.edges) back
      (way_inside (λ k. k < length cfa.edges) xs edges n back way)

  -- the states to which the parts step along a way
  pub ends_at : AreLines (KeyComes cfa cs) (KeyRoot cfa cs) xs → (e : Entry) → IsIn e xs → (n : ℕ)
      → e.number ≡ n → (back : List ℕ) → LeadsBack xs n back
      → Ends cfa cs (initial_state cfa) (reverse back) e.elems
  ends_at lines e there n is back way =
      let on = leads_to (KeyComes cfa cs) (KeyRoot cfa cs) xs up lines e there n is back way in
      control_walks cfa cs (reverse back) on.first e.elems (initial_state cfa) (inside n back way)
      on.walks first on.root

  -- how points and call sites chain
  pub kept_points : AreLines (KeyComes cfa cs) (KeyRoot cfa cs) xs → (has : HaveApart cs part.Point)
      → (e : Entry) → IsIn e xs
      → ((i p : ℕ) → slice_get e.elems i ≡ Some (pin p) → Contains cfa.errors p)
      → (path : List ℕ) → IsPathTo xs e.number path
      → (q : ℕ) × PointsChain cfa cfa.start path q × Contains cfa.errors q
  kept_points lines has e there errs path way =
      let ends = ends_at lines e there e.number refl (reverse path) way in
      let c = has.component in
      let place = slice_get_within cs has.place c has.at in
      let long = sized e there in
      let x = there_is e.elems has.place (omega (arith, place, long)) in
      let same : x.0 ≡ pin_of c.meaning.part ends.state =
      key_at cs e.elems (pins cs ends.state) long (pins_size cs ends.state) ends.key has.place c x.0
      (pin_of c.meaning.part ends.state) has.at x.1 (pin_there cs ends.state has.place c has.at)
      (key_of_point cfa cs c has.is has.sep) in
      let at : slice_get e.elems has.place ≡ Some (pin ends.state.point) =
      x.1 ∙ ap Some (subst (λ (w : Part). x.0 ≡ pin_of w ends.state) has.is same) in
      let chain = points_chain cfa cs has (reverse (reverse path)) (initial_state cfa) ends.state
      ends.walks in (
        ends.state.point,
        subst (λ (ns : List ℕ). PointsChain cfa cfa.start ns ends.state.point)
            (reverse-reverse path) chain,
        errs has.place ends.state.point at,
      )

  pub kept_sites : AreLines (KeyComes cfa cs) (KeyRoot cfa cs) xs → HaveApart cs part.Stack
      → (e : Entry) → IsIn e xs → (path : List ℕ) → IsPathTo xs e.number path
      → (last : List ℕ) × SitesChain cfa [] path last
  kept_sites lines has e there path way =
      let ends = ends_at lines e there e.number refl (reverse path) way in (
        ends.state.stack,
        subst (λ (ns : List ℕ). SitesChain cfa [] ns ends.state.stack) (reverse-reverse path)
            (sites_chain cfa cs has (reverse (reverse path)) (initial_state cfa) ends.state
            ends.walks),
      )

-- a path to an entry
pub path_inside : (cfa : Cfa) (count : ℕ) (xs : List Entry) (n : ℕ) (path : Path)
    → AreEntries cfa count xs → IsPathTo xs n path.edges → IsPathOf cfa path
path_inside cfa count xs n path are way =
    subst (AllByRecursion (λ k. k < length cfa.edges)) (reverse-reverse path.edges)
    (all_reverse (λ k. k < length cfa.edges) (reverse path.edges)
    (way_inside (λ k. k < length cfa.edges) xs (edges_of cfa count xs are) n (reverse path.edges)
    way))
