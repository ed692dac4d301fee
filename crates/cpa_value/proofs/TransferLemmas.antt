-- That the transfer of known values keeps the laws.
use Rattle.std.proofs.Common.{◌≡◌, ℕ, ◌+◌, ◌≤◌, ℤ, ◌==◌, Bool, true, false, List, [], ◌∷◌}
use Rattle.std.proofs.Common.{refl, sym, ap, ◌∙◌, subst, arith, length, map, inl, inr}
use Rattle.std.specs.Prelude.{zero, suc, Option, None, Some, slice_get, slice_index_or, IfSome}
use Rattle.std.specs.Prelude.{IsSomeAnd, if◌then◌else◌}
use Rattle.std.specs.List.{AllByRecursion, range_with_len}
use Rattle.std.proofs.lemmas.Bool.Decides.{Decides-eqb}
use Rattle.cpa_ints.specs.Integers.{IsInRange}
use Rattle.cpa_expr.specs.Cells.{AreValues}
use Rattle.cpa_facts.specs.declared.fact.Fact.{Fact}
use Rattle.cpa_facts.specs.declared.fact.Fact.TheVariants.{At, Stack, Equals, Within, Truth}
use Rattle.cpa_model.specs.declared.facts.Elem.{Elem}
use Rattle.cpa_model.specs.declared.states.State.{State}
use Rattle.cpa_model.specs.declared.program.Cell.{Cell}
use Rattle.cpa_model.specs.declared.automaton.Edge.{Edge}
use Rattle.cpa_model.specs.declared.automaton.Cfa.{Cfa}
use Rattle.cpa_model.specs.States.{state_at}
use Rattle.cpa_model.specs.Expressions.{types_of}
use Rattle.cpa_model.specs.Facts.{FactHolds, Holds, IsFact}
use Rattle.cpa_model.specs.Automata.{StepsAlong, IsAutomaton, IsStateOf}
use Rattle.cpa_iface.specs.declared.analysis.Part.TheVariants as part
use Rattle.cpa_iface.specs.declared.precisions.Precision.{Precision}
use Rattle.cpa_model.specs.Acts.{IsEdgeOf}
use Rattle.cpa_iface.specs.Meanings.{IsShaped}
use Rattle.cpa_iface.specs.Pins.{pin_of, equals_from, PinsStep, IsSettledBy, TracksAll}
use Rattle.cpa_iface.specs.Laws.{TransferLaws, SomeHolds, CoversEdge, PinsEdge, IsBounded}
use Rattle.cpa_value_changes.specs.Acts.{after_act}
use Rattle.cpa_folds.specs.Tracking.{is_tracked}
use Rattle.cpa_folds.specs.lemmas.Appending.{tracks}
use Rattle.cpa_value_changes.specs.Cells.{first_value, known_cells}
use Rattle.cpa_value.specs.Cells.{facts_from, elem_of}
use Rattle.cpa_value.specs.Transfer.{elems_of, next_values}
use Rattle.cpa_value.specs.Values.{values}
use Rattle.cpa_value.proofs.KnownLemmas.{AgreeCells}
use Rattle.cpa_value.proofs.RangeLemmas.{AreKnown, known_in_cell, shaped_known, facts_all}
use Rattle.cpa_value.proofs.RangeLemmas.{facts_few}
use Rattle.cpa_folds.specs.lemmas.ScalarReads.{StaysInRange}
use Rattle.cpa_value.proofs.StoreLemmas.{zip_length}
use Rattle.cpa_value.proofs.ActLemmas.{act_gives, act_known}
use Rattle.cpa_value.proofs.ExactLemmas.{IsExactStep, exact_act, one_step, steps_length}
use Rattle.cpa_value.proofs.ExactLemmas.{pinned_cells, pin_of_known}

-- facts that hold of a state give its cells their values
first_holds : (s : State) (fs : List Fact) (cell : ℕ) (v : ℤ) → AllByRecursion (FactHolds s) fs
    → first_value fs cell ≡ Some v → slice_get s.store.values cell ≡ Some v
first_holds s [] cell v all is = absurd (cc)
first_holds s (At p ∷ fs) cell v all is = first_holds s fs cell v all.1 is
first_holds s (Stack sites ∷ fs) cell v all is = first_holds s fs cell v all.1 is
first_holds s (Equals own w ∷ fs) cell v all is =
    by (own == cell) refl (first_holds s fs cell v all.1) is where
      by : (b : Bool) → (own == cell) ≡ b
          → (first_value fs cell ≡ Some v → slice_get s.store.values cell ≡ Some v)
          → (if b then Some w else first_value fs cell) ≡ Some v
          → slice_get s.store.values cell ≡ Some v
      by true same later is =
          let here : own ≡ cell = (Decides-eqb own cell).0 same in
          let value : w ≡ v = cc in
          subst (λ k. slice_get s.store.values k ≡ Some v) here (all.0 ∙ ap Some value)
      by false other later is = later is
first_holds s (Within c lo hi ∷ fs) cell v all is = first_holds s fs cell v all.1 is
first_holds s (Truth e h ∷ fs) cell v all is = first_holds s fs cell v all.1 is

mapped_range : (f : ℕ → Option ℤ) (k n i j : ℕ) (v : ℤ) → k + i ≡ j
    → slice_index_or (map f (range_with_len k n)) i None ≡ Some v → f j ≡ Some v
mapped_range f k zero i j v at is = absurd (cc)
mapped_range f k (suc n) zero j v at is = let here : k ≡ j = omega (arith, at) in
    subst (λ c. f c ≡ Some v) here is
mapped_range f k (suc n) (suc i) j v at is = mapped_range f (k + 1) n i j v (omega (arith, at)) is

-- so do the known cells of an element of a state
pub known_agree : (s : State) (n : ℕ) (fs : List Fact) → AllByRecursion (FactHolds s) fs
    → AgreeCells (known_cells n fs) s.store.values
known_agree s n fs all cell v is = first_holds s fs cell v all
    (mapped_range (first_value fs) 0 n cell cell v (omega arith) is)

-- and the facts of known cells of a state hold of it
pub facts_hold : (s : State) (tracked : ℕ → Bool) (os : List (Option ℤ))
    → AgreeCells os s.store.values → AllByRecursion (FactHolds s) (facts_from tracked 0 os)
facts_hold s tracked os agree = facts_all (FactHolds s) tracked 0 os (λ i j v at is.
    let here : i ≡ j = omega (arith, at) in
    subst (λ c. slice_get s.store.values c ≡ Some v) here (agree i v is))

some_elem : (t : State) (tracked : ℕ → Bool) (o : Option (List (Option ℤ)))
    → IsSomeAnd o (λ after. AgreeCells after t.store.values) → SomeHolds t (elems_of tracked o)
some_elem t tracked None gives = absurd gives
some_elem t tracked (Some after) gives = inl (facts_hold t tracked after gives)

covers : (stays : StaysInRange) (cfa : Cfa) (p : Precision) (e : Elem) (g : Edge) (s t : State)
    → IsEdgeOf cfa g → Holds e s → StepsAlong cfa g s t
    → SomeHolds t (next_values cfa p e g)
covers stays cfa p e g s t sound holds along =
    let cells = known_cells (length cfa.cells) e.facts in
    some_elem t (is_tracked p) (after_act (is_tracked p) g.act cells)
    (act_gives stays cfa (is_tracked p) g.act cells s.store.values t.store.values sound.act
    along.before.store
    (known_agree s (length cfa.cells) e.facts holds) along.store)

-- what holds of each fact of known cells holds of all facts that are given
all_elems : (P : Elem → Type 0) (tracked : ℕ → Bool) (o : Option (List (Option ℤ)))
    → IfSome o (λ after. P (elem_of tracked after)) → AllByRecursion P (elems_of tracked o)
all_elems P tracked None each = tt
all_elems P tracked (Some after) each = (each, tt)

pub each_some : {X : Type 0} (P Q : X → Type 0) (o : Option X) → ((x : X) → P x → Q x) → IfSome o P
    → IfSome o Q
each_some P Q None f h = tt
each_some P Q (Some x) f h = f x h

pub known_shaped : (cfa : Cfa) (tracked : ℕ → Bool) (os : List (Option ℤ)) → AreKnown cfa.cells os
    → IsShaped cfa (elem_of tracked os)
known_shaped cfa tracked os known =
    facts_all (IsFact cfa.cells cfa.points) tracked 0 os (λ i j v at is.
    let here : i ≡ j = omega (arith, at) in
    subst (λ c. IsSomeAnd (slice_get cfa.cells c) (λ cell. IsInRange cell.ty v)) here
    (known_in_cell cfa.cells os i v known is))

pub known_length : (cs : List Cell) (os : List (Option ℤ)) → AreKnown cs os → length os ≡ length cs
known_length [] [] all = refl
known_length [] (o ∷ os) all = absurd all
known_length (c ∷ cs) [] all = absurd all
known_length (c ∷ cs) (o ∷ os) all = ap suc (known_length cs os all.1)

after_known : (stays : StaysInRange) (cfa : Cfa) (p : Precision) (e : Elem) (g : Edge)
    (store : List ℤ) → AllByRecursion (λ c. IsInRange c.ty c.start) cfa.cells
    → AreValues (types_of cfa.cells) store → IsEdgeOf cfa g → IsShaped cfa e
    → IfSome (after_act (is_tracked p) g.act (known_cells (length cfa.cells) e.facts))
    (AreKnown cfa.cells)
after_known stays cfa p e g store starts all sound shaped =
    act_known stays cfa store (is_tracked p) g.act
    (known_cells (length cfa.cells) e.facts) starts all sound.act
    (shaped_known cfa.cells cfa.points e.facts shaped)

-- the start of each cell is a value of it
pub starts_values : (cs : List Cell) → AllByRecursion (λ c. IsInRange c.ty c.start) cs
    → AreValues (types_of cs) (map (λ c. c.start) cs)
starts_values [] all = tt
starts_values (c ∷ cs) all = (all.0, starts_values cs all.1)

pub starts_of : (cfa : Cfa) → IsAutomaton cfa
    → AllByRecursion (λ c. IsInRange c.ty c.start) cfa.cells
starts_of cfa a = subst (AllByRecursion (λ c. IsInRange c.ty c.start))
    (sym a.automaton.cells) a.well_formed.starts

types_length : (cs : List Cell) → length (types_of cs) ≡ length cs
types_length [] = refl
types_length (c ∷ cs) = ap suc (types_length cs)

-- the one element of a store that is known whole
exact_elems : (cfa : Cfa) (p : Precision) (g : Edge) (s : State) (es : List Elem)
    (o : Option (List (Option ℤ))) → IsSettledBy part.Store g.act → TracksAll cfa p
    → length s.store.values ≡ length cfa.cells → es ≡ elems_of (is_tracked p) o
    → IsExactStep cfa.cells g.act s.store.values o
    → PinsStep part.Store cfa g s es
exact_elems cfa p g s es o settled all long is (inl (new, moved, o_is)) = record {
  step = λ t moves.
      let same : new ≡ t.store.values =
      one_step cfa.cells g.act s.store.values new t.store.values settled moved moves in
      let kept : length new ≡ length s.store.values =
      steps_length cfa.cells g.act s.store.values new moved in
      let pin : facts_from (is_tracked p) 0 (map Some new) ≡ equals_from 0 new =
      pin_of_known (is_tracked p) 0 new (λ i j at inside.
      let found = all.cells j (omega (arith, at, inside, kept, long)) in
      tracks p.tracked j found.0 found.1 found.2) in
      is
      ∙ (ap (elems_of (is_tracked p)) o_is
      ∙ ap (λ (fs : List Fact). let e : Elem = record { facts = fs } in e ∷ [])
      (pin ∙ ap (equals_from 0) same));
  stuck = λ none. absurd (none (state_at 0 [] new) moved);
}
exact_elems cfa p g s es o settled all long is (inr (none, o_is)) = record {
  step = λ t moves. absurd (none t.store.values moves);
  stuck = λ _. is ∙ ap (elems_of (is_tracked p)) o_is;
}

-- of the pin of a store, where all cells are tracked
steps : (cfa : Cfa) (p : Precision) (g : Edge) (s : State) → IsEdgeOf cfa g
    → IsSettledBy part.Store g.act → IsStateOf cfa s → TracksAll cfa p
    → PinsStep part.Store cfa g s (next_values cfa p (pin_of part.Store s) g)
steps cfa p g s sound settled state all =
    let old = s.store.values in
    let long : length old ≡ length cfa.cells = sym (zip_length (types_of cfa.cells) old state.store)
    ∙ types_length cfa.cells in
    exact_elems cfa p g s (next_values cfa p (pin_of part.Store s) g)
    (after_act (is_tracked p) g.act (map Some old)) settled all long
    (ap (λ l. elems_of (is_tracked p) (after_act (is_tracked p) g.act l))
    (pinned_cells (length cfa.cells) old long))
    (exact_act cfa (is_tracked p) g.act old sound.act settled state.store)

same_edge : (cfa : Cfa) (edge : ℕ) (g h : Edge) → slice_get cfa.edges edge ≡ Some g
    → slice_get cfa.edges edge ≡ Some h → g ≡ h
same_edge cfa edge g h p q = cc

pinned : (cfa : Cfa) (edge : ℕ) (e : Elem) (p : Precision) (g : Edge) → IsEdgeOf cfa g
    → TracksAll cfa p → slice_get cfa.edges edge ≡ Some g
    → PinsEdge values cfa edge e (next_values cfa p e g)
pinned cfa edge e p g sound all at h s ath settled state is =
    let same = same_edge cfa edge g h at ath in
    subst (λ x. PinsStep part.Store cfa x s (next_values cfa p e g)) same
    (subst (λ x. PinsStep part.Store cfa g s (next_values cfa p x g)) (sym is)
    (steps cfa p g s sound (subst (λ x. IsSettledBy part.Store x.act) (sym same) settled) state
    all))

covered : (stays : StaysInRange) (cfa : Cfa) (edge : ℕ) (e : Elem) (p : Precision) (g : Edge)
    → IsEdgeOf cfa g → slice_get cfa.edges edge ≡ Some g
    → CoversEdge cfa edge e (next_values cfa p e g)
covered stays cfa edge e p g sound at h s t ath holds along =
    covers stays cfa p e g s t sound holds
    (subst (λ x. StepsAlong cfa x s t) (same_edge cfa edge h g ath at) along)

-- the laws of transfer
pub next_values-laws : (stays : StaysInRange) (cfa : Cfa) (edge : ℕ) (e : Elem) (p : Precision)
    (g : Edge) → IsAutomaton cfa → IsEdgeOf cfa g → IsShaped cfa e
    → slice_get cfa.edges edge ≡ Some g → TransferLaws values cfa edge e p (next_values cfa p e g)
next_values-laws stays cfa edge e p g a sound shaped at =
    let o = after_act (is_tracked p) g.act (known_cells (length cfa.cells) e.facts) in
    let starts = starts_of cfa a in
    let known = after_known stays cfa p e g (map (λ c. c.start) cfa.cells) starts
    (starts_values cfa.cells starts) sound shaped in
    record {
      shaped = all_elems (IsShaped cfa) (is_tracked p) o
          (each_some (AreKnown cfa.cells) (λ after. IsShaped cfa (elem_of (is_tracked p) after)) o
          (λ after. known_shaped cfa (is_tracked p) after) known);
      covers = covered stays cfa edge e p g sound at;
      exact = λ all. pinned cfa edge e p g sound all at;
      bounded = λ _. all_elems (λ x. IsBounded values cfa x p) (is_tracked p) o
          (each_some (AreKnown cfa.cells)
          (λ after. IsBounded values cfa (elem_of (is_tracked p) after) p) o
          (λ after all.
          let few : length (facts_from (is_tracked p) 0 after) ≤ length after =
          facts_few (is_tracked p) 0 after in
          let long : length after ≡ length cfa.cells = known_length cfa.cells after all in
          omega (arith, few, long)) known);
      told = λ h ath. ap (next_values cfa p e) (same_edge cfa edge g h at ath);
    }
