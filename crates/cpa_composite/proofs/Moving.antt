-- A row of successors is that of a state to which the parts step: no such state has to be known.
use Rattle.std.proofs.Common.{◌≡◌, ℕ, ◌<◌, List, [], ◌∷◌, length, Some, refl, sym}
use Rattle.std.proofs.Common.{subst, inl, inr, ⊎_elim, arith}
use Rattle.std.specs.Prelude.{◌⊎◌}
use Rattle.std.specs.List.{slice_get, AllByRecursion}
use Rattle.std.proofs.lemmas.Bool.Decides.{eqb_tells}
use Rattle.std.proofs.lemmas.Option.{slice_get_within}
use Rattle.cpa_model.specs.declared.automaton.Act.{Act}
use Rattle.cpa_model.specs.declared.automaton.Act.TheVariants as act
use Rattle.cpa_model.specs.declared.automaton.Cfa.{Cfa}
use Rattle.cpa_model.specs.declared.automaton.Edge.{Edge}
use Rattle.cpa_model.specs.declared.facts.Elem.{Elem}
use Rattle.cpa_model.specs.declared.program.Program.{Program}
use Rattle.cpa_model.specs.declared.states.State.{State}
use Rattle.cpa_model.specs.Acts.{IsActOf, IsEdgeOf}
use Rattle.cpa_model.specs.Automata.{IsAutomaton, IsStateOf, StepsAlong}
use Rattle.cpa_model.specs.Programs.{IsWellFormed}
use Rattle.cpa_model.specs.States.{state_at}
use Rattle.cpa_model.specs.Steps.{StepsStack, StepsKeepStates}
use Rattle.cpa_iface.specs.declared.analysis.Part.{Part}
use Rattle.cpa_iface.specs.declared.analysis.Part.TheVariants.{Nothing, Point, Stack, Store}
use Rattle.cpa_iface.specs.declared.precisions.Precision.{Precision}
use Rattle.cpa_iface.specs.Pins.{pin_of, StepsPart, IsSettledBy}
use Rattle.cpa_composite.specs.Components.{Component}
use Rattle.cpa_composite.specs.Exact.{IsControl, FollowPart, ControlSteps, AreExact}
use Rattle.cpa_composite.specs.Exact.{BindAll}
use Rattle.cpa_composite.specs.Exact.{HavePart, HaveEachPart, pins}
use Rattle.cpa_composite.specs.Laws.{SuccessorRows}
use Rattle.cpa_composite.proofs.Deciding.{stack_steps, store_steps, all_step}
use Rattle.cpa_composite.proofs.Following.{follows, not_store}
use Rattle.cpa_composite.proofs.Pinned.{pins_step, pins_stuck}
use Rattle.cpa_composite.proofs.Placed.{each_at, all_both, all_front}
use Rattle.cpa_composite_covers.specs.lemmas.PickLaws.{there_is}

-- the stack after an act, where it has a step
sites_stay : (points : ℕ) (cfa : Cfa) (a : Act) (old new : List ℕ) → points ≡ cfa.points
    → IsActOf cfa a → StepsStack a old new → AllByRecursion (λ site. site < points) old
    → AllByRecursion (λ site. site < points) new
sites_stay points cfa act.Skip old new same named step sites =
    subst (AllByRecursion (λ site. site < points)) (sym step) sites
sites_stay points cfa (act.Assign base len index value) old new same named step sites =
    subst (AllByRecursion (λ site. site < points)) (sym step) sites
sites_stay points cfa (act.Assume test holds) old new same named step sites =
    subst (AllByRecursion (λ site. site < points)) (sym step) sites
sites_stay points cfa (act.Input cell) old new same named step sites =
    subst (AllByRecursion (λ site. site < points)) (sym step) sites
sites_stay points cfa (act.Call site) old new same named step sites =
    subst (AllByRecursion (λ site. site < points)) (sym step)
    (all_both (λ (n : ℕ). n < points) old (site ∷ []) sites
    (subst (λ (n : ℕ). site < n) (sym same) named, tt))
sites_stay points cfa (act.Return site) old new same named step sites =
    all_front (λ (n : ℕ). n < points) new (site ∷ [])
    (subst (AllByRecursion (λ site. site < points)) step sites)

-- A stack to which the act leads, if it leads to one.
record StackAfter (cfa : Cfa) (a : Act) (old : List ℕ) : Type 0 where
  new : List ℕ
  sites : AllByRecursion (λ site. site < cfa.points) new
  steps : StepsStack a old new ⊎ ((other : List ℕ) → StepsStack a old other → ⊥)

stack_after : (cfa : Cfa) (a : Act) (old : List ℕ) → IsActOf cfa a
    → AllByRecursion (λ site. site < cfa.points) old → StackAfter cfa a old
stack_after cfa a old named sites =
    ⊎_elim
    (λ (on : (new : List ℕ) × StepsStack a old new). record {
      new = on.0;
      sites = sites_stay cfa.points cfa a old on.0 refl named on.1 sites;
      steps = inl on.1;
    })
    (λ none. record { new = old; sites = sites; steps = inr none })
    (stack_steps a old)

-- no rows have none at a place
none_there : (rows : List (List Elem)) (k : ℕ) (row : List Elem) → rows ≡ []
    → slice_get rows k ≡ Some row → ⊥
none_there [] k row none at = absurd (cc)
none_there (first ∷ rows) k row none at = absurd (cc)

control_step : (which : Part) (cfa : Cfa) (g : Edge) (s : State) (i : ℕ) (rows : List (List Elem))
    (k : ℕ) (row : List Elem) (after : StackAfter cfa g.act s.stack) → IsControl which
    → FollowPart which cfa g s i rows → slice_get rows k ≡ Some row
    → StepsPart which cfa g s (state_at g.to after.new s.store.values)
control_step Nothing cfa g s i rows k row after (inl is) follow at = absurd (cc)
control_step Nothing cfa g s i rows k row after (inr is) follow at = absurd (cc)
control_step Point cfa g s i rows k row after control follow at =
    ⊎_elim (λ yes. (yes.1, refl))
    (λ no. absurd (none_there rows k row (follow.stuck (λ t step. no.1 step.0)) at))
    (eqb_tells s.point g.from)
control_step Stack cfa g s i rows k row after control follow at =
    ⊎_elim (λ step. step)
    (λ none. absurd (none_there rows k row (follow.stuck (λ t step. none t.stack step)) at))
    after.steps
control_step Store cfa g s i rows k row after control follow at =
    absurd (not_store Store control refl)

pub control_steps : (cs : List Component) (cfa : Cfa) (edge : ℕ) (es : List Elem)
    (ps : List Precision) (rows : List (List Elem)) (g : Edge) (s : State) (k : ℕ)
    (row : List Elem) → length ps ≡ length cs → SuccessorRows cs cfa edge es ps rows
    → slice_get cfa.edges edge ≡ Some g → IsEdgeOf cfa g → IsStateOf cfa s
    → slice_get rows k ≡ Some row → ControlSteps cs cfa g s es row
control_steps cs cfa edge es ps rows g s k row size laws at named state there =
    let stack = stack_after cfa g.act s.stack named.act state.stack in
    let t = state_at g.to stack.new s.store.values in
    record {
      after = t;
      is_state = record { point = named.to; stack = stack.sites; store = state.store };
      each = λ i c e at_c at_e control pinned.
          let inside = slice_get_within cs i c at_c in
          let p = there_is ps i (omega (arith, inside, size)) in
          let follow = follows cs cfa edge es ps rows laws i c e p.0
          (record { component = at_c; elem = at_e; precision = p.1 }) control g s at state pinned in
          let step = control_step c.meaning.part cfa g s i rows k row stack control follow there
          in (
            step,
            each_at (λ (r : List Elem). slice_get r i ≡ Some (pin_of c.meaning.part t)) rows
                (follow.step t step) k row there,
          );
    }

-- where each part has an exact component
pub pins_next : ((P : Program) → IsWellFormed P → StepsKeepStates P) → (cs : List Component)
    (cfa : Cfa) (edge : ℕ) (ps : List Precision) (rows : List (List Elem)) (g : Edge) (s : State)
    → IsAutomaton cfa → AreExact cs → HaveEachPart cs → BindAll cfa cs ps → length ps ≡ length cs
    → SuccessorRows cs cfa edge (pins cs s) ps rows → slice_get cfa.edges edge ≡ Some g
    → IsSettledBy Store g.act → IsStateOf cfa s
    → (rows ≡ []) ⊎ ((t : State) × StepsAlong cfa g s t × (rows ≡ pins cs t ∷ []))
pins_next keep cs cfa edge ps rows g s automaton exact parts binds size laws at settled state =
    let stuck : (which : Part) → HavePart cs which
    → ((t : State) → StepsPart which cfa g s t → ⊥) → rows ≡ [] =
    λ which part none.
    pins_stuck cs cfa edge ps rows g s binds size laws at settled state part.place part.component
    part.at (λ t. subst (λ (w : Part). StepsPart w cfa g s t → ⊥) (sym part.is) (none t)) in
    ⊎_elim
    (λ from. ⊎_elim
    (λ (on_stack : (new : List ℕ) × StepsStack g.act s.stack new). ⊎_elim
    (λ on_store.
    let t = state_at g.to on_stack.0 on_store.0 in
    let step = all_step keep cfa edge g s on_stack.0 on_store.0 automaton at state from.1 on_stack.1
    on_store.1 in
    inr (t, step, pins_step cs cfa edge ps rows g s t exact binds size laws at settled step))
    (λ none. inl (stuck Store parts.2 (λ t step. none t.store.values step)))
    (store_steps cfa.cells g.act s.store.values settled))
    (λ none. inl (stuck Stack parts.1 (λ t step. none t.stack step)))
    (stack_steps g.act s.stack))
    (λ no. inl (stuck Point parts.0 (λ t step. no.1 step.0)))
    (eqb_tells s.point g.from)
