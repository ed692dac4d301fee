-- Runs along a path: they chain, they are runs of stores, and they are replayed. Then what the
-- answers of a judgement say (`stores_replay`, `no_stores`, `not_chained`).
use Rattle.std.proofs.Common.{◌≡◌, ℕ, ℤ, List, [], ◌∷◌, ◌++◌, length, map, Option, Some, slice_get}
use Rattle.std.proofs.Common.{refl, sym, ap, ◌∙◌, subst, arith, suc}
use Rattle.std.proofs.lemmas.List.{append-nil}
use Rattle.std.specs.List.{Contains}
use Rattle.cpa_expr.specs.Cells.{AreValues}
use Rattle.cpa_model.specs.declared.automaton.Act.{Act}
use Rattle.cpa_model.specs.declared.automaton.Act.TheVariants as act
use Rattle.cpa_model.specs.declared.automaton.Edge.{Edge}
use Rattle.cpa_model.specs.declared.automaton.Cfa.{Cfa}
use Rattle.cpa_model.specs.declared.program.Cell.{Cell}
use Rattle.cpa_model.specs.declared.program.Program.{Program}
use Rattle.cpa_model.specs.declared.states.State.{State}
use Rattle.cpa_model.specs.Expressions.{types_of}
use Rattle.cpa_model.specs.Automata.{IsAutomatonOf, IsStateOf, StepsAlong, EdgeStep, initial_state}
use Rattle.cpa_model.specs.Programs.{point_count}
use Rattle.cpa_model.specs.States.{IsState, state_at, initial_of}
use Rattle.cpa_model.specs.Steps.{Step, StepsApart, StepsStore, StepsKeepStates, IsChain, Moves}
use Rattle.cpa_model.specs.lemmas.Lists.{in_list}
use Rattle.cpa_interp.specs.Replays.{Stage, inputs_of, last_of}
use Rattle.cpa_interp.specs.lemmas.Opening.{input_by, taken_by}
use Rattle.cpa_interp.specs.lemmas.Choosing.{input_is}
use Rattle.cpa_form_rules.specs.Runs.{taken, Runs, StepsWith}
use Rattle.cpa_form_rules.specs.Stores.{steps_take_inputs}
use Rattle.cpa_path.specs.Paths.{TakesEdges, IsRunAlong, HasNoRun, ReplaysAlong, ChainsFrom, Chains}
use Rattle.cpa_path.specs.Paths.{added_along, HasStores}
use Rattle.cpa_folds.specs.Along.{act_of, acts_along}

-- ---- a run is an execution

steps_on : (P : Program) (cfa : Cfa) → ((s t : State) → EdgeStep cfa s t → Step P s t)
    → (ns : List ℕ) (s : State) (ts : List State) → TakesEdges cfa ns s ts
    → IsChain (Step P) s ts
steps_on P cfa steps [] s [] takes = tt
steps_on P cfa steps [] s (t ∷ ts) takes = absurd takes
steps_on P cfa steps (n ∷ ns) s [] takes = absurd takes
steps_on P cfa steps (n ∷ ns) s (t ∷ ts) takes = (
  steps s t (takes.0, in_list cfa.edges n takes.0 takes.1, takes.2),
  steps_on P cfa steps ns t ts takes.3,
)

as_many : (cfa : Cfa) (ns : List ℕ) (s : State) (ts : List State) → TakesEdges cfa ns s ts
    → length ns ≡ length ts
as_many cfa [] s [] takes = refl
as_many cfa [] s (t ∷ ts) takes = absurd takes
as_many cfa (n ∷ ns) s [] takes = absurd takes
as_many cfa (n ∷ ns) s (t ∷ ts) takes = ap suc (as_many cfa ns t ts takes.3)

-- and is replayed with the inputs that it takes
run_replays : (P : Program) (cfa : Cfa) → IsAutomatonOf P cfa
    → initial_state cfa ≡ initial_of P → ((s t : State) → EdgeStep cfa s t → Step P s t)
    → (path : List ℕ) (states : List State) → IsRunAlong cfa path states
    → ReplaysAlong P cfa path (inputs_of P (initial_state cfa) states) (length path)
run_replays P cfa of same steps path states run =
    let first = initial_state cfa in
    let at : Stage = record {
      steps = length path;
      state = last_of first states;
      taken = inputs_of P first states;
      left = [];
    } in
    record {
      replays = record {
        replay = record {
          at = at;
          arrives = record {
            states = states;
            execution = (
              refl,
              subst (λ (s : State). IsChain (Step P) s states) same
                  (steps_on P cfa steps path first states run.takes),
            );
            steps = as_many cfa path first states run.takes;
            state = ap (λ (s : State). last_of s states) same;
            taken = ap (λ (s : State). inputs_of P s states) same;
            in_order = sym (append-nil (inputs_of P first states));
          };
          within = omega arith;
          comes = (of.only_errors (last_of first states).point run.error, refl);
        };
        all = refl;
      };
      along = run;
    }

-- ---- a run chains

chains_of : (cfa : Cfa) (ns : List ℕ) (s : State) (ts : List State) → TakesEdges cfa ns s ts
    → Contains cfa.errors (last_of s ts).point → ChainsFrom cfa s.point s.stack ns
chains_of cfa [] s [] takes error = error
chains_of cfa [] s (t ∷ ts) takes error = absurd takes
chains_of cfa (n ∷ ns) s [] takes error = absurd takes
chains_of cfa (n ∷ ns) s (t ∷ ts) takes error =
    let step = takes.2 in (
      takes.0,
      t.stack,
      takes.1,
      sym step.from,
      step.stack,
      subst (λ (p : ℕ). ChainsFrom cfa p t.stack ns) step.to
          (chains_of cfa ns t ts takes.3 error),
    )

-- ---- a run is one of stores

stores_along : (cfa : Cfa) (ns : List ℕ) (s : State) (ts : List State) → TakesEdges cfa ns s ts
    → (inputs : List ℤ)
    × Runs cfa.cells (added_along cfa ns) s.store.values inputs (last_of s ts).store.values
stores_along cfa [] s [] takes = ([], (refl, refl))
stores_along cfa [] s (t ∷ ts) takes = absurd takes
stores_along cfa (n ∷ ns) s [] takes = absurd takes
stores_along cfa (n ∷ ns) s (t ∷ ts) takes =
    let g = takes.0 in
    let step = steps_take_inputs.step cfa.cells g.act s.store.values t.store.values in
    let own = step.0 takes.2.store in
    let rest = stores_along cfa ns t ts takes.3 in (
      own.0 ++ rest.0,
      subst (λ (o : Option Edge). Runs cfa.cells (map taken (act_of o ++ acts_along cfa ns))
          s.store.values (own.0 ++ rest.0) (last_of t ts).store.values) (sym takes.1)
          (t.store.values, own.0, rest.0, own.1, refl, rest.1),
    )

-- ---- and one of stores along a path that chains is a run

-- what a step takes
own_inputs : (cells : List Cell) (a : Act) (old own new : List ℤ) → AreValues (types_of cells) old
    → StepsWith cells a old own new → input_by a new ≡ own
own_inputs cells act.Skip old own new are h = sym h.0
own_inputs cells (act.Assign base len index value) old own new are h = sym h.0
own_inputs cells (act.Assume test holds) old own new are h = sym h.0
own_inputs cells (act.Input cell) old own new are h =
    input_is cells old new cell h.0 are h.1 h.3 ∙ sym h.2
own_inputs cells (act.Call site) old own new are h = sym h.0
own_inputs cells (act.Return site) old own new are h = sym h.0

-- the states of an automaton are those of its program
states_there : (P : Program) (cfa : Cfa) → IsAutomatonOf P cfa → (s : State) → IsStateOf cfa s
    → IsState P.cells (point_count P) s
states_there P cfa of s is =
    subst (λ (cells : List Cell). IsState cells (point_count P) s) of.cells
    (subst (λ (n : ℕ). IsState cfa.cells n s) of.points is)

states_back : (P : Program) (cfa : Cfa) → IsAutomatonOf P cfa → (s : State)
    → IsState P.cells (point_count P) s → IsStateOf cfa s
states_back P cfa of s is =
    subst (λ (n : ℕ). IsState cfa.cells n s) (sym of.points)
    (subst (λ (cells : List Cell). IsState cells (point_count P) s) (sym of.cells) is)

-- the states of a run, with its inputs
record RunsOn (P : Program) (cfa : Cfa) (ns : List ℕ) (s : State) (inputs : List ℤ) : Type 0
  where
    states : List State
    takes : TakesEdges cfa ns s states
    error : Contains cfa.errors (last_of s states).point
    inputs_are : inputs_of P s states ≡ inputs

runs_on : (P : Program) (cfa : Cfa) → IsAutomatonOf P cfa → StepsKeepStates P → (ns : List ℕ)
    (s : State) (inputs last : List ℤ) → IsStateOf cfa s → ChainsFrom cfa s.point s.stack ns
    → Runs cfa.cells (added_along cfa ns) s.store.values inputs last
    → RunsOn P cfa ns s inputs
runs_on P cfa of keeps [] s inputs last is chains runs =
    record { states = []; takes = tt; error = chains; inputs_are = sym runs.0 }
runs_on P cfa of keeps (n ∷ ns) s inputs last is (g, next, at, from, stack, chains) runs =
    let (store, own, others, meets, split, rest) =
    subst (λ (o : Option Edge). Runs cfa.cells (map taken (act_of o ++ acts_along cfa ns))
    s.store.values inputs last) at runs in
    let t : State = state_at g.to next store in
    let moves : Moves P s.point g.act g.to =
    subst (λ (p : ℕ). Moves P p g.act g.to) from (of.moves g (in_list cfa.edges n g at)) in
    let step = steps_take_inputs.step cfa.cells g.act s.store.values store in
    let along = step.1 (own, meets) in
    let apart : StepsApart P s t = record {
      act = g.act;
      point = moves;
      stack = stack;
      store = subst (λ (cells : List Cell). StepsStore cells g.act s.store.values store) of.cells
          along;
    } in
    let after : IsStateOf cfa t =
    states_back P cfa of t (keeps s t (states_there P cfa of s is) apart) in
    let step : StepsAlong cfa g s t = record {
      before = is;
      after = after;
      from = sym from;
      to = refl;
      stack = stack;
      store = along;
    } in
    let on = runs_on P cfa of keeps ns t others last after chains rest in
    record {
      states = t ∷ on.states;
      takes = (g, at, step, on.takes);
      error = on.error;
      inputs_are =
          ap (λ (xs : List ℤ). xs ++ inputs_of P t on.states)
          (taken_by P s.point g.act g.to store moves
          ∙ own_inputs cfa.cells g.act s.store.values own store is.store meets)
          ∙ ap (λ (xs : List ℤ). own ++ xs) on.inputs_are ∙ sym split;
    }

-- ---- what a judgement says

-- what is known of the steps of an automaton's program
pub record IsStepped (P : Program) (cfa : Cfa) : Type 0 where
  pub of : IsAutomatonOf P cfa
  pub keeps : StepsKeepStates P
  pub state : IsStateOf cfa (initial_state cfa)
  pub first : initial_state cfa ≡ initial_of P
  pub steps : (s t : State) → EdgeStep cfa s t → Step P s t

pub stores_replay : (P : Program) (cfa : Cfa) → IsStepped P cfa → (path : List ℕ)
    (inputs last : List ℤ) → Chains cfa path → HasStores cfa path inputs last
    → ReplaysAlong P cfa path inputs (length path)
stores_replay P cfa so path inputs last chains stores =
    let first = initial_state cfa in
    let on = runs_on P cfa so.of so.keeps path first inputs last so.state chains stores in
    subst (λ (xs : List ℤ). ReplaysAlong P cfa path xs (length path)) on.inputs_are
    (run_replays P cfa so.of so.first so.steps path on.states
    (record { takes = on.takes; error = on.error }))

pub no_stores : (cfa : Cfa) (path : List ℕ)
    → ((inputs last : List ℤ) → HasStores cfa path inputs last → ⊥) → HasNoRun cfa path
no_stores cfa path none states run =
    let there = stores_along cfa path (initial_state cfa) states run.takes in
    none there.0 (last_of (initial_state cfa) states).store.values there.1

pub not_chained : (cfa : Cfa) (path : List ℕ) → (Chains cfa path → ⊥) → HasNoRun cfa path
not_chained cfa path none states run =
    none (chains_of cfa path (initial_state cfa) states run.takes run.error)
