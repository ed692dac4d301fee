-- The acts along a path fit the automaton, and lead from stores of its cells to such stores.
use Rattle.std.proofs.Common.{◌≡◌, ℕ, zero, suc, ◌<◌, ℤ, List, [], ◌∷◌, ◌++◌, length, get_or}
use Rattle.std.proofs.Common.{Option, Some, slice_get}
use Rattle.std.proofs.Common.{refl, sym, subst, arith, inl, inr}
use Rattle.std.specs.List.{AllByRecursion}
use Rattle.std.proofs.lemmas.Option.{slice_get_cases}
use Rattle.cpa_model.specs.declared.program.Cell.{Cell}
use Rattle.cpa_model.specs.declared.program.Program.{Program}
use Rattle.cpa_model.specs.declared.automaton.Act.{Act}
use Rattle.cpa_model.specs.declared.automaton.Act.TheVariants as act
use Rattle.cpa_model.specs.declared.automaton.Edge.{Edge}
use Rattle.cpa_model.specs.declared.automaton.Cfa.{Cfa}
use Rattle.cpa_model.specs.Acts.{IsActOf, IsEdgeOf}
use Rattle.cpa_model.specs.Automata.{IsAutomaton, IsStateOf}
use Rattle.cpa_model.specs.Programs.{IsWellFormed, point_count}
use Rattle.cpa_model.specs.States.{IsState, state_at}
use Rattle.cpa_model.specs.Steps.{StepsKeepStates, StepsStack, StepsStore}
use Rattle.cpa_model.specs.lemmas.Lists.{in_list}
use Rattle.cpa_folds.specs.Along.{act_of, acts_along}
use Rattle.cpa_interpolant_rules.specs.Stores.{IsStore}

-- the act leads from a store of the cells to a store of the cells
abbrev pub Keeps : List Cell → Act → Type 0
Keeps cells a =
    (old new : List ℤ) → IsStore cells old → StepsStore cells a old new → IsStore cells new

-- what the laws of edges and of steps say
pub record AreLaws (cfa : Cfa) : Type 0 where
  pub automaton : IsAutomaton cfa
  pub sound : (n : ℕ) (g : Edge) → slice_get cfa.edges n ≡ Some g → IsEdgeOf cfa g
  pub keep : (P : Program) → IsWellFormed P → StepsKeepStates P

-- ---- stacks on which the act can be done

stack_before : Act → List ℕ
stack_before (act.Return site) = site ∷ []
stack_before _ = []

stack_behind : Act → List ℕ
stack_behind (act.Call site) = site ∷ []
stack_behind _ = []

stacks : (a : Act) → StepsStack a (stack_before a) (stack_behind a)
unfolding stack_before stack_behind
stacks act.Skip = refl
stacks (act.Assign base len index value) = refl
stacks (act.Assume test holds) = refl
stacks (act.Input cell) = refl
stacks (act.Call site) = refl
stacks (act.Return site) = refl

sites_fit : (cfa : Cfa) (a : Act) → IsActOf cfa a
    → AllByRecursion (λ site. site < cfa.points) (stack_before a)
unfolding stack_before
sites_fit cfa act.Skip is = tt
sites_fit cfa (act.Assign base len index value) is = tt
sites_fit cfa (act.Assume test holds) is = tt
sites_fit cfa (act.Input cell) is = tt
sites_fit cfa (act.Call site) is = tt
sites_fit cfa (act.Return site) is = (is, tt)

-- ---- acts

-- the edge of a number
pub edge_there : (cfa : Cfa) (n : ℕ) → n < length cfa.edges
    → (g : Edge) × (slice_get cfa.edges n ≡ Some g)
edge_there cfa n less = elim (slice_get_cases cfa.edges n).1 [
  | inl found ↦ (found.0, found.2)
  | inr past ↦ let high = past.0 in absurd (omega (arith, less, high))
]

-- an edge of a path
pub edge_in : (m : ℕ) (path : List ℕ) (i : ℕ) → AllByRecursion (λ n. n < m) path
    → i < length path → get_or path i 0 < m
edge_in m [] i all less = absurd (omega (arith, less))
edge_in m (n ∷ ns) zero all less = all.0
edge_in m (n ∷ ns) (suc i) all less = edge_in m ns i all.1 (omega (arith, less))

pub keeps : (cfa : Cfa) → AreLaws cfa → (n : ℕ) (g : Edge) → slice_get cfa.edges n ≡ Some g
    → Keeps cfa.cells g.act
keeps cfa laws n g at old new is step =
    let P = laws.automaton.program in
    let of = laws.automaton.automaton in
    let edge = laws.sound n g at in
    let s = state_at g.from (stack_before g.act) old in
    let t = state_at g.to (stack_behind g.act) new in
    let own : IsStateOf cfa s = record {
      point = edge.from;
      stack = sites_fit cfa g.act edge.act;
      store = is;
    } in
    let before : IsState P.cells (point_count P) s =
    subst (λ (cells : List Cell). IsState cells (point_count P) s) of.cells
    (subst (λ (n : ℕ). IsState cfa.cells n s) of.points own) in
    let after = laws.keep P laws.automaton.well_formed s t before (record {
      act = g.act;
      point = of.moves g (in_list cfa.edges n g at);
      stack = stacks g.act;
      store = subst (λ (cells : List Cell). StepsStore cells g.act old new) of.cells step;
    }) in
    subst (λ (cells : List Cell). IsStore cells new) (sym of.cells) after.store

-- the acts along a path fit, and keep stores
pub record AreGood (cfa : Cfa) (acts : List Act) : Type 0 where
  pub fit : AllByRecursion (IsActOf cfa) acts
  pub keep : AllByRecursion (Keeps cfa.cells) acts

pub good_edge : (cfa : Cfa) → AreLaws cfa → (n : ℕ) (g : Edge) → slice_get cfa.edges n ≡ Some g
    → (acts : List Act) → AreGood cfa acts → AreGood cfa (g.act ∷ acts)
good_edge cfa laws n g at acts good = record {
  fit = ((laws.sound n g at).act, good.fit);
  keep = (keeps cfa laws n g at, good.keep);
}

pub good_path : (cfa : Cfa) → AreLaws cfa → (path : List ℕ)
    → AllByRecursion (λ n. n < length cfa.edges) path → AreGood cfa (acts_along cfa path)
good_path cfa laws [] inside = record { fit = tt; keep = tt }
good_path cfa laws (n ∷ path) inside =
    let g = edge_there cfa n inside.0 in
    subst (λ (o : Option Edge). AreGood cfa (act_of o ++ acts_along cfa path)) (sym g.1)
    (good_edge cfa laws n g.0 g.1 (acts_along cfa path) (good_path cfa laws path inside.1))
