-- The initial state begins what is reachable (`first_reachable`), which steps do not leave
-- (`reachable_closed`), and the edges of a program without input are settled (`edges_settled`).
use Rattle.std.proofs.Common.{◌≡◌, ℕ, List, [], ◌∷◌, ◌++◌, Some, slice_get, refl, sym, subst}
use Rattle.std.proofs.Common.{true, false, inl, inr}
use Rattle.cpa_model.specs.declared.automaton.Act.{Act}
use Rattle.cpa_model.specs.declared.automaton.Act.TheVariants as act
use Rattle.cpa_model.specs.declared.automaton.Cfa.{Cfa}
use Rattle.cpa_model.specs.declared.automaton.Edge.{Edge}
use Rattle.cpa_model.specs.declared.program.Program.{Program}
use Rattle.cpa_model.specs.declared.program.Stmt.{Stmt}
use Rattle.cpa_model.specs.declared.program.Stmt.TheVariants as stmt
use Rattle.cpa_model.specs.declared.states.State.{State}
use Rattle.cpa_model.specs.Automata.{IsAutomatonOf, initial_state}
use Rattle.cpa_model.specs.Automata.{EdgeStep, StepsAlong}
use Rattle.cpa_model.specs.Programs.{IsStmt}
use Rattle.cpa_model.specs.States.{initial_of}
use Rattle.cpa_model.specs.Steps.{Step, IsChain, IsExecution, IsReachable}
use Rattle.cpa_model.specs.Steps.{Moves, MovesAt, at_statement, at_exit}
use Rattle.cpa_model.specs.lemmas.Lists.{in_list}
use Rattle.cpa_iface.specs.declared.analysis.Part.TheVariants.{Store}
use Rattle.cpa_iface.specs.Pins.{IsSettledBy}
use Rattle.cpa_reached.specs.Members.{IsIn}
use Rattle.cpa_engine_laws.specs.States.{AreReachable, HasNoInput}

-- ---- reachable states

chain_push : {X : Type 0} (R : X → X → Type 0) (x s t : X) (xs : List X)
    → IsChain R x (xs ++ s ∷ []) → R s t → IsChain R x ((xs ++ s ∷ []) ++ t ∷ [])
chain_push R x s t [] chain step = (chain.0, (step, tt))
chain_push R x s t (y ∷ xs) chain step = (chain.0, chain_push R y s t xs chain.1 step)

reachable_on : (P : Program) (s t : State) → IsReachable P s → Step P s t → IsReachable P t
reachable_on P s t reach step =
    record { before = reach.before ++ s ∷ []; execution = on reach.before reach.execution }
  where
    on : (before : List State) → IsExecution P (before ++ s ∷ [])
        → IsExecution P ((before ++ s ∷ []) ++ t ∷ [])
    on [] execution = (execution.0, (step, tt))
    on (first ∷ before) execution =
        (execution.0, chain_push (Step P) first s t before execution.1 step)

pub first_reachable : (P : Program) (cfa : Cfa) (states : List State)
    → initial_state cfa ≡ initial_of P → AreReachable P states → IsIn (initial_state cfa) states
first_reachable P cfa states same are =
    subst (λ (s : State). IsIn s states) (sym same)
    ((are (initial_of P)).0 (record { before = []; execution = (refl, tt) }))

pub reachable_closed : (P : Program) (cfa : Cfa) (states : List State)
    → ((s t : State) → EdgeStep cfa s t → Step P s t) → AreReachable P states → (k : ℕ) (g : Edge)
    (s t : State) → slice_get cfa.edges k ≡ Some g → IsIn s states → StepsAlong cfa g s t
    → IsIn t states
reachable_closed P cfa states steps are k g s t at there along =
    (are t).0 (reachable_on P s t ((are s).1 there) (steps s t (
      g,
      in_list cfa.edges k g at,
      along,
    )))

-- ---- edges that are no inputs

settled : (b a : Act) → a ≡ b → IsSettledBy Store b → IsSettledBy Store a
settled b a same is = subst (IsSettledBy Store) (sym same) is

by_statement : (P : Program) (n : ℕ) (s : Stmt) (a : Act) (m : ℕ) → HasNoInput P → IsStmt P n s
    → MovesAt P n s a m → IsSettledBy Store a
by_statement P n (stmt.Block []) a m none is x = settled act.Skip a x.0 tt
by_statement P n (stmt.Block (item ∷ items)) a m none is x = settled act.Skip a x.0 tt
by_statement P n (stmt.If test first second) a m none is (inl x) =
    settled (act.Assume test true) a x.0 tt
by_statement P n (stmt.If test first second) a m none is (inr x) =
    settled (act.Assume test false) a x.0 tt
by_statement P n (stmt.Loop body step) a m none is x = settled act.Skip a x.0 tt
by_statement P n (stmt.Assign base len index value) a m none is x =
    settled (act.Assign base len index value) a x.0 tt
by_statement P n (stmt.Input cell) a m none is x = absurd (none n cell is)
by_statement P n (stmt.Call function) a m none is x = settled (act.Call n) a x.0 tt
by_statement P n (stmt.Goto label) a m none is x = settled act.Skip a x.0 tt
by_statement P n stmt.Break a m none is x = settled act.Skip a x.0 tt
by_statement P n stmt.Continue a m none is x = settled act.Skip a x.0 tt
by_statement P n stmt.Leave a m none is x = settled act.Skip a x.0 tt
by_statement P n stmt.Stop a m none is x = absurd x
by_statement P n stmt.Error a m none is x = absurd x

settled_moves : (P : Program) (p : ℕ) (a : Act) (q : ℕ) → HasNoInput P → Moves P p a q
    → IsSettledBy Store a
settled_moves P p a q none (at_statement s is move) = by_statement P p s a q none is move
settled_moves P p a q none (at_exit f within at x) = settled (act.Return x.1) a x.3 tt

pub edges_settled : (P : Program) (cfa : Cfa) → IsAutomatonOf P cfa → HasNoInput P → (k : ℕ)
    (g : Edge) → slice_get cfa.edges k ≡ Some g → IsSettledBy Store g.act
edges_settled P cfa of none k g at =
    settled_moves P g.from g.act g.to none (of.moves g (in_list cfa.edges k g at))
