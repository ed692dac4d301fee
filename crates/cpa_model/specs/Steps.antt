-- Steps and executions (the transition system of CAV 2007, section 2, for the statements of C11
-- 6.8).
use Rattle.std.specs.Prelude.{◌≡◌, ◌≢◌, ℕ, ◌+◌, ◌<◌, ℤ, pos, List, [], ◌∷◌, ◌++◌, Option, Some}
use Rattle.std.specs.Prelude.{length, slice_get, slice_set, ◌⊎◌, true, false, IsSomeAnd}
use Rattle.cpa_model.specs.declared.program.Cell.{Cell}
use Rattle.cpa_model.specs.declared.program.Stmt.{Stmt}
use Rattle.cpa_model.specs.declared.program.Stmt.TheVariants as stmt
use Rattle.cpa_model.specs.declared.program.Program.{Program}
use Rattle.cpa_model.specs.declared.automaton.Act.{Act}
use Rattle.cpa_model.specs.declared.automaton.Act.TheVariants as act
use Rattle.cpa_model.specs.declared.states.State.{State}
use Rattle.cpa_ints.specs.Integers.{IsInRange}
use Rattle.cpa_expr.specs.Values.{value_of, HasTruth}
use Rattle.cpa_model.specs.Programs.{IsStmt, IsBody, Next, InLoop, InFunction, exit_of, point_count}
use Rattle.cpa_model.specs.States.{IsState, initial_of}

-- At the statement s of number n the act a may be done, and control goes to m (C11 6.8).
abbrev pub MovesAt : Program → ℕ → Stmt → Act → ℕ → Type 0
MovesAt P n (stmt.Block []) a m = (a ≡ act.Skip) × Next P n m
MovesAt P n (stmt.Block (item ∷ items)) a m = (a ≡ act.Skip) × (m ≡ item)
MovesAt P n (stmt.If test first second) a m =
    ((a ≡ act.Assume test true) × (m ≡ first)) ⊎ ((a ≡ act.Assume test false) × (m ≡ second))
MovesAt P n (stmt.Loop body step) a m = (a ≡ act.Skip) × (m ≡ body)
MovesAt P n (stmt.Assign base len index value) a m =
    (a ≡ act.Assign base len index value) × Next P n m
MovesAt P n (stmt.Input cell) a m = (a ≡ act.Input cell) × Next P n m
MovesAt P n (stmt.Call function) a m = (a ≡ act.Call n) × IsBody P function m
MovesAt P n (stmt.Goto to) a m = (a ≡ act.Skip) × (m ≡ to)
MovesAt P n stmt.Break a m = (a ≡ act.Skip) × (l : ℕ) × InLoop P l n × Next P l m
MovesAt P n stmt.Continue a m =
    (a ≡ act.Skip) × (l body : ℕ) × InLoop P l n × IsStmt P l (stmt.Loop body m)
MovesAt P n stmt.Leave a m = (a ≡ act.Skip) × (f : ℕ) × InFunction P f n × (m ≡ exit_of P f)
MovesAt P n stmt.Stop a m = ⊥
MovesAt P n stmt.Error a m = ⊥

-- From the exit of a function, other than main, control goes back to what follows a call of it.
abbrev pub Returns : Program → ℕ → Act → ℕ → Type 0
Returns P f a m =
    (f ≢ P.main) × (site : ℕ) × IsStmt P site (stmt.Call f) × (a ≡ act.Return site) × Next P site m

-- At the point p the act a may be done, and control goes to q.
pub data Moves : Program → ℕ → Act → ℕ → Type 0 where
  at_statement : {P : Program} {p q : ℕ} {a : Act} (s : Stmt) → IsStmt P p s → MovesAt P p s a q
      → Moves P p a q
  at_exit : {P : Program} {p q : ℕ} {a : Act} (f : ℕ) → f < length P.bodies → p ≡ exit_of P f
      → Returns P f a q → Moves P p a q

-- What the act does to the stack: a call pushes its site, a return pops it.
abbrev pub StepsStack : Act → List ℕ → List ℕ → Type 0
StepsStack act.Skip old new = new ≡ old
StepsStack (act.Assign base len index value) old new = new ≡ old
StepsStack (act.Assume test holds) old new = new ≡ old
StepsStack (act.Input cell) old new = new ≡ old
StepsStack (act.Call site) old new = new ≡ old ++ site ∷ []
StepsStack (act.Return site) old new = old ≡ new ++ site ∷ []

-- new is old with the value of an expression at the place that an index names; no such new where
-- either traps or the index is outside 0 .. len - 1
pub record Assigns (base len : ℕ) (index value : Option ℤ) (old new : List ℤ) : Type 0 where
  pub place : ℕ
  pub written : ℤ
  pub index_is : index ≡ Some (pos place)
  pub value_is : value ≡ Some written
  pub inside : place < len
  pub after : new ≡ slice_set old (base + place) written

-- What the act does to the store. An input gives any value of its cell's type.
abbrev pub StepsStore : List Cell → Act → List ℤ → List ℤ → Type 0
StepsStore cells act.Skip old new = new ≡ old
StepsStore cells (act.Assign base len index value) old new =
    Assigns base len (value_of index old) (value_of value old) old new
StepsStore cells (act.Assume test holds) old new = HasTruth old test holds × (new ≡ old)
StepsStore cells (act.Input cell) old new =
    (v : ℤ) × IsSomeAnd (slice_get cells cell) (λ c. IsInRange c.ty v)
    × (new ≡ slice_set old cell v)
StepsStore cells (act.Call site) old new = new ≡ old
StepsStore cells (act.Return site) old new = new ≡ old

-- A step of the program from one state to another: of the point, of the stack and of the store,
-- each by itself.
pub record Step (P : Program) (s t : State) : Type 0 where
  pub act : Act
  pub before : IsState P.cells (point_count P) s
  pub after : IsState P.cells (point_count P) t
  pub point : Moves P s.point act t.point
  pub stack : StepsStack act s.stack t.stack
  pub store : StepsStore P.cells act s.store.values t.store.values

-- The three parts of a step alone, without the demand that its ends are states.
pub record StepsApart (P : Program) (s t : State) : Type 0 where
  pub act : Act
  pub point : Moves P s.point act t.point
  pub stack : StepsStack act s.stack t.stack
  pub store : StepsStore P.cells act s.store.values t.store.values

-- from a state these parts lead to a state, so that the demand on the new state cuts no execution
-- off
abbrev pub StepsKeepStates : Program → Type 0
StepsKeepStates P =
    (s t : State) → IsState P.cells (point_count P) s → StepsApart P s t
    → IsState P.cells (point_count P) t

-- an execution begins in a state
abbrev pub BeginsInState : Program → Type 0
BeginsInState P = IsState P.cells (point_count P) (initial_of P)

-- neighbours in the list are related, the first one to s
abbrev pub IsChain : {X : Type 0} → (X → X → Type 0) → X → List X → Type 0
IsChain R s [] = Unit {0}
IsChain R s (t ∷ ts) = R s t × IsChain R t ts

-- a list of states that begins with the initial one and goes on by steps
abbrev pub IsExecution : Program → List State → Type 0
IsExecution P [] = ⊥
IsExecution P (s ∷ states) = (s ≡ initial_of P) × IsChain (Step P) s states

-- some execution ends in the state
pub record IsReachable (P : Program) (s : State) : Type 0 where
  pub before : List State
  pub execution : IsExecution P (before ++ s ∷ [])

-- the point is a call of reach_error
abbrev pub IsError : Program → ℕ → Type 0
IsError P p = IsStmt P p stmt.Error

-- one of the states stands at a call of reach_error
abbrev pub CallsError : Program → List State → Type 0
CallsError P [] = ⊥
CallsError P (s ∷ states) = IsError P s.point ⊎ CallsError P states

-- control is at a statement that ends the program, or at the exit of main (C11 5.1.2.2.3, 7.22.4)
abbrev pub IsEnd : Program → ℕ → Type 0
IsEnd P p = IsStmt P p stmt.Stop ⊎ (p ≡ exit_of P P.main)

-- the program has neither called the error nor ended
pub record GoesOn (P : Program) (p : ℕ) : Type 0 where
  pub no_error : IsError P p → ⊥
  pub no_end : IsEnd P p → ⊥

-- no step leads on from the state, though the program goes on: an evaluation has no value (C11 6.5)
pub record TrapsAt (P : Program) (s : State) : Type 0 where
  pub goes_on : GoesOn P s.point
  pub stuck : (t : State) → Step P s t → ⊥

-- the list of states ends in a trap
abbrev pub Traps : Program → List State → Type 0
Traps P [] = ⊥
Traps P (s ∷ []) = TrapsAt P s
Traps P (s ∷ t ∷ states) = Traps P (t ∷ states)
