-- Interpolants along a path (McMillan, Lazy Abstraction with Interpolants, CAV 2006): an expression
-- before each edge and one behind the last.
use Rattle.std.specs.Prelude.{◌≡◌, ℕ, ℤ, pos, ⊤, ◌⊎◌, true, IsTrue, IsSome, List, [], ◌∷◌, ◌+◌}
use Rattle.std.specs.Prelude.{length}
use Rattle.cpa_ints.specs.declared.integers.IntType.TheVariants as ty
use Rattle.cpa_expr.specs.declared.tree.Expr.{Expr}
use Rattle.cpa_expr.specs.declared.tree.Expr.TheVariants.{Const}
use Rattle.cpa_expr.specs.Cells.{may_read}
use Rattle.cpa_expr.specs.Values.{HasTruth, value_of}
use Rattle.cpa_model.specs.declared.program.Cell.{Cell}
use Rattle.cpa_model.specs.declared.automaton.Act.{Act}
use Rattle.cpa_form_rules.specs.Reading.{ActReads}
use Rattle.cpa_interpolant_rules.specs.Stores.{IsStore, StepsBy, RunsFrom, ActWrites, SomeActReads}

-- Every step of the store by the edge, from a store where the first is nonzero, leads to one where
-- the second is.
abbrev pub LeadsTo : List Cell → Act → Expr → Expr → Type 0
LeadsTo cells a e f =
    (old new : List ℤ) → HasTruth old e true → StepsBy cells a old new → HasTruth new f true

-- From a store where the expression is nonzero no run of stores goes along the edges.
abbrev pub HasNoRun : List Cell → List Act → Expr → Type 0
HasNoRun cells acts e =
    (store : List ℤ) → HasTruth store e true → RunsFrom cells acts store → ⊥

-- no store of the cells makes it trap
abbrev pub NeverTraps : List Cell → Expr → Type 0
NeverTraps cells e = (store : List ℤ) → IsStore cells store → IsSome (value_of e store)

-- The expression f behind an edge reads only cells that the one before it or the edge itself reads
-- or writes, and that an edge behind reads.
abbrev pub ReadsShared : Act → List Act → Expr → Expr → Type 0
ReadsShared a behind e f =
    (cell : ℕ) → IsTrue (may_read f cell)
    → (IsTrue (may_read e cell) ⊎ (ActReads a cell ⊎ ActWrites a cell)) × SomeActReads behind cell

-- the interpolant f behind the edge, where e stands before it and these edges follow
pub record IsNext (cells : List Cell) (a : Act) (behind : List Act) (e f : Expr) : Type 0 where
  pub leads : LeadsTo cells a e f
  pub ends : HasNoRun cells behind f
  pub reads : ReadsShared a behind e f
  pub total : NeverTraps cells f

-- behind e the interpolants of the next edges, for as many edges as there are expressions
abbrev pub AreNext : List Cell → List Act → Expr → List Expr → Type 0
AreNext cells acts e [] = ⊤
AreNext cells [] e (f ∷ fs) = ⊥
AreNext cells (a ∷ acts) e (f ∷ fs) = IsNext cells a acts e f × AreNext cells acts f fs

-- the ints 1 and 0
abbrev pub one : Expr
one = Const ty.I32 (pos 1)

abbrev pub zero : Expr
zero = Const ty.I32 (pos 0)

-- the expression that stands last
abbrev pub last_of : Expr → List Expr → Expr
last_of e [] = e
last_of e (f ∷ fs) = last_of f fs

-- behind e one expression for each edge, to which the one before it leads
abbrev pub LeadOn : List Cell → List Act → Expr → List Expr → Type 0
LeadOn cells [] e behind = behind ≡ []
LeadOn cells (a ∷ acts) e [] = ⊥
LeadOn cells (a ∷ acts) e (f ∷ fs) = LeadsTo cells a e f × LeadOn cells acts f fs

-- Interpolants before the first edges: the first is 1.
pub record AreInterpolants (cells : List Cell) (acts : List Act) (exprs : List Expr) : Type 0 where
  pub behind : List Expr
  pub are : exprs ≡ one ∷ behind
  pub next : AreNext cells acts one behind

-- Interpolants of the whole path: one more than it has edges, the last of them 0. There is no run
-- of stores along it.
pub record ArePathInterpolants (cells : List Cell) (acts : List Act) (exprs : List Expr) : Type 0
  where
    pub interpolants : AreInterpolants cells acts exprs
    pub long : length exprs ≡ length acts + 1
    pub last : last_of one interpolants.behind ≡ zero
    pub none : HasNoRun cells acts one
