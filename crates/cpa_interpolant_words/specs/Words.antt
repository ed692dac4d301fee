-- What comes of looking for interpolants along a path in the program's own words (this project's
-- own).
use Rattle.std.specs.Prelude.{◌≡◌, ℕ, ◌≤◌, ⊤, ◌⊎◌, min, ◌+◌, ◌-◌, ◌^◌, Bool, true, false, IsTrue}
use Rattle.std.specs.Prelude.{List, [], ◌∷◌}
use Rattle.cpa_expr.specs.declared.tree.Expr.{Expr}
use Rattle.cpa_expr.specs.Cells.{may_read}
use Rattle.cpa_facts.specs.declared.fact.Fact.TheVariants.{Truth}
use Rattle.cpa_model.specs.declared.program.Cell.{Cell}
use Rattle.cpa_model.specs.declared.automaton.Act.{Act}
use Rattle.cpa_model.specs.declared.automaton.Cfa.{Cfa}
use Rattle.cpa_model.specs.declared.facts.Elem.{Elem}
use Rattle.cpa_model.specs.Expressions.{IsExpr}
use Rattle.cpa_form_rules.specs.Runs.{taken, holding, failing}
use Rattle.cpa_form_rules.specs.Forms.{Form, form_of}
use Rattle.cpa_form_rules.specs.Reading.{ActReads}
use Rattle.cpa_interpolant_rules.specs.Stores.{ActWrites, SomeActReads}
use Rattle.cpa_query.specs.declared.query.Query.{Query}
use Rattle.cpa_query.specs.Queries.{IsModel}
use Rattle.cpa_folds.specs.Along.{acts_along}
use Rattle.cpa_solver.specs.Decisions.{HasNoModel}
use Rattle.cpa_interpolant_rules.specs.Interpolants.{LeadsTo, ReadsShared, NeverTraps}
use Rattle.cpa_interpolant_rules.specs.Parts.{told, before_cut, behind_cut}
use Rattle.cpa_interpolant_rules.specs.Found.{weight_at, IsLight, AreFound}
use Rattle.cpa_interpolant_words.specs.declared.asking.Asked.{Asked}
use Rattle.cpa_interpolant_words.specs.declared.asking.Asked.TheVariants as asked
use Rattle.cpa_interpolant_words.specs.declared.looking.Words.{Words}
use Rattle.cpa_interpolant_words.specs.declared.looking.Words.TheVariants as words

-- what is known of a query
abbrev pub IsAsked : Query → Asked → Type 0
IsAsked q asked.Never = HasNoModel q
IsAsked q (asked.Sometimes store) = IsModel q store.values
IsAsked q asked.Open = ⊤

-- the expression before the edge, or the edge, reads or writes the cell, and an edge behind reads
-- it
abbrev pub IsShared : Expr → Act → List Act → ℕ → Type 0
IsShared e a behind cell =
    (IsTrue (may_read e cell) ⊎ (ActReads a cell ⊎ ActWrites a cell)) × SomeActReads behind cell

-- the element of the states on whose store the expression has this truth
abbrev pub alone : Expr → Bool → Elem
alone e holds = record { facts = Truth e holds ∷ [] }

-- the expression e is nonzero, the edge is taken, and f is not nonzero then
abbrev pub against : List Cell → Expr → Act → Expr → Form
against cells e a f =
    form_of cells false (holding (told e) ∷ taken a ∷ failing (alone f true ∷ []) ∷ [])

-- the expression is neither nonzero nor zero
abbrev pub trapping : List Cell → Expr → Form
trapping cells f = form_of cells false (failing (alone f true ∷ alone f false ∷ []) ∷ [])

-- The expression f may stand behind the edge, where e stands before it and these edges follow: but
-- for what is said of the edges that follow, it is the next interpolant, well typed, and the two
-- parts of the cut weigh at most so much.
pub record IsStep (cells : List Cell) (gates : ℕ) (e : Expr) (a : Act) (behind : List Act)
    (f : Expr) : Type 0 where
  pub leads : LeadsTo cells a e f
  pub reads : ReadsShared a behind e f
  pub total : NeverTraps cells f
  pub typed : IsExpr cells f
  pub light : weight_at cells e a behind ≤ gates

-- the part before the cut weighs at most so much with a part behind it of this weight
abbrev pub IsLightWith : List Cell → ℕ → Expr → Act → ℕ → Type 0
IsLightWith cells gates e a weight =
    min ((before_cut cells e a).weight + weight) (2 ^ 64 - 1) ≤ gates

-- behind e one step for each edge
abbrev pub AreSteps : List Cell → ℕ → List Act → Expr → List Expr → Type 0
AreSteps cells gates [] e fs = fs ≡ []
AreSteps cells gates (a ∷ acts) e [] = ⊥
AreSteps cells gates (a ∷ acts) e (f ∷ fs) =
    IsStep cells gates e a acts f × AreSteps cells gates acts f fs

-- the first expression, and behind it one step for each edge of the path
abbrev pub AreStepsIn : Cfa → ℕ → List ℕ → List Expr → Type 0
AreStepsIn cfa gates edges [] = ⊥
AreStepsIn cfa gates edges (e ∷ fs) =
    AreSteps cfa.cells gates (acts_along cfa edges) e fs

-- Interpolants of the path, or a model of the path's query from any store, where the first cut is
-- not too heavy; or nothing is known.
abbrev pub IsFound : List Cell → ℕ → List Act → Words → Type 0
IsFound cells gates acts (words.Cuts exprs) = AreFound cells gates acts exprs.items
IsFound cells gates acts (words.Model store) =
    IsLight cells gates acts × IsModel (behind_cut cells acts).query store.values
IsFound cells gates acts words.Open = ⊤
