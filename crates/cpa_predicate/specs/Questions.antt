-- What is asked of the solver about an edge, and when a question stays undecided (this project's
-- own).
use Rattle.std.specs.Prelude.{◌≡◌, ℕ, ◌≤◌, ◌<◌, ◌-◌, ◌^◌, ◌⊎◌, Bool, false, List, [], ◌∷◌, ⊤}
use Rattle.std.specs.Prelude.{Option, None, Some}
use Rattle.std.specs.Coded.{Π_prop, →_prop}
use Rattle.std.specs.List.{Contains}
use Rattle.cpa_expr.specs.declared.tree.Expr.{Expr}
use Rattle.cpa_facts.specs.declared.fact.Fact.TheVariants.{Truth}
use Rattle.cpa_model.specs.declared.facts.Elem.{Elem}
use Rattle.cpa_model.specs.declared.automaton.Edge.{Edge}
use Rattle.cpa_model.specs.declared.automaton.Cfa.{Cfa}
use Rattle.cpa_model.specs.Acts.{IsActOf}
use Rattle.cpa_model.specs.Automata.{IsAutomaton}
use Rattle.cpa_model.specs.Facts.{IsElem}
use Rattle.cpa_cnf.specs.declared.formula.Line.{Line}
use Rattle.cpa_query.specs.declared.query.Query.{Query}
use Rattle.cpa_sat.specs.Outcomes.{IsSpent}
use Rattle.cpa_blast.specs.Formulas.{formula}
use Rattle.cpa_form_rules.specs.Runs.{taken, holding, failing}
use Rattle.cpa_form_rules.specs.Forms.{Form, form_of, with_added}
use Rattle.cpa_solver.specs.Decisions.{HasNoModel}
use Rattle.cpa_predicate.specs.declared.asking.Budgets.{Budgets}
use Rattle.cpa_predicate.specs.declared.asking.Answer.{Answer}
use Rattle.cpa_predicate.specs.declared.asking.Answer.TheVariants.{Never, Sometimes, Undecided}
use Rattle.cpa_predicate.specs.Steps.{truths}

-- whether the edge leads anywhere, and whether it leads to a store on which the expression has not
-- this truth
pub data Question : Type 0 where
  steps : Question
  lacks : Expr → Bool → Question

-- from any store on which the predicates of the element have their truths the edge is taken
abbrev pub step_form : Cfa → Elem → Edge → Form
step_form cfa e g = form_of cfa.cells false (holding (truths e) ∷ taken g.act ∷ [])

-- and then the expression has not this truth
abbrev pub lacking : Expr → Bool → Form → Form
lacking p holds form =
    with_added (failing ((record { facts = Truth p holds ∷ [] }) ∷ [])) form

-- the form whose query is asked
abbrev pub form_asked : Cfa → Elem → Edge → Question → Form
form_asked cfa e g steps = step_form cfa e g
form_asked cfa e g (lacks p holds) = lacking p holds (step_form cfa e g)

-- the question is on these predicates
abbrev pub IsOn : List Expr → Question → Type 0
IsOn preds steps = ⊤
IsOn preds (lacks p holds) = Contains preds p

-- So many good lines stand over the query's formula, none empty, different from each other and from
-- its clauses: a search that may learn no more need not decide it.
abbrev pub OutlastsSearch : ℕ → Query → Type 0
OutlastsSearch learnt q = (lines : List Line) × IsSpent (formula q) learnt lines

-- the budgets do not do for the form's query: it weighs more than they allow, or outlasts the
-- search
abbrev pub IsBeyond : Budgets → Form → Type 0
IsBeyond b form = (b.gates < form.weight) ⊎ OutlastsSearch b.learnt form.query

-- the answer settles the query: it has no model, or it has one
abbrev pub IsSettledBy : Query → Answer → Type 0
IsSettledBy q Never = HasNoModel q
IsSettledBy q Sometimes = HasNoModel q → ⊥
IsSettledBy q Undecided = ⊥

-- a fact that has at most one proof, as a fact that is kept beside a query has to be
pub IsSettledBy-prop : (q : Query) (answer : Answer) → IsProp (IsSettledBy q answer)
IsSettledBy-prop q Never = Π_prop (λ values. →_prop (λ x y. absurd x))
IsSettledBy-prop q Sometimes = →_prop (λ x y. absurd x)
IsSettledBy-prop q Undecided = λ x y. absurd x

-- the answer to a query is right, of a search that may learn so many lines
abbrev pub IsAnswerTo : Query → ℕ → Answer → Type 0
IsAnswerTo q learnt Never = HasNoModel q
IsAnswerTo q learnt Sometimes = HasNoModel q → ⊥
IsAnswerTo q learnt Undecided = OutlastsSearch learnt q

-- and the answer to the form's query, within the budgets
abbrev pub IsAnswered : Budgets → Form → Answer → Type 0
IsAnswered b form Undecided = IsBeyond b form
IsAnswered b form answer = IsAnswerTo form.query b.learnt answer

-- What asking makes of the budgets: they stay, and the count of undecided questions never falls,
-- and rises only where there is a cause.
pub record Spends (before after : Budgets) (Cause : Type 0) : Type 0 where
  pub learnt : after.learnt ≡ before.learnt
  pub gates : after.gates ≡ before.gates
  pub grows : before.spent ≤ after.spent
  pub rises : before.spent < after.spent → Cause

-- The question about the form was not decided: the budgets do not do, and it was counted, unless
-- the count stands at the greatest number of 64 bits.
pub record IsUndecided (before after : Budgets) (form : Form) : Type 0 where
  pub beyond : IsBeyond before form
  pub counted : before.spent < 2 ^ 64 - 1 → before.spent < after.spent

-- The truth that is found of the expression behind the form: it has it wherever the form's runs
-- end. None is found only where each question on one that it has was not decided.
abbrev pub IsFound : Budgets → Budgets → Form → Expr → Option Bool → Type 0
IsFound before after form p (Some holds) = HasNoModel (lacking p holds form).query
IsFound before after form p None =
    (holds : Bool) → HasNoModel (lacking p holds form).query
    → IsUndecided before after (lacking p holds form)

-- the question was not decided
abbrev pub IsOpen : Budgets → Budgets → Cfa → Elem → Edge → Question → Type 0
IsOpen before after cfa e g question = IsUndecided before after (form_asked cfa e g question)

-- the budgets do not do for some question on these predicates
abbrev pub SomeBeyond : Budgets → Cfa → Elem → Edge → List Expr → Type 0
SomeBeyond b cfa e g preds =
    (question : Question) × IsOn preds question × IsBeyond b (form_asked cfa e g question)

-- the form of a step along an edge of the automaton, from an element that is shaped for it
pub record IsStep (cfa : Cfa) (e : Elem) (g : Edge) (form : Form) : Type 0 where
  pub automaton : IsAutomaton cfa
  pub act : IsActOf cfa g.act
  pub elem : IsElem cfa.cells cfa.points e
  pub is : form ≡ step_form cfa e g
