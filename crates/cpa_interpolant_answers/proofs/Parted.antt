-- What the calls for one cut are told is that of the cut.
use Rattle.std.proofs.Common.{◌≡◌, ℕ, ◌<◌, ◌≤◌, ◌^◌, Bool, List, [], ◌∷◌, ◌++◌, length, Option}
use Rattle.std.proofs.Common.{Some, true, false}
use Rattle.std.specs.Prelude.{◌==◌}
use Rattle.std.proofs.lemmas.Bool.{eqb-true, eq-eqb}
use Rattle.std.proofs.Common.{slice_get, refl, sym, ap, ◌∙◌, subst, arith}
use Rattle.std.specs.List.{AllByRecursion}
use Rattle.cpa_cnf.specs.declared.formula.Cnf.{Cnf}
use Rattle.cpa_cnf.specs.Lines.{AreBelow}
use Rattle.cpa_expr.specs.declared.tree.Expr.{Expr}
use Rattle.cpa_model.specs.declared.automaton.Act.{Act}
use Rattle.cpa_model.specs.declared.automaton.Edge.{Edge}
use Rattle.cpa_model.specs.declared.automaton.Cfa.{Cfa}
use Rattle.cpa_model.specs.declared.program.Program.{Program}
use Rattle.cpa_model.specs.Acts.{IsEdgeOf}
use Rattle.cpa_model.specs.Automata.{IsAutomaton}
use Rattle.cpa_model.specs.Programs.{IsWellFormed}
use Rattle.cpa_model.specs.Steps.{StepsKeepStates}
use Rattle.cpa_model.specs.Expressions.{IsExpr}
use Rattle.cpa_form_rules.specs.Forms.{Form}
use Rattle.cpa_folds.specs.Along.{act_of, acts_along}
use Rattle.cpa_interpolant_bits.specs.declared.bits.Bit.{Bit}
use Rattle.cpa_interpolant_rules.specs.Parts.{before_cut, behind_cut}
use Rattle.cpa_interpolant_cuts.specs.Cuts.{formula_of, sides_at}
use Rattle.cpa_interpolant_rules.specs.Parts.{weight_of}
use Rattle.cpa_interpolant_cuts.specs.Cuts.{shared_bits_of}
use Rattle.cpa_interpolant_cuts.specs.Laws.{IsCut, CutsAreAsked}
use Rattle.cpa_interpolant_cuts.specs.lemmas.Meet.{AreParts}
use Rattle.cpa_interpolant_rules.specs.Found.{weight_at}
use Rattle.cpa_interpolant_answers.specs.Answers.{formula_at}
use Rattle.cpa_interpolant_rules.specs.lemmas.Keeping.{AreLaws, AreGood, edge_there, good_edge}
use Rattle.cpa_interpolant_rules.specs.lemmas.Keeping.{good_path}

-- the cells of an automaton are few
pub few_cells : (cfa : Cfa) → IsAutomaton cfa → length cfa.cells < 2 ^ 32
few_cells cfa is =
    let few = is.well_formed.few_cells in
    let count = ap length is.automaton.cells in
    omega (arith, few, count)

-- a path that is empty, and one that is not
from_length : (path : List ℕ) → length path ≡ 0 → path ≡ []
from_length [] h = refl
from_length (n ∷ path) h = absurd (omega (arith, h))

pub none_of : (path : List ℕ) → true ≡ (length path == 0) → path ≡ []
none_of path h = from_length path (eqb-true (length path) 0 (sym h))

pub some_of : (path : List ℕ) → false ≡ (length path == 0) → path ≡ [] → ⊥
some_of path h none = let both : false ≡ true = h ∙ eq-eqb (length path) 0 (ap length none) in cc

-- a path with edges has a first act
pub first_of : (cfa : Cfa) (path : List ℕ) → AllByRecursion (λ n. n < length cfa.edges) path
    → (path ≡ [] → ⊥) → (a : Act) × (acts : List Act) × (acts_along cfa path ≡ a ∷ acts)
first_of cfa [] inside some = absurd (some refl)
first_of cfa (n ∷ path) inside some =
    let (g, is) = edge_there cfa n inside.0 in
    (g.act, acts_along cfa path, ap (λ (o : Option Edge). act_of o ++ acts_along cfa path) is)

-- the expression and the edge of a number in front of the cut, the edges of a path behind it; what
-- the calls of its parts say of two forms
pub record IsAt (cfa : Cfa) (e : Expr) (edge : ℕ) (behind : List ℕ) (A B : Form) : Type 0 where
  pub laws : AreLaws cfa
  pub expr : IsExpr cfa.cells e
  pub edge_in : edge < length cfa.edges
  pub path_in : AllByRecursion (λ n. n < length cfa.edges) behind
  pub before : (g : Edge) → slice_get cfa.edges edge ≡ Some g → A ≡ before_cut cfa.cells e g.act
  pub after : B ≡ behind_cut cfa.cells (acts_along cfa behind)
  pub few_before : length A.query.cells < 2 ^ 64
  pub few_behind : length B.query.cells < 2 ^ 64

pub at_cut : (cfa : Cfa) (e : Expr) (edge : ℕ) (behind : List ℕ) (A B : Form) → IsAutomaton cfa
    → ((n : ℕ) (g : Edge) → slice_get cfa.edges n ≡ Some g → IsEdgeOf cfa g)
    → ((P : Program) → IsWellFormed P → StepsKeepStates P) → IsExpr cfa.cells e
    → edge < length cfa.edges → AllByRecursion (λ n. n < length cfa.edges) behind
    → ((g : Edge) → slice_get cfa.edges edge ≡ Some g → A ≡ before_cut cfa.cells e g.act)
    → B ≡ behind_cut cfa.cells (acts_along cfa behind) → length A.query.cells < 2 ^ 64
    → length B.query.cells < 2 ^ 64 → IsAt cfa e edge behind A B
at_cut cfa e edge behind A B automaton sound keep expr inside path before after few more = record {
  laws = record { automaton = automaton; sound = sound; keep = keep };
  expr = expr;
  edge_in = inside;
  path_in = path;
  before = before;
  after = after;
  few_before = few;
  few_behind = more;
}

module _ (cfa : Cfa) (e : Expr) (edge : ℕ) (behind : List ℕ) (A B : Form)
    (at : IsAt cfa e edge behind A B) where
  abbrev pub acts : List Act
  acts = acts_along cfa behind

  pub good : (g : Edge) → slice_get cfa.edges edge ≡ Some g → AreGood cfa (g.act ∷ acts)
  good g is =
      good_edge cfa at.laws edge g is acts (good_path cfa at.laws behind at.path_in)

  pub cut_of : (g : Edge) → slice_get cfa.edges edge ≡ Some g → IsCut cfa e g.act acts
  cut_of g is = record {
    automaton = at.laws.automaton;
    expr = at.expr;
    act = (good g is).fit.0;
    behind = (good g is).fit.1;
    few_before = subst (λ (form : Form). length form.query.cells < 2 ^ 64) (at.before g is)
        at.few_before;
    few_behind = subst (λ (form : Form). length form.query.cells < 2 ^ 64) at.after at.few_behind;
  }

  -- two forms in place of those of the cut
  moved : (P : Form → Form → Type 0) (g : Edge) → slice_get cfa.edges edge ≡ Some g
      → P (before_cut cfa.cells e g.act) (behind_cut cfa.cells acts) → P A B
  moved P g is given =
      subst (λ form. P form B) (sym (at.before g is))
      (subst (P (before_cut cfa.cells e g.act)) (sym at.after) given)

  pub parts_there : CutsAreAsked → AreParts cfa.cells A B
  parts_there asked =
      let (g, is) = edge_there cfa edge at.edge_in in
      moved (AreParts cfa.cells) g is (asked.parts cfa e g.act acts (cut_of g is))

  pub below_there : CutsAreAsked
      → AllByRecursion (AreBelow (formula_of cfa.cells A B).vars) (formula_of cfa.cells A B).clauses
  below_there asked =
      let (g, is) = edge_there cfa edge at.edge_in in
      moved (λ form other. AllByRecursion (AreBelow (formula_of cfa.cells form other).vars)
      (formula_of cfa.cells form other).clauses) g is (asked.below cfa e g.act acts (cut_of g is))

  module _ (g : Edge) (is : slice_get cfa.edges edge ≡ Some g) where
    pub weight_is : (weight : ℕ) → weight ≡ weight_of A B
        → weight ≡ weight_at cfa.cells e g.act acts
    weight_is weight own =
        own ∙ (ap (λ form. weight_of form B) (at.before g is)
        ∙ ap (weight_of (before_cut cfa.cells e g.act)) at.after)

    pub cnf_is : (cnf : Cnf) → cnf ≡ formula_of cfa.cells A B → cnf ≡ formula_at cfa e g.act acts
    cnf_is cnf own =
        own ∙ (ap (λ form. formula_of cfa.cells form B) (at.before g is)
        ∙ ap (formula_of cfa.cells (before_cut cfa.cells e g.act)) at.after)

    pub sides_are : (sides : List Bool) → sides ≡ sides_at A B
        → sides ≡ sides_at (before_cut cfa.cells e g.act) (behind_cut cfa.cells acts)
    sides_are sides own =
        own ∙ (ap (λ form. sides_at form B) (at.before g is)
        ∙ ap (sides_at (before_cut cfa.cells e g.act)) at.after)

    pub bits_are : (bits : List (Option Bit)) → bits ≡ shared_bits_of cfa.cells A B
        → bits ≡ shared_bits_of cfa.cells (before_cut cfa.cells e g.act) (behind_cut cfa.cells acts)
    bits_are bits own =
        own ∙ (ap (λ form. shared_bits_of cfa.cells form B) (at.before g is)
        ∙ ap (shared_bits_of cfa.cells (before_cut cfa.cells e g.act)) at.after)

    pub light : (gates weight : ℕ) → weight ≡ weight_of A B → weight ≤ gates
        → weight_at cfa.cells e g.act acts ≤ gates
    light gates weight own within =
        subst (λ n. n ≤ gates) (weight_is weight own) within
