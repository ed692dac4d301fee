-- A cut whose formula is refuted, before its expression is made (this project's own).
use Rattle.std.specs.Prelude.{◌≡◌, ℕ, ◌≤◌, ⊤, List, ◌∷◌, length}
use Rattle.std.specs.List.{AllByRecursion}
use Rattle.cpa_cnf.specs.Lines.{AreBelow, IsRefutation}
use Rattle.cpa_sat.specs.Outcomes.{IsRefutedWithin}
use Rattle.cpa_expr.specs.declared.tree.Expr.{Expr}
use Rattle.cpa_model.specs.declared.automaton.Act.{Act}
use Rattle.cpa_model.specs.declared.automaton.Cfa.{Cfa}
use Rattle.cpa_interpolant_rules.specs.Parts.{before_cut, behind_cut}
use Rattle.cpa_interpolant_cuts.specs.Cuts.{sides_at, shared_bits_of}
use Rattle.cpa_interpolant_cuts.specs.Laws.{IsCut}
use Rattle.cpa_interpolant_rules.specs.Found.{weight_at}
use Rattle.cpa_interpolant_answers.specs.Answers.{formula_at, IsAnswer}
use Rattle.cpa_interpolant_answers.specs.declared.asking.Refuted.{Refuted}
use Rattle.cpa_interpolant_answers.specs.declared.asking.Asked.{Asked}
use Rattle.cpa_interpolant_answers.specs.declared.asking.Asked.TheVariants as asked

-- a formula of two sides over its variables, and lines that refute it
pub record IsWhole (r : Refuted) : Type 0 where
  pub sides : length r.joined.sides.items ≡ length r.joined.cnf.clauses
  pub below : AllByRecursion (AreBelow r.joined.cnf.vars) r.joined.cnf.clauses
  pub refutes : IsRefutation r.joined.cnf r.lines.items

-- it is the formula of a cut that is not the last one
pub record IsOfCut (cfa : Cfa) (learnt gates : ℕ) (e : Expr) (a : Act) (acts : List Act)
    (r : Refuted) : Type 0 where
  pub cut : IsCut cfa e a acts
  pub weighs : weight_at cfa.cells e a acts ≤ gates
  pub cnf : r.joined.cnf ≡ formula_at cfa e a acts
  pub sides : r.joined.sides.items ≡ sides_at (before_cut cfa.cells e a) (behind_cut cfa.cells acts)
  pub bits : r.joined.bits.items
      ≡ shared_bits_of cfa.cells (before_cut cfa.cells e a) (behind_cut cfa.cells acts)
  pub refuted : IsRefutedWithin (formula_at cfa e a acts) learnt r.lines.items
  pub act : Act
  pub behind : List Act
  pub onward : acts ≡ act ∷ behind

abbrev pub IsAsked : Cfa → ℕ → ℕ → Expr → Act → List Act → Asked → Type 0
IsAsked cfa learnt gates e a acts (asked.Refuted r) = IsOfCut cfa learnt gates e a acts r
IsAsked cfa learnt gates e a acts (asked.Ended answer) = IsAnswer cfa learnt gates e a acts answer

abbrev pub WholeIfRefuted : Asked → Type 0
WholeIfRefuted (asked.Refuted r) = IsWhole r
WholeIfRefuted (asked.Ended answer) = ⊤
