-- Models of a cut's formula are runs of stores through the cut; where there is none behind the last
-- edge, 0 is the next interpolant.
use Rattle.std.proofs.Common.{◌≡◌, ℕ, ◌≤◌, ℤ, pos, Bool, List, [], ◌∷◌}
use Rattle.std.proofs.Common.{refl, sym, subst, arith, IsTrue}
use Rattle.std.specs.Prelude.{IsSome}
use Rattle.std.proofs.lemmas.Int.{ints}
use Rattle.std.specs.List.{AllByRecursion}
use Rattle.cpa_ints.specs.declared.integers.IntType.TheVariants as ty
use Rattle.cpa_cnf.specs.declared.formula.Cnf.{Cnf}
use Rattle.cpa_cnf.specs.declared.formula.Line.{Line}
use Rattle.cpa_cnf.specs.Lines.{IsRefutation}
use Rattle.cpa_cnf.specs.Models.{IsModel}
use Rattle.cpa_sat.specs.Outcomes.{IsRefutedWithin}
use Rattle.cpa_expr.specs.declared.tree.Expr.{Expr}
use Rattle.cpa_expr.specs.Cells.{may_read}
use Rattle.cpa_expr.specs.Laws.{reads_at_variants, value_at_variants, a_constant_is_its_number}
use Rattle.cpa_model.specs.declared.program.Cell.{Cell}
use Rattle.cpa_model.specs.declared.automaton.Act.{Act}
use Rattle.cpa_model.specs.declared.automaton.Cfa.{Cfa}
use Rattle.cpa_model.specs.Expressions.{types_of, IsExpr}
use Rattle.cpa_form_rules.specs.Runs.{Runs}
use Rattle.cpa_form_rules.specs.Stores.{steps_take_inputs}
use Rattle.cpa_folds.specs.Along.{acts_along}
use Rattle.cpa_interpolant_rules.specs.Stores.{IsStore, RunsFrom}
use Rattle.cpa_interpolant_rules.specs.Interpolants.{IsNext, zero}
use Rattle.cpa_interpolant_rules.specs.Laws.{interpolants_leave_no_run}
use Rattle.cpa_interpolant_rules.specs.Parts.{added_behind}
use Rattle.cpa_interpolant_cuts.specs.Laws.{IsCut, CutsAreRuns}
use Rattle.cpa_interpolant_rules.specs.lemmas.Taking.{run_before}
use Rattle.cpa_interpolant_rules.specs.Found.{weight_at}
use Rattle.cpa_interpolant_answers.specs.Answers.{formula_at, HasRun, IsNextBehind}
use Rattle.cpa_interpolant_rules.specs.lemmas.Keeping.{Keeps}

-- a run that meets the edges is one of stores
runs_from : (cells : List Cell) (acts : List Act) → AllByRecursion (Keeps cells) acts
    → (first inputs last : List ℤ) → IsStore cells first
    → Runs cells (added_behind acts) first inputs last → RunsFrom cells acts first
runs_from cells [] keep first inputs last is run = is
runs_from cells (a ∷ acts) keep first inputs last is (next, own, others, meets, split, rest) =
    let step = (steps_take_inputs.step cells a first next).1 (own, meets) in
    let then = keep.0 first next is step in (
      next,
      record { before = is; after = then; step = step },
      runs_from cells acts keep.1 next others last then rest,
    )

-- a model of the cut's formula is a run through the cut
pub run_through : CutsAreRuns → (cfa : Cfa) (e : Expr) (a : Act) (acts : List Act)
    (truths : List Bool) → IsCut cfa e a acts → AllByRecursion (Keeps cfa.cells) (a ∷ acts)
    → IsModel (formula_at cfa e a acts) truths → HasRun cfa.cells (a ∷ acts) e
run_through runs cfa e a acts truths cut keep is =
    let (first, inputs, last, store, run) = runs.run cfa e a acts truths cut is in
    let (next, own, others, meets, split, rest) = run in
    record {
      store = first;
      holds = meets.0.0;
      run = runs_from cfa.cells (a ∷ acts) keep first others last store
          (subst (λ s. Runs cfa.cells (added_behind (a ∷ acts)) s others last) meets.2 rest);
    }

-- ---- behind the last edge

abbrev pub NeverRefuted : Type 0
NeverRefuted = (cnf : Cnf) (log : List Line) (values : List Bool) → IsRefutation cnf log
    → IsModel cnf values → ⊥

zero_is_expr : (cells : List Cell) → IsExpr cells zero
zero_is_expr cells = (a_constant_is_its_number (types_of cells) ty.I32 (pos 0)).1
    (omega (arith, ints), omega (arith, ints))

-- 0 is the next interpolant behind the last edge, where the formula of the cut there is refuted
pub last_next : CutsAreRuns → NeverRefuted → (cfa : Cfa) (learnt gates : ℕ) (e : Expr) (a : Act)
    (lines : List Line) (f : Expr) → f ≡ zero → IsCut cfa e a []
    → IsRefutedWithin (formula_at cfa e a []) learnt lines → weight_at cfa.cells e a [] ≤ gates
    → IsNextBehind cfa learnt gates e a [] f
last_next runs never cfa learnt gates e a lines f is cut refuted weighs = record {
  done = record { weighs = weighs; lines = lines; refuted = refuted; expr = is };
  next = subst (IsNext cfa.cells a [] e) (sym is) (record {
    leads = λ old new holds step.
        let run = run_before cfa.cells e a old new holds step in
        let model = runs.model cfa e a [] old run.0 new cut step.before run.1 in
        absurd (never (formula_at cfa e a []) lines model.0 refuted.refutes model.1);
    ends = interpolants_leave_no_run cfa.cells [] zero [] refl refl;
    reads = λ cell reads. absurd (not_read cell reads);
    total = λ store own.
        subst IsSome (sym (value_at_variants.constant ty.I32 (pos 0) store)) refl;
  });
  expr = subst (IsExpr cfa.cells) (sym is) (zero_is_expr cfa.cells);
}
  where
    not_read : (cell : ℕ) → IsTrue (may_read zero cell) → ⊥
    not_read cell reads = cc (reads, reads_at_variants.constant ty.I32 (pos 0) cell)

pub last_behind : CutsAreRuns → NeverRefuted → (cfa : Cfa) (learnt gates : ℕ) (e : Expr) (a : Act)
    (path : List ℕ) (lines : List Line) (f : Expr) → f ≡ zero → path ≡ []
    → IsCut cfa e a (acts_along cfa path)
    → IsRefutedWithin (formula_at cfa e a (acts_along cfa path)) learnt lines
    → weight_at cfa.cells e a (acts_along cfa path) ≤ gates
    → IsNextBehind cfa learnt gates e a (acts_along cfa path) f
last_behind runs never cfa learnt gates e a [] lines f is none cut refuted weighs =
    last_next runs never cfa learnt gates e a lines f is cut refuted weighs
last_behind runs never cfa learnt gates e a (n ∷ path) lines f is none cut refuted weighs =
    absurd (cc)
