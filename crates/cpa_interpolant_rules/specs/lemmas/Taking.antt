-- Runs of stores as runs that meet the parts of a path at a cut.
use Rattle.std.proofs.Common.{◌≡◌, ℤ, Bool, true, List, [], ◌∷◌, ◌++◌, refl, sym}
use Rattle.std.proofs.Common.{Option, None, Some}
use Rattle.std.specs.List.{AllByRecursion}
use Rattle.std.specs.Prelude.{IsSome, IsSomeAnd}
use Rattle.std.proofs.lemmas.List.{append-nil}
use Rattle.cpa_expr.specs.declared.tree.Expr.{Expr}
use Rattle.cpa_expr.specs.Values.{HasTruth, is_nonzero}
use Rattle.cpa_model.specs.declared.program.Cell.{Cell}
use Rattle.cpa_model.specs.declared.automaton.Act.{Act}
use Rattle.cpa_model.specs.declared.automaton.Cfa.{Cfa}
use Rattle.cpa_model.specs.Acts.{IsActOf}
use Rattle.cpa_form_rules.specs.Runs.{Runs}
use Rattle.cpa_form_rules.specs.Laws.{IsAddedOf}
use Rattle.cpa_form_rules.specs.Stores.{steps_take_inputs}
use Rattle.cpa_interpolant_rules.specs.Stores.{IsStore, StepsBy, RunsFrom}
use Rattle.cpa_interpolant_rules.specs.Parts.{added_before, added_behind}

-- a run of stores meets the edges that are taken
pub runs_of : (cells : List Cell) (acts : List Act) (store : List ℤ) → RunsFrom cells acts store
    → (inputs last : List ℤ) × Runs cells (added_behind acts) store inputs last
runs_of cells [] store run = ([], store, (refl, refl))
runs_of cells (a ∷ acts) store (next, step, rest) =
    let (others, last, runs) = runs_of cells acts next rest in
    let (own, meets) = (steps_take_inputs.step cells a store next).0 step.step in
    (own ++ others, last, (next, own, others, meets, refl, runs))

pub starts_in : (cells : List Cell) (acts : List Act) (store : List ℤ) → RunsFrom cells acts store
    → IsStore cells store
starts_in cells [] store run = run
starts_in cells (a ∷ acts) store (next, step, rest) = step.before

-- one edge from a store where the expression is nonzero
pub run_before : (cells : List Cell) (e : Expr) (a : Act) (old new : List ℤ) → HasTruth old e true
    → StepsBy cells a old new
    → (inputs : List ℤ) × Runs cells (added_before e a) old inputs new
run_before cells e a old new holds step =
    let (own, meets) = (steps_take_inputs.step cells a old new).0 step.step in (
      own,
      (
        old,
        [],
        own,
        ((holds, tt), refl, refl),
        refl,
        (new, own, [], meets, sym (append-nil own), (refl, refl)),
      ),
    )

-- what has a truth has a value
pub has_value : (o : Option ℤ) (b : Bool) → IsSomeAnd o (λ a. is_nonzero a ≡ b) → IsSome o
has_value None b h = absurd h
has_value (Some a) b h = refl

-- edges that are taken fit where their acts do
pub all_taken : (cfa : Cfa) (acts : List Act) → AllByRecursion (IsActOf cfa) acts
    → AllByRecursion (IsAddedOf cfa) (added_behind acts)
all_taken cfa [] are = tt
all_taken cfa (a ∷ acts) are = (are.0, all_taken cfa acts are.1)
