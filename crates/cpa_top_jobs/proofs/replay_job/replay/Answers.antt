use Rattle.std.proofs.Common.{ℕ, ℤ, List, refl, sym, ◌∙◌, subst}
use Rattle.std.specs.Prelude.{Option}
use Rattle.std.proofs.lemmas.Result.{err_from_is_err_and}
use Rattle.cpa_top_jobs.specs.Inputs.{IsInputs}
use Rattle.cpa_top_jobs.specs.Jobs.{given}
use Rattle.cpa_top_jobs.specs.Refusals.{IsDone, IsHalted, IsTaken, IsOutcome}
use Rattle.cpa_top_jobs.proofs.Ends.{replay_stops, inputs_stop, replay_ends}
use Rattle.cpa_top_jobs.proofs.Stages.{moved}
use Rattle.cpa_top_jobs.proofs.replay_job.replay.Goals as goal

pub returns-in_err-program : goal.returns-in_err-program
returns-in_err-program g c = λ analyses.
    let p = err_from_is_err_and c.from_residual.result c.from_residual.ensures.1 in
    subst (IsDone _ analyses _) (sym p.1)
    (replay_stops _ analyses c.args.program.now c.args.list.now c.args.steps c.args.model p.0
    (subst (IsHalted _ _) (sym p.2)
    (c.in_err-program.ensures.refused (given c.args.model) refl)))

pub returns-in_err-numbers : goal.returns-in_err-numbers
returns-in_err-numbers g c = λ analyses.
    let p = err_from_is_err_and c.from_residual-in_err-numbers.result
    c.from_residual-in_err-numbers.ensures.1 in
    let before = c.in_ok-program.ensures in
    subst (IsDone _ analyses _) (sym p.1)
    (inputs_stop _ analyses c.args.program.now c.args.list.now c.args.steps c.args.model
    c.in_ok-program.program p.0 before.program
    (moved _ _ _ _ _ _ p.0 before.told before.reads
    (subst (IsHalted _ _) (sym p.2) c.in_err-numbers.ensures.refused)))

pub returns : goal.returns
returns g c = λ analyses.
    let before = c.in_ok-program.ensures in
    let after = c.in_ok-numbers.ensures in
    let numbers = c.in_ok-numbers.numbers.items in
    replay_ends _ analyses c.args.program.now c.args.list.now c.args.steps c.args.model
    c.in_ok-program.program numbers c.in_ok-conclude.field-0 before.program
    (subst (λ (told : List ℕ → Option (List ℕ)).
    IsTaken (told c.args.list.now) (λ bytes. IsInputs bytes numbers)) before.told after.inputs)
    (after.reads ∙ before.reads)
    (subst (λ (ns : List ℤ). IsOutcome c.args.steps c.in_ok-program.program ns
    c.in_ok-conclude.field-0) c.as_slice.ensures.value c.in_ok-conclude.ensures)
