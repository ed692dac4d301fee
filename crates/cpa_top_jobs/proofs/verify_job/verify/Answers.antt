use Rattle.std.proofs.Common.{◌≡◌, ℕ, List, map, sym, ap, ◌∙◌, subst}
use Rattle.std.specs.Prelude.{Option, option_map}
use Rattle.std.specs.String.{string_bytes}
use Rattle.std.proofs.lemmas.List.{length-map}
use Rattle.std.proofs.lemmas.Result.{err_from_is_err_and}
use Rattle.c_program.specs.Programs.{IsTheProgram}
use Rattle.cpa_composite.specs.Components.{ArePlaces}
use Rattle.cpa_top_jobs.specs.Jobs.{names_of, of_config}
use Rattle.cpa_top_jobs.specs.Refusals.{IsDone, IsHalted, IsTaken}
use Rattle.cpa_top_jobs.proofs.Ends.{as_many, config_stops, model_told, program_stops}
use Rattle.cpa_top_jobs.proofs.Ends.{verify_ends}
use Rattle.cpa_top_jobs.proofs.Stages.{moved}
use Rattle.cpa_top_jobs.proofs.verify_job.verify.Goals as goal

pub returns-in_err-config : goal.returns-in_err-config
returns-in_err-config g c =
    let p = err_from_is_err_and c.from_residual-in_err-config.result
    c.from_residual-in_err-config.ensures.1 in
    let meanings = map g.A.Analysis.meaning in
    let same : map string_bytes c.as_slice-2.result.now ≡ names_of
    (meanings c.args.analyses.items) =
    ap (map string_bytes) c.as_slice-2.ensures.value ∙ c.in_ok-names.ensures
    ∙ ap (λ xs. names_of (meanings xs)) c.as_slice.ensures.value in
    subst (IsDone _ _ _) (sym p.1)
    (config_stops _ (meanings c.args.analyses.items) c.args.program.now _ _ p.0 same
    (subst (IsHalted _ _) (sym p.2) c.in_err-config.ensures.refused))

pub returns-in_err-program : goal.returns-in_err-program
returns-in_err-program g c =
    let p = err_from_is_err_and c.from_residual-in_err-program.result
    c.from_residual-in_err-program.ensures.1 in
    let before = c.in_ok-config.ensures in
    let meanings = map g.A.Analysis.meaning in
    let same : map string_bytes c.as_slice-2.result.now ≡ names_of
    (meanings c.args.analyses.items) =
    ap (map string_bytes) c.as_slice-2.ensures.value ∙ c.in_ok-names.ensures
    ∙ ap (λ xs. names_of (meanings xs)) c.as_slice.ensures.value in
    let file : Option (List ℕ) = option_map (λ s. s.now) c.args.file in
    subst (IsDone _ _ _) (sym p.1)
    (program_stops _ (meanings c.args.analyses.items) c.args.program.now _ _
    c.in_ok-config.config p.0 same before.config
    (moved _ _ _ _ _ _ p.0 before.told before.reads
    (subst (IsHalted _ _) (sym p.2)
    (c.in_err-program.ensures.refused
    (of_config (names_of (meanings c.args.analyses.items)) file)
    (model_told _ _ file _ _ c.in_ok-config.config before.told same before.config)))))

pub conclude-requires-clause-places : goal.conclude-requires-clause-places
conclude-requires-clause-places g c =
    let meanings = map g.A.Analysis.meaning in
    let same : map string_bytes c.as_slice-2.result.now ≡ names_of
    (meanings c.args.analyses.items) =
    ap (map string_bytes) c.as_slice-2.ensures.value ∙ c.in_ok-names.ensures
    ∙ ap (λ xs. names_of (meanings xs)) c.as_slice.ensures.value in
    subst (λ (n : ℕ). ArePlaces n c.in_ok-config.config.picks)
    (as_many string_bytes c.as_slice-2.result.now (meanings c.args.analyses.items) same
    ∙ length-map c.args.analyses.items g.A.Analysis.meaning)
    c.in_ok-config.ensures.places

pub returns : goal.returns
returns g c =
    let before = c.in_ok-config.ensures in
    let after = c.in_ok-program.ensures in
    let meanings = map g.A.Analysis.meaning in
    let same : map string_bytes c.as_slice-2.result.now ≡ names_of
    (meanings c.args.analyses.items) =
    ap (map string_bytes) c.as_slice-2.ensures.value ∙ c.in_ok-names.ensures
    ∙ ap (λ xs. names_of (meanings xs)) c.as_slice.ensures.value in
    verify_ends _ (meanings c.args.analyses.items) c.args.program.now _ _ c.in_ok-config.config
    c.in_ok-program.program c.in_ok-conclude.field-0 same before.config
    (subst (λ (told : List ℕ → Option (List ℕ)).
    IsTaken (told c.args.program.now)
    (λ bytes. IsTheProgram c.in_ok-config.config.model bytes c.in_ok-program.program))
    before.told after.program)
    (after.reads ∙ before.reads) c.in_ok-conclude.ensures
