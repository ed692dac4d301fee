use Rattle.std.proofs.Common.{◌≡◌, ℕ, List, map, sym, ap, ◌∙◌, subst}
use Rattle.std.specs.Prelude.{Option, IfSome, option_map}
use Rattle.std.specs.String.{string_bytes}
use Rattle.std.proofs.lemmas.Result.{err_from_is_err_and}
use Rattle.c_program.specs.Programs.{IsTheProgram}
use Rattle.cpa_top_jobs.specs.Jobs.{names_of, of_config}
use Rattle.cpa_top_jobs.specs.Refusals.{IsChecked, IsDone, IsHalted, IsRefusedAt, IsReportRefused}
use Rattle.cpa_top_jobs.specs.Refusals.{IsTaken}
use Rattle.cpa_top_jobs.proofs.Ends.{model_told}
use Rattle.cpa_top_jobs.proofs.Rechecks.{config_stops, program_stops, read_stops, recheck_ends}
use Rattle.cpa_top_jobs.proofs.Rechecks.{text_stops}
use Rattle.cpa_top_jobs.proofs.Stages.{moved, moved_at}
use Rattle.cpa_top_jobs.proofs.recheck_job.recheck.Goals as goal

pub returns-in_err-config : goal.returns-in_err-config
returns-in_err-config g c =
    let p = err_from_is_err_and c.from_residual-in_err-config.result
    c.from_residual-in_err-config.ensures.1 in
    let meanings = map g.A.Analysis.meaning in
    let same : map string_bytes c.as_slice-2.result.now ≡ names_of
    (meanings c.args.analyses.items) =
    ap (map string_bytes) c.as_slice-2.ensures.value ∙ c.in_ok-names.ensures
    ∙ ap (λ xs. names_of (meanings xs)) c.as_slice.ensures.value in
    subst (IsDone _ _ _) (sym p.1)
    (config_stops _ (meanings c.args.analyses.items) c.args.program.now c.args.report.now _ _
    same p.0
    (subst (IsHalted _ _) (sym p.2) c.in_err-config.ensures.refused))

pub returns-in_err-program : goal.returns-in_err-program
returns-in_err-program g c =
    let p = err_from_is_err_and c.from_residual-in_err-program.result
    c.from_residual-in_err-program.ensures.1 in
    let first = c.in_ok-config.ensures in
    let meanings = map g.A.Analysis.meaning in
    let same : map string_bytes c.as_slice-2.result.now ≡ names_of
    (meanings c.args.analyses.items) =
    ap (map string_bytes) c.as_slice-2.ensures.value ∙ c.in_ok-names.ensures
    ∙ ap (λ xs. names_of (meanings xs)) c.as_slice.ensures.value in
    let file : Option (List ℕ) = option_map (λ s. s.now) c.args.file in
    subst (IsDone _ _ _) (sym p.1)
    (program_stops _ (meanings c.args.analyses.items) c.args.program.now c.args.report.now _ _ same
    c.in_ok-config.config first.config p.0
    (moved _ _ _ _ _ _ p.0 first.told first.reads
    (subst (IsHalted _ _) (sym p.2)
    (c.in_err-program.ensures.refused
    (of_config (names_of (meanings c.args.analyses.items)) file)
    (model_told _ _ file _ _ c.in_ok-config.config first.told same first.config)))))

pub returns-in_err-text : goal.returns-in_err-text
returns-in_err-text g c =
    let p = err_from_is_err_and c.from_residual-in_err-text.result
    c.from_residual-in_err-text.ensures.1 in
    let first = c.in_ok-config.ensures in
    let second = c.in_ok-program.ensures in
    let meanings = map g.A.Analysis.meaning in
    let same : map string_bytes c.as_slice-2.result.now ≡ names_of
    (meanings c.args.analyses.items) =
    ap (map string_bytes) c.as_slice-2.ensures.value ∙ c.in_ok-names.ensures
    ∙ ap (λ xs. names_of (meanings xs)) c.as_slice.ensures.value in
    subst (IsDone _ _ _) (sym p.1)
    (read_stops _ (meanings c.args.analyses.items) c.args.program.now c.args.report.now _ _ same
    c.in_ok-config.config first.config c.in_ok-program.program
    (subst (λ (told : List ℕ → Option (List ℕ)).
    IsTaken (told c.args.program.now)
    (λ bytes. IsTheProgram c.in_ok-config.config.model bytes c.in_ok-program.program))
    first.told second.program)
    p.0
    (moved_at _ _ _ _ _ _ p.0 (second.told ∙ first.told) (second.reads ∙ first.reads)
    (subst (IsRefusedAt _ _) (sym p.2) c.in_err-text.ensures.refused)))

pub returns-in_err-conclusion : goal.returns-in_err-conclusion
returns-in_err-conclusion g c =
    let p = err_from_is_err_and c.from_residual-in_err-conclusion.result
    c.from_residual-in_err-conclusion.ensures.1 in
    let first = c.in_ok-config.ensures in
    let second = c.in_ok-program.ensures in
    let third = c.in_ok-text.ensures in
    let meanings = map g.A.Analysis.meaning in
    let same : map string_bytes c.as_slice-2.result.now ≡ names_of
    (meanings c.args.analyses.items) =
    ap (map string_bytes) c.as_slice-2.ensures.value ∙ c.in_ok-names.ensures
    ∙ ap (λ xs. names_of (meanings xs)) c.as_slice.ensures.value in
    subst (IsDone _ _ _) (sym p.1)
    (text_stops _ (meanings c.args.analyses.items) c.args.program.now c.args.report.now _ _ same
    c.in_ok-config.config first.config c.in_ok-program.program
    (subst (λ (told : List ℕ → Option (List ℕ)).
    IsTaken (told c.args.program.now)
    (λ bytes. IsTheProgram c.in_ok-config.config.model bytes c.in_ok-program.program))
    first.told second.program)
    c.in_ok-text.text.items third.within
    (subst (λ (told : List ℕ → Option (List ℕ)).
    IfSome (told c.args.report.now) (λ t. c.in_ok-text.text.items ≡ t))
    (second.told ∙ first.told) third.bytes)
    (third.reads ∙ second.reads ∙ first.reads) p.0
    (subst (λ (text : List ℕ). IsReportRefused c.in_ok-config.config.model c.in_ok-program.program
    text p.0)
    c.as_slice-3.ensures.value
    (subst (IsReportRefused _ _ _) (sym p.2) c.in_err-conclusion.ensures.refused)))

pub returns : goal.returns
returns g c =
    let first = c.in_ok-config.ensures in
    let second = c.in_ok-program.ensures in
    let third = c.in_ok-text.ensures in
    let meanings = map g.A.Analysis.meaning in
    let same : map string_bytes c.as_slice-2.result.now ≡ names_of
    (meanings c.args.analyses.items) =
    ap (map string_bytes) c.as_slice-2.ensures.value ∙ c.in_ok-names.ensures
    ∙ ap (λ xs. names_of (meanings xs)) c.as_slice.ensures.value in
    recheck_ends _ (meanings c.args.analyses.items) c.args.program.now c.args.report.now _ _ same
    c.in_ok-config.config first.config c.in_ok-program.program
    (subst (λ (told : List ℕ → Option (List ℕ)).
    IsTaken (told c.args.program.now)
    (λ bytes. IsTheProgram c.in_ok-config.config.model bytes c.in_ok-program.program))
    first.told second.program)
    c.in_ok-text.text.items third.within
    (subst (λ (told : List ℕ → Option (List ℕ)).
    IfSome (told c.args.report.now) (λ t. c.in_ok-text.text.items ≡ t))
    (second.told ∙ first.told) third.bytes)
    (third.reads ∙ second.reads ∙ first.reads) c.in_ok-conclusion.conclusion
    (subst (λ (text : List ℕ). IsChecked c.in_ok-config.config c.in_ok-program.program text
    c.in_ok-conclusion.conclusion) c.as_slice-3.ensures.value c.in_ok-conclusion.ensures.checked)
