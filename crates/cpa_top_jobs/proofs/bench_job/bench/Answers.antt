use Rattle.std.proofs.Common.{◌≡◌, ℕ, List, map, sym, ap, ◌∙◌, subst}
use Rattle.std.specs.String.{string_bytes}
use Rattle.std.proofs.lemmas.List.{length-map}
use Rattle.std.proofs.lemmas.Result.{err_from_is_err_and}
use Rattle.c_program.specs.Programs.{IsTheProgram}
use Rattle.cpa_composite.specs.Components.{ArePlaces}
use Rattle.cpa_ints.specs.declared.data_model.DataModel.TheVariants.{Lp64}
use Rattle.cpa_top_jobs.specs.Jobs.{names_of}
use Rattle.cpa_top_jobs.specs.Refusals.{IsDone, IsLackRefused, IsTextRefused}
use Rattle.cpa_top_jobs.proofs.Benches.{picking_stops, composing_stops, bench_ends}
use Rattle.cpa_top_jobs.proofs.Ends.{as_many}
use Rattle.cpa_top_jobs.proofs.bench_job.bench.Goals as goal

pub returns-in_err-config : goal.returns-in_err-config
returns-in_err-config g c = λ files steady.
    let p = err_from_is_err_and c.from_residual-in_err-config.result
    c.from_residual-in_err-config.ensures.1 in
    let meanings = map g.A.Analysis.meaning in
    let same : map string_bytes c.as_slice-2.result.now ≡ names_of
    (meanings c.args.analyses.items) =
    ap (map string_bytes) c.as_slice-2.ensures.value ∙ c.in_ok-names.ensures
    ∙ ap (λ xs. names_of (meanings xs)) c.as_slice.ensures.value in
    subst (IsDone files _ _) (sym p.1)
    (picking_stops files steady (meanings c.args.analyses.items) c.args.functions _ same p.0
    (subst (IsLackRefused (map string_bytes c.as_slice-2.result.now)) (sym p.2)
    c.in_err-config.ensures.refused))

pub returns-in_err-program : goal.returns-in_err-program
returns-in_err-program g c = λ files steady.
    let p = err_from_is_err_and c.from_residual-in_err-program.result
    c.from_residual-in_err-program.ensures.1 in
    let meanings = map g.A.Analysis.meaning in
    let same : map string_bytes c.as_slice-2.result.now ≡ names_of
    (meanings c.args.analyses.items) =
    ap (map string_bytes) c.as_slice-2.ensures.value ∙ c.in_ok-names.ensures
    ∙ ap (λ xs. names_of (meanings xs)) c.as_slice.ensures.value in
    subst (IsDone files _ _) (sym p.1)
    (composing_stops files steady (meanings c.args.analyses.items) c.args.functions _ same
    c.in_ok-config.config c.in_ok-config.ensures.config p.0
    (subst (λ (bytes : List ℕ). IsTextRefused Lp64 bytes p.0)
    (c.as_slice-3.ensures.value ∙ c.in_ok-text.ensures.text)
    (subst (IsTextRefused _ _) (sym p.2) c.in_err-program.ensures.refused)))

pub conclude-requires-clause-places : goal.conclude-requires-clause-places
conclude-requires-clause-places g c =
    let meanings = map g.A.Analysis.meaning in
    let same : map string_bytes c.as_slice-2.result.now ≡ names_of
    (meanings c.args.analyses.items) =
    ap (map string_bytes) c.as_slice-2.ensures.value ∙ c.in_ok-names.ensures
    ∙ ap (λ xs. names_of (meanings xs)) c.as_slice.ensures.value in
    subst (λ (n : ℕ). ArePlaces n c.in_ok-config.config.picks)
    (as_many string_bytes c.as_slice-2.result.now (meanings c.args.analyses.items) same
    ∙ length-map c.args.analyses.items g.A.Analysis.meaning)
    c.in_ok-config.ensures.places

pub returns : goal.returns
returns g c = λ files steady.
    let meanings = map g.A.Analysis.meaning in
    let same : map string_bytes c.as_slice-2.result.now ≡ names_of
    (meanings c.args.analyses.items) =
    ap (map string_bytes) c.as_slice-2.ensures.value ∙ c.in_ok-names.ensures
    ∙ ap (λ xs. names_of (meanings xs)) c.as_slice.ensures.value in
    bench_ends files steady (meanings c.args.analyses.items) c.args.functions _ same
    c.in_ok-config.config c.in_ok-config.ensures.config c.in_ok-program.program
    c.in_ok-conclude.field-0
    (subst (λ (bytes : List ℕ). IsTheProgram Lp64 bytes c.in_ok-program.program)
    (c.as_slice-3.ensures.value ∙ c.in_ok-text.ensures.text) c.in_ok-program.ensures.program)
    c.in_ok-conclude.ensures
