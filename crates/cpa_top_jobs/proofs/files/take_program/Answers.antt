use Rattle.std.proofs.Common.{sym, subst}
use Rattle.std.proofs.lemmas.Result.{IfErr-weaker, err_from_is_err_and}
use Rattle.cpa_top_jobs.specs.declared.refusal.Refusal.{Refusal}
use Rattle.cpa_top_jobs.specs.declared.role.Role.TheVariants as role
use Rattle.cpa_top_jobs.specs.Refusals.{IsRefusedAt, IsTextRefused}
use Rattle.cpa_top_jobs.proofs.Taking.{program_refused, read_refused, exits}
use Rattle.cpa_top_jobs.proofs.files.take_program.Goals as goal

pub returns-in_err-bytes-clause-refused : goal.returns-in_err-bytes-clause-refused
returns-in_err-bytes-clause-refused g c = λ source of.
    let p = err_from_is_err_and c.from_residual.result c.from_residual.ensures.1 in
    exits c.from_residual.result _ p.0 p.1
    (read_refused _ role.Program c.args.name.now _ p.0
    (subst (IsRefusedAt _ _) (sym p.2) c.in_err-bytes.ensures.refused))

pub returns-clause-refused : goal.returns-clause-refused
returns-clause-refused g c = λ source of.
    IfErr-weaker c.program_of.result _ _
    (λ (r : Refusal) (is : IsTextRefused c.args.model c.as_slice.result.now r).
    program_refused _ source c.args.model _ c.in_ok-bytes.bytes.items r of
    c.in_ok-bytes.ensures.within c.in_ok-bytes.ensures.bytes c.in_ok-bytes.ensures.reads
    (subst (λ (bytes : _). IsTextRefused c.args.model bytes r) c.as_slice.ensures.value is))
    c.program_of.ensures.refused
