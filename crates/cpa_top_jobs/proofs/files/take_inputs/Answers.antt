use Rattle.std.proofs.Common.{sym, subst}
use Rattle.std.proofs.lemmas.Result.{IfErr-weaker, err_from_is_err_and}
use Rattle.cpa_top_jobs.specs.declared.refusal.Refusal.{Refusal}
use Rattle.cpa_top_jobs.specs.declared.role.Role.TheVariants as role
use Rattle.cpa_top_jobs.specs.Refusals.{IsRefusedAt, IsListRefused}
use Rattle.cpa_top_jobs.proofs.Taking.{inputs_refused, read_refused, exits}
use Rattle.cpa_top_jobs.proofs.files.take_inputs.Goals as goal

pub returns-in_err-bytes-clause-refused : goal.returns-in_err-bytes-clause-refused
returns-in_err-bytes-clause-refused g c =
    let p = err_from_is_err_and c.from_residual.result c.from_residual.ensures.1 in
    exits c.from_residual.result _ p.0 p.1
    (read_refused _ role.Inputs c.args.name.now _ p.0
    (subst (IsRefusedAt _ _) (sym p.2) c.in_err-bytes.ensures.refused))

pub returns-clause-refused : goal.returns-clause-refused
returns-clause-refused g c =
    IfErr-weaker c.numbers_of.result _ _
    (λ (r : Refusal) (is : IsListRefused c.as_slice.result.now r).
    inputs_refused _ _ c.in_ok-bytes.bytes.items r c.in_ok-bytes.ensures.within
    c.in_ok-bytes.ensures.bytes c.in_ok-bytes.ensures.reads
    (subst (λ (bytes : _). IsListRefused bytes r) c.as_slice.ensures.value is))
    c.numbers_of.ensures.refused
