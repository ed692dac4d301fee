use Rattle.std.proofs.Common.{map, sym, subst}
use Rattle.std.specs.String.{string_bytes}
use Rattle.std.proofs.lemmas.Result.{IfErr-weaker, err_from_is_err_and}
use Rattle.cpa_top_jobs.specs.declared.refusal.Refusal.{Refusal}
use Rattle.cpa_top_jobs.specs.declared.role.Role.TheVariants as role
use Rattle.cpa_top_jobs.specs.Refusals.{IsRefusedAt, IsConfigRefused}
use Rattle.cpa_top_jobs.proofs.Configurations.{config_refused}
use Rattle.cpa_top_jobs.proofs.Taking.{read_refused, exits}
use Rattle.cpa_top_jobs.proofs.configuring.read_config.Goals as goal

pub returns-in_err-bytes-clause-refused : goal.returns-in_err-bytes-clause-refused
returns-in_err-bytes-clause-refused g c =
    let p = err_from_is_err_and c.from_residual.result c.from_residual.ensures.1 in
    exits c.from_residual.result _ p.0 p.1
    (read_refused _ role.Config c.args.file.now _ p.0
    (subst (IsRefusedAt _ _) (sym p.2) c.in_err-bytes.ensures.refused))

pub returns-clause-refused : goal.returns-clause-refused
returns-clause-refused g c =
    IfErr-weaker c.config_of.result _ _
    (λ (r : Refusal) (is : IsConfigRefused (map string_bytes c.args.names.now)
    c.as_slice.result.now r).
    config_refused _ _ c.args.file.now c.in_ok-bytes.bytes.items r c.in_ok-bytes.ensures.within
    c.in_ok-bytes.ensures.bytes c.in_ok-bytes.ensures.reads
    (subst (λ (bytes : _). IsConfigRefused (map string_bytes c.args.names.now) bytes r)
    c.as_slice.ensures.value is))
    c.config_of.ensures.refused
