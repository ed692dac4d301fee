use Rattle.std.proofs.Common.{map, refl, ap}
use Rattle.std.specs.Prelude.{[], option_map}
use Rattle.std.specs.String.{string_bytes}
use Rattle.std.proofs.lemmas.Result.{IfErr-weaker}
use Rattle.cpa_top_jobs.specs.declared.refusal.Refusal.{Refusal}
use Rattle.cpa_top_jobs.specs.Refusals.{IsConfigRefused}
use Rattle.cpa_top_jobs.proofs.Configurations.{default_refused}
use Rattle.cpa_top_jobs.proofs.configuring.take_config.Goals as goal

pub returns-in-None-clause-refused : goal.returns-in-None-clause-refused
returns-in-None-clause-refused g c =
    IfErr-weaker c.default_config.result _ _
    (λ (r : Refusal) (is : IsConfigRefused (map string_bytes c.args.names.now) [] r).
    default_refused _ (map string_bytes c.args.names.now) _ r
    (ap (option_map (λ s. s.now)) c.in-None.is) refl is)
    c.default_config.ensures.refused
