use Rattle.std.proofs.Common.{ℕ, map, subst}
use Rattle.std.proofs.lemmas.List.{length-map}
use Rattle.std.specs.String.{string_bytes}
use Rattle.cpa_composite.specs.Components.{ArePlaces}
use Rattle.cpa_top_jobs.proofs.configuring.config_of.Goals as goal

pub returns-in-Ok-clause-places : goal.returns-in-Ok-clause-places
returns-in-Ok-clause-places c =
    subst (λ (n : ℕ). ArePlaces n c.in-Ok.config.picks)
    (length-map c.args.names.now string_bytes)
    (c.picks_are_places.ensures.places c.args.bytes.now (map string_bytes c.args.names.now)
    c.in-Ok.config c.in-Ok.ensures.configures)
