use Rattle.std.proofs.Common.{ap, append-nil, ◌++◌, ◌∙◌, sym}
use Rattle.std.proofs.lemmas.Option.{slice_get_past}
use Rattle.cpa_reached_key.specs.Rows.{listed}
use Rattle.cpa_reached_key.proofs.picking.push_at.Goals as goal

pub returns-in-None : goal.returns-in-None
returns-in-None c =
    sym (append-nil c.args.elems.now)
    ∙ ap (λ o. c.args.elems.now ++ listed o)
    (sym (slice_get_past c.args.row.now c.args.place (c.in-None.ensures.lookup.3)))
