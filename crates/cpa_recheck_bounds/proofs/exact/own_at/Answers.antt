-- A cell that is there has bounds.
use Rattle.std.proofs.Common.{sym, ◌∙◌}
use Rattle.cpa_recheck_bounds.proofs.Tables.{is_there}
use Rattle.cpa_recheck_bounds.proofs.exact.own_at.Goals as goal

pub returns-in-None : goal.returns-in-None
returns-in-None c =
    absurd (is_there c.args.all.now.each c.args.place c.requires (sym c.at.ensures ∙ c.in-None.is))
