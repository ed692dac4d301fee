use Rattle.std.proofs.Common.{sym, ◌∙◌}
use Rattle.cpa_recheck_bounds.proofs.Said.{said_by_bounds}
use Rattle.cpa_recheck_bounds.proofs.saying.says.Goals as goal

pub returns-then-bounds_say : goal.returns-then-bounds_say
returns-then-bounds_say c = λ is are.
    said_by_bounds c.args.all.now.each c.args.elem.now c.args.fact.now
    (sym c.bounds_say.ensures ∙ c.if-bounds_say.true)
