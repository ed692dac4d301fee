use Rattle.std.proofs.Common.{List, Option, sym, subst}
use Rattle.std.specs.Prelude.{IfOk}
use Rattle.cpa_recheck_obligations.specs.declared.listing.Obligation.{Obligation}
use Rattle.cpa_recheck_obligations.specs.declared.spots.Spot.{Spot}
use Rattle.cpa_recheck_obligations.specs.Tables.{IsTableOf}
use Rattle.cpa_recheck.specs.Rivals.{AreRivals}
use Rattle.cpa_recheck.proofs.asking.rivals_of.Goals as goal

pub returns-in-Begins : goal.returns-in-Begins
returns-in-Begins c = λ xs are.
    subst (λ (o : Obligation). IfOk c.rivals_at_start.result
    (λ numbers. AreRivals c.args.cfa.now xs o numbers.items)) (sym c.in-Begins.is)
    (c.rivals_at_start.ensures xs
    (subst (λ (l : List (Option Spot)). IsTableOf l c.args.table.now.numbers.entries) are
    c.requires.table))
