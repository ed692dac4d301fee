use Rattle.cpa_top_recheck.proofs.Telling.{confirmed_tells, refused_tells, open_tells}
use Rattle.cpa_top_recheck.proofs.laws.checks_tell.Goals as goal

pub returns-clause-confirmed : goal.returns-clause-confirmed
returns-clause-confirmed c =
    confirmed_tells c.covers_are_safe.ensures.agree c.covers_are_safe.ensures.safe

pub returns-clause-refused : goal.returns-clause-refused
returns-clause-refused c =
    refused_tells c.covers_are_safe.ensures.agree c.obligations_are_covers.ensures
    c.broken_is_unmet.ensures

pub returns-clause-undecided : goal.returns-clause-undecided
returns-clause-undecided c = open_tells
