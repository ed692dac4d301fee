use Rattle.cpa_composite.proofs.Following.{follows}
use Rattle.cpa_composite.proofs.Moving.{control_steps}
use Rattle.cpa_composite.proofs.laws.control_is_followed.Goals as goal

pub returns-clause-follows : goal.returns-clause-follows
returns-clause-follows c = follows

pub returns-clause-steps : goal.returns-clause-steps
returns-clause-steps c = control_steps
