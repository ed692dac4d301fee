use Rattle.std.proofs.Common.{sym}
use Rattle.cpa_cnf.specs.lemmas.Chains.{member_below}
use Rattle.cpa_sat_trail.proofs.propagation.look.Goals as goal

pub is_true-requires-clause-range : goal.is_true-requires-clause-range
is_true-requires-clause-range c = member_below c.args.trail.now.vars c.args.clause.now c.args.other
    c.requires.below (sym c.if-not-contains.ensures)
