-- What is found in words is what comes of the path.
use Rattle.std.proofs.Common.{subst}
use Rattle.cpa_folds.specs.Along.{acts_along}
use Rattle.cpa_interpolant_words.specs.Words.{IsFound}
use Rattle.cpa_interpolant.proofs.walking.in_words.Goals as goal

pub returns-in-Cuts : goal.returns-in-Cuts
returns-in-Cuts c =
    subst (IsFound c.args.cfa.now.cells c.args.gates (acts_along c.args.cfa.now c.args.path.now))
    c.in-Cuts.is c.in_ok-found.ensures

pub returns-in-Model : goal.returns-in-Model
returns-in-Model c =
    subst (IsFound c.args.cfa.now.cells c.args.gates (acts_along c.args.cfa.now c.args.path.now))
    c.in-Model.is c.in_ok-found.ensures
