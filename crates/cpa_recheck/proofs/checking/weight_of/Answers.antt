use Rattle.cpa_recheck.proofs.checking.weight_of.Goals as goal

pub returns : goal.returns
returns c =
    c.weigh.ensures c.args._entries.now c.requires.weights c.requires.shaped c.requires.named
    c.requires.rivals.same
