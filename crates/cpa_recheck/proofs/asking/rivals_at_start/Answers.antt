use Rattle.std.proofs.Common.{refl}
use Rattle.cpa_recheck_obligations.specs.Spots.{spots_of}
use Rattle.cpa_recheck.proofs.Asked.{start_rivals}
use Rattle.cpa_recheck.proofs.asking.rivals_at_start.Goals as goal

pub returns : goal.returns
returns c = λ xs table.
    start_rivals c.args.cfa.now xs (spots_of xs) c.in_ok-numbers.numbers.items c.new.result refl
    c.new.ensures (c.in_ok-numbers.ensures (spots_of xs) table)
