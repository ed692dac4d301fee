use Rattle.std.proofs.Common.{rules}
use Rattle.cpa_sat_arena.specs.Hashes.{mixed_hash}
use Rattle.cpa_sat_arena.proofs.index.mixed.Goals as goal

pub returns : goal.returns
unfolding mixed_hash
returns c = search rules
