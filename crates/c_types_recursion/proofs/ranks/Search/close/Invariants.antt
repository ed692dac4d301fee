use Rattle.std.proofs.Common.{vec_len}
use Rattle.c_types_recursion.proofs.ranks.Search.close.Given as goal

abbrev pub decreases-loop-member : goal.decreases-loop-member
decreases-loop-member l = vec_len l.self.open
