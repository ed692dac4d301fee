-- What stands behind a suffix has no name.
use Rattle.std.proofs.Common.{arith}
use Rattle.c_lower_expressions.proofs.Suffixes.{names_behind}
use Rattle.c_lower_expressions.proofs.names.front_names.Goals as goal

pub returns-else-count-eq0 : goal.returns-else-count-eq0
returns-else-count-eq0 c = λ origin frames suffixes h.
    names_behind origin frames c.args.base.now suffixes c.args.count (omega arith) h
