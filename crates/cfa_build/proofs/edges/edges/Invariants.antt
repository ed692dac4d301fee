use Rattle.std.proofs.Common.{◌+◌, length}
use Rattle.cfa_build.specs.Edges.{AreEdgesBelow}
use Rattle.cfa_build.proofs.edges.edges.Given as goal

abbrev pub invariant-loop-n : goal.invariant-loop-n
invariant-loop-n l = AreEdgesBelow l.program l.n l.edges

abbrev pub invariant-loop-f : goal.invariant-loop-f
invariant-loop-f l = AreEdgesBelow l.program (length l.program.stmts + l.f) l.edges
