-- The parameters are read up to here. The rest of the text gets shorter.
use Rattle.std.proofs.Common.{◌-◌, length}
use Rattle.c_parser_words.proofs.ParameterForms.{AreParameters}
use Rattle.c_parser_words.proofs.parameters.parameter_list.Given as goal

abbrev pub invariant-loop-alloc : goal.invariant-loop-alloc
invariant-loop-alloc l = AreParameters l.source l.left l.at l.listed.items l.here

abbrev pub decreases-loop-alloc : goal.decreases-loop-alloc
decreases-loop-alloc l = length l.source - l.here
