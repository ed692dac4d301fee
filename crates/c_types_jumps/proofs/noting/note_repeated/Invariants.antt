use Rattle.std.proofs.Common.{◌≡◌, take, map}
use Rattle.c_lexer.specs.declared.fault.Rule.TheVariants as rule
use Rattle.c_types_jumps.specs.Trees.{bytes_of}
use Rattle.c_types_jumps.proofs.Faults.{IsRepeated}
use Rattle.c_types_jumps.proofs.noting.note_repeated.Given as goal

abbrev pub invariant-loop-label : goal.invariant-loop-label
invariant-loop-label l = record {
  names : l.index ≡ map bytes_of (take l.label-index l.labels);
  noted : IsRepeated l.fn.first l.first rule.N7 l.labels l.label-index;
}
