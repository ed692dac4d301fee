use Rattle.std.proofs.Common.{◌≡◌, drop}
use Rattle.c_types_rules.specs.Declarations.{void_places}
use Rattle.c_types_objects.proofs.parameters.void_place.Given as goal

abbrev pub invariant-loop-word : goal.invariant-loop-word
invariant-loop-word l = void_places (drop l.word-index l.words) ≡ void_places l.words
