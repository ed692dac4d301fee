use Rattle.std.proofs.Common.{◌≡◌, ◌++◌, drop}
use Rattle.c_grammar_tree.specs.Parts.{type_words}
use Rattle.c_types_objects.proofs.specifiers.type_words.Given as goal

abbrev pub invariant-loop-word : goal.invariant-loop-word
invariant-loop-word l =
    l.found.items ++ type_words (drop l.word-index l.words) ≡ type_words l.words
