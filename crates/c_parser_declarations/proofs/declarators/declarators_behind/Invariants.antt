-- The declarators are read up to here. The rest of the text gets shorter.
use Rattle.std.proofs.Common.{◌-◌, length}
use Rattle.c_grammar_forms.specs.Forms.{Skip}
use Rattle.c_grammar_forms.specs.lemmas.Loops.{SoFar}
use Rattle.c_grammar_symbols.specs.declared.words.Terminal.TheVariants.{Comma}
use Rattle.c_grammar_symbols.specs.Sources.{leaf_at, is}
use Rattle.c_grammar_tree.specs.Grammar.{grammar}
use Rattle.c_grammar_tree.specs.Declarations.{declarator}
use Rattle.c_parser_declarations.specs.Forms.{declarators_behind}
use Rattle.c_parser_declarations.proofs.declarators.declarators_behind.Given as goal

abbrev pub invariant-list : goal.invariant-list
invariant-list l = SoFar (λ n. declarators_behind l.fn.first (grammar n)) (is Comma)
    (λ n. Skip (declarator (grammar n)))
    (leaf_at l.source) (length l.source) l.left l.at l.declarators l.here

abbrev pub decreases-list : goal.decreases-list
decreases-list l = length l.source - l.here
