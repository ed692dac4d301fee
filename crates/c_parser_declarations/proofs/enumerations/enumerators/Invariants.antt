-- The enumerators are read up to here. The rest of the text gets shorter.
use Rattle.std.proofs.Common.{◌-◌, length}
use Rattle.c_grammar_forms.specs.lemmas.Loops.{SoFar}
use Rattle.c_grammar_symbols.specs.declared.words.Terminal.TheVariants.{RightBrace}
use Rattle.c_grammar_symbols.specs.Sources.{leaf_at}
use Rattle.c_grammar_tree.specs.Grammar.{grammar}
use Rattle.c_grammar_tree.specs.Parts.{is_not}
use Rattle.c_grammar_tree.specs.Declarations.{enumerators}
use Rattle.c_parser_declarations.specs.Forms.{listed_enumerator}
use Rattle.c_parser_declarations.proofs.enumerations.enumerators.Given as goal

abbrev pub invariant-list : goal.invariant-list
invariant-list l = SoFar (λ n. enumerators (grammar n)) (is_not RightBrace)
    (λ n. listed_enumerator (grammar n)) (leaf_at l.source) (length l.source)
    l.left l.at l.items l.here

abbrev pub decreases-list : goal.decreases-list
decreases-list l = length l.source - l.here
