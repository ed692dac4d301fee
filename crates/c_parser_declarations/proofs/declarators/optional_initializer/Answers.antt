-- An initializer where its = stands.
use Rattle.std.proofs.Common.{sym}
use Rattle.c_grammar_forms.specs.Forms.{Skip}
use Rattle.c_grammar_forms.specs.lemmas.Found.{reads_no, reads_one_more, reads_skip}
use Rattle.c_grammar_forms.specs.lemmas.NotFound.{none_perhaps, none_skip}
use Rattle.c_grammar_forms.specs.lemmas.Exits.{at_exit}
use Rattle.c_grammar_tree.specs.declared.TheConstants.{MAX_LEVEL}
use Rattle.c_grammar_tree.specs.Grammar.{grammar}
use Rattle.c_grammar_tree.specs.Parts.{is_initializing}
use Rattle.c_grammar_tree.specs.Declarations.{initializer_of}
use Rattle.c_parser_declarations.proofs.declarators.optional_initializer.Goals as goal

pub returns-then-not-is_initializing : goal.returns-then-not-is_initializing
returns-then-not-is_initializing c =
    reads_no (λ n. Skip (initializer_of (grammar n) c.args.is_array)) is_initializing
    (sym c.if-not-is_initializing.ensures.value)
    c.requires.within

pub returns-in_err-made : goal.returns-in_err-made
returns-in_err-made c =
    at_exit MAX_LEVEL _ _ c.from_residual.ensures.1 c.in_err-made.ensures
    (λ i g. none_perhaps is_initializing (sym c.if-not-is_initializing.ensures.value) (none_skip g))

pub returns : goal.returns
returns c = rw c.in_ok-whole.ensures
    (reads_one_more is_initializing (sym c.if-not-is_initializing.ensures.value)
    (reads_skip c.in_ok-made.ensures))
