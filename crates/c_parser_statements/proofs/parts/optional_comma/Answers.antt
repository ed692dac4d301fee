-- An expression where the terminal does not stand at once.
use Rattle.std.proofs.Common.{sym, ap, not}
use Rattle.c_grammar_forms.specs.Forms.{Deeper}
use Rattle.c_grammar_forms.specs.lemmas.Found.{reads_no, reads_one_more}
use Rattle.c_grammar_forms.specs.lemmas.NotFound.{none_perhaps}
use Rattle.c_grammar_forms.specs.lemmas.Exits.{at_exit}
use Rattle.c_grammar_tree.specs.declared.TheConstants.{MAX_LEVEL}
use Rattle.c_grammar_tree.specs.Grammar.{grammar}
use Rattle.c_grammar_tree.specs.Parts.{is_not}
use Rattle.c_parser_statements.proofs.parts.optional_comma.Goals as goal

pub returns-then-is : goal.returns-then-is
returns-then-is c = rw c.in_ok-nothing.ensures
    (reads_no (λ n. Deeper ((grammar n).comma)) (is_not c.args.closer)
    (ap not (sym c.if-is.ensures.value)) c.requires.within)

pub returns-in_err-inside : goal.returns-in_err-inside
returns-in_err-inside c =
    at_exit MAX_LEVEL _ _ c.from_residual-in_err-inside.ensures.1 c.in_err-inside.ensures
    (λ i g. none_perhaps (is_not c.args.closer) (ap not (sym c.if-is.ensures.value)) g)

pub returns : goal.returns
returns c = rw c.in_ok-whole.ensures (reads_one_more (is_not c.args.closer)
    (ap not (sym c.if-is.ensures.value)) c.in_ok-inside.ensures)
