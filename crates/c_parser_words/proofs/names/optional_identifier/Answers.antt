-- An identifier is there where the next token is a name.
use Rattle.std.proofs.Common.{sym}
use Rattle.c_grammar_forms.specs.lemmas.Found.{reads_no, reads_one_more}
use Rattle.c_grammar_forms.specs.lemmas.NotFound.{none_perhaps}
use Rattle.c_grammar_forms.specs.lemmas.Exits.{at_exit}
use Rattle.c_grammar_tree.specs.declared.TheConstants.{MAX_LEVEL}
use Rattle.c_grammar_tree.specs.Parts.{is_name}
use Rattle.c_grammar_tree.specs.Declarations.{identifier}
use Rattle.c_parser_words.proofs.names.optional_identifier.Goals as goal

pub returns-in_err-name : goal.returns-in_err-name
returns-in_err-name c = λ left.
    at_exit MAX_LEVEL _ _ c.from_residual.ensures.1 (c.in_err-name.ensures left)
    (λ i g. none_perhaps is_name (sym c.if-is_name.ensures.value) g)

pub returns-in_ok-name : goal.returns-in_ok-name
returns-in_ok-name c =
    λ left. reads_one_more is_name (sym c.if-is_name.ensures.value) (c.in_ok-name.ensures left)

pub returns-else-is_name : goal.returns-else-is_name
returns-else-is_name c =
    λ left. reads_no (λ n. identifier) is_name (sym c.if-is_name.ensures.value) c.requires
