-- The first declarator, those behind it, a semicolon.
use Rattle.c_grammar_forms.specs.lemmas.Exits.{at_exit}
use Rattle.c_grammar_tree.specs.declared.TheConstants.{MAX_LEVEL}
use Rattle.c_grammar_tree.specs.lemmas.Terminals.{at_lack}
use Rattle.c_parser.proofs.Behind.{none_objects_first, none_objects_more, none_objects_end}
use Rattle.c_parser.proofs.Behind.{reads_objects}
use Rattle.c_parser.proofs.items.objects.Goals as goal

pub returns-in_err-first : goal.returns-in_err-first
returns-in_err-first c =
    at_exit MAX_LEVEL _ _ c.from_residual.ensures.1 c.in_err-first.ensures
    (λ i g. none_objects_first _ _ _ c.args.specifiers c.args.name c.requires.no_bracket g)

pub returns-in_err-declarators : goal.returns-in_err-declarators
returns-in_err-declarators c =
    at_exit MAX_LEVEL _ _ c.from_residual-in_err-declarators.ensures.1 c.in_err-declarators.ensures
    (λ i g. none_objects_more _ _ _ c.args.specifiers c.args.name c.requires.no_bracket _ _
    c.in_ok-first.ensures g)

pub returns-in_err-behind : goal.returns-in_err-behind
returns-in_err-behind c =
    at_lack MAX_LEVEL _ _ c.from_residual-in_err-behind.ensures.1 c.in_err-behind.ensures
    (λ fails. none_objects_end _ _ _ c.args.specifiers c.args.name c.requires.no_bracket _ _
    c.in_ok-first.ensures _ _
    c.in_ok-declarators.ensures fails)

pub returns : goal.returns
returns c =
    reads_objects _ _ _ c.args.specifiers c.args.name c.requires.no_bracket _ _
    c.in_ok-first.ensures _ _
    c.in_ok-declarators.ensures c.in_ok-behind.ensures
