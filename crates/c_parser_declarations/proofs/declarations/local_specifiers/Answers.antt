-- Specifiers with braces, or without.
use Rattle.std.proofs.Common.{sym, subst}
use Rattle.c_grammar_tree.specs.Parts.{is_local_specifier}
use Rattle.c_grammar_tree.specs.Declarations.{enumeration, specifiers}
use Rattle.c_grammar_tree.specs.Reading.{Gives}
use Rattle.c_parser_declarations.proofs.declarations.local_specifiers.Goals as goal

pub returns-then-braces : goal.returns-then-braces
returns-then-braces c =
    subst (λ b. Gives (λ G. specifiers (enumeration G b) is_local_specifier) c.args.source.now
    c.args.left c.args.at c.specifiers.result) (sym c.if-braces.true) c.specifiers.ensures

pub returns-else-braces : goal.returns-else-braces
unfolding enumeration
returns-else-braces c =
    subst (λ b. Gives (λ G. specifiers (enumeration G b) is_local_specifier) c.args.source.now
    c.args.left c.args.at c.specifiers-else-braces.result) (sym c.if-braces.false)
    (c.specifiers-else-braces.ensures c.args.left)
