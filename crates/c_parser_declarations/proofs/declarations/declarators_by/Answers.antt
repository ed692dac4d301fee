-- A semicolon in place of declarators, or declarators.
use Rattle.std.proofs.Common.{sym}
use Rattle.c_parser_declarations.proofs.Declared.{none_declared, declared_answers}
use Rattle.c_parser_declarations.proofs.declarations.declarators_by.Goals as goal

pub returns-then-ends_at_once : goal.returns-then-ends_at_once
returns-then-ends_at_once c = rw c.new.ensures
    (none_declared c.args.source.now c.args.left c.args.at c.args.free
    (sym c.if-ends_at_once.ensures) c.requires.within)

pub returns : goal.returns
returns c = declared_answers c.args.source.now c.args.left c.args.at c.args.free
    c.declarators.result (sym c.if-ends_at_once.ensures) c.declarators.ensures
