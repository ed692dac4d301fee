-- An enumerated type with enumerators or without, or what stands there besides.
use Rattle.std.proofs.Common.{sym}
use Rattle.c_parser_words.specs.Storage.{goes_in}
use Rattle.c_parser_declarations.proofs.Enums.{enum_answers, other_answers}
use Rattle.c_parser_declarations.proofs.specification.any_type.Goals as goal

pub returns-then-opens_enum : goal.returns-then-opens_enum
returns-then-opens_enum c =
    enum_answers (goes_in c.args.allowed) c.args.source.now c.args.left c.args.at c.args.typed
    c.enum_type.result (sym c.if-opens_enum.ensures.value) c.enum_type.ensures

pub returns-else-opens_enum : goal.returns-else-opens_enum
returns-else-opens_enum c =
    other_answers (goes_in c.args.allowed) c.args.source.now c.args.left c.args.at c.args.typed
    c.declared_type.result (sym c.if-opens_enum.ensures.value)
    (c.declared_type.ensures c.args.left)
