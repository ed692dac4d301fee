-- Some parameter is a pointer.
use Rattle.std.proofs.Common.{rules, tests}
use Rattle.std.proofs.lemmas.Iterator.{YieldsList-from_slice}
use Rattle.std.proofs.lemmas.Iterator.Search.{any_from_yields_List}
use Rattle.c_parser.proofs.functions.any_pointer.Goals as goal

pub returns : goal.returns
returns c =
    any_from_yields_List (λ parameter. parameter.is_pointer) _ _ c.any.result c.any.ensures.ran
    (YieldsList-from_slice c.args.listed.now cc)
    (λ x b q k. search (rules, tests))
