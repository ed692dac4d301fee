use Rattle.std.proofs.Common.{true, sym, subst}
use Rattle.c_types_globals.specs.Scopes.{before_of}
use Rattle.c_types.proofs.Numbers.{Numbered, numbered_function}
use Rattle.c_types.proofs.items.gather_item.Goals as goal

pub gather_block-requires : goal.gather_block-requires
gather_block-requires c =
    subst Numbered (sym c.in_ok-declare_function-in-Function.ensures.scope)
    (numbered_function c.args.survey.now true c.in-Function.specifiers c.in-Function.declarator
    (before_of c.args.gathered.now.scope) c.requires)

pub gather_parameters-requires : goal.gather_parameters-requires
gather_parameters-requires c =
    subst Numbered (sym c.in_ok-declare_function-in-Function.ensures.scope)
    (numbered_function c.args.survey.now true c.in-Function.specifiers c.in-Function.declarator
    (before_of c.args.gathered.now.scope) c.requires)
