-- A semicolon, or a name and what stands behind it.
use Rattle.std.proofs.Common.{sym, refl, arith}
use Rattle.c_grammar_forms.specs.lemmas.Exits.{at_exit, answers_with}
use Rattle.c_grammar_tree.specs.declared.TheConstants.{MAX_LEVEL}
use Rattle.c_parser.proofs.Behind.{reads_bare, none_name, reads_named, none_named}
use Rattle.c_parser.proofs.items.declared.Goals as goal

pub returns-then-is : goal.returns-then-is
returns-then-is c = rw c.new.ensures
    (reads_bare _ _ _ c.args.specifiers (sym c.if-is.ensures.value)
    (c.if-is.ensures.more refl).within)

pub returns-in_err-name : goal.returns-in_err-name
returns-in_err-name c =
    at_exit MAX_LEVEL _ _ c.from_residual.ensures.1 (c.in_err-name.ensures c.args.left)
    (λ i g. none_name _ _ _ c.args.specifiers (sym c.if-is.ensures.value) g)

pub returns : goal.returns
returns c =
    let name = c.in_ok-name.ensures c.args.left in
    answers_with MAX_LEVEL c.named.result
    (λ u q r. reads_named _ _ _ c.args.specifiers c.in_ok-name.name c.in_ok-name.next name r)
    (λ i g. none_named _ _ _ c.args.specifiers c.in_ok-name.name c.in_ok-name.next name
    (sym c.if-is.ensures.value) g)
    c.named.ensures

pub named-requires-clause-within : goal.named-requires-clause-within
named-requires-clause-within c = (c.in_ok-name.ensures 0).within

pub named-requires-clause-room : goal.named-requires-clause-room
named-requires-clause-room c = omega (arith, c.requires.room, (c.in_ok-name.ensures 0).onward)
