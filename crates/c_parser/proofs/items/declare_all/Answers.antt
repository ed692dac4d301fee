-- One name more is declared, or none is left.
use Rattle.std.proofs.Common.{[], map, take, sym, ◌∙◌, ap, arith}
use Rattle.std.proofs.lemmas.List.{take_all}
use Rattle.c_grammar_symbols.specs.Sources.{renamed}
use Rattle.c_grammar_tree.specs.Items.{behind_typedefs}
use Rattle.c_parser.proofs.SeenItems.{rows, rows_more, seen_nothing, take_next}
use Rattle.c_parser.proofs.items.declare_all.Goals as goal

pub loop-name-init : goal.loop-name-init
loop-name-init c = sym (seen_nothing c.args.source.now)

pub loop-name-preserved : goal.loop-name-preserved
loop-name-preserved c =
    let names = c.args.names.now in
    let i = c.loop-name.name-index in
    let old = c.args.source.now in
    c.in_ok-declare.ensures.declared
    ∙ (ap (λ bytes. map (renamed bytes c.args.ty) c.loop-name.source) c.as_slice.ensures
    ∙ (ap (map (renamed c.name-item.result.bytes c.args.ty)) c.loop-name.invariant
    ∙ (rows_more c.args.ty (take i names) c.name-item.result old
    ∙ ap (λ list. map (behind_typedefs (rows c.args.ty list)) old)
    (sym (take_next names i c.name-item.result c.name-item.is (omega arith))))))

pub returns-clause-declared : goal.returns-clause-declared
returns-clause-declared c = c.loop-name.invariant
    ∙ ap (λ list. map (behind_typedefs (rows c.args.ty list)) c.args.source.now)
    (take_all c.loop-name.name-index c.args.names.now (omega arith))

pub returns-clause-seen : goal.returns-clause-seen
returns-clause-seen c =
    (rows c.args.ty (take c.loop-name.name-index c.args.names.now), c.loop-name.invariant)
