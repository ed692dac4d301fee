use Rattle.std.proofs.Common.{◌<◌, Bool, not, Some, None, sym, ap, ◌∙◌, subst, length}
use Rattle.c_types_rules.specs.ExpressionRules.{at_if}
use Rattle.c_types_jumps.specs.declared.noting.Placed.{Placed}
use Rattle.c_types_jumps.proofs.Lists.{all_item}
use Rattle.c_types_jumps.proofs.Faults.{indexed, entering_at, entering_none, place_within}
use Rattle.c_types_jumps.proofs.noting.entering.Goals as goal

pub returns-in_err-number : goal.returns-in_err-number
returns-in_err-number c = λ base based.
    rw c.from_residual.ensures
    (sym (entering_none base c.args.tree.now.nodes.items c.args.labels.now c.args.goto.now
    (indexed c.args.goto.now.name.bytes c.as_slice.result.now c.args.labels.now c.args.index.now
    None c.in_err-number.ensures c.as_slice.ensures c.requires.index)))

pub bounds-labels-number : goal.bounds-labels-number
bounds-labels-number c =
    place_within c.args.goto.now.name.bytes c.args.labels.now c.in_ok-number.number
    (indexed c.args.goto.now.name.bytes c.as_slice.result.now c.args.labels.now c.args.index.now
    (Some c.in_ok-number.number) c.in_ok-number.ensures c.as_slice.ensures c.requires.index)

pub contains-inside-requires-clause-outer : goal.contains-inside-requires-clause-outer
contains-inside-requires-clause-outer c =
    let labels = c.args.labels.now in
    let label = c.index-labels-number.result in
    let nodes = c.args.tree.now.nodes.items in
    let found = indexed c.args.goto.now.name.bytes c.as_slice.result.now labels c.args.index.now
    (Some c.in_ok-number.number) c.in_ok-number.ensures c.as_slice.ensures c.requires.index in
    subst (λ (one : Placed). one.position < length nodes) (sym c.index-labels-number.is)
    (all_item (λ (one : Placed). one.position < length nodes) labels c.in_ok-number.number label
    c.requires.labels (place_within c.args.goto.now.name.bytes labels c.in_ok-number.number found))

pub returns-then-inside : goal.returns-then-inside
returns-then-inside c = λ base based.
    let goto = c.args.goto.now in
    let found = indexed goto.name.bytes c.as_slice.result.now c.args.labels.now c.args.index.now
    (Some c.in_ok-number.number) c.in_ok-number.ensures c.as_slice.ensures c.requires.index in
    ap (λ (b : Bool). at_if (not b) goto.name.place) (sym c.if-inside.true)
    ∙ entering_at base c.args.tree.now.nodes.items c.args.labels.now goto
    c.index-labels-number.result c.in_ok-number.number (not c.contains-inside.result) found
    c.index-labels-number.is (c.contains-inside.ensures base based)

pub returns-else-inside : goal.returns-else-inside
returns-else-inside c = λ base based.
    let goto = c.args.goto.now in
    let found = indexed goto.name.bytes c.as_slice.result.now c.args.labels.now c.args.index.now
    (Some c.in_ok-number.number) c.in_ok-number.ensures c.as_slice.ensures c.requires.index in
    ap (λ (b : Bool). at_if (not b) goto.name.place) (sym c.if-inside.false)
    ∙ entering_at base c.args.tree.now.nodes.items c.args.labels.now goto
    c.index-labels-number.result c.in_ok-number.number (not c.contains-inside.result) found
    c.index-labels-number.is (c.contains-inside.ensures base based)
