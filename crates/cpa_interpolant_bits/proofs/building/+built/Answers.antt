use Rattle.std.proofs.Common.{arith, ◌∙◌, sym}
use Rattle.std.proofs.lemmas.Result.{IfOk-weaker}
use Rattle.cpa_expr.specs.declared.tree.Expr.{Expr}
use Rattle.cpa_interpolant_bits.proofs.Measured.{both_parts, either_parts, at_literal, at_both}
use Rattle.cpa_interpolant_bits.proofs.Measured.{at_either}
use Rattle.cpa_interpolant_bits.proofs.building.+built.Goals as goal

pub built-requires : goal.built-requires
built-requires t c =
    let parts = both_parts
    c.args.nodes.now c.args.number c.index-nodes-number.result c.requires.scoped
    c.requires.inside c.index-nodes-number.is
    c.in-Both.left c.in-Both.right c.in-Both.is in
    let less = parts.0 in
    let inside = c.requires.inside in
    let d = c.decreases in
    (omega (arith, d), (omega arith, c.requires.scoped))

pub built-requires-in-Both : goal.built-requires-in-Both
built-requires-in-Both t c =
    let parts = both_parts
    c.args.nodes.now c.args.number c.index-nodes-number.result c.requires.scoped
    c.requires.inside c.index-nodes-number.is
    c.in-Both.left c.in-Both.right c.in-Both.is in
    let less = parts.1 in
    let inside = c.requires.inside in
    let d = c.decreases in
    (omega (arith, d), (omega arith, c.requires.scoped))

pub built-requires-in-Either : goal.built-requires-in-Either
built-requires-in-Either t c =
    let parts = either_parts
    c.args.nodes.now c.args.number c.index-nodes-number.result c.requires.scoped
    c.requires.inside c.index-nodes-number.is
    c.in-Either.left c.in-Either.right c.in-Either.is in
    let less = parts.0 in
    let inside = c.requires.inside in
    let d = c.decreases in
    (omega (arith, d), (omega arith, c.requires.scoped))

pub built-requires-in-Either-2 : goal.built-requires-in-Either-2
built-requires-in-Either-2 t c =
    let parts = either_parts
    c.args.nodes.now c.args.number c.index-nodes-number.result c.requires.scoped
    c.requires.inside c.index-nodes-number.is
    c.in-Either.left c.in-Either.right c.in-Either.is in
    let less = parts.1 in
    let inside = c.requires.inside in
    let d = c.decreases in
    (omega (arith, d), (omega arith, c.requires.scoped))

pub returns-in-Literal : goal.returns-in-Literal
returns-in-Literal t c =
    IfOk-weaker c.literal_read.result _ _ (λ (e : Expr) is. is ∙ sym (at_literal
    c.args.nodes.now c.args.number c.index-nodes-number.result c.requires.scoped
    c.requires.inside c.index-nodes-number.is
    c.in-Literal.literal c.in-Literal.is c.args.bits.now)) c.literal_read.ensures

pub returns-in_ok-right-in-Both : goal.returns-in_ok-right-in-Both
returns-in_ok-right-in-Both t c =
    IfOk-weaker c.both.result _ _ (λ (e : Expr) is. is ∙ at_both
    c.args.nodes.now c.args.number c.index-nodes-number.result c.requires.scoped
    c.requires.inside c.index-nodes-number.is
    c.in-Both.left c.in-Both.right c.in-Both.is c.args.bits.now _ _
    c.in_ok-left-in-Both.ensures c.in_ok-right-in-Both.ensures)
    c.both.ensures

pub returns-in_ok-right-in-Either : goal.returns-in_ok-right-in-Either
returns-in_ok-right-in-Either t c =
    IfOk-weaker c.either.result _ _ (λ (e : Expr) is. is ∙ at_either
    c.args.nodes.now c.args.number c.index-nodes-number.result c.requires.scoped
    c.requires.inside c.index-nodes-number.is
    c.in-Either.left c.in-Either.right c.in-Either.is c.args.bits.now _ _
    c.in_ok-left-in-Either.ensures c.in_ok-right-in-Either.ensures)
    c.either.ensures
