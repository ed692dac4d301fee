use Rattle.std.proofs.Common.{◌≡◌, ◌<◌, ◌≤◌, length, drop, arith, rules, ap, sym, ◌∙◌, Err}
use Rattle.c_lexer.specs.Steps.Reading.{piece_of}
use Rattle.c_lexer.proofs.Cuts.{fault_cut, fault_no_tokens, cut_on, piece_some}
use Rattle.c_lexer.proofs.lexer.tokens_in.Goals as goal

pub returns-in-Err-clause-fault : goal.returns-in-Err-clause-fault
returns-in-Err-clause-fault c =
    let more : c.parts.place < length c.args.text.now = search rules in
    let read : piece_of c.args.model c.parts.fresh (drop c.parts.place c.args.text.now) ≡ Err
    c.in-Err.rule =
    ap (piece_of c.args.model c.parts.fresh) (sym c.behind-rest.ensures)
    ∙ sym c.in-Err.ensures.value in
    let fault = fault_cut c.args.model c.args.text.now c.parts.place c.parts.fresh
    c.parts.found.items
    c.in-Err.rule c.parts.invariant more read in (
      fault,
      fault_no_tokens c.args.model c.args.text.now (record
          { rule = c.in-Err.rule; place = c.parts.place })
          fault,
    )

pub parts-smaller : goal.parts-smaller
parts-smaller c =
    let more : c.parts.place < length c.args.text.now = search rules in
    let some : 0 < c.in-Ok.piece.length = piece_some c.args.model c.parts.fresh
    c.behind-rest.result.now
    c.in-Ok.piece (sym c.in-Ok.ensures.value) in
    omega arith

pub parts-preserved : goal.parts-preserved
parts-preserved c =
    let within : c.in-Ok.piece.length ≤ length c.behind-rest.result.now = c.in-Ok.ensures.within in
    cut_on c.args.model c.args.text.now c.behind-rest.result.now _ c.parts.place c.parts.fresh
    c.fresh_behind-fresh.result c.parts.found.items c.push_token.new.found.items c.in-Ok.piece
    c.parts.invariant c.behind-rest.ensures c.in-Ok.ensures.value within (search rules)
    c.fresh_behind-fresh.ensures c.in_ok-push_token.ensures.ok
