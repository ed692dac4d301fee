use Rattle.std.proofs.Common.{◌∙◌, Some, ap, sym}
use Rattle.std.specs.Prelude.{option_and_then}
use Rattle.std.proofs.lemmas.Option.{slice_get-get_or}
use Rattle.cpa_recheck_obligations.specs.Forms.{behind}
use Rattle.cpa_recheck.proofs.Asked.{some_rivals}
use Rattle.cpa_recheck.proofs.asking.rivals_behind.Goals as goal

pub returns-in_ok-numbers-in-Some-then : goal.returns-in_ok-numbers-in-Some-then
returns-in_ok-numbers-in-Some-then c = λ xs are.
    let spots = c.args.spots.now in
    let x = c.args.entry in
    let o = c.index-spots-entry.result in
    let edge = c.edge.result.now in
    some_rivals c.args.cfa.now xs spots x c.args.edge edge o c.in-Some-then.then
    c.in_ok-numbers-in-Some-then.numbers.items are
    (slice_get-get_or spots x o c.requires.entry ∙ ap Some (sym c.index-spots-entry.is))
    c.edge.ensures
    (ap (option_and_then (behind edge)) c.in-Some.is
    ∙ (sym c.in_ok-then-in-Some.ensures ∙ c.in-Some-then.is))
    (c.in_ok-numbers-in-Some-then.ensures spots c.requires.table)
