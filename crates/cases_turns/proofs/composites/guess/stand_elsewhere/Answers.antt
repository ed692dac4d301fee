use Rattle.std.proofs.Common.{length, refl}
use Rattle.std.proofs.lemmas.Option.{slice_get_read}
use Rattle.cases_turns.proofs.Guessing.{holds_there}
use Rattle.cases_turns.proofs.composites.guess.stand_elsewhere.Goals as goal

pub returns-then-stands_elsewhere : goal.returns-then-stands_elsewhere
returns-then-stands_elsewhere c = λ _ s lies is.
    let es = c.args.elems.now in
    let i = c.loop-elem.elem-index in
    let e = c.elem-item.result in
    c.stands_elsewhere.ensures c.if-stands_elsewhere.true s
    (holds_there s es i e
    (slice_get_read es (length es) i e refl c.loop-elem-test.true c.elem-item.is) lies) is
