-- Each token counts; the bracket that closes where none is open ends it, and no text goes on
-- through the end.
use Rattle.std.proofs.Common.{sym, subst, refl}
use Rattle.c_grammar_symbols.specs.Sources.{leaf_at}
use Rattle.c_parser_words.proofs.Among.{IsAmong, among_more, reads_among, none_among, apart}
use Rattle.c_parser_words.proofs.brackets.balanced.Goals as goal

pub loop-opens-preserved : goal.loop-opens-preserved
loop-opens-preserved c =
    among_more c.args.opens c.args.closes c.args.source.now c.args.at c.loop-opens.depth
    c.loop-opens.here c.in-Some.behind
    c.loop-opens.invariant (sym c.loop-opens-test.ensures.value) c.in-Some.ensures
    (c.loop-opens-test.ensures.more refl).within

pub returns-in-None : goal.returns-in-None
returns-in-None c = λ left.
    reads_among c.args.opens c.args.closes c.args.source.now c.args.at left c.loop-opens.here
    (subst (λ d. IsAmong c.args.opens c.args.closes c.args.source.now c.args.at d c.loop-opens.here)
    c.in-None.ensures.1
    c.loop-opens.invariant)
    c.in-None.ensures.0 (apart c.args.opens c.args.closes
    (leaf_at c.args.source.now c.loop-opens.here) c.requires.apart c.in-None.ensures.0)
    (sym c.loop-opens-test.ensures.value)
    (c.loop-opens-test.ensures.more refl).within

pub returns : goal.returns
returns c = λ left.
    none_among c.args.opens c.args.closes c.args.source.now c.args.at left c.loop-opens.depth
    c.loop-opens.here
    c.loop-opens.invariant (sym c.loop-opens-test.ensures.value)
