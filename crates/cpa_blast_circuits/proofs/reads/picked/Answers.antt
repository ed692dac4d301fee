-- One bit more, and the end.
use Rattle.std.proofs.Common.{length, ap, ◌∙◌, arith}
use Rattle.cpa_blast_gates.specs.Nets.{built}
use Rattle.cpa_blast_circuits.specs.Reads.{first_word}
use Rattle.cpa_blast_circuits.proofs.Halves.{one_more_pick, last_pick, alike_first}
use Rattle.cpa_blast_circuits.proofs.reads.picked.Goals as goal

pub loop-bit-preserved : goal.loop-bit-preserved
loop-bit-preserved c =
    let l = c.loop-bit in
    let made = c.in_ok-words in
    record {
      so_far =
          one_more_pick l.net c.halved.new.net c.args.bits.now l.bit-index c.bit-item.result
          l.words.items made.words.items c.loop-bit-test.true c.bit-item.is made.ensures.built
          ∙ l.invariant.so_far;
      alike =
          alike_first (length (first_word l.words.items)) made.words.items made.ensures.alike;
    }

pub returns : goal.returns
returns c =
    let l = c.loop-bit in
    ap (built l.net) (c.in_ok-word.ensures ∙ ap first_word c.as_slice.ensures.value)
    ∙ last_pick l.net c.args.bits.now l.bit-index l.words.items
    (omega (arith, c.loop-bit-test.false))
    ∙ l.invariant.so_far
