-- One more half, and the last word.
use Rattle.std.proofs.Common.{length, ap, sym, subst, ◌∙◌, arith}
use Rattle.cpa_blast_gates.specs.Nets.{built}
use Rattle.cpa_blast_words.specs.Words.{choose_word}
use Rattle.cpa_blast_circuits.specs.Reads.{first_word, AreAlike}
use Rattle.cpa_blast_circuits.proofs.Halves.{one_more_half, last_half, alike_left, alike_second}
use Rattle.cpa_blast_circuits.proofs.Halves.{alike_push}
use Rattle.cpa_blast_circuits.proofs.reads.halved_pairs.Goals as goal

pub loop-rest-preserved : goal.loop-rest-preserved
loop-rest-preserved c =
    let l = c.loop-rest in
    let n = length (first_word c.args.words.now) in
    let w = c.first-item.result in
    let v = c.second-item.result in
    let chosen = c.in_ok-chosen.chosen in
    let pushed = c.in_ok-push.ensures.items in
    record {
      so_far =
          one_more_half n l.net c.choose_word.new.net c.args.bit l.halves.items
          c.push.new.self.items w v chosen l.rest.now c.in-len2-up.len_at_least c.first-item.is
          c.second-item.is
          (c.in_ok-chosen.ensures.built
          ∙ ap (λ xs. choose_word l.net c.args.bit xs c.as_slice-in-len2-up.result.now)
          c.as_slice.ensures
          ∙ ap (λ ys. choose_word l.net c.args.bit v ys) c.as_slice-in-len2-up.ensures)
          pushed
          ∙ l.invariant.so_far;
      left =
          alike_left n l.net l.net c.args.bit l.halves.items l.halves.items w v chosen l.rest.now
          c.in-len2-up.len_at_least l.invariant.left;
      made =
          subst (AreAlike n) (sym pushed)
          (alike_push n l.halves.items chosen l.invariant.made
          (c.in_ok-chosen.ensures.long ∙ ap length c.as_slice.ensures
          ∙ alike_second n l.net l.net c.args.bit l.halves.items l.halves.items w v chosen
          l.rest.now c.in-len2-up.len_at_least c.second-item.is l.invariant.left));
    }

pub returns-clause-built : goal.returns-clause-built
returns-clause-built c =
    let l = c.loop-rest in
    ap (built l.net) c.in_ok-push_last.ensures
    ∙ last_half l.net c.args.bit l.halves.items l.rest.now (omega (arith, c.in_default.len_below))
    ∙ l.invariant.so_far
