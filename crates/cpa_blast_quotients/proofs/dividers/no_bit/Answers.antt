use Rattle.std.proofs.Common.{◌-◌, ◌∙◌, ap, arith}
use Rattle.cpa_blast_gates.specs.Nets.{built, and_in}
use Rattle.cpa_blast_quotients.proofs.Turns.{none_start, none_next}
use Rattle.cpa_blast_quotients.proofs.dividers.no_bit.Goals as goal

pub loop-place-init : goal.loop-place-init
loop-place-init c = record {
  so_far = ap (built c.args.net.now) c.always-none.ensures
      ∙ none_start c.args.net.now c.args.xs.now;
  within = omega arith;
}

pub loop-place-preserved : goal.loop-place-preserved
loop-place-preserved c =
    let l = c.loop-place in
    record {
      so_far =
          none_next c.args.net.now l.net c.and.new.self c.args.xs.now l.place (l.place - 1)
          c.index-xs-place.result l.none c.in_ok-none.none (omega arith) (omega arith)
          c.index-xs-place.is l.invariant.so_far
          (c.in_ok-none.ensures.built ∙ ap (and_in l.net l.none) c.opposite.ensures);
      within = omega arith;
    }
