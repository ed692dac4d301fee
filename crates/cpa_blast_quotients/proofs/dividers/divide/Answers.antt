use Rattle.std.proofs.Common.{◌-◌, ◌∙◌, refl, ap, arith, length, take}
use Rattle.std.proofs.lemmas.List.{take_rest}
use Rattle.cpa_blast_quotients.specs.Dividers.{stage}
use Rattle.cpa_blast_quotients.proofs.Turns.{divide_start, divide_next, empty_divided}
use Rattle.cpa_blast_quotients.proofs.dividers.divide.Goals as goal

pub loop-place-init : goal.loop-place-init
loop-place-init c = record {
  so_far =
      divide_start c.args.net.now c.args.xs.now c.args.divisor.now _
      (empty_divided c.new.result c.new-2.result c.new.ensures c.new-2.ensures);
  quotient_long = omega (arith, ap length c.new.ensures);
  remainder_long = omega (arith, ap length c.new-2.ensures);
  within = omega arith;
}

pub loop-place-preserved : goal.loop-place-preserved
loop-place-preserved c =
    let l = c.loop-place in
    let done = length c.args.xs.now - (l.place - 1) in
    record {
      so_far =
          divide_next c.args.net.now l.net c.stage.new.net c.args.xs.now c.args.divisor.now
          l.divided c.in_ok-divided.divided l.place (l.place - 1) c.index-xs-place.result
          done (omega arith) (omega arith) refl
          c.index-xs-place.is l.invariant.so_far
          (c.in_ok-divided.ensures.built
          ∙ ap (stage l.net c.index-xs-place.result l.divided (take done c.args.divisor.now))
          (take_rest c.args.divisor.now done));
      quotient_long = omega (arith, c.in_ok-divided.ensures.quotient_long);
      remainder_long = omega (arith, c.in_ok-divided.ensures.remainder_long);
      within = omega arith;
    }
