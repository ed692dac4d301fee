-- One fact more.
use Rattle.std.proofs.Common.{◌≡◌, ◌+◌, ◌-◌, ◌∙◌, arith}
use Rattle.cpa_interval.proofs.LoopLemmas.{item_at, put_more}
use Rattle.cpa_interval.proofs.cells.put_facts.Goals as goal

pub loop-place-preserved : goal.loop-place-preserved
loop-place-preserved c =
    let place = c.loop-place.place in
    let next : place ≡ (place - 1) + 1 = omega arith in
    let within = c.loop-place.invariant.within in
    let fact = item_at c.args.facts.now (place - 1) (omega (arith, within, next)) in
    record {
      within = omega (arith, within);
      cells = c.put_at.ensures.cells ∙ c.loop-place.invariant.cells;
      puts = put_more c.args.facts.now c.args.all.now.each c.loop-place.all.each
          c.put_at.new.all.each place (place - 1) fact.0 next fact.1 c.loop-place.invariant.puts
          (c.in_ok-put_at.ensures.each fact.0 fact.1);
    }
