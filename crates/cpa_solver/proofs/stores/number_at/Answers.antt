-- One bit more.
use Rattle.std.proofs.Common.{◌+◌, ◌-◌, ◌*◌, ◌<◌, ◌^◌, ap, sym, subst, ◌∙◌, arith}
use Rattle.cpa_blast_gates.specs.Clauses.{assigned}
use Rattle.cpa_blast_words.specs.Truths.{bit}
use Rattle.cpa_solver.proofs.Numbers.{one_bit, one_power, has_room}
use Rattle.cpa_solver.proofs.stores.number_at.Goals as goal

pub with_bit-number-requires : goal.with_bit-number-requires
with_bit-number-requires c =
    let l = c.loop-place in
    has_room l.number c.args.width l.place (l.place - 1) (omega arith) l.invariant.within c.requires
    l.invariant.below

pub loop-place-preserved : goal.loop-place-preserved
loop-place-preserved c =
    let l = c.loop-place in
    let m = assigned c.args.truths.now in
    let truth = c.is_true-truth.result in
    record {
      within = omega (arith, l.invariant.within);
      number =
          c.with_bit-number.ensures
          ∙ ap (λ b. bit b + 2 * l.number) c.is_true-truth.ensures
          ∙ ap (λ n. bit (m (c.args.first + (l.place - 1))) + 2 * n) l.invariant.number
          ∙ one_bit m c.args.first c.args.width l.place (l.place - 1) (omega arith)
          l.invariant.within;
      below =
          subst (λ n. n < 2 ^ (c.args.width - (l.place - 1))) (sym c.with_bit-number.ensures)
          (one_power truth l.number c.args.width l.place (l.place - 1) (omega arith)
          l.invariant.within l.invariant.below);
    }
