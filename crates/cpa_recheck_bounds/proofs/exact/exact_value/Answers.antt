use Rattle.cpa_recheck_bounds.proofs.Exactly.{exact_if}
use Rattle.cpa_recheck_bounds.proofs.exact.exact_value.Goals as goal

pub returns-then-are_fixed : goal.returns-then-are_fixed
returns-then-are_fixed c = λ store lie are.
    exact_if c.value_depends_on_what_is_read.ensures c.args.e.now c.args.all.now.each store
    c.args.lows.now.values c.value.result (c.are_fixed.ensures c.if-are_fixed.true) lie are
    c.value.ensures
