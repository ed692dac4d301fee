-- The value in place of the cell.
use Rattle.cpa_predicate.proofs.BeforeLemmas.{write_before}
use Rattle.cpa_predicate.proofs.before.before_write.Goals as goal

pub returns : goal.returns
returns c =
    write_before c.args.base c.args.len c.args._index.now c.args.value.now c.args.p.now _
    c.to_replace_is_to_set.ensures c.if-len-ne1.false
    (c.reads_scalar-scalar.ensures c.if-not-scalar.false) c.in_ok-before.ensures
