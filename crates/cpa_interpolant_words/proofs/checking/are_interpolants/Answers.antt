-- Steps from 1 to 0 are interpolants.
use Rattle.cpa_interpolant_words.proofs.Whole.{found_of}
use Rattle.cpa_interpolant_words.proofs.checking.are_interpolants.Goals as goal

pub returns : goal.returns
returns c = λ yes.
    found_of c.interpolants_leave_no_run.ensures c.args.cfa.now c.args.limits.gates
    c.args.edges.now c.args.exprs.now c.index-exprs-0.result c.index-exprs-edges.result
    c.requires.path c.if-exprs-edges.false c.index-exprs-0.is
    (c.is_one.ensures c.if-not-is_one.false) c.index-exprs-edges.is
    (c.is_zero.ensures c.if-not-is_zero.false) (c.in_ok-found.ensures yes)
