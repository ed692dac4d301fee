use Rattle.std.proofs.Common.{arith}
use Rattle.c_types_recursion.proofs.Marks.{begun, whole_marks, marked_reached}
use Rattle.c_types_recursion.proofs.reach.reached.Goals as goal

pub loop-changed-init : goal.loop-changed-init
loop-changed-init c =
    let seen = c.in_ok-seen.seen in
    let whole = whole_marks c.explore.new.seen seen.items seen.len
    (omega (arith, c.explore.auto.seen, c.deref_mut.ensures.len)) (omega (arith, seen.ok.0)) in
    let begins = begun c.args.calls.now c.args.bodies c.args.start c.deref_mut.result.now seen.items
    c.explore.new.seen _ c.in_ok-seen.ensures c.deref_mut.ensures.value c.explore.ensures.kept
    c.explore.ensures.grown c.explore.auto.seen whole c.requires.start in
    record {
      start = begins.start;
      only = begins.only;
      closed = λ no. absurd (cc);
      len = begins.len;
    }

pub returns-clause-marked : goal.returns-clause-marked
returns-clause-marked c = λ body. (
  c.loop-changed.invariant.only.reached body,
  marked_reached c.args.calls.now c.loop-changed.seen.items c.args.start
      (c.loop-changed.invariant.closed c.loop-changed-test.false) c.loop-changed.invariant.start
      body,
)
