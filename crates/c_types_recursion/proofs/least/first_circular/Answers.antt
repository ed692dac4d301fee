use Rattle.std.proofs.Common.{ℕ, refl, sym, ap, subst, Some, arith}
use Rattle.std.proofs.lemmas.Bool.{iff_false}
use Rattle.c_types_rules.specs.Items.{Call}
use Rattle.c_types_rules.specs.Recursion.{Among, LeadsBack}
use Rattle.c_types_recursion.specs.Least.{FindsLeast}
use Rattle.c_types_recursion.proofs.Circles.{none_more, none_found, least_found}
use Rattle.c_types_recursion.proofs.Marks.{within_among}
use Rattle.c_types_recursion.proofs.least.first_circular.Goals as goal

pub is_circular-requires-clause-one : goal.is_circular-requires-clause-one
is_circular-requires-clause-one c =
    within_among c.args.calls.now c.args.bodies c.args.bodies c.call-item.result c.requires.within
    refl
    (subst (λ (one : Call). Among one c.args.calls.now) (sym c.call-item.is)
    (c.requires.some c.loop-call.call-index c.call-item.result (omega arith)))

pub returns-then-leads_back : goal.returns-then-leads_back
returns-then-leads_back c =
    let place = ap (λ (one : Call). one.place) c.call.view_is in
    subst (λ (p : ℕ). FindsLeast (LeadsBack c.args.calls.now) (Some p)) (sym place)
    (least_found c.args.calls.now c.args.found.now c.loop-call.call-index c.call-item.result
    c.requires.some c.requires.each c.requires.order (omega arith) c.call-item.is
    (c.in_ok-leads_back.ensures.0 c.if-leads_back.true) c.loop-call.invariant)

pub loop-call-preserved : goal.loop-call-preserved
loop-call-preserved c =
    none_more c.args.calls.now c.args.found.now c.loop-call.call-index c.call-item.result
    (omega arith) c.call-item.is
    (iff_false c.in_ok-leads_back.ensures c.if-leads_back.false) c.loop-call.invariant

pub returns : goal.returns
returns c =
    none_found c.args.calls.now c.args.found.now c.requires.each
    (λ k d below. c.loop-call.invariant k d (omega arith))
