use Rattle.std.specs.declared.vec.Vec.{Vec}
use Rattle.std.specs.declared.alloc.Global.{Global}
use Rattle.std.proofs.Common.{List, map, length, sym, ap, ◌∙◌, subst, arith}
use Rattle.std.specs.Vec.Iter.{into_iter_items}
use Rattle.cpa_model.specs.declared.facts.Elem.{Elem}
use Rattle.cpa_composite.proofs.Chosen.{IsLeft, left_first, left_next, left_none, none_left}
use Rattle.cpa_composite.proofs.choosing.only_choice.Goals as goal

pub loop-list-init : goal.loop-list-init
loop-list-init c =
    let items : Vec Elem Global → List Elem = λ l. l.items in
    let gives = c.into_iter-list-iterator.ensures.into_iter_gives in
    let same = ap length gives.0 in
    record {
      left = rw (c.new-row.ensures.items, gives.0)
          (left_first (map items c.args.lists.items) c.requires);
      len = omega (arith, gives.1, same, c.args.lists.ok.0);
    }

pub loop-list-preserved : goal.loop-list-preserved
loop-list-preserved c =
    let items : Vec Elem Global → List Elem = λ l. l.items in
    let at = c.loop-list in
    let steps = c.in-Some.ensures.steps in
    let same = ap length steps.0 in
    let lists = map items c.args.lists.items in
    record {
      left = rw c.in_ok-append.ensures.items
          (left_next lists at.row.items c.in-Some.list.items
          (map items (into_iter_items c.next.new.self))
          (subst (λ (l : List (Vec Elem Global)). IsLeft lists at.row.items (map items l))
          steps.0 at.invariant.left));
      len = omega (arith, steps.1, at.invariant.len, same);
    }

pub returns : goal.returns
returns c =
    let items : Vec Elem Global → List Elem = λ l. l.items in
    let at = c.loop-list in
    let lists = map items c.args.lists.items in
    let none = none_left (into_iter_items at.list-iterator)
    (sym at.invariant.len ∙ c.in-None.ensures.steps.0) in
    left_none lists at.row.items
    (subst (λ (l : List (Vec Elem Global)). IsLeft lists at.row.items (map items l)) none
    at.invariant.left)
