use Rattle.std.specs.declared.vec.Vec.{Vec}
use Rattle.std.specs.declared.alloc.Global.{Global}
use Rattle.std.proofs.Common.{List, [], ◌∷◌, Option, map, length}
use Rattle.std.proofs.Common.{refl, sym, ap, ◌∙◌, subst, arith}
use Rattle.std.specs.Option.{option_map}
use Rattle.std.specs.List.{AllByRecursion}
use Rattle.std.specs.Vec.Iter.{into_iter_items}
use Rattle.std.proofs.lemmas.List.{map-append}
use Rattle.cpa_model.specs.declared.facts.Elem.{Elem}
use Rattle.cpa_iface.specs.Meanings.{Meaning}
use Rattle.cpa_composite.specs.Components.{picked, AreElems}
use Rattle.cpa_composite.specs.Laws.{Strengthens}
use Rattle.cpa_composite.proofs.Chosen.{none_left}
use Rattle.cpa_composite.proofs.Strengthening.{Remains, remains_first, remains_taken}
use Rattle.cpa_composite.proofs.Strengthening.{remains_dropped, remains_none}
use Rattle.cpa_composite.proofs.choosing.strengthen_all.Goals as goal

pub loop-choice-init : goal.loop-choice-init
loop-choice-init g c =
    let meaning = g.A.Analysis.meaning in
    let items : Vec Elem Global → List Elem = λ l. l.items in
    let gives = c.into_iter-choice-iterator.ensures.into_iter_gives in
    let same = ap length gives.0 in
    let ms = map meaning c.args.handed.now.items in
    record {
      each = rw (c.new-rows.ensures.items, gives.0)
          (remains_first c.args.cfa.now (picked ms c.args.picks.now) c.args.precisions.now
          (map items c.args.choices.items));
      kept = refl;
      shaped = rw gives.0 c.requires.choices;
      len = omega (arith, gives.1, same, c.args.choices.ok.0);
    }

pub strengthen-requires-clause-choice : goal.strengthen-requires-clause-choice
strengthen-requires-clause-choice g c =
    let items : Vec Elem Global → List Elem = λ l. l.items in
    (subst (λ (l : List (Vec Elem Global)).
    AllByRecursion (AreElems c.args.cfa.now (length c.args.picks.now)) (map items l))
    c.in-Some.ensures.steps.0 c.loop-choice.invariant.shaped).0

pub loop-choice-preserved-in-Continue-branch-2 : goal.loop-choice-preserved-in-Continue-branch-2
loop-choice-preserved-in-Continue-branch-2 g c =
    let meaning = g.A.Analysis.meaning in
    let items : Vec Elem Global → List Elem = λ l. l.items in
    let at = c.loop-choice in
    let steps = c.in-Some.ensures.steps in
    let same = ap length steps.0 in
    let ms = map meaning c.args.handed.now.items in
    let picks = c.args.picks.now in
    let cfa = c.args.cfa.now in
    let ps = c.args.precisions.now in
    let cs = picked ms picks in
    let all = map items c.args.choices.items in
    let choice = c.in-Some.choice.items in
    let left = map items (into_iter_items c.next.new.self) in
    let rows = map items at.rows.items in
    let before : Remains cfa cs ps all (choice ∷ left) rows =
    subst (λ (l : List (Vec Elem Global)). Remains cfa cs ps all (map items l) rows) steps.0
    at.invariant.each in
    let made : Strengthens cfa cs [] choice ps (option_map items c.in_ok-row.row) =
    subst (λ (ns : List Meaning). Strengthens cfa (picked ns picks) [] choice ps
    (option_map items c.in_ok-row.row)) at.invariant.kept c.in_ok-row.ensures.laws in
    record {
      each = subst (Remains cfa cs ps all left)
          (sym (ap (map items) c.in_ok-push-in-Some-row.ensures.items
          ∙ map-append items at.rows.items (c.in-Some-row.row ∷ [])))
          (remains_taken cfa cs ps all left rows choice c.in-Some-row.row.items
          (subst (λ (o : Option (Vec Elem Global)). Strengthens cfa cs [] choice ps
          (option_map items o)) c.in-Some-row.is made) before);
      kept = c.strengthen.ensures.kept ∙ at.invariant.kept;
      shaped = (subst (λ (l : List (Vec Elem Global)).
          AllByRecursion (AreElems cfa (length picks)) (map items l)) steps.0
          at.invariant.shaped).1;
      len = omega (arith, steps.1, at.invariant.len, same);
    }

pub loop-choice-preserved : goal.loop-choice-preserved
loop-choice-preserved g c =
    let meaning = g.A.Analysis.meaning in
    let items : Vec Elem Global → List Elem = λ l. l.items in
    let at = c.loop-choice in
    let steps = c.in-Some.ensures.steps in
    let same = ap length steps.0 in
    let ms = map meaning c.args.handed.now.items in
    let picks = c.args.picks.now in
    let cfa = c.args.cfa.now in
    let ps = c.args.precisions.now in
    let cs = picked ms picks in
    let all = map items c.args.choices.items in
    let choice = c.in-Some.choice.items in
    let left = map items (into_iter_items c.next.new.self) in
    let rows = map items at.rows.items in
    let before : Remains cfa cs ps all (choice ∷ left) rows =
    subst (λ (l : List (Vec Elem Global)). Remains cfa cs ps all (map items l) rows) steps.0
    at.invariant.each in
    let made : Strengthens cfa cs [] choice ps (option_map items c.in_ok-row.row) =
    subst (λ (ns : List Meaning). Strengthens cfa (picked ns picks) [] choice ps
    (option_map items c.in_ok-row.row)) at.invariant.kept c.in_ok-row.ensures.laws in
    record {
      each = remains_dropped cfa cs ps all left rows choice
          (subst (λ (o : Option (Vec Elem Global)). Strengthens cfa cs [] choice ps
          (option_map items o)) c.in-None-row.is made) before;
      kept = c.strengthen.ensures.kept ∙ at.invariant.kept;
      shaped = (subst (λ (l : List (Vec Elem Global)).
          AllByRecursion (AreElems cfa (length picks)) (map items l)) steps.0
          at.invariant.shaped).1;
      len = omega (arith, steps.1, at.invariant.len, same);
    }

pub returns-clause-laws : goal.returns-clause-laws
returns-clause-laws g c =
    let meaning = g.A.Analysis.meaning in
    let items : Vec Elem Global → List Elem = λ l. l.items in
    let at = c.loop-choice in
    let ms = map meaning c.args.handed.now.items in
    let cfa = c.args.cfa.now in
    let ps = c.args.precisions.now in
    let cs = picked ms c.args.picks.now in
    let all = map items c.args.choices.items in
    let none = none_left (into_iter_items at.choice-iterator)
    (sym at.invariant.len ∙ c.in-None.ensures.steps.0) in
    remains_none cfa cs ps all (map items at.rows.items)
    (subst (λ (l : List (Vec Elem Global)).
    Remains cfa cs ps all (map items l) (map items at.rows.items)) none at.invariant.each)
