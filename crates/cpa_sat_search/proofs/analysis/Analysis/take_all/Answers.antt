use Rattle.std.proofs.Common.{◌≡◌, ◌<◌, length, get_or, ◌∙◌, subst, List, ℕ, arith}
use Rattle.cpa_sat_search.proofs.Marks.{taken_next, left_next}
use Rattle.cpa_sat_search.proofs.analysis.Analysis.take_all.Goals as goal

pub loop-k-preserved : goal.loop-k-preserved
loop-k-preserved c =
    let old = c.args.self.now in
    let now = c.loop-k.self in
    let touched = old.touched.items in
    let k = c.loop-k.k in
    let x = c.index-literal.result.now in
    let same = c.loop-k.invariant.2 in
    let is : x ≡ get_or touched k x =
    subst (λ (xs : List ℕ). x ≡ get_or xs k x) same c.index-literal.ensures in
    let inside : k < length touched = omega arith in
    let e = c.in_ok-take.ensures in
    let inv = c.loop-k.invariant in (
      λ l. left_next old.marks.items now.marks.items c.take.new.self.marks.items touched k x l
          inside is (inv.0 l) (e.left l),
      λ l. taken_next old.marks.items now.marks.items c.loop-k.literals.items
          c.take.new.literals.items touched k x l inside is (inv.0 l) (inv.0 x) (inv.1 l)
          (e.taken l),
      e.touched ∙ same,
      record {
        vars = e.same.vars ∙ inv.3.vars;
        long = e.same.long
            ∙ inv.3.long;
        first = e.same.first ∙ inv.3.first;
        steps = e.same.steps ∙ inv.3.steps;
      },
    )
