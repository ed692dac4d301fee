use Rattle.std.proofs.Common.{◌≡◌, ℕ, List, Option, Some, sym, ◌∙◌, subst}
use Rattle.std.specs.Prelude.{IfSome}
use Rattle.std.specs.List.{slice_get}
use Rattle.cpa_reached.specs.declared.marks.Mark.{Mark}
use Rattle.cpa_reached.specs.Entries.{ReachedSet}
use Rattle.cpa_reached.specs.Marks.{DiffersAt, IsMarkOf}
use Rattle.cpa_reached.specs.Members.{IsIn}
use Rattle.cpa_reached.specs.Passed.{LeavesOut, IsPassedBy}
use Rattle.cpa_reached.specs.lemmas.PassedLaws.{all_left, left_weaker}
use Rattle.cpa_reached.proofs.Marking.{parted_there}
use Rattle.cpa_reached.proofs.reached.Reached.left_under.Goals as goal

pub returns-in_ok-left-in-Some-clause-left : goal.returns-in_ok-left-in-Some-clause-left
returns-in_ok-left-in-Some-clause-left c = λ row by.
    let i = c.self.inside in
    let r = c.args.self.now in
    let m = c.in-Some.mark in
    let own : IsMarkOf m row =
    subst (λ (o : Option Mark). IfSome o (λ k. IsMarkOf k row)) c.in-Some.is by in
    let reason : ℕ → Type 0 = IsPassedBy c.args.mark row r.live in
    let numbers = c.under-numbers.result.now in
    let left = c.in_ok-left-in-Some.left.items in
    subst (λ (l : List ℕ). LeavesOut reason l left) c.under-numbers.ensures.numbers
    (left_weaker (DiffersAt m c.deref.result.now) reason numbers left
    (λ n differs. record {
      by = m;
      is = c.in-Some.is;
      parted = λ e there number.
          parted_there i.marks.items i.table.entries.items e n m differs.kept row
          c.self.invariant.marked
          (subst (λ (s : ReachedSet). IsIn e s.live) (sym c.self.view_is) there) number
          (subst (λ (l : List Mark). slice_get l n ≡ Some differs.kept) c.deref.ensures.value
          differs.at)
          own differs.differ;
    })
    c.in_ok-left-in-Some.ensures)

pub returns-in_ok-all-in-None-clause-left : goal.returns-in_ok-all-in-None-clause-left
returns-in_ok-all-in-None-clause-left c = λ row by.
    let r = c.args.self.now in
    let reason : ℕ → Type 0 = IsPassedBy c.args.mark row r.live in
    let all = c.in_ok-all-in-None.all.items in
    subst (λ (l : List ℕ). LeavesOut reason l all)
    (c.in_ok-all-in-None.ensures.items_if_clones_equal (λ x y e. e)
    ∙ c.under-numbers.ensures.numbers)
    (all_left reason all)
