use Rattle.std.proofs.Common.{◌≡◌, ℕ, ◌+◌, List, ◌++◌, length, unwrap_or, option_map, [], sym}
use Rattle.std.proofs.Common.{ap, ◌∙◌, refl, subst, arith, length-append}
use Rattle.std.specs.Prelude.{IfOk}
use Rattle.c_types_bodies.specs.Grown.{labels_in}
use Rattle.c_types_bodies.proofs.Names.{in_Block, in_If, in_While, in_Do, in_For, of_Declaration}
use Rattle.c_types_bodies.proofs.Names.{of_Statement, count_Switch, count_Case, count_Default}
use Rattle.c_types_bodies.proofs.Names.{count_Labeled, count_step}
use Rattle.c_types_bodies.proofs.labels.+counting.Goals as goal

pub count_item-returns-in-Declaration : goal.count_item-returns-in-Declaration
count_item-returns-in-Declaration t c =
    rw (c.in-Declaration.is, of_Declaration) refl

pub count_item-returns-in-Statement : goal.count_item-returns-in-Statement
count_item-returns-in-Statement t c =
    rw (c.in-Statement.is, of_Statement) c.count_labels.ensures

pub count_labels-returns-in-Block : goal.count_labels-returns-in-Block
count_labels-returns-in-Block t c =
    rw (c.in-Block.is, in_Block) (rw c.as_slice.ensures at c.count_all.ensures)

pub count_labels-returns-in-While : goal.count_labels-returns-in-While
count_labels-returns-in-While t c =
    rw (c.in-While.is, in_While) (rw c.get-in-While.ensures at c.count_labels-in-While.ensures)

pub count_labels-returns-in-Do : goal.count_labels-returns-in-Do
count_labels-returns-in-Do t c =
    rw (c.in-Do.is, in_Do) (rw c.get-in-Do.ensures at c.count_labels-in-Do.ensures)

pub count_labels-returns-in-For : goal.count_labels-returns-in-For
count_labels-returns-in-For t c =
    rw (c.in-For.is, in_For) (rw c.get-in-For.ensures at c.count_labels-in-For.ensures)

pub count_labels-returns-in-Labeled : goal.count_labels-returns-in-Labeled
count_labels-returns-in-Labeled t c =
    rw c.in-Labeled.is
    (subst (λ (k : ℕ). IfOk c.count_more.result (λ n. n ≡ k))
    (count_Labeled c.in-Labeled.label c.in-Labeled.body)
    (rw c.get-in-Labeled.ensures at c.count_more.ensures))

pub count_labels-returns-in-Switch : goal.count_labels-returns-in-Switch
count_labels-returns-in-Switch t c =
    rw c.in-Switch.is
    (subst (λ (k : ℕ). IfOk c.count_more-in-Switch.result (λ n. n ≡ k))
    (count_Switch c.in-Switch.value c.in-Switch.body c.in-Switch.place)
    (rw c.get-in-Switch.ensures at c.count_more-in-Switch.ensures))

pub count_labels-returns-in-Case : goal.count_labels-returns-in-Case
count_labels-returns-in-Case t c =
    rw c.in-Case.is
    (subst (λ (k : ℕ). IfOk c.count_more-in-Case.result (λ n. n ≡ k))
    (count_Case c.in-Case.value c.in-Case.body c.in-Case.place)
    (rw c.get-in-Case.ensures at c.count_more-in-Case.ensures))

pub count_labels-returns-in-Default : goal.count_labels-returns-in-Default
count_labels-returns-in-Default t c =
    rw c.in-Default.is
    (subst (λ (k : ℕ). IfOk c.count_more-in-Default.result (λ n. n ≡ k))
    (count_Default c.in-Default.body c.in-Default.place)
    (rw c.get-in-Default.ensures at c.count_more-in-Default.ensures))

pub count_labels-returns-in_ok-both-in-If : goal.count_labels-returns-in_ok-both-in-If
count_labels-returns-in_ok-both-in-If t c =
    let yes = labels_in c.in-If.yes in
    let no = unwrap_or (option_map labels_in c.in-If.no) [] in
    rw (c.in-If.is, in_If)
    (c.in_ok-both-in-If.ensures
    ∙ ap (λ (n : ℕ). n + c.in_ok-second-in-If.second)
    (rw c.get.ensures at c.in_ok-first-in-If.ensures)
    ∙ ap (λ (n : ℕ). length yes + n) c.in_ok-second-in-If.ensures
    ∙ sym (length-append yes no))

pub count_all-loop-item-preserved : goal.count_all-loop-item-preserved
count_all-loop-item-preserved t c =
    count_step c.args.items.now c.loop-item.item-index c.item-item.result c.loop-item.count
    c.in_ok-one.one c.in_ok-next.next _ (omega arith) c.item-item.is c.in_ok-one.ensures
    c.in_ok-next.ensures c.loop-item.invariant
