use Rattle.std.proofs.Common.{◌≡◌, ◌-◌, ◌∙◌, ap, sym, subst, arith, to_z-of_z}
use Rattle.std.specs.Int.{w128}
use Rattle.cpa_expr.specs.declared.tree.Expr.TheVariants.{Const, Cond}
use Rattle.cpa_expr_text.specs.Kinds.{FitsHead}
use Rattle.cpa_expr_text.specs.Reading.{texts, words_onto, one_of, two_of, Fits}
use Rattle.cpa_expr_text.proofs.Forms.{one_fits, two_fits, leaf_fits, three_fits}
use Rattle.cpa_expr_text.proofs.Arms.{none_comes, some_level, leaf_comes, one_comes, two_come}
use Rattle.cpa_expr_text.proofs.Arms.{nothing_passed, three_come}
use Rattle.cpa_expr_text.proofs.trees.+trees.Goals as goal

pub take_tree-returns-then-levels-eq0-clause-read :
    goal.take_tree-returns-then-levels-eq0-clause-read
take_tree-returns-then-levels-eq0-clause-read t c e ws fits high is =
    absurd (omega (arith, some_level e fits, c.if-levels-eq0.true, high))

pub take_tree-returns-in_default-clause-read : goal.take_tree-returns-in_default-clause-read
take_tree-returns-in_default-clause-read t c e ws fits high is =
    absurd (none_comes (texts c.args.words.now) ws (λ h us small front.
    nothing_passed h us c.take_head.result (c.take_head.ensures.read h us small front)
    c.in_default.not-Some) e fits is)

pub take_tree-returns-in_ok-leaf-in-Leaf-clause-read :
    goal.take_tree-returns-in_ok-leaf-in-Leaf-clause-read
take_tree-returns-in_ok-leaf-in-Leaf-clause-read t c e ws fits high is =
    let small = subst FitsHead c.in-Leaf.is c.in-Some.ensures.fit in
    let comes = leaf_comes (texts c.args.words.now) (texts c.in-Some.rest.now) c.in-Some.head
    c.in-Some.ensures.read c.in-Leaf.ty c.in-Leaf.value c.in-Leaf.is e ws fits is in (
      c.in_ok-leaf-in-Leaf.ensures ∙ ap (Const c.in-Leaf.ty) (to_z-of_z {w = w128} small)
          ∙ comes.0,
      comes.1,
    )

pub take_tree-returns-in_ok-leaf-in-Leaf-clause-fit :
    goal.take_tree-returns-in_ok-leaf-in-Leaf-clause-fit
take_tree-returns-in_ok-leaf-in-Leaf-clause-fit t c =
    let small = subst FitsHead c.in-Leaf.is c.in-Some.ensures.fit in
    subst Fits (sym (c.in_ok-leaf-in-Leaf.ensures
    ∙ ap (Const c.in-Leaf.ty) (to_z-of_z {w = w128} small)))
    (leaf_fits c.in-Leaf.ty c.in-Leaf.value small)

pub take_tree-returns-in-One-clause-read : goal.take_tree-returns-in-One-clause-read
take_tree-returns-in-One-clause-read t c e ws fits high is =
    one_comes (texts c.args.words.now) (texts c.in-Some.rest.now) c.in-Some.head
    c.in-Some.ensures.read c.args.levels (c.args.levels - 1) (omega arith) c.take_one.result
    c.in-One.one c.in-One.is c.take_one.ensures.read e ws fits high is

pub take_tree-returns-in-One-clause-fit : goal.take_tree-returns-in-One-clause-fit
take_tree-returns-in-One-clause-fit t c =
    c.take_one.ensures.fit (subst FitsHead c.in-One.is c.in-Some.ensures.fit)

pub take_tree-returns-in-Two-clause-read : goal.take_tree-returns-in-Two-clause-read
take_tree-returns-in-Two-clause-read t c e ws fits high is =
    two_come (texts c.args.words.now) (texts c.in-Some.rest.now) c.in-Some.head
    c.in-Some.ensures.read c.args.levels (c.args.levels - 1) (omega arith) c.take_two.result
    c.in-Two.two c.in-Two.is c.take_two.ensures.read e ws fits high is

pub take_tree-returns-in-Three-clause-read : goal.take_tree-returns-in-Three-clause-read
take_tree-returns-in-Three-clause-read t c e ws fits high is =
    three_come (texts c.args.words.now) (texts c.in-Some.rest.now) c.in-Some.head
    c.in-Some.ensures.read c.args.levels (c.args.levels - 1) (omega arith) c.take_three.result
    c.in-Three.ty c.in-Three.is c.take_three.ensures.read e ws fits high is

pub take_one-returns-clause-read : goal.take_one-returns-clause-read
take_one-returns-clause-read t c a ws fits high is =
    let p = c.in_ok-part.ensures.read a ws fits high is in
    (c.in_ok-node.ensures ∙ ap (one_of c.args.head) p.0, p.1)

pub take_one-returns-clause-fit : goal.take_one-returns-clause-fit
take_one-returns-clause-fit t c fits =
    subst Fits (sym c.in_ok-node.ensures)
    (one_fits c.args.head c.in_ok-part.part fits c.in_ok-part.ensures.fit)

pub take_two-returns-clause-read : goal.take_two-returns-clause-read
take_two-returns-clause-read t c a b ws fa fb ha hb is =
    let first = c.in_ok-left.ensures.read a (words_onto b ws) fa ha is in
    let second = c.in_ok-right.ensures.read b ws fb hb first.1 in (
      c.in_ok-node.ensures ∙ ap (λ x. two_of c.args.head x c.in_ok-right.right) first.0
          ∙ ap (two_of c.args.head a) second.0,
      second.1,
    )

pub take_two-returns-clause-fit : goal.take_two-returns-clause-fit
take_two-returns-clause-fit t c =
    subst Fits (sym c.in_ok-node.ensures) (two_fits c.args.head c.in_ok-left.left
    c.in_ok-right.right c.in_ok-left.ensures.fit c.in_ok-right.ensures.fit)

pub take_three-returns-clause-read : goal.take_three-returns-clause-read
take_three-returns-clause-read t c a b d ws fa fb fd ha hb hd is =
    let first = c.in_ok-test.ensures.read a (words_onto b (words_onto d ws)) fa ha is in
    let second = c.in_ok-yes.ensures.read b (words_onto d ws) fb hb first.1 in
    let third = c.in_ok-no.ensures.read d ws fd hd second.1 in (
      c.in_ok-node.ensures
          ∙ ap (λ x. Cond c.args.ty x c.in_ok-yes.yes c.in_ok-no.no) first.0
          ∙ ap (λ x. Cond c.args.ty a x c.in_ok-no.no) second.0
          ∙ ap (λ x. Cond c.args.ty a b x) third.0,
      third.1,
    )

pub take_three-returns-clause-fit : goal.take_three-returns-clause-fit
take_three-returns-clause-fit t c =
    subst Fits (sym c.in_ok-node.ensures) (three_fits c.args.ty c.in_ok-test.test
    c.in_ok-yes.yes c.in_ok-no.no c.in_ok-test.ensures.fit c.in_ok-yes.ensures.fit
    c.in_ok-no.ensures.fit)
