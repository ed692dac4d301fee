-- Step by step the marked literals are those of the chain's present clause.
use Rattle.std.proofs.Common.{◌≡◌, ◌⊎◌, ◌||◌, true, None, length, ◌∙◌, subst, arith}
use Rattle.std.specs.Prelude.{◌*◌, List, ℕ}
use Rattle.cpa_cnf.specs.Lines.{known}
use Rattle.cpa_cnf.specs.Clauses.{has}
use Rattle.cpa_cnf.specs.Resolution.{clash_on}
use Rattle.cpa_cnf.specs.Marking.{marked, HasBeyond, IsMarkedResolvent}
use Rattle.cpa_cnf.proofs.Following.{first_beyond, step_fails, follows}
use Rattle.cpa_cnf.proofs.checking.follow.Goals as goal

pub returns-then-not-mark-clause-none : goal.returns-then-not-mark-clause-none
returns-then-not-mark-clause-none c =
    let cs = known c.args.cnf.now c.args.earlier.now in
    first_beyond c.args.cnf.now.vars cs c.args.line.now c.args.table.now c.requires.range
    c.requires.blank.long
    (subst (λ (b : List ℕ). HasBeyond c.args.table.now b) (c.literals.ensures.literals
    ∙ c.named.ensures) c.if-not-mark.ensures.beyond)

pub returns-then-not-take_step-clause-none : goal.returns-then-not-take_step-clause-none
returns-then-not-take_step-clause-none c =
    let cs = known c.args.cnf.now c.args.earlier.now in
    let s = c.in-Some.step.now in
    let table = c.loop-step.table in
    let long : length table ≡ 2 * c.args.cnf.now.vars = omega (arith, c.requires.blank.long) in
    let P = λ (b : List ℕ). (clash_on (marked table) (has b) s.pivot ≡ None) ⊎ HasBeyond table b in
    step_fails c.args.cnf.now.vars cs c.args.line.now s _ _ table long c.in-Some.ensures.steps
    c.loop-step.invariant
    (subst P c.named-in-loop-step.ensures c.if-not-take_step.ensures.fails)

pub loop-step-preserved : goal.loop-step-preserved
loop-step-preserved c =
    let cs = known c.args.cnf.now c.args.earlier.now in
    let s = c.in-Some.step.now in
    let old = c.loop-step.table in
    let new = c.take_step.new.table in
    let P = λ (b : List ℕ). IsMarkedResolvent old b s.pivot new in
    let Q = λ (b : List ℕ). (l : ℕ) → marked new l ≡ true → (marked old l || has b l) ≡ true in
    follows c.args.cnf.now.vars cs c.args.line.now s _ _ old new c.in-Some.ensures.steps
    c.loop-step.invariant
    (subst P c.named-in-loop-step.ensures c.if-not-take_step.ensures.resolves)
    (subst Q c.named-in-loop-step.ensures c.take_step.ensures.only)
