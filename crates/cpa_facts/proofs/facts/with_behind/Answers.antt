-- The last block is gone through behind the others.
use Rattle.std.proofs.Common.{rules, List}
use Rattle.std.proofs.lemmas.Result.{IfOk-weaker}
use Rattle.cpa_facts.specs.declared.fact.Fact.{Fact}
use Rattle.cpa_facts.proofs.FillingLemmas.{behind_last}
use Rattle.cpa_facts.proofs.facts.with_behind.Goals as goal

pub returns-in_ok-left-in-Some : goal.returns-in_ok-left-in-Some
returns-in_ok-left-in-Some c = IfOk-weaker _ _ _ (λ (f : List Fact) is.
    behind_last c.args.blocks.now c.in-Some.front.now c.in-Some.last.now c.args.filling
    c.push_behind.new.self f c.args.count c.in_ok-left-in-Some.left (search rules)
    c.in_ok-left-in-Some.ensures.facts c.in_ok-left-in-Some.ensures.left is)
    c.with_last.ensures
