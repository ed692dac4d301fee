use Rattle.std.proofs.Common.{rules, ◌∙◌, List, ap, subst}
use Rattle.cpa_recheck_obligations.specs.declared.listing.Obligation.{Obligation}
use Rattle.cpa_recheck_obligations.specs.Obligations.{obligations}
use Rattle.cpa_recheck.specs.Checks.{IsWalk}
use Rattle.cpa_recheck.proofs.rechecking.walk_entries.Goals as goal

pub returns : goal.returns
returns c = λ es are.
    let cfa = c.args.cfa.now in
    let budget = c.args.budget.now in
    let run = c.deref-3.ensures.value ∙ (c.in_ok-list.ensures ∙ ap (obligations cfa) are) in
    record {
      count = search rules;
      walk = subst
          (λ (os : List Obligation). IsWalk cfa es budget c.args.keeping 0 os c.in_ok-part.part) run
          (c.in_ok-part.ensures es are);
    }
