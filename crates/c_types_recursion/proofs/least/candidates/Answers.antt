use Rattle.std.proofs.Common.{ℕ, List, rules, sym, subst}
use Rattle.std.specs.List.{All}
use Rattle.std.specs.List.Sorted.{IsPermutation}
use Rattle.std.proofs.lemmas.List.Sorted.{IsNonDecreasingBy-from_sort_by_key}
use Rattle.c_types_rules.specs.Items.{Call}
use Rattle.c_types_recursion.specs.Marks.{DoesNotFall}
use Rattle.c_types_recursion.proofs.Circles.{some_level, each_circular}
use Rattle.c_types_recursion.proofs.least.candidates.Goals as goal

pub returns-clause-some : goal.returns-clause-some
returns-clause-some c =
    let sorted = c.sort_by_key.new.self.items in
    some_level c.args.calls.now sorted c.deref.result.now
    (subst (λ (xs : List Call). IsPermutation xs sorted) c.in_ok-found.ensures
    c.in_ok-sort_by_key.ensures.permutation)

pub returns-clause-each : goal.returns-clause-each
returns-clause-each c =
    let sorted = c.sort_by_key.new.self.items in
    each_circular c.args.calls.now sorted c.deref.result.now
    (subst (λ (ranks : List ℕ). All (DoesNotFall ranks) c.args.calls.now)
    (sym c.deref.ensures.value) c.in_ok-ranks.ensures)
    (subst (λ (xs : List Call). IsPermutation xs sorted) c.in_ok-found.ensures
    c.in_ok-sort_by_key.ensures.permutation)

pub returns-clause-order : goal.returns-clause-order
returns-clause-order c =
    IsNonDecreasingBy-from_sort_by_key (λ (call : Call). call.place) c.sort_by_key.new.self.items
    c.in_ok-sort_by_key.ensures.sorted (λ a r q k. search rules)
