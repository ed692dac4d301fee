-- What has been gathered, with what the rest gives, is what all give.
use Rattle.std.proofs.Common.{◌≡◌, ◌++◌, drop}
use Rattle.c_types_rules.specs.First.{first_with}
use Rattle.c_types_rules.specs.Items.{items_faults, items_calls}
use Rattle.c_types_rules.specs.Sound.{items_behind, starts_of, functions_of}
use Rattle.c_types_globals.specs.Scopes.{before_of}
use Rattle.c_types_bodies.specs.Bodies.{AreNumbered}
use Rattle.c_types.proofs.items.gather_items.Given as goal

abbrev pub invariant-loop-item : goal.invariant-loop-item
invariant-loop-item l =
    let rest = drop l.item-index l.items in
    let now = before_of l.gathered.scope in
    let begun = before_of l.fn.gathered.scope in
    record {
      numbered : AreNumbered l.gathered.scope.objects l.gathered.scope.names;
      scope : items_behind l.survey rest now ≡ items_behind l.survey l.items begun;
      first : first_with l.gathered.first (items_faults l.survey rest now)
          ≡ first_with l.fn.gathered.first (items_faults l.survey l.items begun);
      calls : l.gathered.calls.items ++ items_calls l.survey rest now
          ≡ l.fn.gathered.calls.items ++ items_calls l.survey l.items begun;
      functions : l.gathered.functions.items ++ functions_of l.survey rest now
          ≡ l.fn.gathered.functions.items ++ functions_of l.survey l.items begun;
      starts : l.gathered.starts.items ++ starts_of l.survey rest now
          ≡ l.fn.gathered.starts.items ++ starts_of l.survey l.items begun;
    }
