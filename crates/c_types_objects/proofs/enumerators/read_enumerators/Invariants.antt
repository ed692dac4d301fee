-- What is left gives what the whole gives.
use Rattle.std.proofs.Common.{drop}
use Rattle.c_types_rules.specs.Statements.{Around}
use Rattle.c_types_objects.specs.Enumerations.{AreNamed, AddsNames}
use Rattle.c_types_objects.proofs.Enumerating.{GivesAll}
use Rattle.c_types_objects.proofs.enumerators.read_enumerators.Given as goal

abbrev pub invariant-loop-one : goal.invariant-loop-one
invariant-loop-one l = record {
  adds : AddsNames l.fn.names l.names;
  gives : (around : Around) → AreNamed l.fn.names l.outer around
      → GivesAll l.survey l.caller l.next (drop l.one-index l.list) l.list around l.names l.first
      l.calls.items l.fn.first l.fn.calls.items;
}
