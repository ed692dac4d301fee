-- Nothing is declared behind parameters, and what is left of their faults gives what all give.
use Rattle.std.proofs.Common.{◌≡◌, drop}
use Rattle.c_types_rules.specs.First.{first_with}
use Rattle.c_types_globals.specs.Scopes.{before_of, parameters_faults}
use Rattle.c_types_globals.proofs.enumerations.note_enumerations.Given as goal

abbrev pub invariant-loop-parameter : goal.invariant-loop-parameter
invariant-loop-parameter l =
    let rest = drop l.parameter-index l.all in
    record {
      scope : before_of l.scope ≡ before_of l.fn.scope;
      first : first_with l.first (parameters_faults l.survey rest (before_of l.scope))
          ≡ first_with l.fn.first (parameters_faults l.survey l.all (before_of l.fn.scope));
    }
