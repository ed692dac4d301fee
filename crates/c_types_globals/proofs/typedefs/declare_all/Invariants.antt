-- What has been declared, with what the rest declares, is what all declare.
use Rattle.std.proofs.Common.{◌≡◌, drop}
use Rattle.c_types_rules.specs.First.{first_with}
use Rattle.c_types_rules.specs.Items.{typedefs_behind, typedefs_faults}
use Rattle.c_types_globals.specs.Scopes.{before_of}
use Rattle.c_types_globals.proofs.typedefs.declare_all.Given as goal

abbrev pub invariant-loop-name : goal.invariant-loop-name
invariant-loop-name l =
    let rest = drop l.name-index l.names in
    record {
      scope : typedefs_behind l.ty rest (before_of l.scope)
          ≡ typedefs_behind l.ty l.names (before_of l.fn.scope);
      first : first_with l.first (typedefs_faults l.ty rest (before_of l.scope))
          ≡ first_with l.fn.first (typedefs_faults l.ty l.names (before_of l.fn.scope));
    }
