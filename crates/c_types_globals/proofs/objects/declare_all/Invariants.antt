-- What has been declared, with what the rest declares, is what all declare.
use Rattle.std.proofs.Common.{◌≡◌, ◌++◌, drop}
use Rattle.c_types_rules.specs.First.{first_with}
use Rattle.c_types_rules.specs.Items.{globals_behind, globals_faults}
use Rattle.c_types_rules.specs.Sound.{starts_in}
use Rattle.c_types_globals.specs.Scopes.{before_of}
use Rattle.c_types_globals.proofs.objects.declare_all.Given as goal

abbrev pub invariant-loop-declarator : goal.invariant-loop-declarator
invariant-loop-declarator l =
    let rest = drop l.declarator-index l.declarators in
    let kind = l.qualified.kind in
    let is_const = l.qualified.is_const in
    record {
      scope : globals_behind l.survey kind is_const rest (before_of l.scope)
          ≡ globals_behind l.survey kind is_const l.declarators (before_of l.fn.scope);
      first : first_with l.first (globals_faults l.survey kind is_const rest (before_of l.scope))
          ≡ first_with l.fn.first
          (globals_faults l.survey kind is_const l.declarators (before_of l.fn.scope));
      starts : l.starts.items ++ starts_in l.survey kind is_const rest (before_of l.scope)
          ≡ l.fn.starts.items
          ++ starts_in l.survey kind is_const l.declarators (before_of l.fn.scope);
    }
