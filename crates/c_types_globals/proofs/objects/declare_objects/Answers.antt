use Rattle.std.proofs.Common.{◌++◌, ◌∙◌}
use Rattle.c_types_rules.specs.First.{first_with}
use Rattle.c_types_rules.specs.Declarations.{kind_of, has_const}
use Rattle.c_types_rules.specs.Items.{globals_behind, globals_faults}
use Rattle.c_types_rules.specs.Sound.{starts_in}
use Rattle.c_types_globals.specs.Scopes.{before_of}
use Rattle.c_types_globals.proofs.Globals.{by_specifiers}
use Rattle.c_types_globals.proofs.objects.declare_objects.Goals as goal

pub returns-clause-scope : goal.returns-clause-scope
returns-clause-scope c =
    let q = c.in_ok-qualified.qualified in
    let s = c.args.declaration.now.specifiers in
    let before = before_of c.args.scope.now in
    rw c.as_slice-declarators.ensures at (c.in_ok-declare_all.ensures.scope)
    ∙ by_specifiers (λ k b.
    globals_behind c.args.survey.now k b c.args.declaration.now.declarators before)
    q.kind (kind_of c.args.survey.now s) q.is_const (has_const s)
    c.in_ok-qualified.ensures.kind c.in_ok-qualified.ensures.is_const

pub returns-clause-first : goal.returns-clause-first
returns-clause-first c =
    let q = c.in_ok-qualified.qualified in
    let s = c.args.declaration.now.specifiers in
    let before = before_of c.args.scope.now in
    rw c.as_slice-declarators.ensures at (c.in_ok-declare_all.ensures.first)
    ∙ by_specifiers (λ k b. first_with c.args.first.now
    (globals_faults c.args.survey.now k b c.args.declaration.now.declarators before))
    q.kind (kind_of c.args.survey.now s) q.is_const (has_const s)
    c.in_ok-qualified.ensures.kind c.in_ok-qualified.ensures.is_const

pub returns-clause-starts : goal.returns-clause-starts
returns-clause-starts c =
    let q = c.in_ok-qualified.qualified in
    let s = c.args.declaration.now.specifiers in
    let before = before_of c.args.scope.now in
    rw c.as_slice-declarators.ensures at (c.in_ok-declare_all.ensures.starts)
    ∙ by_specifiers (λ k b. c.args.starts.now.items
    ++ starts_in c.args.survey.now k b c.args.declaration.now.declarators before)
    q.kind (kind_of c.args.survey.now s) q.is_const (has_const s)
    c.in_ok-qualified.ensures.kind c.in_ok-qualified.ensures.is_const
