use Rattle.std.proofs.Common.{ℕ, Bool, List, drop, refl, ap, ◌∙◌}
use Rattle.c_lexer.specs.declared.fault.Rule.TheVariants as rule
use Rattle.c_lexer.specs.declared.fault.TextFault.{TextFault}
use Rattle.std.proofs.Common.{Option}
use Rattle.c_types_rules.specs.First.{first_with}
use Rattle.c_types_rules.specs.Declarations.{is_declared_among}
use Rattle.c_types_rules.specs.ExpressionRules.{broken, at_if}
use Rattle.c_types_bodies.proofs.Declaring.{is_declared, declared_first}
use Rattle.c_types_bodies.proofs.declarations.walk_declarator.Goals as goal

pub returns-clause-tied : goal.returns-clause-tied
returns-clause-tied c =
    let frame = c.args.frame.now in
    let old = c.args.walker.now in
    let declarator = c.args.declarator.now in
    let place = declarator.name.place in
    let first_is = c.in_ok-typed.ensures.first
    ∙ ap (λ (held : Option TextFault). declared_first frame.survey.now held old.names old.objects
    declarator c.args.qualified.kind c.args.qualified.is_const)
    (c.note_if.ensures
    ∙ ap (λ (b : Bool). first_with old.first (broken rule.N2 (at_if b place)))
    (c.is_declared_from-is_declared.ensures
    ∙ ap (λ (bytes : List ℕ). is_declared_among (drop c.args.nest.outer old.names) bytes)
    c.as_slice-name.ensures)) in
    (is_declared frame c.args.nest old (record {
      names = c.read_local.new.names;
      objects = c.in_ok-walker.field-0;
      passed = old.passed;
      cases = old.cases;
      first = c.read_local.new.first;
      calls = c.read_local.new.calls;
    }) c.args.jumps.now c.enter.new.self c.args.qualified.kind c.args.qualified.is_const
    declarator c.in_ok-typed.typed c.requires c.in_ok-typed.ensures.typed
    c.in_ok-typed.ensures.names
    c.in_ok-walker.ensures refl refl first_is c.in_ok-typed.ensures.calls
    c.in_ok-enter.ensures.entered).tied_new

pub returns-clause-extends : goal.returns-clause-extends
returns-clause-extends c =
    let frame = c.args.frame.now in
    let old = c.args.walker.now in
    let declarator = c.args.declarator.now in
    let place = declarator.name.place in
    let first_is = c.in_ok-typed.ensures.first
    ∙ ap (λ (held : Option TextFault). declared_first frame.survey.now held old.names old.objects
    declarator c.args.qualified.kind c.args.qualified.is_const)
    (c.note_if.ensures
    ∙ ap (λ (b : Bool). first_with old.first (broken rule.N2 (at_if b place)))
    (c.is_declared_from-is_declared.ensures
    ∙ ap (λ (bytes : List ℕ). is_declared_among (drop c.args.nest.outer old.names) bytes)
    c.as_slice-name.ensures)) in
    (is_declared frame c.args.nest old (record {
      names = c.read_local.new.names;
      objects = c.in_ok-walker.field-0;
      passed = old.passed;
      cases = old.cases;
      first = c.read_local.new.first;
      calls = c.read_local.new.calls;
    }) c.args.jumps.now c.enter.new.self c.args.qualified.kind c.args.qualified.is_const
    declarator c.in_ok-typed.typed c.requires c.in_ok-typed.ensures.typed
    c.in_ok-typed.ensures.names
    c.in_ok-walker.ensures refl refl first_is c.in_ok-typed.ensures.calls
    c.in_ok-enter.ensures.entered).extends

pub returns-clause-typed : goal.returns-clause-typed
returns-clause-typed c =
    let frame = c.args.frame.now in
    let old = c.args.walker.now in
    let declarator = c.args.declarator.now in
    let place = declarator.name.place in
    let first_is = c.in_ok-typed.ensures.first
    ∙ ap (λ (held : Option TextFault). declared_first frame.survey.now held old.names old.objects
    declarator c.args.qualified.kind c.args.qualified.is_const)
    (c.note_if.ensures
    ∙ ap (λ (b : Bool). first_with old.first (broken rule.N2 (at_if b place)))
    (c.is_declared_from-is_declared.ensures
    ∙ ap (λ (bytes : List ℕ). is_declared_among (drop c.args.nest.outer old.names) bytes)
    c.as_slice-name.ensures)) in
    (is_declared frame c.args.nest old (record {
      names = c.read_local.new.names;
      objects = c.in_ok-walker.field-0;
      passed = old.passed;
      cases = old.cases;
      first = c.read_local.new.first;
      calls = c.read_local.new.calls;
    }) c.args.jumps.now c.enter.new.self c.args.qualified.kind c.args.qualified.is_const
    declarator c.in_ok-typed.typed c.requires c.in_ok-typed.ensures.typed
    c.in_ok-typed.ensures.names
    c.in_ok-walker.ensures refl refl first_is c.in_ok-typed.ensures.calls
    c.in_ok-enter.ensures.entered).typed_is

pub returns-clause-state : goal.returns-clause-state
returns-clause-state c =
    let frame = c.args.frame.now in
    let old = c.args.walker.now in
    let declarator = c.args.declarator.now in
    let place = declarator.name.place in
    let first_is = c.in_ok-typed.ensures.first
    ∙ ap (λ (held : Option TextFault). declared_first frame.survey.now held old.names old.objects
    declarator c.args.qualified.kind c.args.qualified.is_const)
    (c.note_if.ensures
    ∙ ap (λ (b : Bool). first_with old.first (broken rule.N2 (at_if b place)))
    (c.is_declared_from-is_declared.ensures
    ∙ ap (λ (bytes : List ℕ). is_declared_among (drop c.args.nest.outer old.names) bytes)
    c.as_slice-name.ensures)) in
    (is_declared frame c.args.nest old (record {
      names = c.read_local.new.names;
      objects = c.in_ok-walker.field-0;
      passed = old.passed;
      cases = old.cases;
      first = c.read_local.new.first;
      calls = c.read_local.new.calls;
    }) c.args.jumps.now c.enter.new.self c.args.qualified.kind c.args.qualified.is_const
    declarator c.in_ok-typed.typed c.requires c.in_ok-typed.ensures.typed
    c.in_ok-typed.ensures.names
    c.in_ok-walker.ensures refl refl first_is c.in_ok-typed.ensures.calls
    c.in_ok-enter.ensures.entered).state
