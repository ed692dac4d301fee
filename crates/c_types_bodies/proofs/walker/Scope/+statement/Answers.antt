use Rattle.std.proofs.Common.{◌≡◌, ℕ, List, map, take, Option, Some, None, option_map, refl}
use Rattle.std.proofs.Common.{sym, ap, ◌∙◌, ◌+◌, subst, arith, rules, IfOk, OnOk}
use Rattle.std.proofs.lemmas.Grind.{common_steps}
use Rattle.c_grammar_tree.specs.declared.expression.Expression.{Expression}
use Rattle.c_grammar_tree.specs.declared.declaration.Declaration.{Declaration}
use Rattle.c_grammar_tree.specs.declared.statement.BlockItem.{BlockItem}
use Rattle.c_grammar_tree.specs.declared.statement.BlockItem.TheOpen.{Statement-F}
use Rattle.c_grammar_tree.specs.declared.statement.Statement.{Statement}
use Rattle.c_types_rules.specs.declared.typed.TypedExpression.{TypedExpression}
use Rattle.c_types_rules.specs.declared.typed.TypedItem.{TypedItem}
use Rattle.c_types_rules.specs.declared.typed.TypedStatement.TheVariants as typed_tree
use Rattle.c_types_rules.specs.declared.meaning.Role.TheVariants.{Valued, Evaluated}
use Rattle.c_types_rules.specs.declared.meaning.Entry.{Entry}
use Rattle.c_types_rules.specs.declared.typed.TypedItem.TheVariants as typed_item
use Rattle.c_types_rules.specs.declared.typed.TypedDeclarator.{TypedDeclarator}
use Rattle.c_types_rules.specs.declared.typed.TypedStatement.{TypedStatement}
use Rattle.c_types_rules.specs.Statements.{Around, Walk, followed, doing, evaluating, evaluates}
use Rattle.c_types_rules.specs.Statements.{declaration_walk, marking, selecting, switching}
use Rattle.c_types_rules.specs.Statements.{looped, scoped, in_order, start_walk, loop, perhaps}
use Rattle.c_types_rules.specs.TypedStatements.{Grown, grown_statement, typed_for_start}
use Rattle.c_types_rules.specs.TypedStatements.{typed_declaration, typed_optional}
use Rattle.c_types_expressions.specs.Read.{typed_of}
use Rattle.c_types_jumps.specs.Found.{Found}
use Rattle.c_types_bodies.specs.Grown.{grown_of, grown_walk, grown_typed, walk_of_statement}
use Rattle.c_types_bodies.specs.States.{walked, State}
use Rattle.c_types_bodies.specs.declared.walker.Cases.{Cases}
use Rattle.c_types_bodies.specs.declared.walker.Walker.{Walker}
use Rattle.c_types_bodies.specs.Views.{around_of, state_of, around_at, state_at, Extends, AreCases}
use Rattle.c_types_bodies.specs.Views.{within_switch}
use Rattle.c_types_bodies.proofs.Walks.{walked_still}
use Rattle.c_types_bodies.proofs.Switching.{switching_nest, with_cases, within_is, switching_state}
use Rattle.c_types_bodies.proofs.Switching.{switching_behind, tied_cases, switch_typed}
use Rattle.c_types_bodies.proofs.Switching.{switch_on_part}
use Rattle.c_types_bodies.proofs.Scopes.{two_walks, four_walks, looped_state, scoped_state}
use Rattle.c_types_bodies.proofs.Scopes.{tied_scoped, scoping}
use Rattle.c_types_bodies.proofs.Scopes.{tied_same, extends_kept, extends_then, regrouped}
use Rattle.c_types_bodies.proofs.Lists.{item_state, items_end, items_step, around_walked}
use Rattle.c_types_bodies.proofs.Lists.{walks_same}
use Rattle.c_types_bodies.proofs.Forms.{of_Declaration, of_Statement, of_Block, of_If, of_While}
use Rattle.c_types_bodies.proofs.Forms.{of_Do}
use Rattle.c_types_bodies.proofs.Forms.{of_For, of_Goto, of_Break, of_Continue, of_Return}
use Rattle.c_types_bodies.proofs.Forms.{of_Labeled, of_Switch, of_Case, of_Default, labeled_same}
use Rattle.c_types_bodies.proofs.Forms.{of_Expression, for_same, if_same}
use Rattle.c_types_bodies.proofs.walker.Scope.+statement.Goals as goal

pub walk_looped-returns-clause-state : goal.walk_looped-returns-clause-state
walk_looped-returns-clause-state t c =
    let frame = c.args.self.now.frame.now in
    looped_state frame c.args.self.now.nest c.args.progress.now.walker
    c.walk_part.new.progress.walker c.args.progress.now.jumps
    c.walk_part.new.progress.jumps frame.survey.now frame.caller
    (grown_of frame.survey.now c.args.body.now).walk c.in_ok-typed.ensures.names
    c.in_ok-typed.ensures.state

pub walk_while-walk_looped-requires : goal.walk_while-walk_looped-requires
walk_while-walk_looped-requires t c = (
  search rules,
  tied_same c.args.self.now.frame.now c.args.progress.now.walker c.evaluate.new.walker
      c.args.progress.now.jumps c.requires
      c.in_ok-test.ensures.names c.in_ok-test.ensures.objects c.in_ok-test.ensures.cases,
)

pub walk_while-returns-clause-state : goal.walk_while-returns-clause-state
walk_while-returns-clause-state t c =
    let frame = c.args.self.now.frame.now in
    let text = frame.survey.now in
    two_walks text frame.caller (doing (evaluates Valued c.args.test.now))
    (looped (grown_of text c.args.body.now).walk)
    (state_at c.args.self.now c.args.progress.now)
    (state_of frame c.args.self.now.nest c.evaluate.new.walker c.args.progress.now.jumps) _
    (c.in_ok-test.ensures.state c.args.self.now.nest c.args.progress.now.jumps)
    c.in_ok-body.ensures.state

pub walk_while-returns-clause-typed : goal.walk_while-returns-clause-typed
walk_while-returns-clause-typed t c =
    let frame = c.args.self.now.frame.now in
    let text = frame.survey.now in
    let old = c.args.progress.now.walker in
    ap (λ (e : TypedExpression). typed_tree.While e c.in_ok-body.body c.args.place)
    c.in_ok-test.ensures.typed
    ∙ ap (λ (s : TypedStatement).
    typed_tree.While (typed_of text old.names c.args.test.now) s c.args.place)
    (c.in_ok-body.ensures.typed
    ∙ ap (λ (around : Around). (grown_of text c.args.body.now).typed (loop around))
    (around_walked text frame.caller (doing (evaluates Valued c.args.test.now))
    (state_of frame c.args.self.now.nest old c.args.progress.now.jumps)
    (state_of frame c.args.self.now.nest c.evaluate.new.walker c.args.progress.now.jumps)
    (c.in_ok-test.ensures.state c.args.self.now.nest c.args.progress.now.jumps)))

pub walk_do-returns-clause-state : goal.walk_do-returns-clause-state
walk_do-returns-clause-state t c =
    let frame = c.args.self.now.frame.now in
    let text = frame.survey.now in
    two_walks text frame.caller (looped (grown_of text c.args.body.now).walk)
    (doing (evaluates Valued c.args.test.now))
    (state_at c.args.self.now c.args.progress.now)
    (state_at c.args.self.now c.walk_looped.new.progress) _
    c.in_ok-body.ensures.state
    (c.in_ok-test.ensures.state c.args.self.now.nest c.walk_looped.new.progress.jumps)

pub walk_labeled-returns-clause-state : goal.walk_labeled-returns-clause-state
walk_labeled-returns-clause-state t c =
    let frame = c.args.self.now.frame.now in
    let text = frame.survey.now in
    two_walks text frame.caller (marking c.args.label.now) (grown_of text c.args.body.now).walk
    (state_at c.args.self.now c.args.progress.now)
    (state_of frame c.args.self.now.nest c.mark.new.walker c.mark.new.jumps) _
    (c.in_ok-mark.ensures.state c.args.self.now.nest) c.in_ok-body.ensures.state

pub walk_labeled-returns-clause-typed : goal.walk_labeled-returns-clause-typed
walk_labeled-returns-clause-typed t c =
    let frame = c.args.self.now.frame.now in
    let text = frame.survey.now in
    labeled_same _ _ c.in_ok-body.body _ c.args.label.now.place refl
    (c.in_ok-body.ensures.typed
    ∙ ap (λ (around : Around). (grown_of text c.args.body.now).typed around)
    (around_walked text frame.caller (marking c.args.label.now)
    (state_at c.args.self.now c.args.progress.now)
    (state_of frame c.args.self.now.nest c.mark.new.walker c.mark.new.jumps)
    (c.in_ok-mark.ensures.state c.args.self.now.nest)))

pub walk_case-returns-clause-state : goal.walk_case-returns-clause-state
walk_case-returns-clause-state t c =
    let frame = c.args.self.now.frame.now in
    let text = frame.survey.now in
    two_walks text frame.caller (selecting text (Some c.args.value.now) c.args.place)
    (grown_of text c.args.body.now).walk
    (state_at c.args.self.now c.args.progress.now)
    (state_of frame c.args.self.now.nest c.select_value.new.walker c.args.progress.now.jumps) _
    c.in_ok-label.ensures.state c.in_ok-body.ensures.state

pub walk_case-returns-clause-typed : goal.walk_case-returns-clause-typed
walk_case-returns-clause-typed t c =
    let frame = c.args.self.now.frame.now in
    let text = frame.survey.now in
    labeled_same c.in_ok-label.label _ c.in_ok-body.body _ c.args.place c.in_ok-label.ensures.label
    (c.in_ok-body.ensures.typed
    ∙ ap (λ (around : Around). (grown_of text c.args.body.now).typed around)
    (around_walked text frame.caller (selecting text (Some c.args.value.now) c.args.place)
    (state_at c.args.self.now c.args.progress.now)
    (state_of frame c.args.self.now.nest c.select_value.new.walker c.args.progress.now.jumps)
    c.in_ok-label.ensures.state))

pub walk_default-returns-clause-state : goal.walk_default-returns-clause-state
walk_default-returns-clause-state t c =
    let frame = c.args.self.now.frame.now in
    let text = frame.survey.now in
    two_walks text frame.caller (selecting text None c.args.place)
    (grown_of text c.args.body.now).walk
    (state_at c.args.self.now c.args.progress.now)
    (state_of frame c.args.self.now.nest c.select_rest.new.walker c.args.progress.now.jumps) _
    c.in_ok-label.ensures.state c.in_ok-body.ensures.state

pub walk_default-returns-clause-typed : goal.walk_default-returns-clause-typed
walk_default-returns-clause-typed t c =
    let frame = c.args.self.now.frame.now in
    let text = frame.survey.now in
    labeled_same c.in_ok-label.label _ c.in_ok-body.body _ c.args.place c.in_ok-label.ensures.label
    (c.in_ok-body.ensures.typed
    ∙ ap (λ (around : Around). (grown_of text c.args.body.now).typed around)
    (around_walked text frame.caller (selecting text None c.args.place)
    (state_at c.args.self.now c.args.progress.now)
    (state_of frame c.args.self.now.nest c.select_rest.new.walker c.args.progress.now.jumps)
    c.in_ok-label.ensures.state))

pub walk_statement-returns-in-Case-clause-typed : goal.walk_statement-returns-in-Case-clause-typed
walk_statement-returns-in-Case-clause-typed t c =
    let frame = c.args.self.now.frame.now in
    let text = frame.survey.now in
    rw (c.in-Case.is, of_Case text c.in-Case.value c.in-Case.body c.in-Case.place)
    (subst (λ (s : Statement). IfOk c.walk_case.result (λ (r : TypedStatement).
    r ≡ (grown_statement text (Statement-F.Case c.in-Case.value (grown_of text s)
    c.in-Case.place)).typed (around_at c.args.self.now c.args.progress.now)))
    c.get-in-Case.ensures
    (subst (λ (e : Expression). IfOk c.walk_case.result (λ (r : TypedStatement).
    r ≡ (grown_statement text (Statement-F.Case e (grown_of text c.get-in-Case.result.now)
    c.in-Case.place)).typed (around_at c.args.self.now c.args.progress.now)))
    c.get-selected.ensures c.walk_case.ensures.typed))

pub walk_statement-returns-in-Case-clause-state : goal.walk_statement-returns-in-Case-clause-state
walk_statement-returns-in-Case-clause-state t c =
    let frame = c.args.self.now.frame.now in
    let text = frame.survey.now in
    let before = state_at c.args.self.now c.args.progress.now in
    let after = state_at c.args.self.now c.walk_case.new.progress in
    rw (c.in-Case.is, of_Case text c.in-Case.value c.in-Case.body c.in-Case.place)
    (subst (λ (e : Expression). OnOk c.walk_case.result (after ≡ walked text frame.caller
    (grown_statement text (Statement-F.Case e (grown_of text c.in-Case.body)
    c.in-Case.place)).walk before)) c.get-selected.ensures
    (rw c.get-in-Case.ensures at c.walk_case.ensures.state))

pub walk_statement-returns-in-Default-clause-typed :
    goal.walk_statement-returns-in-Default-clause-typed
walk_statement-returns-in-Default-clause-typed t c =
    rw (
      c.in-Default.is,
      of_Default c.args.self.now.frame.now.survey.now c.in-Default.body c.in-Default.place,
    )
    (rw c.get-in-Default.ensures at c.walk_default.ensures.typed)

pub walk_statement-returns-in-Default-clause-state :
    goal.walk_statement-returns-in-Default-clause-state
walk_statement-returns-in-Default-clause-state t c =
    rw (
      c.in-Default.is,
      of_Default c.args.self.now.frame.now.survey.now c.in-Default.body c.in-Default.place,
    )
    (rw c.get-in-Default.ensures at c.walk_default.ensures.state)

pub walk_switched-walk_part-requires : goal.walk_switched-walk_part-requires
walk_switched-walk_part-requires t c = (
  first_of (search rules, grind arith, grind (arith, common_steps)),
  tied_cases c.args.self.now.frame.now c.args.progress.now.walker
      (with_cases c.replace-outer.new.dest c.args.progress.now.walker) c.args.progress.now.jumps
      c.requires refl refl (subst (λ (k : Cases). AreCases k) (sym c.replace-outer.ensures.after)
      c.no_cases-fresh.ensures.cases),
)

pub walk_switched-returns-clause-tied : goal.walk_switched-returns-clause-tied
walk_switched-returns-clause-tied t c =
    tied_cases c.args.self.now.frame.now c.walk_part.new.progress.walker c.pass_label.new.walker
    c.walk_part.new.progress.jumps c.in_ok-body.ensures.tied
    (ap (λ (w : Walker). w.names) c.in_ok-pass_label.ensures)
    (ap (λ (w : Walker). w.objects) c.in_ok-pass_label.ensures)
    (subst (λ (w : Walker). AreCases w.cases) (sym c.in_ok-pass_label.ensures)
    (subst (λ (k : Cases). AreCases k)
    (sym (c.replace-cases.ensures.after ∙ c.replace-outer.ensures.value)) c.requires.cases))

pub walk_switched-returns-clause-body : goal.walk_switched-returns-clause-body
walk_switched-returns-clause-body t c = λ value on.
    let frame = c.args.self.now.frame.now in
    let text = frame.survey.now in
    let old = c.args.progress.now.walker in
    let fresh = c.replace-outer.new.dest in
    let part = walk_of_statement text c.args.body.now in
    let within = within_is frame c.args.self.now.nest old fresh text value part c.args.kind
    c.args.end c.switch_on.result c.switch_on.ensures.ty (c.switch_on.ensures.names ∙ c.len.ensures)
    (ap (λ (k : Cases). k.choices.items) c.replace-outer.ensures.after
    ∙ c.no_cases-fresh.ensures.choices)
    (ap (λ (k : Cases). k.otherwise) c.replace-outer.ensures.after
    ∙ c.no_cases-fresh.ensures.otherwise) on in
    c.in_ok-body.ensures.typed
    ∙ ap (λ (around : Around). (grown_of text c.args.body.now).typed around) within

pub walk_switched-returns-clause-choices : goal.walk_switched-returns-clause-choices
walk_switched-returns-clause-choices t c = λ value on.
    let frame = c.args.self.now.frame.now in
    let text = frame.survey.now in
    let old = c.args.progress.now.walker in
    let fresh = c.replace-outer.new.dest in
    let part = walk_of_statement text c.args.body.now in
    let within = within_is frame c.args.self.now.nest old fresh text value part c.args.kind
    c.args.end c.switch_on.result c.switch_on.ensures.ty (c.switch_on.ensures.names ∙ c.len.ensures)
    (ap (λ (k : Cases). k.choices.items) c.replace-outer.ensures.after
    ∙ c.no_cases-fresh.ensures.choices)
    (ap (λ (k : Cases). k.otherwise) c.replace-outer.ensures.after
    ∙ c.no_cases-fresh.ensures.otherwise) on in
    let inside = switching_nest c.args.self.now.nest c.switch_on.result c.args.end in
    c.from_vec.ensures
    ∙ ap (λ (k : Cases). k.choices.items) c.replace-cases.ensures.value
    ∙ ap (λ (around : Around). around.choices)
    (switching_behind frame inside (with_cases fresh old) c.walk_part.new.progress.walker
    c.args.progress.now.jumps c.walk_part.new.progress.jumps text frame.caller part
    (within_switch text value part (around_of frame c.args.self.now.nest old)) within
    c.in_ok-body.ensures.state)

pub walk_switched-returns-clause-otherwise : goal.walk_switched-returns-clause-otherwise
walk_switched-returns-clause-otherwise t c = λ value on.
    let frame = c.args.self.now.frame.now in
    let text = frame.survey.now in
    let old = c.args.progress.now.walker in
    let fresh = c.replace-outer.new.dest in
    let part = walk_of_statement text c.args.body.now in
    let within = within_is frame c.args.self.now.nest old fresh text value part c.args.kind
    c.args.end c.switch_on.result c.switch_on.ensures.ty (c.switch_on.ensures.names ∙ c.len.ensures)
    (ap (λ (k : Cases). k.choices.items) c.replace-outer.ensures.after
    ∙ c.no_cases-fresh.ensures.choices)
    (ap (λ (k : Cases). k.otherwise) c.replace-outer.ensures.after
    ∙ c.no_cases-fresh.ensures.otherwise) on in
    let inside = switching_nest c.args.self.now.nest c.switch_on.result c.args.end in
    ap (λ (k : Cases). k.otherwise) c.replace-cases.ensures.value
    ∙ ap (λ (around : Around). around.otherwise)
    (switching_behind frame inside (with_cases fresh old) c.walk_part.new.progress.walker
    c.args.progress.now.jumps c.walk_part.new.progress.jumps text frame.caller part
    (within_switch text value part (around_of frame c.args.self.now.nest old)) within
    c.in_ok-body.ensures.state)

pub walk_switched-returns-clause-state : goal.walk_switched-returns-clause-state
walk_switched-returns-clause-state t c = λ value on.
    let frame = c.args.self.now.frame.now in
    let text = frame.survey.now in
    let old = c.args.progress.now.walker in
    let fresh = c.replace-outer.new.dest in
    let part = walk_of_statement text c.args.body.now in
    let within = within_is frame c.args.self.now.nest old fresh text value part c.args.kind
    c.args.end c.switch_on.result c.switch_on.ensures.ty (c.switch_on.ensures.names ∙ c.len.ensures)
    (ap (λ (k : Cases). k.choices.items) c.replace-outer.ensures.after
    ∙ c.no_cases-fresh.ensures.choices)
    (ap (λ (k : Cases). k.otherwise) c.replace-outer.ensures.after
    ∙ c.no_cases-fresh.ensures.otherwise) on in
    let inside = switching_nest c.args.self.now.nest c.switch_on.result c.args.end in
    let mid = c.walk_part.new.progress.walker in
    switching_state frame c.args.self.now.nest inside old mid c.pass_label.new.walker fresh
    c.args.progress.now.jumps c.walk_part.new.progress.jumps text frame.caller value part
    c.in_ok-body.ensures.names
    (c.in_ok-pass_label.ensures
    ∙ ap (λ (k : Cases). record mid { cases = k; passed = mid.passed + 1 })
    (c.replace-cases.ensures.after ∙ c.replace-outer.ensures.value))
    within c.in_ok-body.ensures.state

pub walk_switch-walk_switched-requires : goal.walk_switch-walk_switched-requires
walk_switch-walk_switched-requires t c = (
  first_of (search rules, grind arith, grind (arith, common_steps)),
  tied_same c.args.self.now.frame.now c.args.progress.now.walker c.evaluate_boxed.new.walker
      c.args.progress.now.jumps c.requires c.in_ok-read.ensures.names c.in_ok-read.ensures.objects
      c.in_ok-read.ensures.cases,
)

pub walk_switch-returns-clause-state : goal.walk_switch-returns-clause-state
walk_switch-returns-clause-state t c =
    let frame = c.args.self.now.frame.now in
    let text = frame.survey.now in
    let mid = c.evaluate_boxed.new.walker in
    let value = c.args.value.now in
    let body = c.args.body.now in
    two_walks text frame.caller (doing (evaluates Valued value))
    (switching text value (walk_of_statement text body))
    (state_at c.args.self.now c.args.progress.now)
    (state_of frame c.args.self.now.nest mid c.args.progress.now.jumps) _
    (c.in_ok-read.ensures.state c.args.self.now.nest c.args.progress.now.jumps)
    (c.in_ok-switched.ensures.state value (switch_on_part text body
    (around_of frame c.args.self.now.nest mid) value c.args.progress.now.walker.names
    c.in_ok-read.read.part
    c.in_ok-end.end c.args.progress.now.walker.passed c.in_ok-read.ensures.part
    c.in_ok-read.ensures.names c.in_ok-read.ensures.passed c.in_ok-end.ensures))

pub walk_switch-returns-clause-typed : goal.walk_switch-returns-clause-typed
walk_switch-returns-clause-typed t c =
    let frame = c.args.self.now.frame.now in
    let text = frame.survey.now in
    let old = c.args.progress.now.walker in
    let mid = c.evaluate_boxed.new.walker in
    let value = c.args.value.now in
    let body = c.args.body.now in
    let around = around_of frame c.args.self.now.nest mid in
    let on = switch_on_part text body around value old.names c.in_ok-read.read.part
    c.in_ok-end.end old.passed c.in_ok-read.ensures.part c.in_ok-read.ensures.names
    c.in_ok-read.ensures.passed c.in_ok-end.ensures in
    switch_typed text value (grown_of text body) (around_of frame c.args.self.now.nest old) around
    c.in_ok-read.read.typed c.in_ok-switched.switched.choices
    c.in_ok-switched.switched.otherwise c.unwrap_or.result c.in_ok-switched.switched.body
    c.in_ok-end.end c.args.place
    (around_walked text frame.caller (doing (evaluates Valued value))
    (state_of frame c.args.self.now.nest old c.args.progress.now.jumps)
    (state_of frame c.args.self.now.nest mid c.args.progress.now.jumps)
    (c.in_ok-read.ensures.state c.args.self.now.nest c.args.progress.now.jumps))
    c.in_ok-read.ensures.typed on.end_is
    (c.in_ok-switched.ensures.choices value on)
    (c.in_ok-switched.ensures.otherwise value on) c.unwrap_or.ensures
    (c.in_ok-switched.ensures.body value on)

pub walk_statement-returns-in-Switch-clause-typed :
    goal.walk_statement-returns-in-Switch-clause-typed
walk_statement-returns-in-Switch-clause-typed t c =
    rw (
      c.in-Switch.is,
      of_Switch c.args.self.now.frame.now.survey.now c.in-Switch.value c.in-Switch.body
          c.in-Switch.place,
    )
    (rw c.get-switched.ensures at (rw c.get-in-Switch.ensures at c.walk_switch.ensures.typed))

pub walk_statement-returns-in-Switch-clause-state :
    goal.walk_statement-returns-in-Switch-clause-state
walk_statement-returns-in-Switch-clause-state t c =
    rw (
      c.in-Switch.is,
      of_Switch c.args.self.now.frame.now.survey.now c.in-Switch.value c.in-Switch.body
          c.in-Switch.place,
    )
    (rw c.get-switched.ensures at (rw c.get-in-Switch.ensures at c.walk_switch.ensures.state))

pub walk_item-returns-in_ok-typed-in-Declaration-clause-typed :
    goal.walk_item-returns-in_ok-typed-in-Declaration-clause-typed
walk_item-returns-in_ok-typed-in-Declaration-clause-typed t c =
    let frame = c.args.self.now.frame.now in
    let around = around_at c.args.self.now c.args.progress.now in
    rw (
      c.in-Declaration.is,
      of_Declaration c.args.self.now.frame.now.survey.now
          c.in-Declaration.declaration,
    )
    (ap (λ (all : List TypedDeclarator). typed_item.Declaration all)
    (c.in_ok-typed-in-Declaration.ensures.typed
    ∙ ap (λ (d : Declaration). typed_declaration frame.survey.now d around) c.get-declared.ensures))

pub walk_item-returns-in_ok-typed-in-Statement-clause-typed :
    goal.walk_item-returns-in_ok-typed-in-Statement-clause-typed
walk_item-returns-in_ok-typed-in-Statement-clause-typed t c =
    rw (
      c.in-Statement.is,
      of_Statement c.args.self.now.frame.now.survey.now
          c.in-Statement.statement,
    ) (ap (λ (one : TypedStatement). typed_item.Statement one)
    c.in_ok-typed-in-Statement.ensures.typed)

pub walk_block-returns-clause-tied : goal.walk_block-returns-clause-tied
walk_block-returns-clause-tied t c =
    let frame = c.args.self.now.frame.now in
    let text = frame.survey.now in
    let old = c.args.progress.now.walker in
    let mid = c.walk_items.new.progress.walker in
    let before = c.walk_items.new.progress.jumps in
    let more : Extends old.names mid.names = c.in_ok-items.ensures.extends in
    let names = c.keep.ensures
    ∙ ap (λ (n : ℕ). take n mid.names) c.len-count.ensures
    ∙ extends_kept old.names mid.names more in
    tied_scoped frame old mid (record mid { names = c.keep.new.self }) c.args.progress.now.jumps
    before c.leave.new.self c.requires c.in_ok-items.ensures.tied more names refl refl
    (ap (λ (f : Found). f.current) c.leave.ensures
    ∙ ap (λ (n : ℕ). take n before.current) c.depth-depth.ensures)
    (ap (λ (f : Found). f.next) c.leave.ensures) (ap (λ (f : Found). f.first) c.leave.ensures)

pub walk_block-returns-clause-state : goal.walk_block-returns-clause-state
walk_block-returns-clause-state t c =
    let frame = c.args.self.now.frame.now in
    let text = frame.survey.now in
    let old = c.args.progress.now.walker in
    let mid = c.walk_items.new.progress.walker in
    let before = c.walk_items.new.progress.jumps in
    let more : Extends old.names mid.names = c.in_ok-items.ensures.extends in
    let names = c.keep.ensures
    ∙ ap (λ (n : ℕ). take n mid.names) c.len-count.ensures
    ∙ extends_kept old.names mid.names more in
    let part = in_order (map (grown_walk text) c.args.items.now) in
    scoped_state frame c.args.self.now.nest c.len-count.result old mid
    (record mid { names = c.keep.new.self }) c.args.progress.now.jumps before c.leave.new.self text
    frame.caller part c.requires.within c.len-count.ensures more names refl refl refl refl refl
    (ap (λ (f : Found). f.labels) c.leave.ensures) (ap (λ (f : Found). f.gotos) c.leave.ensures)
    c.in_ok-items.ensures.state
    ∙ ap (λ (all : List Walk). walked text frame.caller (scoped (in_order all))
    (state_of frame c.args.self.now.nest old c.args.progress.now.jumps))
    (sym (walks_same text c.args.items.now))

pub walk_for-returns-clause-tied : goal.walk_for-returns-clause-tied
walk_for-returns-clause-tied t c =
    let frame = c.args.self.now.frame.now in
    let old = c.args.progress.now.walker in
    let mid = c.walk_looped.new.progress.walker in
    let before = c.walk_looped.new.progress.jumps in
    let more : Extends old.names mid.names = record {
      rest = c.in_ok-head.ensures.extends.rest;
      is = c.in_ok-body.ensures.names ∙ c.in_ok-head.ensures.extends.is;
    } in
    let names = c.keep.ensures
    ∙ ap (λ (n : ℕ). take n mid.names) c.len-count.ensures
    ∙ extends_kept old.names mid.names more in
    tied_scoped frame old mid (record mid { names = c.keep.new.self }) c.args.progress.now.jumps
    before c.leave.new.self c.requires c.in_ok-body.ensures.tied more names refl refl
    (ap (λ (f : Found). f.current) c.leave.ensures
    ∙ ap (λ (n : ℕ). take n before.current) c.depth-depth.ensures)
    (ap (λ (f : Found). f.next) c.leave.ensures) (ap (λ (f : Found). f.first) c.leave.ensures)

pub walk_for-returns-clause-state : goal.walk_for-returns-clause-state
walk_for-returns-clause-state t c =
    let frame = c.args.self.now.frame.now in
    let text = frame.survey.now in
    let old = c.args.progress.now.walker in
    let mid = c.walk_looped.new.progress.walker in
    let before = c.walk_looped.new.progress.jumps in
    let more : Extends old.names mid.names = record {
      rest = c.in_ok-head.ensures.extends.rest;
      is = c.in_ok-body.ensures.names ∙ c.in_ok-head.ensures.extends.is;
    } in
    let names = c.keep.ensures
    ∙ ap (λ (n : ℕ). take n mid.names) c.len-count.ensures
    ∙ extends_kept old.names mid.names more in
    let inside = scoping c.len-count.result c.args.self.now.nest in
    let first = start_walk text c.args.start.now in
    let second = evaluating Valued c.args.test.now in
    let third = evaluating Evaluated c.args.step.now in
    let last = looped (grown_of text c.args.body.now).walk in
    let part = followed first (followed second (followed third last)) in
    scoped_state frame c.args.self.now.nest c.len-count.result old mid
    (record mid { names = c.keep.new.self }) c.args.progress.now.jumps before c.leave.new.self text
    frame.caller part c.requires.within c.len-count.ensures more names refl refl refl refl refl
    (ap (λ (f : Found). f.labels) c.leave.ensures) (ap (λ (f : Found). f.gotos) c.leave.ensures)
    (four_walks text frame.caller first second third last
    (state_of frame inside old c.args.progress.now.jumps)
    (state_of frame inside c.walk_head.new.progress.walker c.walk_head.new.progress.jumps)
    (state_of frame inside mid before) c.in_ok-head.ensures.state c.in_ok-body.ensures.state)

pub walk_for-returns-clause-typed : goal.walk_for-returns-clause-typed
walk_for-returns-clause-typed t c =
    let frame = c.args.self.now.frame.now in
    let text = frame.survey.now in
    let outside = around_at c.args.self.now c.args.progress.now in
    let first = start_walk text c.args.start.now in
    let entered = ap (λ (n : ℕ). record outside { outer = n }) c.len-count.ensures in
    for_same c.in_ok-head.head.start _ c.in_ok-head.head.test _ c.in_ok-head.head.step _
    c.in_ok-body.body _ c.args.place
    (c.in_ok-head.ensures.start
    ∙ ap (λ (around : Around). typed_for_start text c.args.start.now around) entered)
    (c.in_ok-head.ensures.test
    ∙ ap (λ (around : Around). typed_optional text (first.behind around) c.args.test.now) entered)
    (c.in_ok-head.ensures.step
    ∙ ap (λ (around : Around). typed_optional text (first.behind around) c.args.step.now) entered)
    (c.in_ok-body.ensures.typed
    ∙ ap (λ (around : Around). (grown_of text c.args.body.now).typed (loop around))
    (c.in_ok-head.ensures.around ∙ ap (λ (around : Around). first.behind around) entered))

pub walk_for-walk_looped-requires : goal.walk_for-walk_looped-requires
walk_for-walk_looped-requires t c = (search rules, c.in_ok-head.ensures.tied)

pub walk_items-loop-item-preserved : goal.walk_items-loop-item-preserved
walk_items-loop-item-preserved t c =
    let frame = c.args.self.now.frame.now in
    let text = frame.survey.now in
    let items = c.args.items.now in
    let held = c.loop-item.progress.walker in
    let walker = c.walk_item.new.progress.walker in
    let state = state_of frame c.args.self.now.nest held c.loop-item.progress.jumps in
    let next = state_of frame c.args.self.now.nest walker c.walk_item.new.progress.jumps in
    record {
      tied = c.in_ok-one.ensures.tied;
      extends = extends_then c.args.progress.now.walker.names held.names walker.names
          c.loop-item.invariant.extends c.in_ok-one.ensures.extends;
      typed = items_step text items c.loop-item.item-index c.item-item.result
          c.loop-item.typed.items c.push.new.self.items c.in_ok-one.one
          (around_of frame c.args.self.now.nest held) (around_of frame c.args.self.now.nest walker)
          _ (omega arith) c.item-item.is c.in_ok-push.ensures.items c.in_ok-one.ensures.typed
          (around_walked text frame.caller (grown_walk text c.item-item.result) state next
          c.in_ok-one.ensures.state)
          c.loop-item.invariant.typed;
      state = item_state text frame.caller (grown_walk text) items c.loop-item.item-index
          c.item-item.result state next _ (omega arith) c.item-item.is c.in_ok-one.ensures.state
          c.loop-item.invariant.state;
    }

pub walk_items-returns-clause-state : goal.walk_items-returns-clause-state
walk_items-returns-clause-state t c =
    let frame = c.args.self.now.frame.now in
    items_end frame.survey.now frame.caller (grown_walk frame.survey.now) c.args.items.now
    c.loop-item.item-index
    (state_of frame c.args.self.now.nest c.loop-item.progress.walker c.loop-item.progress.jumps) _
    (omega arith) c.loop-item.invariant.state

pub walk_optional-returns-in-None-clause-state : goal.walk_optional-returns-in-None-clause-state
walk_optional-returns-in-None-clause-state t c =
    let frame = c.args.self.now.frame.now in
    rw c.in-None.is
    (sym (walked_still frame.survey.now frame.caller
    (state_at c.args.self.now c.args.progress.now)))

pub walk_item-returns-in_ok-typed-in-Declaration-clause-state :
    goal.walk_item-returns-in_ok-typed-in-Declaration-clause-state
walk_item-returns-in_ok-typed-in-Declaration-clause-state t c =
    let frame = c.args.self.now.frame.now in
    let text = frame.survey.now in
    c.in_ok-typed-in-Declaration.ensures.state
    ∙ ap (λ (d : Declaration). walked text frame.caller (declaration_walk text d)
    (state_at c.args.self.now c.args.progress.now)) c.get-declared.ensures
    ∙ ap (λ (w : Walk). walked text frame.caller w
    (state_at c.args.self.now c.args.progress.now))
    (sym (ap (λ (i : BlockItem). grown_walk text i) c.in-Declaration.is
    ∙ ap (λ (g : Grown TypedItem). g.walk) (of_Declaration text c.in-Declaration.declaration)))

pub walk_item-returns-in_ok-typed-in-Statement-clause-state :
    goal.walk_item-returns-in_ok-typed-in-Statement-clause-state
walk_item-returns-in_ok-typed-in-Statement-clause-state t c =
    let frame = c.args.self.now.frame.now in
    let text = frame.survey.now in
    c.in_ok-typed-in-Statement.ensures.state
    ∙ ap (λ (w : Walk). walked text frame.caller w
    (state_at c.args.self.now c.args.progress.now))
    (sym (ap (λ (i : BlockItem). grown_walk text i) c.in-Statement.is
    ∙ ap (λ (g : Grown TypedItem). g.walk) (of_Statement text c.in-Statement.statement)))

pub walk_statement-returns-in-Block-clause-typed : goal.walk_statement-returns-in-Block-clause-typed
walk_statement-returns-in-Block-clause-typed t c =
    rw (c.in-Block.is, of_Block)
    (rw c.as_slice.ensures at c.walk_block.ensures.typed)

pub walk_statement-returns-in-Block-clause-state : goal.walk_statement-returns-in-Block-clause-state
walk_statement-returns-in-Block-clause-state t c =
    rw (c.in-Block.is, of_Block)
    (rw c.as_slice.ensures at c.walk_block.ensures.state)

pub walk_statement-returns-in-While-clause-typed : goal.walk_statement-returns-in-While-clause-typed
walk_statement-returns-in-While-clause-typed t c =
    rw (c.in-While.is, of_While)
    (rw c.get-while_test.ensures at (rw c.get-in-While.ensures at c.walk_while.ensures.typed))

pub walk_statement-returns-in-While-clause-state : goal.walk_statement-returns-in-While-clause-state
walk_statement-returns-in-While-clause-state t c =
    rw (c.in-While.is, of_While)
    (rw c.get-while_test.ensures at (rw c.get-in-While.ensures at c.walk_while.ensures.state))

pub walk_statement-returns-in-Do-clause-typed : goal.walk_statement-returns-in-Do-clause-typed
walk_statement-returns-in-Do-clause-typed t c =
    rw (c.in-Do.is, of_Do)
    (rw c.get-do_test.ensures at (rw c.get-in-Do.ensures at c.walk_do.ensures.typed))

pub walk_statement-returns-in-Do-clause-state : goal.walk_statement-returns-in-Do-clause-state
walk_statement-returns-in-Do-clause-state t c =
    rw (c.in-Do.is, of_Do)
    (rw c.get-do_test.ensures at (rw c.get-in-Do.ensures at c.walk_do.ensures.state))

pub walk_statement-returns-in-For-clause-typed : goal.walk_statement-returns-in-For-clause-typed
walk_statement-returns-in-For-clause-typed t c =
    rw (c.in-For.is, of_For)
    (rw c.get-for_start.ensures at (rw c.get-for_test.ensures at
    (rw c.get-for_step.ensures at (rw c.get-in-For.ensures at c.walk_for.ensures.typed))))

pub walk_statement-returns-in-For-clause-state : goal.walk_statement-returns-in-For-clause-state
walk_statement-returns-in-For-clause-state t c =
    rw (c.in-For.is, of_For)
    (rw c.get-for_start.ensures at (rw c.get-for_test.ensures at
    (rw c.get-for_step.ensures at (rw c.get-in-For.ensures at c.walk_for.ensures.state))))

pub walk_statement-returns-in-Labeled-clause-typed :
    goal.walk_statement-returns-in-Labeled-clause-typed
walk_statement-returns-in-Labeled-clause-typed t c =
    rw (
      c.in-Labeled.is,
      of_Labeled c.args.self.now.frame.now.survey.now c.in-Labeled.label
          c.in-Labeled.body,
    )
    (rw c.get-in-Labeled.ensures at c.walk_labeled.ensures.typed)

pub walk_statement-returns-in-Labeled-clause-state :
    goal.walk_statement-returns-in-Labeled-clause-state
walk_statement-returns-in-Labeled-clause-state t c =
    rw (
      c.in-Labeled.is,
      of_Labeled c.args.self.now.frame.now.survey.now c.in-Labeled.label
          c.in-Labeled.body,
    )
    (rw c.get-in-Labeled.ensures at c.walk_labeled.ensures.state)

pub walk_tested-walk_part-requires : goal.walk_tested-walk_part-requires
walk_tested-walk_part-requires t c = (
  first_of (search rules, grind arith, grind (arith, common_steps)),
  tied_same c.args.self.now.frame.now c.args.progress.now.walker c.evaluate.new.walker
      c.args.progress.now.jumps c.requires
      c.in_ok-test.ensures.names c.in_ok-test.ensures.objects c.in_ok-test.ensures.cases,
)

pub walk_tested-returns-clause-state : goal.walk_tested-returns-clause-state
walk_tested-returns-clause-state t c =
    let frame = c.args.self.now.frame.now in
    let text = frame.survey.now in
    let old = c.args.progress.now.walker in
    two_walks text frame.caller (doing (evaluates Valued c.args.test.now))
    (grown_of text c.args.yes.now).walk
    (state_of frame c.args.self.now.nest old c.args.progress.now.jumps)
    (state_of frame c.args.self.now.nest c.evaluate.new.walker c.args.progress.now.jumps) _
    (c.in_ok-test.ensures.state c.args.self.now.nest c.args.progress.now.jumps)
    c.in_ok-yes.ensures.state

pub walk_tested-returns-clause-yes : goal.walk_tested-returns-clause-yes
walk_tested-returns-clause-yes t c =
    let frame = c.args.self.now.frame.now in
    let text = frame.survey.now in
    let old = c.args.progress.now.walker in
    let tested = c.evaluate.new.walker in
    c.in_ok-yes.ensures.typed
    ∙ ap (λ (around : Around). (grown_of text c.args.yes.now).typed around)
    (around_walked text frame.caller (doing (evaluates Valued c.args.test.now))
    (state_of frame c.args.self.now.nest old c.args.progress.now.jumps)
    (state_of frame c.args.self.now.nest tested c.args.progress.now.jumps)
    (c.in_ok-test.ensures.state c.args.self.now.nest c.args.progress.now.jumps))

pub walk_statement-returns-in_ok-no-in-If-clause-state :
    goal.walk_statement-returns-in_ok-no-in-If-clause-state
walk_statement-returns-in_ok-no-in-If-clause-state t c =
    let frame = c.args.self.now.frame.now in
    let text = frame.survey.now in
    let old = c.args.progress.now.walker in
    let zero_state = state_of frame c.args.self.now.nest old c.args.progress.now.jumps in
    let one = state_at c.args.self.now c.walk_tested.new.progress in
    let both = followed (doing (evaluates Valued c.in-If.test)) (grown_of text c.in-If.yes).walk in
    let then = subst (λ (s : Statement). one ≡ walked text frame.caller
    (followed (doing (evaluates Valued c.in-If.test)) (grown_of text s).walk) zero_state)
    c.get.ensures (rw c.get-if_test.ensures at c.in_ok-tested-in-If.ensures.state) in
    let last = perhaps (option_map (walk_of_statement text) c.in-If.no) in
    rw (c.in-If.is, of_If)
    (c.in_ok-no-in-If.ensures.state
    ∙ ap (λ (s : State). walked text frame.caller last s) then
    ∙ regrouped text frame.caller (doing (evaluates Valued c.in-If.test))
    (grown_of text c.in-If.yes).walk last zero_state)

pub walk_statement-returns-in_ok-no-in-If-clause-typed :
    goal.walk_statement-returns-in_ok-no-in-If-clause-typed
walk_statement-returns-in_ok-no-in-If-clause-typed t c =
    let frame = c.args.self.now.frame.now in
    let text = frame.survey.now in
    let old = c.args.progress.now.walker in
    let zero_state = state_of frame c.args.self.now.nest old c.args.progress.now.jumps in
    let one = state_at c.args.self.now c.walk_tested.new.progress in
    let both = followed (doing (evaluates Valued c.in-If.test)) (grown_of text c.in-If.yes).walk in
    let then = subst (λ (s : Statement). one ≡ walked text frame.caller
    (followed (doing (evaluates Valued c.in-If.test)) (grown_of text s).walk) zero_state)
    c.get.ensures (rw c.get-if_test.ensures at c.in_ok-tested-in-If.ensures.state) in
    let behind = around_walked text frame.caller both zero_state one then in
    rw (c.in-If.is, of_If)
    (if_same c.in_ok-tested-in-If.tested.test _ c.in_ok-tested-in-If.tested.yes _
    c.in_ok-no-in-If.no _ c.in-If.place
    (rw c.get-if_test.ensures at c.in_ok-tested-in-If.ensures.test)
    (c.in_ok-tested-in-If.ensures.yes
    ∙ ap (λ (s : Statement). (grown_of text s).typed (around_of frame c.args.self.now.nest old))
    c.get.ensures)
    (c.in_ok-no-in-If.ensures.typed
    ∙ ap (λ (around : Around). option_map (grown_typed text around) c.in-If.no) behind))

pub walk_statement-returns-in-Expression-clause-typed :
    goal.walk_statement-returns-in-Expression-clause-typed
walk_statement-returns-in-Expression-clause-typed t c =
    rw (c.in-Expression.is, of_Expression) c.walk_expression.ensures.typed

pub walk_statement-returns-in-Expression-clause-state :
    goal.walk_statement-returns-in-Expression-clause-state
walk_statement-returns-in-Expression-clause-state t c =
    rw (c.in-Expression.is, of_Expression) c.walk_expression.ensures.state

pub walk_statement-returns-in-Goto-clause-typed :
    goal.walk_statement-returns-in-Goto-clause-typed
walk_statement-returns-in-Goto-clause-typed t c =
    rw (c.in-Goto.is, of_Goto) c.walk_goto.ensures.typed

pub walk_statement-returns-in-Goto-clause-state :
    goal.walk_statement-returns-in-Goto-clause-state
walk_statement-returns-in-Goto-clause-state t c =
    rw (c.in-Goto.is, of_Goto) c.walk_goto.ensures.state

pub walk_statement-returns-in-Break-clause-typed :
    goal.walk_statement-returns-in-Break-clause-typed
walk_statement-returns-in-Break-clause-typed t c =
    rw (c.in-Break.is, of_Break c.args.self.now.frame.now.survey.now c.in-Break.place)
    c.walk_break.ensures.typed

pub walk_statement-returns-in-Break-clause-state :
    goal.walk_statement-returns-in-Break-clause-state
walk_statement-returns-in-Break-clause-state t c =
    rw (c.in-Break.is, of_Break c.args.self.now.frame.now.survey.now c.in-Break.place)
    c.walk_break.ensures.state

pub walk_statement-returns-in-Continue-clause-typed :
    goal.walk_statement-returns-in-Continue-clause-typed
walk_statement-returns-in-Continue-clause-typed t c =
    rw (c.in-Continue.is, of_Continue c.args.self.now.frame.now.survey.now c.in-Continue.place)
    c.walk_continue.ensures.typed

pub walk_statement-returns-in-Continue-clause-state :
    goal.walk_statement-returns-in-Continue-clause-state
walk_statement-returns-in-Continue-clause-state t c =
    rw (c.in-Continue.is, of_Continue c.args.self.now.frame.now.survey.now c.in-Continue.place)
    c.walk_continue.ensures.state

pub walk_statement-returns-in-Return-clause-typed :
    goal.walk_statement-returns-in-Return-clause-typed
walk_statement-returns-in-Return-clause-typed t c =
    rw (
      c.in-Return.is,
      of_Return c.args.self.now.frame.now.survey.now c.in-Return.value
          c.in-Return.place,
    ) c.walk_return.ensures.typed

pub walk_statement-returns-in-Return-clause-state :
    goal.walk_statement-returns-in-Return-clause-state
walk_statement-returns-in-Return-clause-state t c =
    rw (
      c.in-Return.is,
      of_Return c.args.self.now.frame.now.survey.now c.in-Return.value
          c.in-Return.place,
    ) c.walk_return.ensures.state
