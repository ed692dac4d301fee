use Rattle.std.proofs.Common.{sym, ap, ◌∙◌, subst}
use Rattle.c_types_bodies.specs.declared.walker.Cases.{Cases}
use Rattle.c_types_bodies.specs.declared.walker.Walker.{Walker}
use Rattle.c_types_bodies.specs.Views.{AreCases}
use Rattle.c_types_bodies.proofs.Selecting.{case_state}
use Rattle.c_types_bodies.proofs.Switching.{tied_cases}
use Rattle.c_types_bodies.proofs.cases.select_value.Goals as goal

pub read_case-requires : goal.read_case-requires
read_case-requires c = c.requires.cases

pub push_choice-requires : goal.push_choice-requires
push_choice-requires c =
    subst (λ (found : Cases). AreCases found) (sym c.in_ok-number.ensures.cases) c.requires.cases

pub returns-clause-tied : goal.returns-clause-tied
returns-clause-tied c =
    let is = c.in_ok-pass_label.ensures in
    tied_cases c.args.frame.now c.args.walker.now c.pass_label.new.walker c.args.jumps.now
    c.requires
    (ap (λ (w : Walker). w.names) is ∙ c.in_ok-number.ensures.names)
    (ap (λ (w : Walker). w.objects) is ∙ c.in_ok-number.ensures.objects)
    (subst (λ (w : Walker). AreCases w.cases) (sym is) c.in_ok-push_choice.ensures.cases)

pub returns-clause-state : goal.returns-clause-state
returns-clause-state c =
    let read = c.in_ok-number.ensures in
    case_state c.args.frame.now c.args.nest c.args.walker.now c.read_case.new.walker
    c.pass_label.new.walker c.args.jumps.now c.args.value.now c.args.place
    c.in_ok-number.number c.push_choice.new.cases read.number read.names read.objects read.cases
    read.passed read.first read.calls c.in_ok-push_choice.ensures.choices
    c.in_ok-push_choice.ensures.otherwise c.in_ok-pass_label.ensures
