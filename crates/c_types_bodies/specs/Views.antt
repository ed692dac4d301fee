-- What a walk through a function's statements keeps, as the state that the rules see
-- (`Statements.antt` of `c_types_rules`).
use Rattle.std.specs.Prelude.{◌≡◌, ℕ, ℤ, ◌≤◌, ◌<◌, List, ◌++◌, length, map, take}
use Rattle.std.specs.Prelude.{[], ◌∷◌, drop, Option, None, Some, is_some, option_map}
use Rattle.std.specs.Prelude.{option_and_then}
use Rattle.cpa_ints.specs.Wrapping.{wrapped}
use Rattle.std.specs.Option.{option_to_list}
use Rattle.std.specs.Ordering.{int_eq}
use Rattle.std.specs.HashMap.{get}
use Rattle.std.specs.List.{filter_map, AllByRecursion}
use Rattle.c_lexer.specs.declared.fault.Rule.TheVariants as rule
use Rattle.c_lexer.specs.declared.fault.TextFault.{TextFault}
use Rattle.c_grammar_tree.specs.declared.expression.Expression.{Expression}
use Rattle.c_types_rules.specs.declared.meaning.Entry.{Entry}
use Rattle.c_types_rules.specs.declared.typed.Choice.{Choice}
use Rattle.c_types_rules.specs.declared.meaning.Kind.{Kind}
use Rattle.c_types_rules.specs.Names.{Text}
use Rattle.c_types_rules.specs.Statements.{Around, Switch, Walk, switched, end_behind}
use Rattle.c_types_rules.specs.StatementRules.{object_number, is_chosen, have_object}
use Rattle.c_types_rules.specs.ExpressionRules.{broken, at_if}
use Rattle.c_types_rules.specs.First.{first_with}
use Rattle.c_types_expressions.specs.Read.{part_of}
use Rattle.c_types_jumps.specs.Found.{Found, with_base}
use Rattle.c_types_bodies.specs.declared.walker.Cases.{Cases}
use Rattle.c_types_bodies.specs.declared.walker.Frame.{Frame}
use Rattle.c_types_bodies.specs.declared.walker.Nest.{Nest}
use Rattle.c_types_bodies.specs.declared.walker.Progress.{Progress}
use Rattle.c_types_bodies.specs.declared.walker.Scope.{Scope}
use Rattle.c_types_bodies.specs.declared.walker.Switch.{Switch as SwitchAt}
use Rattle.c_types_bodies.specs.declared.walker.Walker.{Walker}
use Rattle.c_types_bodies.specs.States.{State, walked}

-- the objects of file scope, which are those of the first names
abbrev pub base_of : ℕ → List Entry → List ℕ
base_of file names = filter_map object_number (take file names)

-- what is told of a switch
abbrev pub switch_of : SwitchAt → Switch
switch_of switch = record { ty = switch.ty; names = switch.names }

abbrev pub around_of : Frame → Nest → Walker → Around
around_of frame nest walker = record {
  names = walker.names;
  outer = nest.outer;
  objects = walker.objects;
  in_loop = nest.in_loop;
  break_to = nest.break_to;
  switch = option_map switch_of nest.switch;
  choices = walker.cases.choices.items;
  otherwise = walker.cases.otherwise;
  result = frame.result;
  labels = frame.labels.now;
  passed = walker.passed;
}

abbrev pub state_of : Frame → Nest → Walker → Found → State
state_of frame nest walker jumps = record {
  around = around_of frame nest walker;
  first = walker.first;
  calls = walker.calls.items;
  labels = map (with_base (base_of frame.file walker.names)) jumps.labels;
  gotos = map (with_base (base_of frame.file walker.names)) jumps.gotos;
}

-- the values of the cases are those that are found by hash
abbrev pub AreCases : Cases → Type 0
AreCases cases =
    (n : ℤ) → is_some (get int_eq cases.values n) ≡ is_chosen cases.choices.items (Some n)

-- The objects of the names are those of file scope and those that are told to be in scope, and the
-- cases of the nearest switch are found by their values.
pub record IsTied (frame : Frame) (walker : Walker) (jumps : Found) : Type 0 where
  pub within : frame.file ≤ length walker.names
  pub tied : filter_map object_number walker.names
      ≡ base_of frame.file walker.names ++ jumps.current
  pub next : jumps.next ≤ walker.objects
  pub below : AllByRecursion (λ number. number < jumps.first) (base_of frame.file walker.names)
  pub cases : AreCases walker.cases

-- no label and no case stands before
pub record IsFresh (walker : Walker) : Type 0 where
  pub cases : AreCases walker.cases
  pub choices : walker.cases.choices.items ≡ []
  pub otherwise : walker.cases.otherwise ≡ None
  pub passed : walker.passed ≡ 0

-- names are added alone
pub record Extends (old new : List Entry) : Type 0 where
  pub rest : List Entry
  pub is : new ≡ old ++ rest

-- the value of a case as its switch has it, where both have values
abbrev pub selected_number : Option SwitchAt → Option ℤ → Option ℤ
selected_number None number = None
selected_number (Some switch) number =
    option_and_then (λ t. option_map (wrapped t) number) switch.ty

-- the case of this value, if it has one, with this label
abbrev pub with_choice : Option ℤ → ℕ → List Choice
with_choice number label =
    option_to_list (option_map (λ n. record { value = n; label = label }) number)

-- where a case or a default stands in the scope of an object that begins in its switch
abbrev pub entering_places : List Entry → Option SwitchAt → ℕ → List ℕ
entering_places names None place = []
entering_places names (Some switch) place = at_if (have_object (drop switch.names names)) place

-- the first of the fault that is held, of those of a case at these places, and of those of its
-- value
abbrev pub first_of_case : Option TextFault → List ℕ → List ℕ → List ℕ → List ℕ → List TextFault
    → Option TextFault
first_of_case held entering inconstant outside twice faults =
    first_with (first_with (first_with (first_with (first_with held (broken rule.N9 entering))
    (broken rule.N12 inconstant)) (broken rule.N17 outside)) (broken rule.N18 twice)) faults

-- with so many labels before
abbrev pub with_passed : ℕ → Walker → Walker
with_passed passed walker = record walker { passed = passed }

-- with so many objects
abbrev pub with_objects : ℕ → Walker → Walker
with_objects objects walker = record walker { objects = objects }

-- The value of a switch has this type, and the label behind the switch this number.
pub record IsSwitchOn (text : Text) (part : Walk) (around : Around) (value : Expression)
    (kind : Option Kind) (end : ℕ) : Type 0 where
  pub kind_is : kind ≡ (part_of text around.names value).kind
  pub end_is : end ≡ end_behind part around

-- where the body of a switch stands
abbrev pub within_switch : Text → Expression → Walk → Around → Around
within_switch text value part around = switched text value (end_behind part around) around

-- the same of a place at which statements are walked through
abbrev pub text_at : Scope → Text
text_at scope = scope.frame.now.survey.now

abbrev pub around_at : Scope → Progress → Around
around_at scope progress = around_of scope.frame.now scope.nest progress.walker

abbrev pub state_at : Scope → Progress → State
state_at scope progress = state_of scope.frame.now scope.nest progress.walker progress.jumps

abbrev pub walked_at : Scope → Walk → State → State
walked_at scope walk state =
    walked scope.frame.now.survey.now scope.frame.now.caller walk state

abbrev pub AreTied : Scope → Progress → Type 0
AreTied scope progress = IsTied scope.frame.now progress.walker progress.jumps
