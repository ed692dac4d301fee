-- What a case and a default make of a state (`case_state`, `default_state`).
use Rattle.std.proofs.Common.{◌≡◌, ℕ, ◌+◌, ℤ, not, List, [], ◌∷◌, ◌++◌, map, drop, Option, None}
use Rattle.std.proofs.Common.{Some, is_some, option_map, refl, sym, ap, ◌∙◌, append-nil}
use Rattle.std.proofs.Common.{Bool, true, false, ◌||◌, cond, length, ◌≤◌}
use Rattle.std.proofs.lemmas.List.{drop_all}
use Rattle.std.specs.HashMap.{get}
use Rattle.std.specs.Ordering.{int_eq}
use Rattle.c_lexer.specs.declared.fault.Rule.TheVariants as rule
use Rattle.c_lexer.specs.declared.fault.TextFault.{TextFault}
use Rattle.c_grammar_tree.specs.declared.expression.Expression.{Expression}
use Rattle.c_types_rules.specs.declared.meaning.Entry.{Entry}
use Rattle.c_types_rules.specs.declared.meaning.Role.TheVariants.{Valued}
use Rattle.c_types_rules.specs.declared.typed.Choice.{Choice}
use Rattle.c_types_rules.specs.Names.{Text}
use Rattle.c_types_rules.specs.First.{first_with, first_append}
use Rattle.c_types_rules.specs.Expressions.{reading, used}
use Rattle.c_types_rules.specs.ExpressionRules.{broken, at_if}
use Rattle.c_types_rules.specs.Declarations.{constant_number, inconstant}
use Rattle.c_types_rules.specs.Statements.{Around, Switch, Site, selects, selected, selecting}
use Rattle.c_types_rules.specs.Statements.{selected_value}
use Rattle.c_types_rules.specs.StatementRules.{act_faults, entering_case, is_chosen, have_object}
use Rattle.c_types_rules.specs.StatementRules.{outside_switch, selected_twice}
use Rattle.c_types_rules.specs.Items.{Call}
use Rattle.c_types_expressions.specs.Read.{role_faults, role_calls, calls_are}
use Rattle.c_types_jumps.specs.Found.{Found}
use Rattle.c_types_bodies.specs.declared.walker.Cases.{Cases}
use Rattle.c_types_bodies.specs.declared.walker.Frame.{Frame}
use Rattle.c_types_bodies.specs.declared.walker.Nest.{Nest}
use Rattle.c_types_bodies.specs.declared.walker.Switch.{Switch as SwitchAt}
use Rattle.c_types_bodies.specs.declared.walker.Walker.{Walker}
use Rattle.c_types_bodies.specs.States.{State, noted, walked}
use Rattle.c_types_bodies.specs.Views.{around_of, state_of, switch_of, selected_number}
use Rattle.c_types_bodies.specs.Views.{with_choice, entering_places, first_of_case, AreCases}
use Rattle.c_types_bodies.proofs.Walks.{same_state}

-- what is told of a switch, as the rules see it
abbrev told_entering : List Entry → Option Switch → ℕ → List ℕ
told_entering names None place = []
told_entering names (Some switch) place = at_if (have_object (drop switch.names names)) place

entering_is : (names : List Entry) (found : Option SwitchAt) (place : ℕ)
    → entering_places names found place ≡ told_entering names (option_map switch_of found) place
entering_is names None place = refl
entering_is names (Some switch) place = refl

told_is : (around : Around) (value : Option Expression) (place : ℕ) (found : Option Switch)
    → told_entering around.names found place
    ≡ entering_case (record around { switch = found }) (selects value place)
told_is around value place None = refl
told_is around value place (Some switch) = refl

-- no object stands behind all names
pub none_behind : (names : List Entry) (n : ℕ) → length names ≤ n
    → have_object (drop n names) ≡ false
none_behind names n past = ap (λ (ns : List Entry). have_object ns) (drop_all n names past)

there_is : (found : Option SwitchAt) → is_some found ≡ is_some (option_map switch_of found)
there_is None = refl
there_is (Some switch) = refl

number_is : (text : Text) (around : Around) (value : Expression) (found : Option SwitchAt)
    → around.switch ≡ option_map switch_of found
    → selected_number found (constant_number text around.names value)
    ≡ selected_value text around value
number_is text around value None is =
    ap (λ (s : Option Switch). selected_value text (record around { switch = s }) value) (sym is)
number_is text around value (Some switch) is =
    ap (λ (s : Option Switch). selected_value text (record around { switch = s }) value) (sym is)

five : (held : Option TextFault) (a b c d e : List TextFault)
    → first_with held ((((((a ++ b) ++ []) ++ c) ++ d) ++ e) ++ [])
    ≡ first_with (first_with (first_with (first_with (first_with held a) b) c) d) e
five held a b c d e = simp first_append

three : (held : Option TextFault) (a c d : List TextFault)
    → first_with held ((((((a ++ []) ++ []) ++ c) ++ d) ++ []) ++ [])
    ≡ first_with (first_with (first_with held a) c) d
three held a c d = simp first_append

-- the first fault of a case, by the rules that it can break
first_is : (text : Text) (around : Around) (value : Expression) (place : ℕ)
    (held : Option TextFault) (found : Option SwitchAt)
    → around.switch ≡ option_map switch_of found
    → first_of_case held (entering_places around.names found place)
    (inconstant text around.names value) (at_if (not (is_some found)) place)
    (at_if (is_chosen around.choices
    (selected_number found (constant_number text around.names value))) place)
    (role_faults text around.names Valued value)
    ≡ first_with held (act_faults text around (selects (Some value) place) ++ [])
first_is text around value place held found is =
    let entering = entering_case around (selects (Some value) place) in
    let constant_at = inconstant text around.names value in
    let outside = outside_switch around (selects (Some value) place) in
    let twice = selected_twice text around (selects (Some value) place) in
    let faults = role_faults text around.names Valued value in
    let chosen = at_if (is_chosen around.choices
    (selected_number found (constant_number text around.names value))) place in
    let out = at_if (not (is_some found)) place in
    ap (λ (all : List ℕ). first_of_case held all constant_at out chosen faults)
    (entering_is around.names found place
    ∙ ap (λ (s : Option Switch). told_entering around.names s place) (sym is)
    ∙ told_is around (Some value) place around.switch)
    ∙ ap (λ (all : List ℕ). first_of_case held entering constant_at all chosen faults)
    (ap (λ (b : Bool). at_if (not b) place) (there_is found
    ∙ ap (λ (s : Option Switch). is_some s) (sym is)))
    ∙ ap (λ (all : List ℕ). first_of_case held entering constant_at outside all faults)
    (ap (λ (n : Option ℤ). at_if (is_chosen around.choices n) place)
    (number_is text around value found is))
    ∙ sym (five held (broken rule.N9 entering) (broken rule.N12 constant_at)
    (broken rule.N17 outside) (broken rule.N18 twice) faults)

rest_is : (text : Text) (around : Around) (place : ℕ) (held : Option TextFault)
    (found : Option SwitchAt) → around.switch ≡ option_map switch_of found
    → first_with (first_with (first_with held
    (broken rule.N9 (entering_places around.names found place)))
    (broken rule.N17 (at_if (not (is_some found)) place)))
    (broken rule.N18 (at_if (is_some around.otherwise) place))
    ≡ first_with held (act_faults text around (selects None place) ++ [])
rest_is text around place held found is =
    let entering = entering_case around (selects None place) in
    let outside = outside_switch around (selects None place) in
    let twice = selected_twice text around (selects None place) in
    ap (λ (all : List ℕ). first_with (first_with (first_with held (broken rule.N9 all))
    (broken rule.N17 (at_if (not (is_some found)) place))) (broken rule.N18 twice))
    (entering_is around.names found place
    ∙ ap (λ (s : Option Switch). told_entering around.names s place) (sym is)
    ∙ told_is around None place around.switch)
    ∙ ap (λ (all : List ℕ). first_with (first_with (first_with held (broken rule.N9 entering))
    (broken rule.N17 all)) (broken rule.N18 twice))
    (ap (λ (b : Bool). at_if (not b) place) (there_is found
    ∙ ap (λ (s : Option Switch). is_some s) (sym is)))
    ∙ sym (three held (broken rule.N9 entering) (broken rule.N17 outside) (broken rule.N18 twice))

pub case_state : (frame : Frame) (nest : Nest) (old mid new : Walker) (jumps : Found)
    (value : Expression) (place : ℕ) (number : Option ℤ) (cases : Cases)
    → number ≡ selected_number nest.switch
    (constant_number frame.survey.now old.names value)
    → mid.names ≡ old.names → mid.objects ≡ old.objects → mid.cases ≡ old.cases
    → mid.passed ≡ old.passed
    → mid.first ≡ first_of_case old.first (entering_places old.names nest.switch place)
    (inconstant frame.survey.now old.names value) (at_if (not (is_some nest.switch)) place)
    (at_if (is_chosen old.cases.choices.items (selected_number nest.switch
    (constant_number frame.survey.now old.names value))) place)
    (role_faults frame.survey.now old.names Valued value)
    → mid.calls.items ≡ old.calls.items
    ++ role_calls frame.survey.now old.names frame.caller Valued value
    → cases.choices.items ≡ mid.cases.choices.items ++ with_choice number mid.passed
    → cases.otherwise ≡ mid.cases.otherwise
    → new ≡ record mid { cases = cases; passed = mid.passed + 1 }
    → state_of frame nest new jumps
    ≡ walked frame.survey.now frame.caller (selecting frame.survey.now (Some value) place)
    (state_of frame nest old jumps)
unfolding noted
case_state frame nest old mid new jumps value place number cases number_of names objects same passed
    first calls choices otherwise new_is =
    let text = frame.survey.now in
    let around = around_of frame nest old in
    let before = state_of frame nest old jumps in
    let more = with_choice (selected_value text around value) old.passed in
    let last = selected text (Some value) around in
    let choices_are : cases.choices.items ≡ old.cases.choices.items ++ more =
    choices
    ∙ ap (λ (c : Cases). c.choices.items ++ with_choice number mid.passed) same
    ∙ ap (λ (n : ℕ). old.cases.choices.items ++ with_choice number n) passed
    ∙ ap (λ (n : Option ℤ). old.cases.choices.items ++ with_choice n old.passed)
    (number_of ∙ number_is text around value nest.switch refl) in
    let otherwise_is = otherwise ∙ ap (λ (c : Cases). c.otherwise) same in
    let now = around_of frame nest (record mid { cases = cases; passed = mid.passed + 1 }) in
    let around_is : now ≡ last =
    ap (λ (all : List Entry). record now { names = all }) names
    ∙ ap (λ (n : ℕ). record now { names = old.names; objects = n }) objects
    ∙ ap (λ (all : List Choice). record now {
      names = old.names;
      objects = old.objects;
      choices = all;
    }) choices_are
    ∙ ap (λ (n : Option ℕ). record last { otherwise = n; passed = mid.passed + 1 }) otherwise_is
    ∙ ap (λ (n : ℕ). record last { passed = n + 1 }) passed in
    ap (λ (w : Walker). state_of frame nest w jumps) new_is
    ∙ ap (λ (all : List Entry). record (state_of frame nest
    (record mid { cases = cases; passed = mid.passed + 1 }) jumps) {
      labels = (state_of frame nest (record old { names = all }) jumps).labels;
      gotos = (state_of frame nest (record old { names = all }) jumps).gotos;
    }) names
    ∙ same_state (record (state_of frame nest
    (record mid { cases = cases; passed = mid.passed + 1 }) jumps) {
      labels = before.labels;
      gotos = before.gotos;
    }) (walked text frame.caller (selecting text (Some value) place) before) around_is
    (first ∙ first_is text around value place old.first nest.switch refl)
    (calls ∙ ap (λ (found : List Call). old.calls.items ++ found)
    (calls_are frame.caller (used Valued (reading text old.names value))
    ∙ sym (append-nil _)))
    (sym (append-nil before.labels)) (sym (append-nil before.gotos))

pub default_state : (frame : Frame) (nest : Nest) (old new : Walker) (jumps : Found) (place : ℕ)
    (first : Option TextFault)
    → first ≡ first_with (first_with (first_with old.first
    (broken rule.N9 (entering_places old.names nest.switch place)))
    (broken rule.N17 (at_if (not (is_some nest.switch)) place)))
    (broken rule.N18 (at_if (is_some old.cases.otherwise) place))
    → new ≡ record old {
      cases = record old.cases { otherwise = Some old.passed };
      passed = old.passed + 1;
      first = first;
    }
    → state_of frame nest new jumps
    ≡ walked frame.survey.now frame.caller (selecting frame.survey.now None place)
    (state_of frame nest old jumps)
unfolding noted
default_state frame nest old new jumps place first first_are new_is =
    let text = frame.survey.now in
    let before = state_of frame nest old jumps in
    let now : Walker = record old {
      cases = record old.cases { otherwise = Some old.passed };
      passed = old.passed + 1;
      first = first;
    } in
    ap (λ (w : Walker). state_of frame nest w jumps) new_is
    ∙ same_state (state_of frame nest now jumps)
    (walked text frame.caller (selecting text None place) before) refl
    (first_are ∙ rest_is text (around_of frame nest old) place old.first nest.switch refl)
    (sym (append-nil old.calls.items)) (sym (append-nil before.labels))
    (sym (append-nil before.gotos))

or_nothing : (b : Bool) → (b || false) ≡ b
or_nothing true = refl
or_nothing false = refl

or_assoc : (a b c : Bool) → (a || (b || c)) ≡ ((a || b) || c)
or_assoc true b c = refl
or_assoc false b c = refl

chosen_more : (choices : List Choice) (one : Choice) (n : ℤ)
    → is_chosen (choices ++ one ∷ []) (Some n)
    ≡ (is_chosen choices (Some n) || int_eq one.value n)
chosen_more [] one n = or_nothing (int_eq one.value n)
chosen_more (x ∷ choices) one n =
    ap (λ (b : Bool). int_eq x.value n || b) (chosen_more choices one n)
    ∙ or_assoc (int_eq x.value n) (is_chosen choices (Some n)) (int_eq one.value n)

there_more : (b : Bool) (n : ℕ) (held : Option ℕ)
    → is_some (cond {A = Option ℕ} b (Some n) held) ≡ (is_some held || b)
there_more true n None = refl
there_more true n (Some m) = refl
there_more false n None = refl
there_more false n (Some m) = refl

-- one case more, found by its value
pub cases_more : (old new : Cases) (value : ℤ) (label : ℕ) → AreCases old
    → ((q : ℤ) → get int_eq new.values q
    ≡ cond {A = Option ℕ} (int_eq value q) (Some label) (get int_eq old.values q))
    → new.choices.items ≡ old.choices.items ++ record { value = value; label = label } ∷ []
    → AreCases new
cases_more old new value label are updates choices = λ n.
    ap (λ (found : Option ℕ). is_some found) (updates n)
    ∙ there_more (int_eq value n) label (get int_eq old.values n)
    ∙ ap (λ (b : Bool). b || int_eq value n) (are n)
    ∙ sym (chosen_more old.choices.items (record { value = value; label = label }) n)
    ∙ ap (λ (all : List Choice). is_chosen all (Some n)) (sym choices)
