-- What a switch makes of a state (`switching_state`), where its body stands (`within_is`), and what
-- is known behind it.
use Rattle.std.proofs.Common.{◌≡◌, ℕ, ◌+◌, List, [], length, map, Option, None, Some, option_map}
use Rattle.std.proofs.Common.{unwrap_or, refl, sym, ap, ◌∙◌, subst, arith}
use Rattle.cpa_ints.specs.declared.integers.IntType.{IntType}
use Rattle.cpa_ints.specs.Conversions.{promoted}
use Rattle.c_grammar_tree.specs.declared.expression.Expression.{Expression}
use Rattle.c_types_rules.specs.declared.meaning.Entry.{Entry}
use Rattle.c_grammar_tree.specs.declared.statement.Statement.{Statement}
use Rattle.c_types_rules.specs.declared.meaning.Kind.{Kind}
use Rattle.c_types_rules.specs.declared.meaning.Part.{Part}
use Rattle.c_grammar_tree.specs.declared.statement.BlockItem.TheOpen.{Statement-F}
use Rattle.c_types_rules.specs.declared.typed.Choice.{Choice}
use Rattle.c_types_rules.specs.declared.typed.TypedExpression.{TypedExpression}
use Rattle.c_types_rules.specs.declared.typed.TypedStatement.{TypedStatement}
use Rattle.c_types_rules.specs.declared.typed.TypedStatement.TheVariants as typed_tree
use Rattle.c_types_rules.specs.Names.{Text}
use Rattle.c_types_rules.specs.Types.{value_kind}
use Rattle.c_types_rules.specs.Statements.{Around, Switch, Walk, switching, left_switch, end_behind}
use Rattle.c_types_rules.specs.TypedStatements.{Grown, typed_statement}
use Rattle.c_types_expressions.specs.Read.{part_of, typed_of}
use Rattle.c_types_jumps.specs.Found.{Found, with_base}
use Rattle.c_types_bodies.specs.declared.walker.Cases.{Cases}
use Rattle.c_types_bodies.specs.declared.walker.Frame.{Frame}
use Rattle.c_types_bodies.specs.declared.walker.Nest.{Nest}
use Rattle.c_types_bodies.specs.declared.walker.Switch.{Switch as SwitchAt}
use Rattle.c_types_bodies.specs.declared.walker.Walker.{Walker}
use Rattle.c_types_bodies.specs.Grown.{walk_of_statement, labels_in}
use Rattle.c_types_bodies.specs.States.{State, noted, walked}
use Rattle.c_types_bodies.specs.Views.{base_of, around_of, state_of, switch_of, IsTied, AreCases}
use Rattle.c_types_bodies.specs.Views.{IsSwitchOn, within_switch}
use Rattle.c_types_bodies.proofs.Forms.{switch_same}
use Rattle.c_types_bodies.proofs.Lists.{around_walked}
use Rattle.c_types_bodies.proofs.Passing.{statement_passes}

-- the nest of the body of a switch
abbrev pub switching_nest : Nest → SwitchAt → ℕ → Nest
switching_nest nest switch end = record nest { break_to = Some end; switch = Some switch }

-- a walker with no cases yet
abbrev pub with_cases : Cases → Walker → Walker
with_cases cases walker = record walker { cases = cases }

-- behind a switch
abbrev back_out : Around → State → State
back_out around state = record state { around = left_switch around state.around }

switching_is : (text : Text) (caller : ℕ) (value : Expression) (part : Walk) (state : State)
    → walked text caller (switching text value part) state
    ≡ back_out state.around (walked text caller part
    (record state { around = within_switch text value part state.around }))
unfolding noted
switching_is text caller value part state = refl

pub within_is : (frame : Frame) (nest : Nest) (old : Walker) (fresh : Cases) (text : Text)
    (value : Expression) (part : Walk) (kind : Option Kind) (end : ℕ) (switch : SwitchAt)
    → switch.ty ≡ option_map promoted (value_kind kind) → switch.names ≡ length old.names
    → fresh.choices.items ≡ [] → fresh.otherwise ≡ None
    → IsSwitchOn text part (around_of frame nest old) value kind end
    → around_of frame (switching_nest nest switch end) (with_cases fresh old)
    ≡ within_switch text value part (around_of frame nest old)
within_is frame nest old fresh text value part kind end switch ty_is names_is choices otherwise on =
    let last = within_switch text value part (around_of frame nest old) in
    let start = around_of frame (switching_nest nest switch end) (with_cases fresh old) in
    let ty : Option IntType =
    option_map promoted (value_kind (part_of text old.names value).kind) in
    let switch_is : switch_of switch ≡ record { ty = ty; names = length old.names } =
    ap (λ (t : Option IntType). record { ty = t; names = switch.names })
    (ty_is ∙ ap (λ (k : Option Kind). option_map promoted (value_kind k)) on.kind_is)
    ∙ ap (λ (n : ℕ). record { ty = ty; names = n }) names_is in
    ap (λ (all : List Choice). record start { choices = all }) choices
    ∙ ap (λ (n : Option ℕ). record start { choices = []; otherwise = n }) otherwise
    ∙ ap (λ (n : ℕ). record last { break_to = Some n; switch = Some (switch_of switch) }) on.end_is
    ∙ ap (λ (s : Switch). record last { switch = Some s }) switch_is

back_out_state : (frame : Frame) (nest inside : Nest) (old mid : Walker) (after : Found)
    → mid.names ≡ old.names
    → state_of frame nest (record mid { cases = old.cases; passed = mid.passed + 1 }) after
    ≡ back_out (around_of frame nest old) (state_of frame inside mid after)
back_out_state frame nest inside old mid after same =
    ap (λ (names : List Entry). record {
      around = record (around_of frame nest old) {
        names = names;
        objects = mid.objects;
        passed = mid.passed + 1;
      };
      first = mid.first;
      calls = mid.calls.items;
      labels = map (with_base (base_of frame.file mid.names)) after.labels;
      gotos = map (with_base (base_of frame.file mid.names)) after.gotos;
    }) same

pub switching_state : (frame : Frame) (nest inside : Nest) (old mid new : Walker) (fresh : Cases)
    (jumps after : Found) (text : Text) (caller : ℕ) (value : Expression) (part : Walk)
    → mid.names ≡ old.names → new ≡ record mid { cases = old.cases; passed = mid.passed + 1 }
    → around_of frame inside (with_cases fresh old)
    ≡ within_switch text value part (around_of frame nest old)
    → state_of frame inside mid after
    ≡ walked text caller part (state_of frame inside (with_cases fresh old) jumps)
    → state_of frame nest new after
    ≡ walked text caller (switching text value part) (state_of frame nest old jumps)
switching_state frame nest inside old mid new fresh jumps after text caller value part same new_is
    within is =
    let state = state_of frame nest old jumps in
    ap (λ (w : Walker). state_of frame nest w after) new_is
    ∙ back_out_state frame nest inside old mid after same
    ∙ ap (λ (s : State). back_out (around_of frame nest old) s)
    (is ∙ ap (λ (a : Around). walked text caller part (record state { around = a })) within)
    ∙ sym (switching_is text caller value part state)

-- what is known behind the body
pub switching_behind : (frame : Frame) (inside : Nest) (start mid : Walker) (jumps after : Found)
    (text : Text) (caller : ℕ) (part : Walk) (within : Around)
    → around_of frame inside start ≡ within
    → state_of frame inside mid after ≡ walked text caller part (state_of frame inside start jumps)
    → around_of frame inside mid ≡ part.behind within
switching_behind frame inside start mid jumps after text caller part within within_is is =
    around_walked text caller part (state_of frame inside start jumps)
    (state_of frame inside mid after) is
    ∙ ap (λ (a : Around). part.behind a) within_is

pub tied_cases : (frame : Frame) (old new : Walker) (jumps : Found) → IsTied frame old jumps
    → new.names ≡ old.names → new.objects ≡ old.objects → AreCases new.cases
    → IsTied frame new jumps
tied_cases frame old new jumps tied names objects cases =
    subst (λ (all : List Entry). IsTied frame (record new { names = all }) jumps) (sym names)
    (record {
      within = tied.within;
      tied = tied.tied;
      next = omega (arith, objects, tied.next);
      below = tied.below;
      cases = cases;
    })

-- a typed switch, whose body stands behind this
pub switch_typed : (text : Text) (value : Expression) (part : Grown TypedStatement)
    (around mid : Around) (t : TypedExpression) (choices : List Choice) (otherwise : Option ℕ)
    (rest : ℕ) (body : TypedStatement) (end place : ℕ) → mid ≡ around
    → t ≡ typed_of text around.names value → end ≡ end_behind part.walk mid
    → choices ≡ (part.walk.behind (within_switch text value part.walk mid)).choices
    → otherwise ≡ (part.walk.behind (within_switch text value part.walk mid)).otherwise
    → rest ≡ unwrap_or otherwise end
    → body ≡ part.typed (within_switch text value part.walk mid)
    → typed_tree.Switch t choices rest body end place
    ≡ typed_statement text (Statement-F.Switch value part place) around
switch_typed text value part around mid t choices otherwise rest body end place mid_is t_is end_is
    choices_are otherwise_is rest_is body_is =
    let last = part.walk.behind (within_switch text value part.walk around) in
    let end_to : end ≡ end_behind part.walk around =
    end_is ∙ ap (λ (a : Around). end_behind part.walk a) mid_is in
    let otherwise_to : otherwise ≡ last.otherwise =
    otherwise_is
    ∙ ap (λ (a : Around). (part.walk.behind (within_switch text value part.walk a)).otherwise)
    mid_is in
    switch_same t (typed_of text around.names value) choices last.choices rest
    (unwrap_or last.otherwise (end_behind part.walk around)) body
    (part.typed (within_switch text value part.walk around)) end (end_behind part.walk around) place
    t_is
    (choices_are
    ∙ ap (λ (a : Around). (part.walk.behind (within_switch text value part.walk a)).choices) mid_is)
    (rest_is ∙ ap (λ (o : Option ℕ). unwrap_or o end) otherwise_to
    ∙ ap (λ (n : ℕ). unwrap_or last.otherwise n) end_to)
    (body_is ∙ ap (λ (a : Around). part.typed (within_switch text value part.walk a)) mid_is)
    end_to

-- the switch of this value and this body
pub switch_on_part : (text : Text) (body : Statement) (around : Around) (value : Expression)
    (names : List Entry) (part : Part) (end passed : ℕ) → part ≡ part_of text names value
    → around.names ≡ names → around.passed ≡ passed → end ≡ passed + length (labels_in body)
    → IsSwitchOn text (walk_of_statement text body) around value part.kind end
switch_on_part text body around value names part end passed part_is names_are passed_is is =
    record {
      kind_is = ap (λ (p : Part). p.kind) part_is
          ∙ sym (ap (λ (ns : List Entry). (part_of text ns value).kind) names_are);
      end_is = is ∙ ap (λ (n : ℕ). n + length (labels_in body)) (sym passed_is)
          ∙ sym ((statement_passes text body).behind_is around);
    }
