-- What a parameter makes of a state, with a name (`is_named`) or without one (`is_unnamed`), and a
-- walk through parameters, one further (`objects_step`).
use Rattle.std.proofs.Common.{◌≡◌, ℕ, ◌+◌, ◌<◌, List, [], ◌∷◌, ◌++◌, length, get_or, map, drop}
use Rattle.std.proofs.Common.{Option, Some, None, refl, sym, ap, ◌∙◌, arith, append_assoc}
use Rattle.std.proofs.Common.{append-nil}
use Rattle.c_lexer.specs.declared.fault.Rule.TheVariants as rule
use Rattle.c_lexer.specs.declared.fault.TextFault.{TextFault}
use Rattle.c_grammar_tree.specs.declared.name.Name.{Name}
use Rattle.c_grammar_tree.specs.declared.item.Parameter.{Parameter}
use Rattle.c_types_rules.specs.declared.meaning.Entry.{Entry}
use Rattle.c_types_rules.specs.declared.meaning.Object.{Object}
use Rattle.c_types_rules.specs.Names.{Text}
use Rattle.c_types_rules.specs.First.{first_with}
use Rattle.c_types_rules.specs.ExpressionRules.{broken, at_if}
use Rattle.c_types_rules.specs.Declarations.{is_declared_among, local_entry, parameter_object}
use Rattle.c_types_rules.specs.Statements.{receives, receiving, receiving_behind}
use Rattle.c_types_rules.specs.StatementRules.{declared_twice}
use Rattle.c_types_rules.specs.TypedStatements.{parameter_objects}
use Rattle.c_types_jumps.specs.Found.{Found, entered, with_base}
use Rattle.c_types_bodies.specs.declared.walker.Cases.{Cases}
use Rattle.c_types_bodies.specs.declared.walker.Frame.{Frame}
use Rattle.c_types_bodies.specs.declared.walker.Nest.{Nest}
use Rattle.c_types_bodies.specs.declared.walker.Walker.{Walker}
use Rattle.c_types_bodies.specs.States.{State, noted, walked}
use Rattle.c_types_bodies.specs.Views.{base_of, around_of, state_of, with_objects, IsTied, Extends}
use Rattle.c_types_bodies.proofs.Walks.{same_state}
use Rattle.c_types_bodies.proofs.Scopes.{base_extends}
use Rattle.c_types_bodies.proofs.Declaring.{tied_declared}
use Rattle.c_types_bodies.proofs.Lists.{drop_at}

-- one rule alone is looked at
ten_nils : (faults : List TextFault)
    → (((((((((faults ++ []) ++ []) ++ []) ++ []) ++ []) ++ []) ++ []) ++ []) ++ []) ++ []
    ≡ faults
ten_nils faults = simp append-nil

receiving_state : (text : Text) (caller : ℕ) (parameter : Parameter) (old new : State)
    (places : List ℕ) (names : List Entry)
    → declared_twice old.around (receives parameter) ≡ places
    → (receiving_behind text parameter old.around).names ≡ names
    → new.around ≡ record old.around { names = names; objects = old.around.objects + 1 }
    → new.first ≡ first_with old.first (broken rule.N2 places) → new.calls ≡ old.calls
    → new.labels ≡ old.labels → new.gotos ≡ old.gotos
    → new ≡ walked text caller (receiving text parameter) old
unfolding noted
receiving_state text caller parameter old new places names places_are names_are around first calls
    labels gotos =
    same_state new (walked text caller (receiving text parameter) old)
    (around ∙ ap (λ (all : List Entry). record old.around {
      names = all;
      objects = old.around.objects + 1;
    }) (sym names_are))
    (first ∙ ap (λ (all : List ℕ). first_with old.first (broken rule.N2 all)) (sym places_are)
    ∙ ap (λ (all : List TextFault). first_with old.first all)
    (sym (ten_nils (broken rule.N2 (declared_twice old.around (receives parameter))))))
    (calls ∙ sym (append-nil old.calls)) (labels ∙ sym (append-nil old.labels))
    (gotos ∙ sym (append-nil old.gotos))

-- What a parameter leaves behind it.
pub record IsReceived (frame : Frame) (nest : Nest) (old new : Walker) (jumps after : Found)
    (parameter : Parameter) : Type 0 where
  pub tied_new : IsTied frame (with_objects (old.objects + 1) new) after
  pub extends : Extends old.names new.names
  pub state : state_of frame nest (with_objects (old.objects + 1) new) after
      ≡ walked frame.survey.now frame.caller (receiving frame.survey.now parameter)
      (state_of frame nest old jumps)

pub is_unnamed : (frame : Frame) (nest : Nest) (old : Walker) (jumps : Found)
    (parameter : Parameter) → IsTied frame old jumps → parameter.name ≡ None
    → IsReceived frame nest old old jumps jumps parameter
is_unnamed frame nest old jumps parameter tied none = record {
  tied_new = record {
    within = tied.within;
    tied = tied.tied;
    next = omega (arith, tied.next);
    below = tied.below;
    cases = tied.cases;
  };
  extends = record { rest = []; is = sym (append-nil old.names) };
  state = receiving_state frame.survey.now frame.caller parameter (state_of frame nest old jumps)
      (state_of frame nest (with_objects (old.objects + 1) old) jumps) [] old.names
      (ap (λ (name : Option Name). elim name as (λ _. List ℕ) [
        | None ↦ []
        | Some one
            ↦ at_if (is_declared_among (drop nest.outer old.names) one.bytes) one.place
      ]) none)
      (ap (λ (name : Option Name). elim name as (λ _. List Entry) [
        | None ↦ old.names
        | Some one
            ↦ old.names ++ local_entry one.bytes (parameter_object frame.survey.now old.objects
            parameter) ∷ []
      ]) none)
      refl refl refl refl refl;
}

pub is_named : (frame : Frame) (nest : Nest) (old new : Walker) (jumps after : Found)
    (parameter : Parameter) (name : Name) (object : Object) → IsTied frame old jumps
    → object ≡ parameter_object frame.survey.now old.objects parameter → parameter.name ≡ Some name
    → new.names ≡ old.names ++ local_entry name.bytes object ∷ []
    → new.first ≡ first_with old.first (broken rule.N2
    (at_if (is_declared_among (drop nest.outer old.names) name.bytes) name.place))
    → new.calls.items ≡ old.calls.items → new.cases ≡ old.cases → new.passed ≡ old.passed
    → after ≡ entered object.number jumps → IsReceived frame nest old new jumps after parameter
is_named frame nest old new jumps after parameter name object tied object_is some names first calls
    cases passed after_is =
    let next = with_objects (old.objects + 1) new in
    let entry = local_entry name.bytes (parameter_object frame.survey.now old.objects parameter) in
    let names_are : new.names ≡ old.names ++ entry ∷ [] =
    names ∙ ap (λ (o : Object). old.names ++ local_entry name.bytes o ∷ []) object_is in
    let after_object : after ≡ entered old.objects jumps =
    after_is ∙ ap (λ (o : Object). entered o.number jumps) object_is in
    let more : Extends old.names new.names = record { rest = entry ∷ []; is = names_are } in
    let same_base = base_extends frame.file old.names new.names tied.within more in
    record {
      tied_new = tied_declared frame old next jumps after entry old.objects tied names_are refl refl
          cases (ap (λ (f : Found). f.current) after_object)
          (ap (λ (f : Found). f.next) after_object)
          (ap (λ (f : Found). f.first) after_object);
      extends = more;
      state = receiving_state frame.survey.now frame.caller parameter (state_of frame nest old
          jumps)
          (state_of frame nest next after)
          (at_if (is_declared_among (drop nest.outer old.names) name.bytes) name.place)
          (old.names ++ entry ∷ [])
          (ap (λ (found : Option Name). elim found as (λ _. List ℕ) [
            | None ↦ []
            | Some one
                ↦ at_if (is_declared_among (drop nest.outer old.names) one.bytes) one.place
          ]) some)
          (ap (λ (found : Option Name). elim found as (λ _. List Entry) [
            | None ↦ old.names
            | Some one
                ↦ old.names ++ local_entry one.bytes (parameter_object frame.survey.now old.objects
                parameter) ∷ []
          ]) some)
          (ap (λ (all : List Entry). record (around_of frame nest next) { names = all }) names_are
          ∙ ap (λ (c : Cases). record (around_of frame nest next) {
            names = old.names ++ entry ∷ [];
            choices = c.choices.items;
            otherwise = c.otherwise;
          }) cases
          ∙ ap (λ (n : ℕ). record (around_of frame nest old) {
            names = old.names ++ entry ∷ [];
            objects = old.objects + 1;
            passed = n;
          }) passed)
          first calls
          (ap (λ (base : List ℕ). map (with_base base) after.labels) same_base
          ∙ ap (λ (f : Found). map (with_base (base_of frame.file old.names)) f.labels)
          after_object)
          (ap (λ (base : List ℕ). map (with_base base) after.gotos) same_base
          ∙ ap (λ (f : Found). map (with_base (base_of frame.file old.names)) f.gotos)
          after_object);
    }

pub objects_step : (text : Text) (parameters : List Parameter) (i : ℕ) (parameter : Parameter)
    (objects new : List Object) (object : Object) (number next : ℕ) (whole : List Object)
    → i < length parameters → parameter ≡ get_or parameters i parameter
    → new ≡ objects ++ object ∷ [] → object ≡ parameter_object text number parameter
    → next ≡ number + 1 → objects ++ parameter_objects text number (drop i parameters) ≡ whole
    → new ++ parameter_objects text next (drop (i + 1) parameters) ≡ whole
objects_step text parameters i parameter objects new object number next whole less is new_is
    object_is
    next_is so_far =
    let more = drop (i + 1) parameters in
    ap (λ (all : List Object). all ++ parameter_objects text next more) new_is
    ∙ append_assoc objects (object ∷ []) (parameter_objects text next more)
    ∙ ap (λ (o : Object). objects ++ (o ∷ parameter_objects text next more)) object_is
    ∙ ap (λ (n : ℕ). objects ++ (parameter_object text number parameter ∷ parameter_objects text n
    more))
    next_is
    ∙ sym (ap (λ (rest : List Parameter). objects ++ parameter_objects text number rest)
    (drop_at parameters i parameter less is))
    ∙ so_far
