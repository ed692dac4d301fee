-- What a declarator makes of a state (`declarator_state`), and that its object is in scope behind
-- it (`tied_declared`).
use Rattle.std.proofs.Common.{◌≡◌, ℕ, ◌+◌, ◌<◌, Bool, List, [], ◌∷◌, ◌++◌, map, drop}
use Rattle.std.proofs.Common.{length-append, Option, Some, refl, sym, ap, ◌∙◌, subst, arith}
use Rattle.std.proofs.Common.{append_assoc, append-nil}
use Rattle.std.specs.List.{flat_map, filter_map, cons_option, AllByRecursion}
use Rattle.std.proofs.lemmas.List.Elements.{filter_map-append}
use Rattle.c_lexer.specs.declared.fault.Rule.TheVariants as rule
use Rattle.c_lexer.specs.declared.fault.TextFault.{TextFault}
use Rattle.c_grammar_tree.specs.declared.declaration.Declarator.{Declarator}
use Rattle.c_grammar_tree.specs.declared.expression.Expression.{Expression}
use Rattle.c_types_rules.specs.declared.meaning.Entry.{Entry}
use Rattle.c_types_rules.specs.declared.meaning.Kind.{Kind}
use Rattle.c_types_rules.specs.declared.typed.TypedDeclarator.{TypedDeclarator}
use Rattle.c_types_rules.specs.declared.meaning.Role.TheVariants.{Valued}
use Rattle.c_types_rules.specs.Names.{Text}
use Rattle.c_types_rules.specs.First.{first_with, first_append}
use Rattle.c_types_rules.specs.ExpressionRules.{broken, at_if, uses_faults}
use Rattle.c_types_rules.specs.Expressions.{reading, used}
use Rattle.c_types_rules.specs.Declarations.{items_of, length_uses, length_faults, void_object}
use Rattle.c_types_rules.specs.Declarations.{is_declared_among, local_entry, object_of}
use Rattle.c_types_rules.specs.Declarations.{names_behind, typed_local}
use Rattle.c_types_rules.specs.Statements.{Around, Site, evaluates, declares, declarator_walk}
use Rattle.c_types_rules.specs.Statements.{declaring_behind}
use Rattle.c_types_rules.specs.StatementRules.{Jump, act_faults, site_faults, label_at, goto_at}
use Rattle.c_types_rules.specs.StatementRules.{object_number}
use Rattle.c_types_rules.specs.TypedStatements.{typed_declarator}
use Rattle.c_types_rules.specs.Items.{Call, object_faults, site_calls}
use Rattle.c_types_expressions.specs.Read.{role_faults, role_calls, uses_calls, calls_are}
use Rattle.c_types_objects.specs.Initializers.{items_faults, items_calls}
use Rattle.c_types_jumps.specs.Found.{Found, entered, with_base}
use Rattle.c_types_bodies.specs.declared.walker.Cases.{Cases}
use Rattle.c_types_bodies.specs.declared.walker.Frame.{Frame}
use Rattle.c_types_bodies.specs.declared.walker.Nest.{Nest}
use Rattle.c_types_bodies.specs.declared.walker.Walker.{Walker}
use Rattle.c_types_bodies.specs.States.{State, noted, walked}
use Rattle.c_types_bodies.specs.Views.{base_of, around_of, state_of, IsTied, Extends, AreCases}
use Rattle.c_types_bodies.proofs.Walks.{same_state}
use Rattle.c_types_bodies.proofs.Scopes.{base_extends}

-- what is listed of each item of an initializer
listed_items : {Y : Type 0} (f : Site → List Y) (g : Expression → List Y) (around : Around)
    (items : List Expression)
    → ((item : Expression) → f (record { around = around; act = evaluates Valued item }) ≡ g item)
    → flat_map f (map (λ item. record { around = around; act = evaluates Valued item }) items)
    ≡ flat_map g items
listed_items f g around [] same = refl
listed_items {Y} f g around (item ∷ items) same =
    ap (λ (ys : List Y). ys ++ flat_map f (map (λ one. record {
      around = around;
      act = evaluates Valued one;
    }) items)) (same item)
    ∙ ap (λ (ys : List Y). g item ++ ys) (listed_items f g around items same)

listed_none : {Y : Type 0} (f : Site → List Y) (around : Around) (items : List Expression)
    → ((item : Expression) → f (record { around = around; act = evaluates Valued item }) ≡ [])
    → flat_map f (map (λ item. record { around = around; act = evaluates Valued item }) items) ≡ []
listed_none f around [] same = refl
listed_none {Y} f around (item ∷ items) same =
    ap (λ (ys : List Y). ys ++ flat_map f (map (λ one. record {
      around = around;
      act = evaluates Valued one;
    }) items)) (same item)
    ∙ listed_none f around items same

-- the faults of a declarator, that of its name apart
declares_faults : (text : Text) (around : Around) (kind : Kind) (declarator : Declarator)
    → act_faults text around (declares kind declarator)
    ≡ broken rule.N2 (at_if (is_declared_among (drop around.outer around.names)
    declarator.name.bytes) declarator.name.place)
    ++ object_faults text around.names kind declarator
declares_faults text around kind declarator =
    let twice = broken rule.N2 (at_if (is_declared_among (drop around.outer around.names)
    declarator.name.bytes) declarator.name.place) in
    let empty = broken rule.N5 (void_object kind declarator) in
    let long = broken rule.N12 (length_faults text around.names declarator) in
    let uses = uses_faults (length_uses text around.names declarator) in
    regroup twice empty long uses
  where
    regroup : (a b c d : List TextFault)
        → ((((((((a ++ b) ++ []) ++ []) ++ []) ++ c) ++ []) ++ []) ++ []) ++ d
        ≡ a ++ ((b ++ c) ++ d)
    regroup a b c d = simp (append-nil, append_assoc)

pub declarator_state : (text : Text) (caller : ℕ) (kind : Kind) (flag : Bool)
    (declarator : Declarator) (old new : State) (names : List Entry)
    → names ≡ (declaring_behind text kind flag declarator old.around).names
    → new.around ≡ declaring_behind text kind flag declarator old.around
    → new.first ≡ first_with (first_with old.first (broken rule.N2 (at_if (is_declared_among
    (drop old.around.outer old.around.names) declarator.name.bytes) declarator.name.place)))
    (object_faults text old.around.names kind declarator
    ++ items_faults text names declarator)
    → new.calls ≡ (old.calls ++ uses_calls caller (length_uses text old.around.names declarator))
    ++ items_calls text names caller declarator
    → new.labels ≡ old.labels → new.gotos ≡ old.gotos
    → new ≡ walked text caller (declarator_walk text kind flag declarator) old
unfolding noted
declarator_state text caller kind flag declarator old new names names_are around first calls labels
    gotos =
    let behind = declaring_behind text kind flag declarator old.around in
    let items = items_of declarator.initializer in
    let twice = broken rule.N2 (at_if (is_declared_among
    (drop old.around.outer old.around.names) declarator.name.bytes) declarator.name.place) in
    let object = object_faults text old.around.names kind declarator in
    let own = act_faults text old.around (declares kind declarator) in
    let sites = map (λ item. record { around = behind; act = evaluates Valued item }) items in
    let faults : items_faults text names declarator ≡ flat_map (site_faults text) sites =
    ap (λ (all : List Entry). items_faults text all declarator) names_are
    ∙ sym (listed_items (site_faults text) (role_faults text behind.names Valued) behind items
    (λ item. refl)) in
    let found : items_calls text names caller declarator ≡ flat_map (site_calls text caller) sites =
    ap (λ (all : List Entry). items_calls text all caller declarator) names_are
    ∙ sym (listed_items (site_calls text caller) (role_calls text behind.names caller Valued)
    behind items
    (λ item. sym (calls_are caller (used Valued (reading text behind.names item))))) in
    let uses = length_uses text old.around.names declarator in
    same_state new (walked text caller (declarator_walk text kind flag declarator) old) around
    (first
    ∙ ap (λ (all : List TextFault). first_with (first_with old.first twice) (object ++ all)) faults
    ∙ sym (first_append old.first twice (object ++ flat_map (site_faults text) sites))
    ∙ ap (λ (all : List TextFault). first_with old.first all)
    (sym (append_assoc twice object (flat_map (site_faults text) sites)))
    ∙ ap (λ (all : List TextFault). first_with old.first (all ++ flat_map (site_faults text) sites))
    (sym (declares_faults text old.around kind declarator)))
    (calls
    ∙ ap (λ (all : List Call). (old.calls ++ uses_calls caller uses) ++ all) found
    ∙ append_assoc old.calls (uses_calls caller uses) (flat_map (site_calls text caller) sites)
    ∙ ap (λ (all : List Call). old.calls ++ (all ++ flat_map (site_calls text caller) sites))
    (calls_are caller uses))
    (labels ∙ sym (append-nil old.labels)
    ∙ ap (λ (all : List Jump). old.labels ++ all)
    (sym (listed_none label_at behind items (λ item. refl))))
    (gotos ∙ sym (append-nil old.gotos)
    ∙ ap (λ (all : List Jump). old.gotos ++ all)
    (sym (listed_none goto_at behind items (λ item. refl))))

-- an object more is in scope
pub tied_declared : (frame : Frame) (old new : Walker) (jumps after : Found) (entry : Entry)
    (number : ℕ) → IsTied frame old jumps → new.names ≡ old.names ++ entry ∷ []
    → object_number entry ≡ Some number → new.objects ≡ number + 1 → new.cases ≡ old.cases
    → after.current ≡ jumps.current ++ number ∷ [] → after.next ≡ number + 1
    → after.first ≡ jumps.first → IsTied frame new after
tied_declared frame old new jumps after entry number tied names is objects cases current next
    first =
    let base = base_of frame.file old.names in
    let more : Extends old.names (old.names ++ entry ∷ []) =
    record { rest = entry ∷ []; is = refl } in
    let same_base = base_extends frame.file old.names (old.names ++ entry ∷ []) tied.within more in
    subst (λ (all : List Entry). IsTied frame (record new { names = all }) after) (sym names)
    (record {
      within = omega (arith, tied.within, length-append old.names (entry ∷ []));
      tied = filter_map-append object_number old.names (entry ∷ [])
          ∙ ap (λ (numbers : List ℕ). filter_map object_number old.names ++ numbers)
          (one_more entry number is)
          ∙ ap (λ (numbers : List ℕ). numbers ++ number ∷ []) tied.tied
          ∙ append_assoc base jumps.current (number ∷ [])
          ∙ ap (λ (numbers : List ℕ). base ++ numbers) (sym current)
          ∙ ap (λ (b : List ℕ). b ++ after.current) (sym same_base);
      next = omega (arith, next, objects);
      below = subst (λ (b : List ℕ). AllByRecursion (λ n. n < after.first) b) (sym same_base)
          (subst (λ (n : ℕ). AllByRecursion (λ k. k < n) base) (sym first) tied.below);
      cases = subst (λ (c : Cases). AreCases c) (sym cases) tied.cases;
    })
  where
    one_more : (entry : Entry) (number : ℕ) → object_number entry ≡ Some number
        → filter_map object_number (entry ∷ []) ≡ number ∷ []
    one_more entry number is =
        ap (λ (found : Option ℕ). cons_option found []) is

-- What a declarator leaves behind it in a function.
pub record IsDeclared (frame : Frame) (nest : Nest) (old new : Walker) (jumps after : Found)
    (kind : Kind) (flag : Bool) (declarator : Declarator) (typed : TypedDeclarator) : Type 0 where
  pub tied_new : IsTied frame new after
  pub extends : Extends old.names new.names
  pub typed_is : typed ≡ typed_declarator frame.survey.now kind flag declarator
      (around_of frame nest old)
  pub state : state_of frame nest new after
      ≡ walked frame.survey.now frame.caller
      (declarator_walk frame.survey.now kind flag declarator) (state_of frame nest old jumps)

-- of what depends on the type and const of specifiers
pub by_specifiers : {Y : Type 0} (f : Kind → Bool → Y) (kind new_kind : Kind)
    (flag new_flag : Bool) → kind ≡ new_kind → flag ≡ new_flag → f kind flag ≡ f new_kind new_flag
by_specifiers f kind new_kind flag new_flag first second =
    ap (λ (k : Kind). f k flag) first ∙ ap (λ (b : Bool). f new_kind b) second

-- the faults of a declarator and of its initializer, behind one that is held
abbrev pub declared_first : Text → Option TextFault → List Entry → ℕ → Declarator → Kind → Bool
    → Option TextFault
declared_first text held names number declarator kind flag =
    first_with held (object_faults text names kind declarator
    ++ items_faults text (names_behind text names number kind flag declarator) declarator)

abbrev pub declared_calls : Text → ℕ → List Call → List Entry → ℕ → Declarator → Kind → Bool
    → List Call
declared_calls text caller held names number declarator kind flag =
    (held ++ uses_calls caller (length_uses text names declarator))
    ++ items_calls text (names_behind text names number kind flag declarator) caller declarator

pub is_declared : (frame : Frame) (nest : Nest) (old new : Walker) (jumps after : Found)
    (kind : Kind) (flag : Bool) (declarator : Declarator) (typed : TypedDeclarator)
    → IsTied frame old jumps
    → typed ≡ typed_local frame.survey.now old.names old.objects kind flag declarator
    → new.names ≡ names_behind frame.survey.now old.names old.objects kind flag declarator
    → new.objects ≡ old.objects + 1 → new.cases ≡ old.cases → new.passed ≡ old.passed
    → new.first ≡ declared_first frame.survey.now (first_with old.first (broken rule.N2 (at_if
    (is_declared_among (drop nest.outer old.names) declarator.name.bytes) declarator.name.place)))
    old.names old.objects declarator kind flag
    → new.calls.items ≡ declared_calls frame.survey.now frame.caller old.calls.items old.names
    old.objects declarator kind flag
    → after ≡ entered old.objects jumps
    → IsDeclared frame nest old new jumps after kind flag declarator typed
is_declared frame nest old new jumps after kind flag declarator typed tied typed_is names_is
    objects_is cases_is passed_is first_is calls_is after_is =
    let text = frame.survey.now in
    let behind = names_behind text old.names old.objects kind flag declarator in
    let entry = local_entry declarator.name.bytes
    (object_of text old.names old.objects kind flag declarator) in
    let more : Extends old.names new.names = record { rest = entry ∷ []; is = names_is } in
    let same_base = base_extends frame.file old.names new.names tied.within more in
    record {
      tied_new = tied_declared frame old new jumps after entry old.objects tied names_is refl
          objects_is cases_is (ap (λ (f : Found). f.current) after_is)
          (ap (λ (f : Found). f.next) after_is)
          (ap (λ (f : Found). f.first) after_is);
      extends = more;
      typed_is = typed_is;
      state = declarator_state text frame.caller kind flag declarator (state_of frame nest old
          jumps)
          (state_of frame nest new after) behind refl
          (ap (λ (all : List Entry). record (around_of frame nest new) { names = all }) names_is
          ∙ ap (λ (n : ℕ). record (around_of frame nest new) { names = behind; objects = n })
          objects_is
          ∙ ap (λ (c : Cases). record (around_of frame nest new) {
            names = behind;
            objects = old.objects + 1;
            choices = c.choices.items;
            otherwise = c.otherwise;
          }) cases_is
          ∙ ap (λ (n : ℕ). record (around_of frame nest old) {
            names = behind;
            objects = old.objects + 1;
            passed = n;
          }) passed_is)
          first_is calls_is
          (ap (λ (base : List ℕ). map (with_base base) after.labels) same_base
          ∙ ap (λ (f : Found). map (with_base (base_of frame.file old.names)) f.labels) after_is)
          (ap (λ (base : List ℕ). map (with_base base) after.gotos) same_base
          ∙ ap (λ (f : Found). map (with_base (base_of frame.file old.names)) f.gotos) after_is);
    }
