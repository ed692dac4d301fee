-- The numbers of the objects of file scope stay below the count of objects (`numbered_item`): a
-- merged object keeps its number, a new one has the count, and no body lowers it (`rises_body`).
use Rattle.std.proofs.Common.{◌≡◌, ℕ, ◌+◌, ◌<◌, ◌≤◌, Bool, true, false, ◌||◌, List, [], ◌∷◌}
use Rattle.std.proofs.Common.{◌++◌, map, Option, Some, None, sym, subst, arith, ℤ, pos, ◌+ℤ◌}
use Rattle.std.specs.List.{filter_map, AllByRecursion}
use Rattle.std.specs.Str.{bytes_eq}
use Rattle.std.proofs.lemmas.List.Elements.{filter_map-append}
use Rattle.c_grammar_tree.specs.declared.declaration.Declaration.{Declaration}
use Rattle.c_grammar_tree.specs.declared.declaration.Declarator.{Declarator}
use Rattle.c_grammar_tree.specs.declared.declaration.Enumerator.{Enumerator}
use Rattle.c_grammar_tree.specs.declared.declaration.Enumeration.{Enumeration}
use Rattle.c_grammar_tree.specs.declared.declaration.Enumeration.TheVariants as enumeration
use Rattle.c_grammar_tree.specs.declared.declaration.Specifiers.{Specifiers}
use Rattle.c_grammar_tree.specs.declared.expression.Expression.{Expression}
use Rattle.c_grammar_tree.specs.declared.item.FunctionDeclarator.{FunctionDeclarator}
use Rattle.c_grammar_tree.specs.declared.item.Parameter.{Parameter}
use Rattle.c_grammar_tree.specs.declared.item.Parameters.{Parameters}
use Rattle.c_grammar_tree.specs.declared.item.Body.{Body}
use Rattle.c_grammar_tree.specs.declared.item.Body.TheVariants as body
use Rattle.c_grammar_tree.specs.declared.item.Item.{Item}
use Rattle.c_grammar_tree.specs.declared.item.Item.TheVariants as item
use Rattle.c_grammar_tree.specs.declared.statement.ForStart.{ForStart}
use Rattle.c_grammar_tree.specs.declared.statement.ForStart.TheVariants as start
use Rattle.c_grammar_tree.specs.declared.statement.Statement.{Statement, roll-Statement}
use Rattle.c_grammar_tree.specs.declared.statement.BlockItem.{BlockItem, roll-BlockItem}
use Rattle.c_grammar_tree.specs.declared.statement.BlockItem.TheOpen.{BlockItem-F, Statement-F}
use Rattle.c_grammar_tree.specs.declared.statement.BlockItem.TheFolds.{fold-Statement}
use Rattle.c_grammar_tree.specs.declared.statement.BlockItem.TheFolds.{map-BlockItem}
use Rattle.c_grammar_tree.specs.declared.statement.BlockItem.TheFolds.{map-Statement, ind-BlockItem}
use Rattle.c_grammar_tree.specs.declared.statement.BlockItem.TheFolds.{fold-roll-BlockItem}
use Rattle.c_grammar_tree.specs.declared.statement.BlockItem.TheFolds.{fold-roll-Statement}
use Rattle.c_types_rules.specs.declared.meaning.Declared.{Declared}
use Rattle.c_types_rules.specs.declared.meaning.Declared.TheVariants as declared
use Rattle.c_types_rules.specs.declared.meaning.Entry.{Entry}
use Rattle.c_types_rules.specs.declared.meaning.Kind.{Kind}
use Rattle.c_types_rules.specs.declared.meaning.Object.{Object}
use Rattle.c_types_rules.specs.declared.meaning.ParameterType.{ParameterType}
use Rattle.c_types_rules.specs.declared.meaning.Role.{Role}
use Rattle.c_types_rules.specs.declared.meaning.Role.TheVariants.{Evaluated, Valued}
use Rattle.c_types_rules.specs.Names.{Text, declared_as, or_else}
use Rattle.c_types_rules.specs.Items.{Before, merged_object, merged_function, one_type}
use Rattle.c_types_rules.specs.Items.{global_behind}
use Rattle.c_types_rules.specs.Items.{globals_behind, function_behind, item_behind, body_walk}
use Rattle.c_types_rules.specs.Items.{listed, around_item, enumeration_behind}
use Rattle.c_types_rules.specs.StatementRules.{object_number}
use Rattle.c_types_rules.specs.Statements.{Around, Act, Walk, doing, followed, in_order, scoped}
use Rattle.c_types_rules.specs.Statements.{looped}
use Rattle.c_types_rules.specs.Statements.{inner, loop, evaluating, evaluates, declarator_walk}
use Rattle.c_types_rules.specs.Statements.{declaration_walk, receiving, start_walk, still}
use Rattle.c_types_rules.specs.Statements.{statement_walk, item_walk, walk_of, marking}
use Rattle.c_types_rules.specs.Statements.{switching, switched, end_behind, selecting, naming}
use Rattle.c_types_rules.specs.Statements.{tagging, enumerating, enumeration_walk}
use Rattle.c_types_rules.specs.Declarations.{kind_of, has_const, enumerator_number}
use Rattle.c_types_rules.specs.Declarations.{enumerator_entry}
use Rattle.c_types_objects.specs.lemmas.Named.{names_of}
use Rattle.c_types_bodies.specs.Bodies.{AreNumbered, begins}

-- a walk that counts objects up alone
abbrev pub Rises : Walk → Type 0
Rises walk = (around : Around) → around.objects ≤ (walk.behind around).objects

rises_still : Rises still
rises_still around = omega arith

rises_doing : (act : Act) → Rises (doing act)
rises_doing act around = omega arith

rises_followed : (first second : Walk) → Rises first → Rises second
    → Rises (followed first second)
rises_followed first second f s around = omega (arith, f around, s (first.behind around))

rises_in_order : (walks : List Walk) → AllByRecursion Rises walks → Rises (in_order walks)
rises_in_order [] h = rises_still
rises_in_order (walk ∷ walks) h =
    rises_followed walk (in_order walks) h.0 (rises_in_order walks h.1)

rises_scoped : (part : Walk) → Rises part → Rises (scoped part)
rises_scoped part h around = h (inner around)

rises_looped : (part : Walk) → Rises part → Rises (looped part)
rises_looped part h around = h (loop around)

rises_switching : (text : Text) (value : Expression) (part : Walk) → Rises part
    → Rises (switching text value part)
rises_switching text value part h around =
    h (switched text value (end_behind part around) around)

rises_selecting : (text : Text) (value : Option Expression) (place : ℕ)
    → Rises (selecting text value place)
rises_selecting text None place around = omega arith
rises_selecting text (Some value) place around = omega arith

rises_evaluating : (role : Role) (value : Option Expression) → Rises (evaluating role value)
rises_evaluating role None = rises_still
rises_evaluating role (Some value) = rises_doing (evaluates role value)

rises_declarators : (text : Text) (kind : Kind) (is_const : Bool) (all : List Declarator)
    → AllByRecursion Rises (map (declarator_walk text kind is_const) all)
rises_declarators text kind is_const [] = tt
rises_declarators text kind is_const (one ∷ all) =
    (λ around. omega arith, rises_declarators text kind is_const all)

rises_enumerating : (text : Text) (next : ℤ) (list : List Enumerator)
    → Rises (enumerating text next list)
rises_enumerating text next [] = rises_still
rises_enumerating text next (one ∷ more) = λ around.
    let n = enumerator_number text around.names next one in
    rises_enumerating text (n +ℤ pos 1) more (naming (enumerator_entry one.name.bytes n) around)

rises_enumeration : (text : Text) (found : Option Enumeration)
    → Rises (enumeration_walk text found)
rises_enumeration text None = rises_still
rises_enumeration text (Some (enumeration.Tag tag)) = λ around. omega arith
rises_enumeration text (Some (enumeration.Listed None list)) = rises_enumerating text (pos 0) list
rises_enumeration text (Some (enumeration.Listed (Some tag) list)) =
    rises_followed (tagging tag) (enumerating text (pos 0) list) (λ around. omega arith)
    (rises_enumerating text (pos 0) list)

rises_declaration : (text : Text) (declaration : Declaration)
    → Rises (declaration_walk text declaration)
rises_declaration text declaration =
    let kind = kind_of text declaration.specifiers in
    let is_const = has_const declaration.specifiers in
    rises_followed (enumeration_walk text declaration.specifiers.enumeration)
    (in_order (map (declarator_walk text kind is_const) declaration.declarators))
    (rises_enumeration text declaration.specifiers.enumeration)
    (rises_in_order (map (declarator_walk text kind is_const) declaration.declarators)
    (rises_declarators text kind is_const declaration.declarators))

rises_receiving : (text : Text) (all : List Parameter)
    → AllByRecursion Rises (map (receiving text) all)
rises_receiving text [] = tt
rises_receiving text (one ∷ all) = (λ around. omega arith, rises_receiving text all)

rises_start : (text : Text) (first : ForStart) → Rises (start_walk text first)
rises_start text (start.Declaration declaration) = rises_declaration text declaration
rises_start text (start.Expression value) = rises_evaluating Evaluated value

module _ (text : Text) where
  -- the walk of a statement, as `walk_of` of an item
  unfoldable part_walk : Statement → Walk
  part_walk = fold-Statement Walk Walk (item_walk text) (statement_walk text)

  abbrev RisesItem : BlockItem → Type 0
  RisesItem one = Rises (walk_of text one)

  abbrev RisesPart : Statement → Type 0
  RisesPart one = Rises (part_walk one)

  abbrev HeldItem : Type 0
  HeldItem = (one : BlockItem) × RisesItem one

  abbrev HeldPart : Type 0
  HeldPart = (one : Statement) × RisesPart one

  open_part : (x : Statement-F BlockItem Statement) → part_walk (roll-Statement x)
      ≡ statement_walk text (map-Statement BlockItem Statement Walk Walk (walk_of text) part_walk x)
  unfolding walk_of part_walk
  open_part x = fold-roll-Statement Walk Walk (item_walk text) (statement_walk text) x

  open_item : (x : BlockItem-F BlockItem Statement) → walk_of text (roll-BlockItem x)
      ≡ item_walk text (map-BlockItem BlockItem Statement Walk Walk (walk_of text) part_walk x)
  unfolding walk_of part_walk
  open_item x = fold-roll-BlockItem Walk Walk (item_walk text) (statement_walk text) x

  rises_held : (held : List HeldItem)
      → AllByRecursion Rises (map (walk_of text) (map (λ (e : HeldItem). e.0) held))
  rises_held [] = tt
  rises_held (e ∷ held) = (e.1, rises_held held)

  abbrev bare : Statement-F HeldItem HeldPart → Statement-F BlockItem Statement
  bare y = map-Statement HeldItem HeldPart BlockItem Statement (λ e. e.0) (λ e. e.0) y

  abbrev layer_of : Statement-F HeldItem HeldPart → Walk
  layer_of y =
      statement_walk text (map-Statement BlockItem Statement Walk Walk (walk_of text) part_walk
      (bare y))

  rises_layer : (y : Statement-F HeldItem HeldPart) → Rises (layer_of y)
  rises_layer (Statement-F.Block held place) =
      let walks = map (walk_of text) (map (λ (e : HeldItem). e.0) held) in
      rises_scoped (in_order walks) (rises_in_order walks (rises_held held))
  rises_layer (Statement-F.Expression value place) = rises_evaluating Evaluated value
  rises_layer (Statement-F.If test first None place) =
      rises_followed (doing (evaluates Valued test)) (followed (part_walk first.0) still)
      (rises_doing (evaluates Valued test))
      (rises_followed (part_walk first.0) still first.1 rises_still)
  rises_layer (Statement-F.If test first (Some second) place) =
      rises_followed (doing (evaluates Valued test))
      (followed (part_walk first.0) (part_walk second.0)) (rises_doing (evaluates Valued test))
      (rises_followed (part_walk first.0) (part_walk second.0) first.1 second.1)
  rises_layer (Statement-F.While test part place) =
      rises_followed (doing (evaluates Valued test)) (looped (part_walk part.0))
      (rises_doing (evaluates Valued test)) (rises_looped (part_walk part.0) part.1)
  rises_layer (Statement-F.Do part test place) =
      rises_followed (looped (part_walk part.0)) (doing (evaluates Valued test))
      (rises_looped (part_walk part.0) part.1) (rises_doing (evaluates Valued test))
  rises_layer (Statement-F.For first test step part place) =
      let body = looped (part_walk part.0) in
      let stepped = followed (evaluating Evaluated step) body in
      let tested = followed (evaluating Valued test) stepped in
      rises_scoped (followed (start_walk text first) tested)
      (rises_followed (start_walk text first) tested (rises_start text first)
      (rises_followed (evaluating Valued test) stepped (rises_evaluating Valued test)
      (rises_followed (evaluating Evaluated step) body (rises_evaluating Evaluated step)
      (rises_looped (part_walk part.0) part.1))))
  rises_layer (Statement-F.Goto label place) = λ around. omega arith
  rises_layer (Statement-F.Break place) = λ around. omega arith
  rises_layer (Statement-F.Continue place) = λ around. omega arith
  rises_layer (Statement-F.Return None place) = λ around. omega arith
  rises_layer (Statement-F.Return (Some value) place) = λ around. omega arith
  rises_layer (Statement-F.Labeled label part) =
      rises_followed (marking label) (part_walk part.0) (λ around. omega arith) part.1
  rises_layer (Statement-F.Switch value part place) =
      rises_followed (doing (evaluates Valued value)) (switching text value (part_walk part.0))
      (rises_doing (evaluates Valued value)) (rises_switching text value (part_walk part.0) part.1)
  rises_layer (Statement-F.Case value part place) =
      rises_followed (selecting text (Some value) place) (part_walk part.0)
      (rises_selecting text (Some value) place) part.1
  rises_layer (Statement-F.Default part place) =
      rises_followed (selecting text None place) (part_walk part.0)
      (rises_selecting text None place) part.1

  at_part : (y : Statement-F HeldItem HeldPart) (x : Statement-F BlockItem Statement)
      → bare y ≡ x → RisesPart (roll-Statement x)
  at_part y x is =
      subst (λ (z : Statement-F BlockItem Statement). RisesPart (roll-Statement z)) is
      (subst Rises (sym (open_part (bare y))) (rises_layer y))

  abbrev bare_item : BlockItem-F HeldItem HeldPart → BlockItem-F BlockItem Statement
  bare_item y = map-BlockItem HeldItem HeldPart BlockItem Statement (λ e. e.0) (λ e. e.0) y

  rises_item_layer : (y : BlockItem-F HeldItem HeldPart) → Rises (item_walk text
      (map-BlockItem BlockItem Statement Walk Walk (walk_of text) part_walk (bare_item y)))
  rises_item_layer (BlockItem-F.Declaration declaration) = rises_declaration text declaration
  rises_item_layer (BlockItem-F.Statement part) = part.1

  at_item : (y : BlockItem-F HeldItem HeldPart) (x : BlockItem-F BlockItem Statement)
      → bare_item y ≡ x → RisesItem (roll-BlockItem x)
  at_item y x is =
      subst (λ (z : BlockItem-F BlockItem Statement). RisesItem (roll-BlockItem z)) is
      (subst Rises (sym (open_item (bare_item y))) (rises_item_layer y))

  rises_one : (one : BlockItem) → RisesItem one
  rises_one =
      ind-BlockItem RisesItem RisesPart (λ x y is. at_item y x is) (λ x y is. at_part y x is)

  rises_all : (all : List BlockItem) → AllByRecursion Rises (map (walk_of text) all)
  rises_all [] = tt
  rises_all (one ∷ all) = (rises_one one, rises_all all)

  pub rises_body : (parameters : Parameters) (all : List BlockItem)
      → Rises (body_walk text parameters all)
  rises_body parameters all =
      rises_followed (in_order (map (receiving text) (listed parameters)))
      (in_order (map (walk_of text) all))
      (rises_in_order (map (receiving text) (listed parameters))
      (rises_receiving text (listed parameters)))
      (rises_in_order (map (walk_of text) all) (rises_all all))

-- the numbers of the objects are below the count of objects
abbrev pub Numbered : Before → Type 0
Numbered before = AreNumbered before.objects before.names

-- an object has a number below this
abbrev IsBelow : ℕ → Option Declared → Type 0
IsBelow n None = Unit {0}
IsBelow n (Some (declared.Object object initialized)) = object.number < n
IsBelow n (Some (declared.Function result parameters defined)) = Unit {0}
IsBelow n (Some (declared.Enumerator value)) = Unit {0}
IsBelow n (Some declared.Tag) = Unit {0}

more_numbers : (n m : ℕ) (numbers : List ℕ) → n ≤ m → AllByRecursion (λ k. k < n) numbers
    → AllByRecursion (λ k. k < m) numbers
more_numbers n m [] le h = tt
more_numbers n m (k ∷ numbers) le h = (omega (arith, le, h.0), more_numbers n m numbers le h.1)

more_below : (n m : ℕ) (found : Option Declared) → n ≤ m → IsBelow n found → IsBelow m found
more_below n m None le h = tt
more_below n m (Some (declared.Object object initialized)) le h = omega (arith, le, h)
more_below n m (Some (declared.Function result parameters defined)) le h = tt
more_below n m (Some (declared.Enumerator value)) le h = tt
more_below n m (Some declared.Tag) le h = tt

head_below : (n : ℕ) (entry : Entry) (entries : List Entry) → AreNumbered n (entry ∷ entries)
    → IsBelow n (Some entry.declared)
head_below n entry entries h = by_declared entry.declared h
  where
    by_declared : (d : Declared)
        → AreNumbered n (record { name = entry.name; declared = d } ∷ entries)
        → IsBelow n (Some d)
    by_declared (declared.Object object initialized) h = h.0
    by_declared (declared.Function result parameters defined) h = tt
    by_declared (declared.Enumerator value) h = tt
    by_declared declared.Tag h = tt

rest_numbered : (n : ℕ) (entry : Entry) (entries : List Entry) → AreNumbered n (entry ∷ entries)
    → AreNumbered n entries
rest_numbered n entry entries h = by_declared entry.declared h
  where
    by_declared : (d : Declared)
        → AreNumbered n (record { name = entry.name; declared = d } ∷ entries)
        → AreNumbered n entries
    by_declared (declared.Object object initialized) h = h.1
    by_declared (declared.Function result parameters defined) h = h
    by_declared (declared.Enumerator value) h = h
    by_declared declared.Tag h = h

either_below : (n : ℕ) (found : Option Declared) (d : Declared) (b : Bool) → IsBelow n found
    → IsBelow n (Some d) → IsBelow n (or_else found (elim b [ true ↦ Some d | false ↦ None ]))
either_below n (Some found) d b h one = h
either_below n None d true h one = one
either_below n None d false h one = tt

declared_below : (n : ℕ) (names : List Entry) (name : List ℕ) → AreNumbered n names
    → IsBelow n (declared_as names name)
declared_below n [] name h = tt
declared_below n (entry ∷ entries) name h =
    either_below n (declared_as entries name) entry.declared (bytes_eq entry.name name)
    (declared_below n entries name (rest_numbered n entry entries h))
    (head_below n entry entries h)

both_numbered : (n : ℕ) (xs ys : List ℕ) → AllByRecursion (λ k. k < n) xs
    → AllByRecursion (λ k. k < n) ys → AllByRecursion (λ k. k < n) (xs ++ ys)
both_numbered n [] ys h k = k
both_numbered n (x ∷ xs) ys h k = (h.0, both_numbered n xs ys h.1 k)

one_numbered : (n : ℕ) (name : List ℕ) (d : Declared) → IsBelow n (Some d)
    → AreNumbered n (record { name = name; declared = d } ∷ [])
one_numbered n name (declared.Object object initialized) h = (h, tt)
one_numbered n name (declared.Function result parameters defined) h = tt
one_numbered n name (declared.Enumerator value) h = tt
one_numbered n name declared.Tag h = tt

-- a name more
added_numbered : (n : ℕ) (names : List Entry) (name : List ℕ) (d : Declared) → AreNumbered n names
    → IsBelow n (Some d) → AreNumbered n (names ++ record { name = name; declared = d } ∷ [])
added_numbered n names name d h below =
    let one : List Entry = record { name = name; declared = d } ∷ [] in
    subst (AllByRecursion (λ k. k < n)) (sym (filter_map-append object_number names one))
    (both_numbered n (filter_map object_number names) (filter_map object_number one) h
    (one_numbered n name d below))

-- a merged object keeps its number, another one has its own
merged_below : (n : ℕ) (found : Option Declared) (fresh : Object) (initializes : Bool)
    → IsBelow n found → fresh.number < n → IsBelow n (Some (merged_object found fresh initializes))
merged_below n None fresh initializes h new = new
merged_below n (Some (declared.Object old initialized)) fresh initializes h new =
    by_type (one_type old fresh)
  where
    by_type : (b : Bool) → IsBelow n (Some (elim b [
      | true ↦ declared.Object (record old { is_const = old.is_const || fresh.is_const })
          (initialized || initializes)
      | false ↦ declared.Object fresh initializes
    ]))
    by_type true = h
    by_type false = new
merged_below n (Some (declared.Function result parameters defined)) fresh initializes h new = new
merged_below n (Some (declared.Enumerator value)) fresh initializes h new = new
merged_below n (Some declared.Tag) fresh initializes h new = new

numbered_global : (text : Text) (kind : Kind) (is_const : Bool) (declarator : Declarator)
    (before : Before) → Numbered before → Numbered
    (global_behind text kind is_const declarator before)
numbered_global text kind is_const declarator before h =
    let n = before.objects in
    let found = declared_as before.names declarator.name.bytes in
    let more : AreNumbered (n + 1) before.names =
    more_numbers n (n + 1) (filter_map object_number before.names) (omega arith) h in
    added_numbered (n + 1) before.names declarator.name.bytes _ more
    (merged_below (n + 1) found _ _
    (declared_below (n + 1) before.names declarator.name.bytes more) (omega arith))

numbered_globals : (text : Text) (kind : Kind) (is_const : Bool) (all : List Declarator)
    (before : Before) → Numbered before → Numbered (globals_behind text kind is_const all before)
numbered_globals text kind is_const [] before h = h
numbered_globals text kind is_const (one ∷ all) before h =
    numbered_globals text kind is_const all (global_behind text kind is_const one before)
    (numbered_global text kind is_const one before h)

function_below : (n : ℕ) (found : Option Declared) (kind : Kind)
    (parameters : Option (List ParameterType)) (defines : Bool)
    → IsBelow n (Some (merged_function found kind parameters defines))
function_below n None kind parameters defines = tt
function_below n (Some (declared.Object object initialized)) kind parameters defines = tt
function_below n (Some (declared.Function old given defined)) kind parameters defines = tt
function_below n (Some (declared.Enumerator value)) kind parameters defines = tt
function_below n (Some declared.Tag) kind parameters defines = tt

pub numbered_function : (text : Text) (defines : Bool) (specifiers : Specifiers)
    (declarator : FunctionDeclarator) (before : Before) → Numbered before
    → Numbered (function_behind text defines specifiers declarator before)
numbered_function text defines specifiers declarator before h =
    added_numbered before.objects before.names declarator.name.bytes _ h
    (function_below before.objects (declared_as before.names declarator.name.bytes) _ _ defines)

numbered_body : (text : Text) (specifiers : Specifiers) (declarator : FunctionDeclarator)
    (made : Body) (before : Before) → Numbered before
    → Numbered (item_behind text (item.Function specifiers declarator made) before)
numbered_body text specifiers declarator body.Skipped before h =
    numbered_function text true specifiers declarator before h
numbered_body text specifiers declarator (body.Block items place end) before h =
    let now = function_behind text true specifiers declarator before in
    more_numbers now.objects _ (filter_map object_number now.names)
    (rises_body text declarator.parameters items (begins text now.names now.objects specifiers
    items))
    (numbered_function text true specifiers declarator before h)

-- an enumerated type declares no object
pub numbered_enumeration : (text : Text) (specifiers : Specifiers) (before : Before)
    → Numbered before → Numbered (enumeration_behind text specifiers before)
numbered_enumeration text specifiers before h =
    subst (λ (numbers : List ℕ). AllByRecursion (λ k. k < before.objects) numbers)
    (sym (names_of text specifiers.enumeration (around_item before)).objects) h

-- behind an item
pub numbered_item : (text : Text) (one : Item) (before : Before) → Numbered before
    → Numbered (item_behind text one before)
numbered_item text (item.Empty place) before h = h
numbered_item text (item.Typedef specifiers names place) before h =
    numbered_enumeration text specifiers before h
numbered_item text (item.Objects declaration) before h =
    numbered_globals text (kind_of text declaration.specifiers) (has_const declaration.specifiers)
    declaration.declarators
    (enumeration_behind text declaration.specifiers before)
    (numbered_enumeration text declaration.specifiers before h)
numbered_item text (item.Prototype specifiers declarator) before h =
    numbered_function text false specifiers declarator before h
numbered_item text (item.Function specifiers declarator made) before h =
    numbered_body text specifiers declarator made before h
