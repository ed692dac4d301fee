-- A text takes at least the cells of the objects that it declares.
use Rattle.std.proofs.Common.{◌≡◌, ℕ, ◌+◌, ◌≤◌, List, [], ◌∷◌, ◌++◌, map, sum, length, take}
use Rattle.std.proofs.Common.{replicate}
use Rattle.std.proofs.Common.{Option, None, Some, refl, sym, ◌∙◌, subst, arith, ℤ, pos}
use Rattle.std.proofs.Common.{length-append}
use Rattle.std.proofs.lemmas.List.{length-map, length-take-le, length-replicate}
use Rattle.std.proofs.lemmas.List.Sums.{sum_by-cons}
use Rattle.c_types_rules.specs.declared.meaning.Object.{Object}
use Rattle.c_types_rules.specs.declared.typed.TypedExpression.{TypedExpression}
use Rattle.c_types_rules.specs.declared.typed.TypedDeclarator.{TypedDeclarator}
use Rattle.c_types_rules.specs.declared.typed.TypedForStart.{TypedForStart}
use Rattle.c_types_rules.specs.declared.typed.Choice.{Choice}
use Rattle.c_types_rules.specs.declared.typed.TypedForStart.TheVariants as start
use Rattle.c_types_rules.specs.declared.typed.TypedItem.{TypedItem, roll-TypedItem}
use Rattle.c_types_rules.specs.declared.typed.TypedItem.TheOpen.{TypedItem-F, TypedStatement-F}
use Rattle.c_types_rules.specs.declared.typed.TypedItem.TheFolds.{map-TypedItem, map-TypedStatement}
use Rattle.c_types_rules.specs.declared.typed.TypedItem.TheFolds.{ind-TypedItem}
use Rattle.c_types_rules.specs.declared.typed.TypedStatement.{TypedStatement, roll-TypedStatement}
use Rattle.c_types_rules.specs.declared.typed.TypedFunction.{TypedFunction}
use Rattle.c_types_rules.specs.declared.typed.Global.{Global}
use Rattle.c_types_rules.specs.Types.{object_type}
use Rattle.c_types_rules.specs.Tables.{cells_of}
use Rattle.cpa_model_trees.specs.declared.tree.CoreTree.{CoreTree}
use Rattle.cpa_model_trees.specs.declared.tree.Head.TheVariants as head
use Rattle.cpa_model_trees.specs.Numbering.{Trees}
use Rattle.c_core_rules.specs.declared.tree.Location.{Location}
use Rattle.c_core_rules.specs.declared.tree.Usage.TheVariants.{Used}
use Rattle.c_core_rules.specs.Values.{cell_at, promote}
use Rattle.c_core_rules.specs.Trees.{leaf, block, labeled, choice, repeated, valued}
use Rattle.c_core_rules.specs.Acts.{held}
use Rattle.c_core_rules.specs.Cells.{Taken, Rule, gives, then_by, each, in_order, taking}
use Rattle.c_core_rules.specs.Cells.{cells_with}
use Rattle.c_core_rules.specs.Cells.{cell}
use Rattle.c_core_rules.specs.Expressions.{Frames, rows, used}
use Rattle.c_core_rules.specs.Statements as statement
use Rattle.c_core_rules.specs.Statements.{item_rule, function_rule}
use Rattle.c_core_rules_laws.specs.Alike.{Alike, SameFrames}
use Rattle.c_core_rules_laws.specs.lemmas.Layers.{statement_rule}
use Rattle.c_core_rules_laws.specs.lemmas.Layers.{open_item as open_item_rule}
use Rattle.c_core_rules_laws.specs.lemmas.Layers.{open_statement as open_statement_rule}
use Rattle.c_core_rules_laws.specs.lemmas.Statements.{valued_self}
use Rattle.c_core_rules_laws.specs.lemmas.Acts.{alike_held}
use Rattle.c_core_rules_laws.specs.lemmas.Expressions.{alike_expression}
use Rattle.c_core_rules_laws.specs.lemmas.Declarations.{alike_resulting, alike_unused, alike_left}
use Rattle.c_core_rules_laws.specs.lemmas.Declarations.{alike_returned, alike_initializing}
use Rattle.c_lower_layout.specs.ObjectCells.{objects_cells, declarators_cells, start_cells}
use Rattle.c_lower_layout.specs.ObjectCells.{item_step, statement_step, item_cells}
use Rattle.c_lower_layout.specs.ObjectCells.{statement_cells, items_cells, function_cells}
use Rattle.c_lower_layout.specs.ObjectCells.{functions_cells, globals_cells, declared_cells}
use Rattle.c_lower_layout.proofs.DeclaredCells.{open_item, open_statement}
use Rattle.c_lower_layout.proofs.Rests.{only_adds}

-- a rule takes so many cells or more, whatever is taken before it
pub record TakesAtLeast {T : Type 0} (n : ℕ) (rule : Rule T) : Type 0 where
  pub at : (a : Taken) → length a.cells + n ≤ length (rule a).taken.cells

least_none : {T : Type 0} {Same : T → T → Type 0} {r s : Rule T} → Alike Same r s →
    TakesAtLeast 0 r
least_none h = record { at = λ a. omega (arith, only_adds h a) }

least_given : {T : Type 0} (x : T) → TakesAtLeast 0 (gives x)
least_given x = record { at = λ a. omega arith }

least_then : {S T : Type 0} (m n : ℕ) {r : Rule S} (f : S → Rule T) → TakesAtLeast m r →
    ((x : S) → TakesAtLeast n (f x)) → TakesAtLeast (m + n) (then_by r f)
least_then m n {r = r} f h k = record {
  at = λ a. omega (arith, h.at a, (k (r a).made).at (r a).taken);
}

least_is : {T : Type 0} {m n : ℕ} {r : Rule T} → m ≡ n → TakesAtLeast m r → TakesAtLeast n r
least_is {r = r} is h = subst (λ k. TakesAtLeast k r) is h

-- rules in order, each of which takes so many
pub data EachTakes {T : Type 0} : List ℕ → List (Rule T) → Type 0 where
  no_rule : EachTakes [] []
  one_rule : {n : ℕ} {r : Rule T} {ns : List ℕ} {rs : List (Rule T)} → TakesAtLeast n r
      → EachTakes ns rs → EachTakes (n ∷ ns) (r ∷ rs)

least_order : {ns : List ℕ} {rs : List (Rule Trees)} → EachTakes ns rs →
    TakesAtLeast (sum ns) (in_order rs)
least_order no_rule = least_given []
least_order (one_rule {n = n} {ns = ns} {rs = rs} h all) =
    let zero : n + (sum ns + 0) ≡ n + sum ns = omega arith in
    least_is (zero ∙ sym (sum_by-cons (λ (k : ℕ). k) n ns))
    (least_then n (sum ns + 0) (λ before. then_by (in_order rs) (λ behind.
    gives (before ++ behind))) h
    (λ x. least_then (sum ns) 0 (λ behind. gives (x ++ behind)) (least_order all)
    (λ y. least_given (x ++ y))))

least_each : {ns : List ℕ} {rs : List (Rule CoreTree)} → EachTakes ns rs →
    TakesAtLeast (sum ns) (each rs)
least_each no_rule = least_given []
least_each (one_rule {n = n} {ns = ns} {rs = rs} h all) =
    let zero : n + (sum ns + 0) ≡ n + sum ns = omega arith in
    least_is (zero ∙ sym (sum_by-cons (λ (k : ℕ). k) n ns))
    (least_then n (sum ns + 0) (λ first. then_by (each rs) (λ rest. gives (first ∷ rest))) h
    (λ x. least_then (sum ns) 0 (λ rest. gives (x ∷ rest)) (least_each all)
    (λ y. least_given (x ∷ y))))

-- an object takes its cells
as_many : (object : Object) (values : List ℤ) →
    length (cells_with object.ty (cells_of object) values) ≡ cells_of object
as_many object values =
    let n = cells_of object in
    length-map (take n (values ++ replicate n (pos 0))) (cell object.ty)
    ∙ length-take-le n (values ++ replicate n (pos 0))
    (omega (arith, length-append values (replicate n (pos 0)), length-replicate n (pos 0)))

least_taking : (object : Object) (values : List ℤ) →
    TakesAtLeast (cells_of object) (taking object values)
least_taking object values = record {
  at = λ a.
      omega (
        arith,
        length-append a.cells (cells_with object.ty (cells_of object) values),
        as_many object values,
      );
}

least_receiving : (objects : List Object) →
    TakesAtLeast (objects_cells objects) (statement.receiving objects)
least_receiving [] = least_given tt
least_receiving (object ∷ objects) =
    least_is (sym (sum_by-cons (λ (k : ℕ). k) (cells_of object) (map cells_of objects)))
    (least_then (cells_of object) (objects_cells objects) (λ first. statement.receiving objects)
    (least_taking object []) (λ x. least_receiving objects))

least_globals : (globals : List Global) →
    TakesAtLeast (globals_cells globals) (statement.receiving_globals globals)
least_globals [] = least_given tt
least_globals (global ∷ globals) =
    least_is (sym (sum_by-cons (λ (k : ℕ). k) (cells_of global.object)
    (map (λ (one : Global). cells_of one.object) globals)))
    (least_then (cells_of global.object) (globals_cells globals)
    (λ first. statement.receiving_globals globals) (least_taking global.object global.starts)
    (λ x. least_globals globals))

module _ (F : Frames) (same : SameFrames F F) where
  least_declared : (declarator : TypedDeclarator) →
      TakesAtLeast (cells_of declarator.object) (statement.declared F declarator)
  least_declared declarator =
      let n = cells_of declarator.object in
      let zero : n + 0 ≡ n = omega arith in
      least_is zero
      (least_then n 0 (statement.initializing declarator.place F declarator.object
      declarator.initializer)
      (least_taking declarator.object [])
      (λ x. least_none (alike_initializing F F same declarator.place declarator.object
      declarator.initializer x x)))

  each_declared : (declarators : List TypedDeclarator) →
      EachTakes (map (λ (one : TypedDeclarator). cells_of one.object) declarators)
      (map (statement.declared F) declarators)
  each_declared [] = no_rule
  each_declared (declarator ∷ declarators) =
      one_rule (least_declared declarator) (each_declared declarators)

  least_declaration : (declarators : List TypedDeclarator) →
      TakesAtLeast (declarators_cells declarators) (statement.declaration F declarators)
  least_declaration declarators = least_order (each_declared declarators)

  least_started : (first : TypedForStart) →
      TakesAtLeast (start_cells first) (statement.started F first)
  least_started (start.Declaration declarators) = least_declaration declarators
  least_started (start.Expression expression) = least_none (alike_unused F F same expression)

  least_one : (make : Trees → CoreTree) {n : ℕ} {r : Rule Trees} → TakesAtLeast n r →
      TakesAtLeast n (statement.as_one make r)
  least_one make {n = n} h =
      let zero : n + 0 ≡ n = omega arith in
      least_is zero
      (least_then n 0 (λ inside. gives (make inside ∷ [])) h (λ x. least_given (make x ∷ [])))

  least_if : (origin : ℕ) (test : TypedExpression) (m n : ℕ) {a b : Rule Trees} → TakesAtLeast m a →
      TakesAtLeast n b →
      TakesAtLeast (m + n)
      (then_by (used (rows F test)) (λ v. then_by a (λ x. then_by b (λ y.
      gives (v.statements ++ choice origin v.value x y ∷ [])))))
  least_if origin test m n {a = a} {b = b} first second =
      let zero : 0 + (m + (n + 0)) ≡ m + n = omega arith in
      least_is zero
      (least_then 0 (m + (n + 0)) (λ v. then_by a (λ x. then_by b (λ y.
      gives (v.statements ++ choice origin v.value x y ∷ []))))
      (least_none ((alike_expression F F same test).rule Used))
      (λ v. least_then m (n + 0) (λ x. then_by b (λ y.
      gives (v.statements ++ choice origin v.value x y ∷ []))) first
      (λ x. least_then n 0 (λ y. gives (v.statements ++ choice origin v.value x y ∷ [])) second
      (λ y. least_given (v.statements ++ choice origin v.value x y ∷ [])))))

  least_while : (origin : ℕ) (test : Option TypedExpression) (n : ℕ) {body : Rule Trees} →
      TakesAtLeast n body →
      TakesAtLeast n
      (then_by (statement.left_unless origin F test) (λ front. then_by body (λ inside.
      gives (repeated origin (front ++ inside) [] ∷ []))))
  least_while origin test n {body = body} h =
      let zero : 0 + (n + 0) ≡ n = omega arith in
      least_is zero
      (least_then 0 (n + 0) (λ front. then_by body (λ inside.
      gives (repeated origin (front ++ inside) [] ∷ [])))
      (least_none (alike_left F F same origin test))
      (λ x. least_then n 0 (λ inside. gives (repeated origin (x ++ inside) [] ∷ [])) h
      (λ y. least_given (repeated origin (x ++ y) [] ∷ []))))

  least_do : (origin : ℕ) (test : Option TypedExpression) (n : ℕ) {body : Rule Trees} →
      TakesAtLeast n body →
      TakesAtLeast n
      (then_by body (λ inside. then_by (statement.left_unless origin F test) (λ behind.
      gives (repeated origin inside behind ∷ []))))
  least_do origin test n {body = body} h =
      let zero : n + (0 + 0) ≡ n = omega arith in
      least_is zero
      (least_then n (0 + 0) (λ inside. then_by (statement.left_unless origin F test) (λ behind.
      gives (repeated origin inside behind ∷ []))) h
      (λ x. least_then 0 0 (λ behind. gives (repeated origin x behind ∷ []))
      (least_none (alike_left F F same origin test)) (λ y. least_given (repeated origin x y ∷ []))))

  least_switch : (origin : ℕ) (value : TypedExpression) (choices : List Choice) (otherwise n : ℕ)
      {body : Rule Trees} → TakesAtLeast n body →
      TakesAtLeast n
      (then_by (used (rows F value)) (λ v. then_by
      (held origin (valued v.statements (promote v.value)))
      (λ kept. then_by body (λ inside. gives (kept.statements
      ++ statement.selected_by origin kept.value choices otherwise inside)))))
  least_switch origin value choices otherwise n {body = body} h =
      let zero : 0 + (0 + (n + 0)) ≡ n = omega arith in
      least_is zero
      (least_then 0 (0 + (n + 0))
      (λ v. then_by (held origin (valued v.statements (promote v.value))) (λ kept. then_by body
      (λ inside. gives (kept.statements
      ++ statement.selected_by origin kept.value choices otherwise inside))))
      (least_none ((alike_expression F F same value).rule Used))
      (λ v. least_then 0 (n + 0) (λ kept. then_by body (λ inside. gives (kept.statements
      ++ statement.selected_by origin kept.value choices otherwise inside)))
      (least_none (alike_held origin (valued_self (valued v.statements (promote v.value)))))
      (λ kept. least_then n 0 (λ inside. gives (kept.statements
      ++ statement.selected_by origin kept.value choices otherwise inside)) h
      (λ x. least_given (kept.statements
      ++ statement.selected_by origin kept.value choices otherwise x)))))

  -- a for, by its parts
  abbrev for_form : ℕ → Trees → Trees → Trees → Trees → Trees
  for_form origin before front inside behind =
      block origin (before ++ repeated origin (front ++ inside) behind ∷ []) ∷ []

  least_for : (origin : ℕ) (first : TypedForStart) (test step : Option TypedExpression) (n : ℕ)
      {body : Rule Trees} → TakesAtLeast n body →
      TakesAtLeast (start_cells first + n)
      (then_by (statement.started F first) (λ before. then_by (statement.left_unless origin F test)
      (λ front. then_by body (λ inside. then_by (statement.some_unused F step) (λ behind.
      gives (for_form origin before front inside behind))))))
  least_for origin first test step n {body = body} h =
      let m = start_cells first in
      let zero : m + (0 + (n + (0 + 0))) ≡ m + n = omega arith in
      least_is zero
      (least_then m (0 + (n + (0 + 0)))
      (λ before. then_by (statement.left_unless origin F test) (λ front. then_by body (λ inside.
      then_by (statement.some_unused F step) (λ behind.
      gives (for_form origin before front inside behind))))) (least_started first)
      (λ a. least_then 0 (n + (0 + 0)) (λ front. then_by body (λ inside.
      then_by (statement.some_unused F step) (λ behind.
      gives (for_form origin a front inside behind))))
      (least_none (alike_left F F same origin test))
      (λ b. least_then n (0 + 0) (λ inside. then_by (statement.some_unused F step) (λ behind.
      gives (for_form origin a b inside behind))) h
      (λ c. least_then 0 0 (λ behind. gives (for_form origin a b c behind))
      (least_none (alike_unused F F same step)) (λ d. least_given (for_form origin a b c d))))))

  module _ (place : Location) where
    abbrev ItemTakes : TypedItem → Type 0
    ItemTakes item = TakesAtLeast (item_cells item) (item_rule F place item)

    abbrev StatementTakes : TypedStatement → Type 0
    StatementTakes s = TakesAtLeast (statement_cells s) (statement_rule F place s)

    abbrev HeldItem : Type 0
    HeldItem = (item : TypedItem) × ItemTakes item

    abbrev HeldStatement : Type 0
    HeldStatement = (s : TypedStatement) × StatementTakes s

    abbrev bare_item : TypedItem-F HeldItem HeldStatement → TypedItem-F TypedItem TypedStatement
    bare_item y = map-TypedItem HeldItem HeldStatement TypedItem TypedStatement (λ e. e.0)
        (λ e. e.0) y

    abbrev bare : TypedStatement-F HeldItem HeldStatement
        → TypedStatement-F TypedItem TypedStatement
    bare y = map-TypedStatement HeldItem HeldStatement TypedItem TypedStatement (λ e. e.0)
        (λ e. e.0) y

    abbrev rule_layer : TypedStatement-F HeldItem HeldStatement → Rule Trees
    rule_layer y = statement.statement_step F place (map-TypedStatement TypedItem TypedStatement
        (Rule Trees) (Rule Trees) (item_rule F place) (statement_rule F place) (bare y))

    abbrev cells_layer : TypedStatement-F HeldItem HeldStatement → ℕ
    cells_layer y = statement_step (map-TypedStatement TypedItem TypedStatement ℕ ℕ item_cells
        statement_cells (bare y))

    abbrev rule_item_layer : TypedItem-F HeldItem HeldStatement → Rule Trees
    rule_item_layer y = statement.item_step F (map-TypedItem TypedItem TypedStatement
        (Rule Trees) (Rule Trees) (item_rule F place) (statement_rule F place) (bare_item y))

    abbrev cells_item_layer : TypedItem-F HeldItem HeldStatement → ℕ
    cells_item_layer y = item_step (map-TypedItem TypedItem TypedStatement ℕ ℕ item_cells
        statement_cells (bare_item y))

    each_held : (held : List HeldItem) →
        EachTakes (map item_cells (map (λ e. e.0) held))
        (map (item_rule F place) (map (λ e. e.0) held))
    each_held [] = no_rule
    each_held (item ∷ held) = one_rule item.1 (each_held held)

    layer : (y : TypedStatement-F HeldItem HeldStatement) →
        TakesAtLeast (cells_layer y) (rule_layer y)
    layer (TypedStatement-F.Block items origin) =
        least_one (block origin) (least_order (each_held items))
    layer (TypedStatement-F.Expression expression origin) =
        least_none (alike_unused F F same expression)
    layer (TypedStatement-F.If test first None origin) =
        least_if origin test (statement_cells first.0) 0 first.1 (least_given [])
    layer (TypedStatement-F.If test first (Some second) origin) =
        least_if origin test (statement_cells first.0) (statement_cells second.0) first.1 second.1
    layer (TypedStatement-F.While test body origin) =
        least_while origin (Some test) (statement_cells body.0) body.1
    layer (TypedStatement-F.Do body test origin) =
        least_do origin (Some test) (statement_cells body.0) body.1
    layer (TypedStatement-F.For first test step body origin) =
        least_for origin first test step (statement_cells body.0) body.1
    layer (TypedStatement-F.Goto label origin) = least_given (leaf origin (head.Goto label) ∷ [])
    layer (TypedStatement-F.Break origin) = least_given (leaf origin head.Break ∷ [])
    layer (TypedStatement-F.Continue origin) = least_given (leaf origin head.Continue ∷ [])
    layer (TypedStatement-F.Return value origin) =
        least_none (alike_returned F F same origin place place value (record { type = refl }))
    layer (TypedStatement-F.Labeled label body origin) = least_one (labeled origin) body.1
    layer (TypedStatement-F.Switch value choices otherwise body end origin) =
        least_switch origin value choices otherwise (statement_cells body.0) body.1

    item_layer : (y : TypedItem-F HeldItem HeldStatement) →
        TakesAtLeast (cells_item_layer y) (rule_item_layer y)
    item_layer (TypedItem-F.Declaration declarators) = least_declaration declarators
    item_layer (TypedItem-F.Statement body) = body.1

    at_statement : (y : TypedStatement-F HeldItem HeldStatement)
        (x : TypedStatement-F TypedItem TypedStatement) → bare y ≡ x →
        StatementTakes (roll-TypedStatement x)
    at_statement y x is =
        subst (λ (z : TypedStatement-F TypedItem TypedStatement).
        StatementTakes (roll-TypedStatement z)) is
        (subst (λ (r : Rule Trees).
        TakesAtLeast (statement_cells (roll-TypedStatement (bare y))) r)
        (sym (open_statement_rule F place (bare y)))
        (least_is (sym (open_statement (bare y))) (layer y)))

    at_item : (y : TypedItem-F HeldItem HeldStatement)
        (x : TypedItem-F TypedItem TypedStatement) → bare_item y ≡ x →
        ItemTakes (roll-TypedItem x)
    at_item y x is =
        subst (λ (z : TypedItem-F TypedItem TypedStatement). ItemTakes (roll-TypedItem z)) is
        (subst (λ (r : Rule Trees). TakesAtLeast (item_cells (roll-TypedItem (bare_item y))) r)
        (sym (open_item_rule F place (bare_item y)))
        (least_is (sym (open_item (bare_item y))) (item_layer y)))

    pub least_item : (item : TypedItem) → ItemTakes item
    least_item =
        ind-TypedItem ItemTakes StatementTakes (λ x y is. at_item y x is)
        (λ x y is. at_statement y x is)

    each_item : (items : List TypedItem) →
        EachTakes (map item_cells items) (map (item_rule F place) items)
    each_item [] = no_rule
    each_item (item ∷ items) = one_rule (least_item item) (each_item items)

  -- one whose cells begin at a number
  abbrev from : TypedFunction → ℕ → Rule CoreTree
  from function first =
      then_by (statement.resulting function.place function.result) (λ before.
      then_by (statement.receiving function.parameters) (λ u.
      then_by (in_order (map (item_rule F (cell_at (object_type function.result) first))
      function.items)) (λ inside. gives (block function.place (before ++ inside)))))

  least_from : (function : TypedFunction) (first : ℕ) →
      TakesAtLeast (function_cells function) (from function first)
  least_from function first =
      let place = cell_at (object_type function.result) first in
      let items = in_order (map (item_rule F place) function.items) in
      let m = objects_cells function.parameters in
      let n = items_cells function.items in
      let zero : 0 + (m + (n + 0)) ≡ m + n = omega arith in
      least_is zero
      (least_then 0 (m + (n + 0)) (λ before. then_by (statement.receiving function.parameters)
      (λ u. then_by items (λ inside. gives (block function.place (before ++ inside)))))
      (least_none (alike_resulting function.place function.result))
      (λ x. least_then m (n + 0) (λ u. then_by items
      (λ inside. gives (block function.place (x ++ inside))))
      (least_receiving function.parameters)
      (λ u. least_then n 0 (λ inside. gives (block function.place (x ++ inside)))
      (least_order (each_item place function.items))
      (λ y. least_given (block function.place (x ++ y))))))

  least_function : (function : TypedFunction) →
      TakesAtLeast (function_cells function) (function_rule F function)
  least_function function = record { at = λ a. (least_from function (length a.cells)).at a }

  each_function : (functions : List TypedFunction) →
      EachTakes (map function_cells functions) (map (function_rule F) functions)
  each_function [] = no_rule
  each_function (function ∷ functions) =
      one_rule (least_function function) (each_function functions)

  pub least_text : (globals : List Global) (functions : List TypedFunction) →
      TakesAtLeast (declared_cells globals functions) (statement.text_rule F globals functions)
  least_text globals functions =
      least_then (globals_cells globals) (functions_cells functions)
      (λ u. each (map (function_rule F) functions)) (least_globals globals)
      (λ u. least_each (each_function functions))
