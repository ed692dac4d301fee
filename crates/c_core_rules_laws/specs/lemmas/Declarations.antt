-- Declarations and the parts of statements are alike under frames of the same types.
use Rattle.std.proofs.Common.{ℕ, zero, suc, ◌+◌, ◌-◌, List, [], ◌∷◌, ◌++◌, map, length, Option}
use Rattle.std.proofs.Common.{None, Some, refl, ℤ, pos}
use Rattle.cpa_ints.specs.declared.integers.IntType.{IntType}
use Rattle.cpa_expr.specs.declared.tree.Expr.TheVariants.{Const}
use Rattle.c_types_rules.specs.declared.meaning.Kind.{Kind}
use Rattle.c_types_rules.specs.declared.meaning.Kind.TheVariants.{Void, Value}
use Rattle.c_types_rules.specs.declared.meaning.Object.{Object}
use Rattle.c_types_rules.specs.declared.typed.TypedExpression.{TypedExpression}
use Rattle.c_types_rules.specs.declared.typed.TypedInitializer.{TypedInitializer}
use Rattle.c_types_rules.specs.declared.typed.TypedInitializer.TheVariants as initializer
use Rattle.c_types_rules.specs.declared.typed.TypedDeclarator.{TypedDeclarator}
use Rattle.c_types_rules.specs.declared.typed.TypedForStart.{TypedForStart}
use Rattle.c_types_rules.specs.declared.typed.TypedForStart.TheVariants as start
use Rattle.c_types_rules.specs.Tables.{cells_of}
use Rattle.cpa_model_trees.specs.declared.tree.Head.TheVariants as head
use Rattle.c_core_rules.specs.declared.tree.Location.{Location}
use Rattle.c_core_rules.specs.declared.tree.Usage.TheVariants.{Used, Unused}
use Rattle.c_core_rules.specs.Values.{cell_at}
use Rattle.c_core_rules.specs.Trees.{leaf, set}
use Rattle.c_core_rules.specs.Cells.{gives, taking, cells_with}
use Rattle.c_core_rules.specs.Expressions.{Frames}
use Rattle.c_core_rules.specs.Statements as statement
use Rattle.c_core_rules_laws.specs.Alike.{Alike, SameTrees, SameLocation, SameFrames}
use Rattle.c_core_rules_laws.specs.Alike.{Pairwise, none, more}
use Rattle.c_core_rules_laws.specs.lemmas.Values.{value_self}
use Rattle.c_core_rules_laws.specs.lemmas.Statements.{trees_self, same_append, same_more, same_set}
use Rattle.c_core_rules_laws.specs.lemmas.Statements.{same_input}
use Rattle.c_core_rules_laws.specs.lemmas.Runs.{alike_gives, alike_then, alike_order, alike_fresh}
use Rattle.c_core_rules_laws.specs.lemmas.Acts.{same_stored, same_split}
use Rattle.c_core_rules_laws.specs.lemmas.Rows.{only}
use Rattle.c_core_rules_laws.specs.lemmas.Expressions.{alike_expression}

-- anything and anything
abbrev pub Any : {T : Type 0} → T → T → Type 0
Any x y = Unit {0}

-- an object takes its cells
pub alike_taking : (object : Object) (values : List ℤ) →
    Alike Any (taking object values) (taking object values)
alike_taking object values = record {
  runs = λ a b. record {
    added = cells_with object.ty (cells_of object) values;
    adds = refl;
    adds_too = refl;
    made = tt;
  };
}

same_inputs : (origin : ℕ) (m n count : ℕ) →
    SameTrees (statement.inputs origin m count) (statement.inputs origin n count)
same_inputs origin m n zero = trees_self []
same_inputs origin m n (suc count) =
    same_more (same_input origin m n) (same_inputs origin (m + 1) (n + 1) count)

-- cells of one type
pub same_cell : (t : IntType) (m n : ℕ) → SameLocation (cell_at t m) (cell_at t n)
same_cell t m n = record { type = refl }

same_zeros : (origin : ℕ) (t : IntType) (m n count : ℕ) →
    SameTrees (statement.zeros origin t m count) (statement.zeros origin t n count)
same_zeros origin t m n zero = trees_self []
same_zeros origin t m n (suc count) =
    same_more (same_set origin (cell_at t m) (cell_at t n) (same_cell t m n)
    (value_self (Const t (pos 0)))) (same_zeros origin t (m + 1) (n + 1) count)

-- a function begins with its result, and its parameters take their cells
pub alike_resulting : (origin : ℕ) (kind : Kind) →
    Alike SameTrees (statement.resulting origin kind) (statement.resulting origin kind)
alike_resulting origin Void = alike_gives (trees_self [])
alike_resulting origin (Value t) =
    alike_then (λ place. gives (set origin place (Const t (pos 0)) ∷ []))
    (λ place. gives (set origin place (Const t (pos 0)) ∷ [])) (alike_fresh t t refl)
    (λ a b at. alike_gives (same_set origin a b at (value_self (Const t (pos 0)))))

pub alike_receiving : (objects : List Object) →
    Alike Any (statement.receiving objects) (statement.receiving objects)
alike_receiving [] = alike_gives tt
alike_receiving (object ∷ objects) =
    alike_then (λ first. statement.receiving objects) (λ first. statement.receiving objects)
    (alike_taking object []) (λ x y is. alike_receiving objects)

module _ (F G : Frames) (same : SameFrames F G) where
  pub alike_unused : (e : Option TypedExpression) →
      Alike SameTrees (statement.some_unused F e) (statement.some_unused G e)
  alike_unused None = alike_gives (trees_self [])
  alike_unused (Some e) = only ((alike_expression F G same e).rule Unused)

  pub alike_initialized : (origin : ℕ) (a b : Location) (e : TypedExpression) → SameLocation a b →
      Alike SameTrees (statement.initialized origin F a e) (statement.initialized origin G b e)
  alike_initialized origin a b e at =
      alike_then (λ v. gives (v.statements ++ set origin a v.value ∷ []))
      (λ v. gives (v.statements ++ set origin b v.value ∷ []))
      ((alike_expression F G same e).rule Used)
      (λ x y is. alike_gives (same_stored origin a b is at))

  each_initialized : (origin : ℕ) (t : IntType) (m n : ℕ) (items : List TypedExpression) →
      Pairwise (Alike SameTrees) (statement.initialized_each origin F t m items)
      (statement.initialized_each origin G t n items)
  each_initialized origin t m n [] = none
  each_initialized origin t m n (item ∷ items) =
      more (alike_initialized origin (cell_at t m) (cell_at t n) item (same_cell t m n))
      (each_initialized origin t (m + 1) (n + 1) items)

  pub alike_initializing : (origin : ℕ) (object : Object) (given : Option TypedInitializer)
      (m n : ℕ) →
      Alike SameTrees (statement.initializing origin F object given m)
      (statement.initializing origin G object given n)
  alike_initializing origin object None m n = alike_gives (same_inputs origin m n (cells_of object))
  alike_initializing origin object (Some (initializer.Scalar value)) m n =
      alike_initialized origin (cell_at object.ty m) (cell_at object.ty n) value
      (same_cell object.ty m n)
  alike_initializing origin object (Some (initializer.List items)) m n =
      let count = cells_of object - length items in
      let first = statement.zeros origin object.ty (m + length items) count in
      let second = statement.zeros origin object.ty (n + length items) count in
      alike_then (λ before. gives (before ++ first)) (λ before. gives (before ++ second))
      (alike_order (each_initialized origin object.ty m n items))
      (λ x y is. alike_gives
      (same_append is (same_zeros origin object.ty (m + length items) (n + length items) count)))

  alike_declared : (declarator : TypedDeclarator) →
      Alike SameTrees (statement.declared F declarator) (statement.declared G declarator)
  alike_declared declarator =
      alike_then (statement.initializing declarator.place F declarator.object
      declarator.initializer)
      (statement.initializing declarator.place G declarator.object declarator.initializer)
      (alike_taking declarator.object [])
      (λ m n is. alike_initializing declarator.place declarator.object declarator.initializer m n)

  each_declared : (declarators : List TypedDeclarator) →
      Pairwise (Alike SameTrees) (map (statement.declared F) declarators)
      (map (statement.declared G) declarators)
  each_declared [] = none
  each_declared (declarator ∷ declarators) =
      more (alike_declared declarator) (each_declared declarators)

  pub alike_declaration : (declarators : List TypedDeclarator) →
      Alike SameTrees (statement.declaration F declarators) (statement.declaration G declarators)
  alike_declaration declarators = alike_order (each_declared declarators)

  pub alike_started : (first : TypedForStart) →
      Alike SameTrees (statement.started F first) (statement.started G first)
  alike_started (start.Declaration declarators) = alike_declaration declarators
  alike_started (start.Expression expression) = alike_unused expression

  pub alike_left : (origin : ℕ) (test : Option TypedExpression) →
      Alike SameTrees (statement.left_unless origin F test) (statement.left_unless origin G test)
  alike_left origin None = alike_gives (trees_self [])
  alike_left origin (Some test) =
      alike_then (λ v. gives (statement.leaving origin v)) (λ v. gives (statement.leaving origin v))
      ((alike_expression F G same test).rule Used)
      (λ x y is. alike_gives (same_split origin is (trees_self [])
      (trees_self (leaf origin head.Break ∷ []))))

  pub alike_returned : (origin : ℕ) (a b : Location) (value : Option TypedExpression) →
      SameLocation a b →
      Alike SameTrees (statement.returned origin F a value) (statement.returned origin G b value)
  alike_returned origin a b None at = alike_gives (trees_self (leaf origin head.Leave ∷ []))
  alike_returned origin a b (Some value) at =
      alike_then (λ before. gives (before ++ leaf origin head.Leave ∷ []))
      (λ before. gives (before ++ leaf origin head.Leave ∷ []))
      (alike_initialized origin a b value at)
      (λ x y is. alike_gives (same_append is (trees_self (leaf origin head.Leave ∷ []))))
