-- Every item of a block is alike under frames of the same types, its result in a cell of one type.
use Rattle.std.proofs.Common.{◌≡◌, ℕ, List, [], ◌∷◌, ◌++◌, map, None, Some, refl, sym, subst}
use Rattle.cpa_expr.specs.declared.tree.Expr.{Expr}
use Rattle.c_types_rules.specs.declared.typed.Choice.{Choice}
use Rattle.c_types_rules.specs.declared.typed.TypedItem.{TypedItem, roll-TypedItem}
use Rattle.c_types_rules.specs.declared.typed.TypedItem.TheOpen.{TypedItem-F, TypedStatement-F}
use Rattle.c_types_rules.specs.declared.typed.TypedItem.TheFolds.{map-TypedItem, map-TypedStatement}
use Rattle.c_types_rules.specs.declared.typed.TypedItem.TheFolds.{ind-TypedItem}
use Rattle.c_types_rules.specs.declared.typed.TypedStatement.{TypedStatement, roll-TypedStatement}
use Rattle.cpa_model_trees.specs.declared.tree.CoreTree.{CoreTree}
use Rattle.cpa_model_trees.specs.declared.tree.Head.{Head}
use Rattle.cpa_model_trees.specs.declared.tree.Head.TheVariants as head
use Rattle.cpa_model_trees.specs.Numbering.{Trees}
use Rattle.c_core_rules.specs.declared.tree.Location.{Location}
use Rattle.c_core_rules.specs.declared.tree.Usage.TheVariants.{Used}
use Rattle.c_core_rules.specs.declared.tree.Valued.{Valued}
use Rattle.c_core_rules.specs.Values.{promote}
use Rattle.c_core_rules.specs.Trees.{leaf, block, labeled, choice, repeated, valued}
use Rattle.c_core_rules.specs.Cells.{Rule, gives, then_by}
use Rattle.c_core_rules.specs.Acts.{held}
use Rattle.c_core_rules.specs.Expressions.{Frames}
use Rattle.c_core_rules.specs.Statements.{item_rule, item_step, statement_step, as_one}
use Rattle.c_core_rules.specs.Statements.{selecting, selected_by}
use Rattle.c_core_rules_laws.specs.Alike.{Alike, SameValue, SameValued, SameTrees, SameLocation}
use Rattle.c_core_rules_laws.specs.Alike.{SameFrames}
use Rattle.c_core_rules_laws.specs.Alike.{Pairwise, none, more}
use Rattle.c_core_rules_laws.specs.lemmas.Layers.{statement_rule, open_item, open_statement}
use Rattle.c_core_rules_laws.specs.lemmas.Statements.{trees_self, same_append, same_node}
use Rattle.c_core_rules_laws.specs.lemmas.Statements.{same_block, same_choice, same_more}
use Rattle.c_core_rules_laws.specs.lemmas.Statements.{same_repeated, same_valued}
use Rattle.c_core_rules_laws.specs.lemmas.Values.{same_asked, same_promote}
use Rattle.c_core_rules_laws.specs.lemmas.Runs.{alike_gives, alike_then, alike_order}
use Rattle.c_core_rules_laws.specs.lemmas.Acts.{same_split, alike_held}
use Rattle.c_core_rules_laws.specs.lemmas.Expressions.{alike_expression}
use Rattle.c_core_rules_laws.specs.lemmas.Declarations.{alike_unused, alike_declaration}
use Rattle.c_core_rules_laws.specs.lemmas.Declarations.{alike_started, alike_left, alike_returned}

alike_leaf : (origin : ℕ) (h : Head) →
    Alike SameTrees (gives (leaf origin h ∷ [])) (gives (leaf origin h ∷ []))
alike_leaf origin h = alike_gives (trees_self (leaf origin h ∷ []))

-- what a rule makes as one statement around it
alike_one : (make : Trees → CoreTree) {r s : Rule Trees} →
    ((xs ys : Trees) → SameTrees xs ys → SameTrees (make xs ∷ []) (make ys ∷ [])) →
    Alike SameTrees r s → Alike SameTrees (as_one make r) (as_one make s)
alike_one make keeps h =
    alike_then (λ inside. gives (make inside ∷ [])) (λ inside. gives (make inside ∷ [])) h
    (λ xs ys is. alike_gives (keeps xs ys is))

alike_if_form : (origin : ℕ) {t u : Rule Valued} {p q r s : Rule Trees} → Alike SameValued t u →
    Alike SameTrees p q → Alike SameTrees r s →
    Alike SameTrees
    (then_by t (λ v. then_by p (λ a. then_by r (λ b.
    gives (v.statements ++ choice origin v.value a b ∷ [])))))
    (then_by u (λ v. then_by q (λ a. then_by s (λ b.
    gives (v.statements ++ choice origin v.value a b ∷ [])))))
alike_if_form origin {p = p} {q = q} {r = r} {s = s} test first second =
    alike_then
    (λ v. then_by p (λ a. then_by r (λ b. gives (v.statements ++ choice origin v.value a b ∷ []))))
    (λ v. then_by q (λ a. then_by s (λ b. gives (v.statements ++ choice origin v.value a b ∷ []))))
    test
    (λ v w is. alike_then
    (λ a. then_by r (λ b. gives (v.statements ++ choice origin v.value a b ∷ [])))
    (λ a. then_by s (λ b. gives (w.statements ++ choice origin w.value a b ∷ []))) first
    (λ a b one. alike_then (λ c. gives (v.statements ++ choice origin v.value a c ∷ []))
    (λ c. gives (w.statements ++ choice origin w.value b c ∷ [])) second
    (λ c d two. alike_gives (same_split origin is one two))))

alike_while : (origin : ℕ) {p q r s : Rule Trees} → Alike SameTrees p q → Alike SameTrees r s →
    Alike SameTrees
    (then_by p (λ front. then_by r (λ inside. gives (repeated origin (front ++ inside) [] ∷ []))))
    (then_by q (λ front. then_by s (λ inside. gives (repeated origin (front ++ inside) [] ∷ []))))
alike_while origin {r = r} {s = s} test body =
    alike_then (λ front. then_by r (λ inside. gives (repeated origin (front ++ inside) [] ∷ [])))
    (λ front. then_by s (λ inside. gives (repeated origin (front ++ inside) [] ∷ []))) test
    (λ x y is. alike_then (λ inside. gives (repeated origin (x ++ inside) [] ∷ []))
    (λ inside. gives (repeated origin (y ++ inside) [] ∷ [])) body
    (λ v w are. alike_gives (same_repeated origin (same_append is are) (trees_self []))))

alike_do : (origin : ℕ) {p q r s : Rule Trees} → Alike SameTrees p q → Alike SameTrees r s →
    Alike SameTrees
    (then_by p (λ inside. then_by r (λ behind. gives (repeated origin inside behind ∷ []))))
    (then_by q (λ inside. then_by s (λ behind. gives (repeated origin inside behind ∷ []))))
alike_do origin {r = r} {s = s} body test =
    alike_then (λ inside. then_by r (λ behind. gives (repeated origin inside behind ∷ [])))
    (λ inside. then_by s (λ behind. gives (repeated origin inside behind ∷ []))) body
    (λ x y is. alike_then (λ behind. gives (repeated origin x behind ∷ []))
    (λ behind. gives (repeated origin y behind ∷ [])) test
    (λ v w are. alike_gives (same_repeated origin is are)))

-- a for, by its parts
abbrev for_form : ℕ → Trees → Trees → Trees → Trees → Trees
for_form origin before front inside behind =
    block origin (before ++ repeated origin (front ++ inside) behind ∷ []) ∷ []

alike_for : (origin : ℕ) {m n p q r s t u : Rule Trees} → Alike SameTrees m n →
    Alike SameTrees p q →
    Alike SameTrees r s → Alike SameTrees t u →
    Alike SameTrees
    (then_by m (λ before. then_by p (λ front. then_by r (λ inside. then_by t (λ behind.
    gives (for_form origin before front inside behind))))))
    (then_by n (λ before. then_by q (λ front. then_by s (λ inside. then_by u (λ behind.
    gives (for_form origin before front inside behind))))))
alike_for origin {p = p} {q = q} {r = r} {s = s} {t = t} {u = u} first test body step =
    alike_then
    (λ before. then_by p (λ front. then_by r (λ inside. then_by t (λ behind.
    gives (for_form origin before front inside behind)))))
    (λ before. then_by q (λ front. then_by s (λ inside. then_by u (λ behind.
    gives (for_form origin before front inside behind))))) first
    (λ a b one. alike_then
    (λ front. then_by r (λ inside. then_by t
    (λ behind. gives (for_form origin a front inside behind))))
    (λ front. then_by s (λ inside. then_by u
    (λ behind. gives (for_form origin b front inside behind))))
    test
    (λ c d two. alike_then
    (λ inside. then_by t (λ behind. gives (for_form origin a c inside behind)))
    (λ inside. then_by u (λ behind. gives (for_form origin b d inside behind))) body
    (λ v w three. alike_then (λ behind. gives (for_form origin a c v behind))
    (λ behind. gives (for_form origin b d w behind)) step
    (λ x y four. alike_gives (same_block origin
    (same_append one (same_repeated origin (same_append two three) four)))))))

same_selecting : (origin : ℕ) {v w : Expr} (choices : List Choice) → SameValue v w →
    SameTrees (map (selecting origin v) choices) (map (selecting origin w) choices)
same_selecting origin [] is = trees_self []
same_selecting origin (one ∷ choices) is =
    same_more
    (same_choice origin (same_asked one.value is)
    (trees_self (leaf origin (head.Goto one.label) ∷ []))
    (trees_self [])) (same_selecting origin choices is)

same_selected : (origin : ℕ) (choices : List Choice) (otherwise : ℕ) {v w : Expr} {xs ys : Trees} →
    SameValue v w → SameTrees xs ys →
    SameTrees (selected_by origin v choices otherwise xs)
    (selected_by origin w choices otherwise ys)
same_selected origin choices otherwise is are =
    same_append (same_selecting origin choices is)
    (same_append (trees_self (leaf origin (head.Goto otherwise) ∷ []))
    (same_append are (trees_self (leaf origin head.Labeled ∷ []))))

-- a switch, by the rule of its value and that of its body
abbrev switch_form : ℕ → List Choice → ℕ → Rule Valued → Rule Trees → Rule Trees
switch_form origin choices otherwise t p =
    then_by t (λ v. then_by (held origin (valued v.statements (promote v.value))) (λ kept. then_by p
    (λ inside. gives (kept.statements ++ selected_by origin kept.value choices otherwise inside))))

alike_switch : (origin : ℕ) (choices : List Choice) (otherwise : ℕ) {t u : Rule Valued}
    {p q : Rule Trees} →
    Alike SameValued t u → Alike SameTrees p q →
    Alike SameTrees (switch_form origin choices otherwise t p)
    (switch_form origin choices otherwise u q)
alike_switch origin choices otherwise {p = p} {q = q} value body =
    alike_then
    (λ v. then_by (held origin (valued v.statements (promote v.value))) (λ kept. then_by p
    (λ inside. gives (kept.statements ++ selected_by origin kept.value choices otherwise inside))))
    (λ v. then_by (held origin (valued v.statements (promote v.value))) (λ kept. then_by q
    (λ inside. gives (kept.statements ++ selected_by origin kept.value choices otherwise inside))))
    value
    (λ v w is. alike_then
    (λ kept. then_by p
    (λ inside. gives (kept.statements ++ selected_by origin kept.value choices otherwise inside)))
    (λ kept. then_by q
    (λ inside. gives (kept.statements ++ selected_by origin kept.value choices otherwise inside)))
    (alike_held origin (same_valued is.statements (same_promote is.value)))
    (λ a b one. alike_then
    (λ inside. gives (a.statements ++ selected_by origin a.value choices otherwise inside))
    (λ inside. gives (b.statements ++ selected_by origin b.value choices otherwise inside)) body
    (λ x y two. alike_gives
    (same_append one.statements (same_selected origin choices otherwise one.value two)))))

module _ (F G : Frames) (same : SameFrames F G) (place other : Location)
    (at : SameLocation place other) where
  abbrev pub ItemIsAlike : TypedItem → Type 0
  ItemIsAlike item = Alike SameTrees (item_rule F place item) (item_rule G other item)

  abbrev StatementIsAlike : TypedStatement → Type 0
  StatementIsAlike s = Alike SameTrees (statement_rule F place s) (statement_rule G other s)

  abbrev HeldItem : Type 0
  HeldItem = (item : TypedItem) × ItemIsAlike item

  abbrev HeldStatement : Type 0
  HeldStatement = (s : TypedStatement) × StatementIsAlike s

  abbrev bare_item : TypedItem-F HeldItem HeldStatement → TypedItem-F TypedItem TypedStatement
  bare_item y = map-TypedItem HeldItem HeldStatement TypedItem TypedStatement (λ e. e.0)
      (λ e. e.0) y

  abbrev bare : TypedStatement-F HeldItem HeldStatement → TypedStatement-F TypedItem TypedStatement
  bare y = map-TypedStatement HeldItem HeldStatement TypedItem TypedStatement (λ e. e.0)
      (λ e. e.0) y

  abbrev item_of : Frames → Location → TypedItem-F HeldItem HeldStatement → Rule Trees
  item_of frames cell y = item_step frames (map-TypedItem TypedItem TypedStatement (Rule Trees)
      (Rule Trees) (item_rule frames cell) (statement_rule frames cell) (bare_item y))

  abbrev layer_of : Frames → Location → TypedStatement-F HeldItem HeldStatement → Rule Trees
  layer_of frames cell y = statement_step frames cell (map-TypedStatement TypedItem
      TypedStatement (Rule Trees) (Rule Trees) (item_rule frames cell)
      (statement_rule frames cell) (bare y))

  each_held : (held : List HeldItem) →
      Pairwise (Alike SameTrees) (map (item_rule F place) (map (λ e. e.0) held))
      (map (item_rule G other) (map (λ e. e.0) held))
  each_held [] = none
  each_held (item ∷ held) = more item.1 (each_held held)

  layer : (y : TypedStatement-F HeldItem HeldStatement) →
      Alike SameTrees (layer_of F place y) (layer_of G other y)
  layer (TypedStatement-F.Block items origin) =
      alike_one (block origin) (λ xs ys is. same_block origin is) (alike_order (each_held items))
  layer (TypedStatement-F.Expression expression origin) = alike_unused F G same expression
  layer (TypedStatement-F.If test first None origin) =
      alike_if_form origin ((alike_expression F G same test).rule Used) first.1
      (alike_gives (trees_self []))
  layer (TypedStatement-F.If test first (Some second) origin) =
      alike_if_form origin ((alike_expression F G same test).rule Used) first.1 second.1
  layer (TypedStatement-F.While test body origin) =
      alike_while origin (alike_left F G same origin (Some test)) body.1
  layer (TypedStatement-F.Do body test origin) =
      alike_do origin body.1 (alike_left F G same origin (Some test))
  layer (TypedStatement-F.For first test step body origin) =
      alike_for origin (alike_started F G same first) (alike_left F G same origin test) body.1
      (alike_unused F G same step)
  layer (TypedStatement-F.Goto label origin) = alike_leaf origin (head.Goto label)
  layer (TypedStatement-F.Break origin) = alike_leaf origin head.Break
  layer (TypedStatement-F.Continue origin) = alike_leaf origin head.Continue
  layer (TypedStatement-F.Return value origin) =
      alike_returned F G same origin place other value at
  layer (TypedStatement-F.Labeled label body origin) =
      alike_one (labeled origin)
      (λ xs ys is. same_node origin head.Labeled head.Labeled refl is) body.1
  layer (TypedStatement-F.Switch value choices otherwise body end origin) =
      alike_switch origin choices otherwise ((alike_expression F G same value).rule Used) body.1

  item_layer : (y : TypedItem-F HeldItem HeldStatement) →
      Alike SameTrees (item_of F place y) (item_of G other y)
  item_layer (TypedItem-F.Declaration declarators) = alike_declaration F G same declarators
  item_layer (TypedItem-F.Statement body) = body.1

  at_statement : (y : TypedStatement-F HeldItem HeldStatement)
      (x : TypedStatement-F TypedItem TypedStatement) → bare y ≡ x →
      StatementIsAlike (roll-TypedStatement x)
  at_statement y x is =
      subst (λ (z : TypedStatement-F TypedItem TypedStatement).
      StatementIsAlike (roll-TypedStatement z)) is
      (subst (λ (r : Rule Trees). Alike SameTrees r
      (statement_rule G other (roll-TypedStatement (bare y))))
      (sym (open_statement F place (bare y)))
      (subst (λ (s : Rule Trees). Alike SameTrees (layer_of F place y) s)
      (sym (open_statement G other (bare y))) (layer y)))

  at_item : (y : TypedItem-F HeldItem HeldStatement)
      (x : TypedItem-F TypedItem TypedStatement) → bare_item y ≡ x →
      ItemIsAlike (roll-TypedItem x)
  at_item y x is =
      subst (λ (z : TypedItem-F TypedItem TypedStatement). ItemIsAlike (roll-TypedItem z)) is
      (subst (λ (r : Rule Trees). Alike SameTrees r (item_rule G other (roll-TypedItem
      (bare_item y))))
      (sym (open_item F place (bare_item y)))
      (subst (λ (s : Rule Trees). Alike SameTrees (item_of F place y) s)
      (sym (open_item G other (bare_item y))) (item_layer y)))

  pub alike_item : (item : TypedItem) → ItemIsAlike item
  alike_item =
      ind-TypedItem ItemIsAlike StatementIsAlike (λ x y is. at_item y x is)
      (λ x y is. at_statement y x is)

  pub each_item : (items : List TypedItem) →
      Pairwise (Alike SameTrees) (map (item_rule F place) items) (map (item_rule G other) items)
  each_item [] = none
  each_item (item ∷ items) = more (alike_item item) (each_item items)
