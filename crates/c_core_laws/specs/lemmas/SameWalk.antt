-- An item of a block has one walk, by both of its definitions (`same_walk`).
use Rattle.std.proofs.Common.{◌≡◌, List, [], ◌∷◌, map, Some, None, refl, sym, ap, ◌∙◌}
use Rattle.std.proofs.Common.{subst}
use Rattle.c_grammar_tree.specs.declared.statement.Statement.{Statement, roll-Statement}
use Rattle.c_grammar_tree.specs.declared.statement.BlockItem.{BlockItem, roll-BlockItem}
use Rattle.c_grammar_tree.specs.declared.statement.BlockItem.TheOpen.{BlockItem-F, Statement-F}
use Rattle.c_grammar_tree.specs.declared.statement.BlockItem.TheFolds.{fold-Statement}
use Rattle.c_grammar_tree.specs.declared.statement.BlockItem.TheFolds.{fold-roll-BlockItem}
use Rattle.c_grammar_tree.specs.declared.statement.BlockItem.TheFolds.{fold-roll-Statement}
use Rattle.c_grammar_tree.specs.declared.statement.BlockItem.TheFolds.{map-BlockItem, map-Statement}
use Rattle.c_grammar_tree.specs.declared.statement.BlockItem.TheFolds.{ind-BlockItem}
use Rattle.c_types_rules.specs.declared.meaning.Role.TheVariants.{Valued, Evaluated}
use Rattle.c_types_rules.specs.declared.typed.TypedStatement.{TypedStatement}
use Rattle.c_types_rules.specs.declared.typed.TypedItem.{TypedItem}
use Rattle.c_types_rules.specs.Names.{Text}
use Rattle.c_types_rules.specs.Statements.{Walk, walk_of, item_walk, statement_walk, evaluates}
use Rattle.c_types_rules.specs.Statements.{doing}
use Rattle.c_types_rules.specs.Statements.{evaluating, followed, looped, scoped, in_order}
use Rattle.c_types_rules.specs.Statements.{start_walk}
use Rattle.c_types_rules.specs.Statements.{marking, selecting, still, switching}
use Rattle.c_types_rules.specs.TypedStatements.{Grown, grown, grown_item, grown_statement}

module _ (text : Text) where
  -- a statement, as `grown` of an item
  unfoldable pub grown_of : Statement → Grown TypedStatement
  grown_of =
      fold-Statement (Grown TypedItem) (Grown TypedStatement) (grown_item text)
      (grown_statement text)

  -- the walk of a statement, as `walk_of` of an item
  unfoldable pub part_walk : Statement → Walk
  part_walk = fold-Statement Walk Walk (item_walk text) (statement_walk text)

  abbrev pub SameItem : BlockItem → Type 0
  SameItem item = (grown text item).walk ≡ walk_of text item

  abbrev pub SameStatement : Statement → Type 0
  SameStatement statement = (grown_of statement).walk ≡ part_walk statement

  abbrev pub HeldItem : Type 0
  HeldItem = (item : BlockItem) × SameItem item

  abbrev pub HeldStatement : Type 0
  HeldStatement = (statement : Statement) × SameStatement statement

  lists_same : (held : List HeldItem) →
      map (λ (g : Grown TypedItem). g.walk) (map (grown text) (map (λ (e : HeldItem). e.0) held))
      ≡ map (walk_of text) (map (λ (e : HeldItem). e.0) held)
  lists_same [] = refl
  lists_same (e ∷ held) =
      ap (λ (w : Walk). w ∷ map (λ (g : Grown TypedItem). g.walk)
      (map (grown text) (map (λ (one : HeldItem). one.0) held))) e.1
      ∙ ap (λ (ws : List Walk). walk_of text e.0 ∷ ws) (lists_same held)

  pub open_grown_statement : (x : Statement-F BlockItem Statement) → grown_of (roll-Statement x)
      ≡ grown_statement text (map-Statement BlockItem Statement (Grown TypedItem)
      (Grown TypedStatement) (grown text) grown_of x)
  unfolding grown grown_of
  open_grown_statement x =
      fold-roll-Statement (Grown TypedItem) (Grown TypedStatement) (grown_item text)
      (grown_statement text) x

  open_part : (x : Statement-F BlockItem Statement) → part_walk (roll-Statement x)
      ≡ statement_walk text (map-Statement BlockItem Statement Walk Walk (walk_of text) part_walk x)
  unfolding walk_of part_walk
  open_part x = fold-roll-Statement Walk Walk (item_walk text) (statement_walk text) x

  pub open_grown_item : (x : BlockItem-F BlockItem Statement) → grown text (roll-BlockItem x)
      ≡ grown_item text (map-BlockItem BlockItem Statement (Grown TypedItem)
      (Grown TypedStatement) (grown text) grown_of x)
  unfolding grown grown_of
  open_grown_item x =
      fold-roll-BlockItem (Grown TypedItem) (Grown TypedStatement) (grown_item text)
      (grown_statement text) x

  open_walk : (x : BlockItem-F BlockItem Statement) → walk_of text (roll-BlockItem x)
      ≡ item_walk text (map-BlockItem BlockItem Statement Walk Walk (walk_of text) part_walk x)
  unfolding walk_of part_walk
  open_walk x = fold-roll-BlockItem Walk Walk (item_walk text) (statement_walk text) x

  -- a layer, whose parts have one walk
  abbrev pub SameLayer : Statement-F BlockItem Statement → Type 0
  SameLayer x =
      (grown_statement text (map-Statement BlockItem Statement (Grown TypedItem)
      (Grown TypedStatement) (grown text) grown_of x)).walk
      ≡ statement_walk text (map-Statement BlockItem Statement Walk Walk (walk_of text) part_walk x)

  abbrev pub bare : Statement-F HeldItem HeldStatement → Statement-F BlockItem Statement
  bare y = map-Statement HeldItem HeldStatement BlockItem Statement (λ e. e.0) (λ e. e.0) y

  layer : (y : Statement-F HeldItem HeldStatement) → SameLayer (bare y)
  layer (Statement-F.Block held place) =
      ap (λ (ws : List Walk). scoped (in_order ws)) (lists_same held)
  layer (Statement-F.Expression expression place) = refl
  layer (Statement-F.If test first None place) =
      ap (λ (w : Walk). followed (doing (evaluates Valued test)) (followed w still)) first.1
  layer (Statement-F.If test first (Some second) place) =
      ap (λ (w : Walk). followed (doing (evaluates Valued test))
      (followed w (grown_of second.0).walk)) first.1
      ∙ ap (λ (w : Walk). followed (doing (evaluates Valued test)) (followed (part_walk first.0) w))
      second.1
  layer (Statement-F.While test body place) =
      ap (λ (w : Walk). followed (doing (evaluates Valued test)) (looped w)) body.1
  layer (Statement-F.Do body test place) =
      ap (λ (w : Walk). followed (looped w) (doing (evaluates Valued test))) body.1
  layer (Statement-F.For first test step body place) =
      ap (λ (w : Walk). scoped (followed (start_walk text first) (followed (evaluating Valued test)
      (followed (evaluating Evaluated step) (looped w))))) body.1
  layer (Statement-F.Goto label place) = refl
  layer (Statement-F.Break place) = refl
  layer (Statement-F.Continue place) = refl
  layer (Statement-F.Return value place) = refl
  layer (Statement-F.Labeled label body) =
      ap (λ (w : Walk). followed (marking label) w) body.1
  layer (Statement-F.Switch value body place) =
      ap (λ (w : Walk). followed (doing (evaluates Valued value)) (switching text value w)) body.1
  layer (Statement-F.Case value body place) =
      ap (λ (w : Walk). followed (selecting text (Some value) place) w) body.1
  layer (Statement-F.Default body place) =
      ap (λ (w : Walk). followed (selecting text None place) w) body.1

  at_statement : (y : Statement-F HeldItem HeldStatement) (x : Statement-F BlockItem Statement) →
      bare y ≡ x → SameStatement (roll-Statement x)
  at_statement y x is =
      subst (λ (z : Statement-F BlockItem Statement). SameStatement (roll-Statement z)) is
      (ap (λ (g : Grown TypedStatement). g.walk) (open_grown_statement (bare y)) ∙ layer y
      ∙ sym (open_part (bare y)))

  abbrev pub bare_item : BlockItem-F HeldItem HeldStatement → BlockItem-F BlockItem Statement
  bare_item y = map-BlockItem HeldItem HeldStatement BlockItem Statement (λ e. e.0) (λ e. e.0) y

  item_layer : (y : BlockItem-F HeldItem HeldStatement) →
      (grown_item text (map-BlockItem BlockItem Statement (Grown TypedItem)
      (Grown TypedStatement) (grown text) grown_of (bare_item y))).walk
      ≡ item_walk text (map-BlockItem BlockItem Statement Walk Walk (walk_of text) part_walk
      (bare_item y))
  item_layer (BlockItem-F.Declaration declaration) = refl
  item_layer (BlockItem-F.Statement statement) = statement.1

  at_item : (y : BlockItem-F HeldItem HeldStatement) (x : BlockItem-F BlockItem Statement) →
      bare_item y ≡ x → SameItem (roll-BlockItem x)
  at_item y x is =
      subst (λ (z : BlockItem-F BlockItem Statement). SameItem (roll-BlockItem z)) is
      (ap (λ (g : Grown TypedItem). g.walk) (open_grown_item (bare_item y)) ∙ item_layer y
      ∙ sym (open_walk (bare_item y)))

  pub same_walk : (item : BlockItem) → (grown text item).walk ≡ walk_of text item
  same_walk =
      ind-BlockItem SameItem SameStatement (λ x y is. at_item y x is)
      (λ x y is. at_statement y x is)
