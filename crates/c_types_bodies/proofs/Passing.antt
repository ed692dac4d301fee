-- So many labels stand in a part of a function as are counted in it (`statement_passes`).
use Rattle.std.proofs.Common.{◌≡◌, ℕ, ◌+◌, ℤ, pos, ◌+ℤ◌, List, [], ◌∷◌, ◌++◌, length, map, Option}
use Rattle.std.proofs.Common.{None, Some, Bool, true, false, length-append, refl, sym, subst, arith}
use Rattle.std.specs.List.{flat_map}
use Rattle.c_grammar_tree.specs.declared.name.Name.{Name}
use Rattle.c_grammar_tree.specs.declared.expression.Expression.{Expression}
use Rattle.c_grammar_tree.specs.declared.declaration.Declaration.{Declaration}
use Rattle.c_grammar_tree.specs.declared.declaration.Declarator.{Declarator}
use Rattle.c_grammar_tree.specs.declared.declaration.Enumerator.{Enumerator}
use Rattle.c_grammar_tree.specs.declared.declaration.Enumeration.{Enumeration}
use Rattle.c_grammar_tree.specs.declared.declaration.Enumeration.TheVariants as enumeration
use Rattle.c_grammar_tree.specs.declared.statement.ForStart.{ForStart}
use Rattle.c_grammar_tree.specs.declared.statement.ForStart.TheVariants as start
use Rattle.c_grammar_tree.specs.declared.statement.Statement.{Statement, roll-Statement}
use Rattle.c_grammar_tree.specs.declared.statement.BlockItem.{BlockItem, roll-BlockItem}
use Rattle.c_grammar_tree.specs.declared.statement.BlockItem.TheOpen.{BlockItem-F, Statement-F}
use Rattle.c_grammar_tree.specs.declared.statement.BlockItem.TheFolds.{fold-roll-BlockItem}
use Rattle.c_grammar_tree.specs.declared.statement.BlockItem.TheFolds.{fold-roll-Statement}
use Rattle.c_grammar_tree.specs.declared.statement.BlockItem.TheFolds.{map-BlockItem, map-Statement}
use Rattle.c_grammar_tree.specs.declared.statement.BlockItem.TheFolds.{ind-Statement}
use Rattle.c_types_rules.specs.declared.meaning.Kind.{Kind}
use Rattle.c_types_rules.specs.declared.meaning.Role.{Role}
use Rattle.c_types_rules.specs.declared.meaning.Role.TheVariants.{Valued, Evaluated}
use Rattle.c_types_rules.specs.declared.typed.TypedStatement.{TypedStatement}
use Rattle.c_types_rules.specs.declared.typed.TypedItem.{TypedItem}
use Rattle.c_types_rules.specs.Names.{Text}
use Rattle.c_types_rules.specs.Declarations.{kind_of, has_const, enumerator_number}
use Rattle.c_types_rules.specs.Declarations.{enumerator_entry}
use Rattle.c_types_rules.specs.Statements.{Around, Act, Walk, still, doing, followed, in_order}
use Rattle.c_types_rules.specs.Statements.{inner, scoped, loop, looped, marking, jumps}
use Rattle.c_types_rules.specs.Statements.{switched, switching, selecting, end_behind}
use Rattle.c_types_rules.specs.Statements.{naming, tagging, enumerating, enumeration_walk}
use Rattle.c_types_rules.specs.Statements.{evaluating, declarator_walk, declaration_walk}
use Rattle.c_types_rules.specs.Statements.{start_walk}
use Rattle.c_types_rules.specs.Statements.{evaluates, returns, breaks, continues}
use Rattle.c_types_rules.specs.Statements.{labels_of, labels_item, labels_step, unnamed}
use Rattle.c_types_rules.specs.TypedStatements.{Grown, grown, grown_item, grown_statement}
use Rattle.c_types_bodies.specs.Grown.{grown_of, labels_in}

-- So many labels stand in a part.
pub record Passes (part : Walk) (n : ℕ) : Type 0 where
  pub behind_is : (around : Around) → (part.behind around).passed ≡ around.passed + n

passes_same : (part : Walk) (n m : ℕ) → n ≡ m → Passes part n → Passes part m
passes_same part n m is h = subst (λ (k : ℕ). Passes part k) is h

passes_still : Passes still 0
passes_still = record { behind_is = λ around. omega arith }

passes_doing : (act : Act) → Passes (doing act) 0
passes_doing act = record { behind_is = λ around. omega arith }

passes_then : (a b : Walk) (n m : ℕ) → Passes a n → Passes b m → Passes (followed a b) (n + m)
passes_then a b n m first second = record {
  behind_is = λ around.
      let p : (a.behind around).passed ≡ around.passed + n = first.behind_is around in
      let q : (b.behind (a.behind around)).passed ≡ (a.behind around).passed + m =
      second.behind_is (a.behind around) in
      omega (arith, p, q);
}

passes_scoped : (part : Walk) (n : ℕ) → Passes part n → Passes (scoped part) n
passes_scoped part n h = record { behind_is = λ around. h.behind_is (inner around) }

passes_looped : (part : Walk) (n : ℕ) → Passes part n → Passes (looped part) n
passes_looped part n h = record { behind_is = λ around. h.behind_is (loop around) }

passes_marking : (label : Name) → Passes (marking label) 1
passes_marking label = record { behind_is = λ around. refl }

passes_selecting : (text : Text) (value : Option Expression) (place : ℕ)
    → Passes (selecting text value place) 1
passes_selecting text None place = record { behind_is = λ around. refl }
passes_selecting text (Some value) place = record { behind_is = λ around. refl }

passes_switching : (text : Text) (value : Expression) (part : Walk) (n : ℕ) → Passes part n
    → Passes (switching text value part) (n + 1)
passes_switching text value part n h = record {
  behind_is = λ around.
      let within = switched text value (end_behind part around) around in
      let p : (part.behind within).passed ≡ around.passed + n = h.behind_is within in
      omega (arith, p);
}

passes_evaluating : (role : Role) (value : Option Expression) → Passes (evaluating role value) 0
passes_evaluating role None = passes_still
passes_evaluating role (Some value) = passes_doing (evaluates role value)

passes_enumerating : (text : Text) (next : ℤ) (list : List Enumerator)
    → Passes (enumerating text next list) 0
passes_enumerating text next [] = passes_still
passes_enumerating text next (one ∷ more) = record {
  behind_is = λ around.
      let n = enumerator_number text around.names next one in
      (passes_enumerating text (n +ℤ pos 1) more).behind_is
      (naming (enumerator_entry one.name.bytes n) around);
}

passes_tagging : (tag : Name) → Passes (tagging tag) 0
passes_tagging tag = record { behind_is = λ around. omega arith }

passes_enumeration : (text : Text) (found : Option Enumeration)
    → Passes (enumeration_walk text found) 0
passes_enumeration text None = passes_still
passes_enumeration text (Some (enumeration.Tag tag)) = record { behind_is = λ around. omega arith }
passes_enumeration text (Some (enumeration.Listed None list)) =
    passes_enumerating text (pos 0) list
passes_enumeration text (Some (enumeration.Listed (Some tag) list)) =
    passes_then (tagging tag) (enumerating text (pos 0) list) 0 0 (passes_tagging tag)
    (passes_enumerating text (pos 0) list)

passes_declarators : (text : Text) (kind : Kind) (is_const : Bool) (list : List Declarator)
    → Passes (in_order (map (declarator_walk text kind is_const) list)) 0
passes_declarators text kind is_const [] = passes_still
passes_declarators text kind is_const (one ∷ more) =
    passes_then (declarator_walk text kind is_const one)
    (in_order (map (declarator_walk text kind is_const) more)) 0 0
    (record { behind_is = λ around. omega arith }) (passes_declarators text kind is_const more)

passes_declaration : (text : Text) (declaration : Declaration)
    → Passes (declaration_walk text declaration) 0
passes_declaration text declaration =
    passes_then (enumeration_walk text declaration.specifiers.enumeration)
    (in_order (map (declarator_walk text (kind_of text declaration.specifiers)
    (has_const declaration.specifiers)) declaration.declarators)) 0 0
    (passes_enumeration text declaration.specifiers.enumeration)
    (passes_declarators text (kind_of text declaration.specifiers)
    (has_const declaration.specifiers)
    declaration.declarators)

passes_start : (text : Text) (first : ForStart) → Passes (start_walk text first) 0
passes_start text (start.Declaration declaration) = passes_declaration text declaration
passes_start text (start.Expression expression) = passes_evaluating Evaluated expression

module _ (text : Text) where
  abbrev pub ItemPasses : BlockItem → Type 0
  ItemPasses item = Passes (grown text item).walk (length (labels_of item))

  abbrev pub StatementPasses : Statement → Type 0
  StatementPasses statement = Passes (grown_of text statement).walk (length (labels_in statement))

  abbrev pub HeldItem : Type 0
  HeldItem = (item : BlockItem) × ItemPasses item

  abbrev pub HeldStatement : Type 0
  HeldStatement = (statement : Statement) × StatementPasses statement

  list_passes : (held : List HeldItem)
      → Passes (in_order (map (λ (g : Grown TypedItem). g.walk)
      (map (grown text) (map (λ (e : HeldItem). e.0) held))))
      (length (flat_map (λ (names : List Name). names)
      (map labels_of (map (λ (e : HeldItem). e.0) held))))
  list_passes [] = passes_still
  list_passes (e ∷ held) =
      let rest = flat_map (λ (names : List Name). names)
      (map labels_of (map (λ (one : HeldItem). one.0) held)) in
      passes_same (followed (grown text e.0).walk (in_order (map (λ (g : Grown TypedItem). g.walk)
      (map (grown text) (map (λ (one : HeldItem). one.0) held)))))
      (length (labels_of e.0) + length rest) (length (labels_of e.0 ++ rest))
      (sym (length-append (labels_of e.0) rest))
      (passes_then (grown text e.0).walk (in_order (map (λ (g : Grown TypedItem). g.walk)
      (map (grown text) (map (λ (one : HeldItem). one.0) held)))) (length (labels_of e.0))
      (length rest) e.1 (list_passes held))

  -- a layer, whose parts pass as many labels as stand in them
  abbrev pub LayerPasses : Statement-F BlockItem Statement → Type 0
  LayerPasses x =
      Passes (grown_statement text (map-Statement BlockItem Statement (Grown TypedItem)
      (Grown TypedStatement) (grown text) (grown_of text) x)).walk
      (length (labels_step (map-Statement BlockItem Statement (List Name) (List Name) labels_of
      labels_in x)))

  abbrev pub bare : Statement-F HeldItem HeldStatement → Statement-F BlockItem Statement
  bare y = map-Statement HeldItem HeldStatement BlockItem Statement (λ e. e.0) (λ e. e.0) y

  layer : (y : Statement-F HeldItem HeldStatement) → LayerPasses (bare y)
  layer (Statement-F.Block held place) =
      passes_scoped (in_order (map (λ (g : Grown TypedItem). g.walk)
      (map (grown text) (map (λ (e : HeldItem). e.0) held))))
      (length (flat_map (λ (names : List Name). names)
      (map labels_of (map (λ (e : HeldItem). e.0) held)))) (list_passes held)
  layer (Statement-F.Expression expression place) = passes_evaluating Evaluated expression
  layer (Statement-F.If test first None place) =
      let n = length (labels_in first.0) in
      let w = (grown_of text first.0).walk in
      passes_same (followed (doing (evaluates Valued test)) (followed w still)) (0 + (n + 0))
      (length (labels_in first.0 ++ [])) (omega (arith, length-append (labels_in first.0) []))
      (passes_then (doing (evaluates Valued test)) (followed w still) 0 (n + 0)
      (passes_doing (evaluates Valued test)) (passes_then w still n 0 first.1 passes_still))
  layer (Statement-F.If test first (Some second) place) =
      let n = length (labels_in first.0) in
      let m = length (labels_in second.0) in
      let w = (grown_of text first.0).walk in
      let v = (grown_of text second.0).walk in
      passes_same (followed (doing (evaluates Valued test)) (followed w v)) (0 + (n + m))
      (length (labels_in first.0 ++ labels_in second.0))
      (omega (arith, length-append (labels_in first.0) (labels_in second.0)))
      (passes_then (doing (evaluates Valued test)) (followed w v) 0 (n + m)
      (passes_doing (evaluates Valued test)) (passes_then w v n m first.1 second.1))
  layer (Statement-F.While test body place) =
      let n = length (labels_in body.0) in
      let w = looped (grown_of text body.0).walk in
      passes_same (followed (doing (evaluates Valued test)) w) (0 + n) n (omega arith)
      (passes_then (doing (evaluates Valued test)) w 0 n (passes_doing (evaluates Valued test))
      (passes_looped (grown_of text body.0).walk n body.1))
  layer (Statement-F.Do body test place) =
      let n = length (labels_in body.0) in
      let w = looped (grown_of text body.0).walk in
      passes_same (followed w (doing (evaluates Valued test))) (n + 0) n (omega arith)
      (passes_then w (doing (evaluates Valued test)) n 0
      (passes_looped (grown_of text body.0).walk n body.1) (passes_doing (evaluates Valued test)))
  layer (Statement-F.For first test step body place) =
      let n = length (labels_in body.0) in
      let a = start_walk text first in
      let b = evaluating Valued test in
      let c = evaluating Evaluated step in
      let w = looped (grown_of text body.0).walk in
      passes_scoped (followed a (followed b (followed c w))) n
      (passes_same (followed a (followed b (followed c w))) (0 + (0 + (0 + n))) n (omega arith)
      (passes_then a (followed b (followed c w)) 0 (0 + (0 + n)) (passes_start text first)
      (passes_then b (followed c w) 0 (0 + n) (passes_evaluating Valued test)
      (passes_then c w 0 n (passes_evaluating Evaluated step)
      (passes_looped (grown_of text body.0).walk n body.1)))))
  layer (Statement-F.Goto label place) = passes_doing (jumps label)
  layer (Statement-F.Switch value body place) =
      let n = length (labels_in body.0) in
      let w = (grown_of text body.0).walk in
      passes_same (followed (doing (evaluates Valued value)) (switching text value w))
      (0 + (n + 1)) (length (labels_in body.0 ++ unnamed ∷ []))
      (omega (arith, length-append (labels_in body.0) (unnamed ∷ [])))
      (passes_then (doing (evaluates Valued value)) (switching text value w) 0 (n + 1)
      (passes_doing (evaluates Valued value)) (passes_switching text value w n body.1))
  layer (Statement-F.Case value body place) =
      let n = length (labels_in body.0) in
      let w = (grown_of text body.0).walk in
      passes_same (followed (selecting text (Some value) place) w) (1 + n)
      (length (unnamed ∷ labels_in body.0)) (omega arith)
      (passes_then (selecting text (Some value) place) w 1 n
      (passes_selecting text (Some value) place) body.1)
  layer (Statement-F.Default body place) =
      let n = length (labels_in body.0) in
      let w = (grown_of text body.0).walk in
      passes_same (followed (selecting text None place) w) (1 + n)
      (length (unnamed ∷ labels_in body.0)) (omega arith)
      (passes_then (selecting text None place) w 1 n (passes_selecting text None place) body.1)
  layer (Statement-F.Break place) = passes_doing (breaks place)
  layer (Statement-F.Continue place) = passes_doing (continues place)
  layer (Statement-F.Return None place) =
      passes_then (doing (returns place false)) still 0 0 (passes_doing (returns place false))
      passes_still
  layer (Statement-F.Return (Some value) place) =
      passes_then (doing (returns place true)) (doing (evaluates Valued value)) 0 0
      (passes_doing (returns place true)) (passes_doing (evaluates Valued value))
  layer (Statement-F.Labeled label body) =
      let n = length (labels_in body.0) in
      let w = (grown_of text body.0).walk in
      passes_same (followed (marking label) w) (1 + n) (length (label ∷ labels_in body.0))
      (omega arith) (passes_then (marking label) w 1 n (passes_marking label) body.1)

  open_statement : (x : Statement-F BlockItem Statement) → grown_of text (roll-Statement x)
      ≡ grown_statement text (map-Statement BlockItem Statement (Grown TypedItem)
      (Grown TypedStatement) (grown text) (grown_of text) x)
  unfolding grown grown_of
  open_statement x =
      fold-roll-Statement (Grown TypedItem) (Grown TypedStatement) (grown_item text)
      (grown_statement text) x

  open_labels : (x : Statement-F BlockItem Statement) → labels_in (roll-Statement x)
      ≡ labels_step (map-Statement BlockItem Statement (List Name) (List Name) labels_of labels_in
      x)
  unfolding labels_of labels_in
  open_labels x = fold-roll-Statement (List Name) (List Name) labels_item labels_step x

  open_item : (x : BlockItem-F BlockItem Statement) → grown text (roll-BlockItem x)
      ≡ grown_item text (map-BlockItem BlockItem Statement (Grown TypedItem)
      (Grown TypedStatement) (grown text) (grown_of text) x)
  unfolding grown grown_of
  open_item x =
      fold-roll-BlockItem (Grown TypedItem) (Grown TypedStatement) (grown_item text)
      (grown_statement text) x

  open_item_labels : (x : BlockItem-F BlockItem Statement) → labels_of (roll-BlockItem x)
      ≡ labels_item (map-BlockItem BlockItem Statement (List Name) (List Name) labels_of labels_in
      x)
  unfolding labels_of labels_in
  open_item_labels x = fold-roll-BlockItem (List Name) (List Name) labels_item labels_step x

  at_statement : (y : Statement-F HeldItem HeldStatement) (x : Statement-F BlockItem Statement)
      → bare y ≡ x → StatementPasses (roll-Statement x)
  at_statement y x is =
      subst (λ (z : Statement-F BlockItem Statement). StatementPasses (roll-Statement z)) is
      (subst (λ (g : Grown TypedStatement). Passes g.walk
      (length (labels_in (roll-Statement (bare y))))) (sym (open_statement (bare y)))
      (subst (λ (names : List Name). Passes (grown_statement text (map-Statement BlockItem Statement
      (Grown TypedItem) (Grown TypedStatement) (grown text) (grown_of text) (bare y))).walk
      (length names)) (sym (open_labels (bare y))) (layer y)))

  abbrev pub bare_item : BlockItem-F HeldItem HeldStatement → BlockItem-F BlockItem Statement
  bare_item y = map-BlockItem HeldItem HeldStatement BlockItem Statement (λ e. e.0) (λ e. e.0) y

  item_layer : (y : BlockItem-F HeldItem HeldStatement)
      → Passes (grown_item text (map-BlockItem BlockItem Statement (Grown TypedItem)
      (Grown TypedStatement) (grown text) (grown_of text) (bare_item y))).walk
      (length (labels_item (map-BlockItem BlockItem Statement (List Name) (List Name) labels_of
      labels_in (bare_item y))))
  item_layer (BlockItem-F.Declaration declaration) = passes_declaration text declaration
  item_layer (BlockItem-F.Statement statement) = statement.1

  at_item : (y : BlockItem-F HeldItem HeldStatement) (x : BlockItem-F BlockItem Statement)
      → bare_item y ≡ x → ItemPasses (roll-BlockItem x)
  at_item y x is =
      subst (λ (z : BlockItem-F BlockItem Statement). ItemPasses (roll-BlockItem z)) is
      (subst (λ (g : Grown TypedItem). Passes g.walk
      (length (labels_of (roll-BlockItem (bare_item y))))) (sym (open_item (bare_item y)))
      (subst (λ (names : List Name). Passes (grown_item text (map-BlockItem BlockItem Statement
      (Grown TypedItem) (Grown TypedStatement) (grown text) (grown_of text) (bare_item y))).walk
      (length names)) (sym (open_item_labels (bare_item y))) (item_layer y)))

  pub statement_passes : (statement : Statement)
      → Passes (grown_of text statement).walk (length (labels_in statement))
  statement_passes =
      ind-Statement ItemPasses StatementPasses (λ x y is. at_item y x is)
      (λ x y is. at_statement y x is)
