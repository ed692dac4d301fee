-- The labels of a text's functions are numbered in order (`numbers_in_order`): the walk that counts
-- labels, the one that looks for their names and the typed tree go one way.
use Rattle.std.proofs.Common.{◌≡◌, ℕ, zero, suc, ◌+◌, true, List, [], ◌∷◌}
use Rattle.std.proofs.Common.{◌++◌, map, length, Option, None, Some, refl, ap, sym, ◌∙◌, subst}
use Rattle.std.proofs.Common.{arith, length-append}
use Rattle.std.specs.Prelude.{unwrap_or}
use Rattle.std.specs.List.{AllByRecursion, flat_map, range_with_len}
use Rattle.std.proofs.lemmas.List.{append-nil, map-append, length-map}
use Rattle.c_grammar_tree.specs.declared.name.Name.{Name}
use Rattle.c_grammar_tree.specs.declared.declaration.Specifiers.{Specifiers}
use Rattle.c_grammar_tree.specs.declared.statement.Statement.{Statement, roll-Statement}
use Rattle.c_grammar_tree.specs.declared.statement.BlockItem.{BlockItem, roll-BlockItem}
use Rattle.c_grammar_tree.specs.declared.statement.BlockItem.TheOpen.{BlockItem-F, Statement-F}
use Rattle.c_grammar_tree.specs.declared.statement.BlockItem.TheFolds.{ind-BlockItem, map-BlockItem}
use Rattle.c_grammar_tree.specs.declared.statement.BlockItem.TheFolds.{map-Statement}
use Rattle.c_grammar_tree.specs.declared.item.FunctionDeclarator.{FunctionDeclarator}
use Rattle.c_grammar_tree.specs.declared.item.Body.TheVariants as made
use Rattle.c_grammar_tree.specs.declared.item.Item.{Item}
use Rattle.c_grammar_tree.specs.declared.item.Item.TheVariants as item
use Rattle.c_grammar_tree.specs.declared.item.Unit.{Unit as UnitTree}
use Rattle.c_types_rules.specs.declared.typed.TypedDeclarator.{TypedDeclarator}
use Rattle.c_types_rules.specs.declared.typed.TypedItem.{TypedItem}
use Rattle.c_types_rules.specs.declared.typed.TypedItem.TheVariants as typed_item
use Rattle.c_types_rules.specs.declared.typed.TypedItem.TheOpen.{TypedItem-F, TypedStatement-F}
use Rattle.c_types_rules.specs.declared.typed.TypedItem.TheFolds.{map-TypedStatement}
use Rattle.c_types_rules.specs.declared.typed.TypedStatement.{TypedStatement, roll-TypedStatement}
use Rattle.c_types_rules.specs.declared.typed.TypedStatement.TheVariants as typed
use Rattle.c_types_rules.specs.Names.{Text}
use Rattle.c_types_rules.specs.Statements.{Around, in_order, receiving, labels_of, unnamed}
use Rattle.c_types_rules.specs.Statements.{inner, loop, start_walk, labeled, selected, switched}
use Rattle.c_types_rules.specs.Statements.{end_behind, labels_item, labels_step}
use Rattle.c_types_rules.specs.TypedStatements.{Grown, grown, grown_item, grown_statement}
use Rattle.c_types_rules.specs.TypedStatements.{label_number, typed_expression, typed_optional}
use Rattle.c_types_rules.specs.TypedStatements.{typed_for_start, typed_declaration, typed_function}
use Rattle.c_types_rules.specs.TypedStatements.{typed_break}
use Rattle.c_types_rules.specs.Items.{Before, text_in, listed, around_body, function_behind}
use Rattle.c_types_rules.specs.Items.{item_behind, nothing_before}
use Rattle.c_types_rules.specs.Sound.{functions_of, unit_functions}
use Rattle.c_core_checked.specs.Sound.{Sound}
use Rattle.c_core_laws.specs.Labels.{Label, Labelled, with_labels, function_labels, AreInOrder}
use Rattle.c_core_laws.specs.Labels as labelling
use Rattle.c_core_laws.specs.lemmas.SameWalk.{grown_of, open_grown_item, open_grown_statement}
use Rattle.c_core_laws.proofs.LabelBlocks.{labelled_in, open_item, open_statement}
use Rattle.c_core_laws.proofs.JumpsTyped.{labels_in, open_labels}
use Rattle.c_core_laws.proofs.JumpsTyped.{open_labels_item, items_typed, flat_items}
use Rattle.c_core_laws.proofs.JumpsTyped.{item_jumped, statement_jumped, quiet_start}
use Rattle.c_core_laws.proofs.FunctionsJump.{quiet_receiving}
use Rattle.cpa_ints.specs.declared.data_model.DataModel.{DataModel}

-- the numbers of the labels in typed statements

abbrev numbers_of : List Label → List ℕ
numbers_of labels = map (λ (label : Label). label.number) labels

abbrev numbers_in : TypedStatement → List ℕ
numbers_in s = numbers_of (labelled_in s).labels

abbrev item_numbers : TypedItem → List ℕ
item_numbers one = numbers_of (with_labels one).labels

numbers_append : (a b : List Label) → numbers_of (a ++ b) ≡ numbers_of a ++ numbers_of b
numbers_append a b = map-append (λ (label : Label). label.number) a b

numbers_flat : (items : List TypedItem) →
    numbers_of (flat_map (λ (one : TypedItem). (with_labels one).labels) items)
    ≡ flat_map item_numbers items
numbers_flat [] = refl
numbers_flat (one ∷ items) =
    numbers_append (with_labels one).labels
    (flat_map (λ (other : TypedItem). (with_labels other).labels) items)
    ∙ ap (λ (ns : List ℕ). item_numbers one ++ ns) (numbers_flat items)

numbers_held : (items : List TypedItem) →
    numbers_of (flat_map (λ (one : Labelled TypedItem). one.labels) (map with_labels items))
    ≡ flat_map item_numbers items
numbers_held [] = refl
numbers_held (one ∷ items) =
    numbers_append (with_labels one).labels
    (flat_map (λ (other : Labelled TypedItem). other.labels) (map with_labels items))
    ∙ ap (λ (ns : List ℕ). item_numbers one ++ ns) (numbers_held items)

abbrev step_numbers : TypedStatement-F TypedItem TypedStatement → List ℕ
step_numbers x = numbers_of (labelling.labels_step (map-TypedStatement TypedItem TypedStatement
    (Labelled TypedItem) (Labelled TypedStatement) with_labels labelled_in x))

of_step : (x : TypedStatement-F TypedItem TypedStatement) →
    numbers_in (roll-TypedStatement x) ≡ step_numbers x
of_step x = ap (λ (one : Labelled TypedStatement). numbers_of one.labels) (open_statement x)

abbrev numbers_are : {s t : TypedStatement} → s ≡ t → numbers_in s ≡ numbers_in t
numbers_are is = ap (λ (s : TypedStatement). numbers_in s) is

of_declaration : (declarators : List TypedDeclarator) →
    item_numbers (typed_item.Declaration declarators) ≡ []
of_declaration declarators =
    ap (λ (one : TypedItem). item_numbers one) (sym (typed_item.rolls-Declaration declarators))
    ∙ ap (λ (one : Labelled TypedItem). numbers_of one.labels)
    (open_item (TypedItem-F.Declaration declarators))

of_statement : (s : TypedStatement) → item_numbers (typed_item.Statement s) ≡ numbers_in s
of_statement s =
    ap (λ (one : TypedItem). item_numbers one) (sym (typed_item.rolls-Statement s))
    ∙ ap (λ (one : Labelled TypedItem). numbers_of one.labels)
    (open_item (TypedItem-F.Statement s))

-- numbers in order, one list behind the other

none_behind : (n : ℕ) → n + 0 ≡ n
none_behind n = omega arith

none_before : (n : ℕ) → 0 + n ≡ n
none_before n = omega arith

one_further : (a m : ℕ) → a + suc m ≡ (a + 1) + m
one_further a m = omega arith

one_longer : (m n : ℕ) → suc (m + n) ≡ suc m + n
one_longer m n = omega arith

range_append : (a m n : ℕ) →
    range_with_len a m ++ range_with_len (a + m) n ≡ range_with_len a (m + n)
range_append a zero n =
    ap (λ b. range_with_len b n) (none_behind a)
    ∙ ap (λ k. range_with_len a k) (sym (none_before n))
range_append a (suc m) n =
    ap (λ b. a ∷ (range_with_len (a + 1) m ++ range_with_len b n)) (one_further a m)
    ∙ ap (λ (ns : List ℕ). a ∷ ns) (range_append (a + 1) m n)
    ∙ ap (λ k. range_with_len a k) (one_longer m n)

ranges_then : (a b m n : ℕ) (xs ys : List ℕ) → xs ≡ range_with_len a m →
    ys ≡ range_with_len b n → b ≡ a + m → xs ++ ys ≡ range_with_len a (m + n)
ranges_then a b m n xs ys is are at =
    ap (λ (ns : List ℕ). ns ++ ys) is
    ∙ ap (λ (ns : List ℕ). range_with_len a m ++ ns)
    (are ∙ ap (λ c. range_with_len c n) at) ∙ range_append a m n

-- a label in front of a statement
in_front : (number : ℕ) (names : List Name) (s : TypedStatement) (place : ℕ) →
    numbers_in s ≡ range_with_len (number + 1) (length names) →
    numbers_in (typed.Labeled number s place) ≡ range_with_len number (suc (length names))
in_front number names s place is =
    numbers_are (sym (typed.rolls-Labeled number s place))
    ∙ of_step (TypedStatement-F.Labeled number s place) ∙ ap (λ (ns : List ℕ). number ∷ ns) is

none_in_break : (to : Option ℕ) (place : ℕ) → numbers_in (typed_break to place) ≡ []
none_in_break None place = numbers_are (sym (typed.rolls-Break place)) ∙ of_step
    (TypedStatement-F.Break place)
none_in_break (Some end) place =
    numbers_are (sym (typed.rolls-Goto end place)) ∙ of_step (TypedStatement-F.Goto end place)

module _ (text : Text) where
  -- a part with labels of these names: their numbers follow those of the labels before it
  record Named {T : Type 0} (counts : T → List ℕ) (part : Grown T) (names : List Name) : Type 0
    where
      numbered : (around : Around) →
          counts (part.typed around) ≡ range_with_len around.passed (length names)

  abbrev ItemNamed : BlockItem → Type 0
  ItemNamed one = Named item_numbers (grown text one) (labels_of one)

  abbrev StatementNamed : Statement → Type 0
  StatementNamed s = Named numbers_in (grown_of text s) (labels_in text s)

  abbrev HeldItem : Type 0
  HeldItem = (one : BlockItem) × ItemNamed one

  abbrev HeldStatement : Type 0
  HeldStatement = (s : Statement) × StatementNamed s

  abbrev bare_item : BlockItem-F HeldItem HeldStatement → BlockItem-F BlockItem Statement
  bare_item y = map-BlockItem HeldItem HeldStatement BlockItem Statement (λ e. e.0) (λ e. e.0) y

  abbrev bare : Statement-F HeldItem HeldStatement → Statement-F BlockItem Statement
  bare y = map-Statement HeldItem HeldStatement BlockItem Statement (λ e. e.0) (λ e. e.0) y

  abbrev grown_layer : Statement-F HeldItem HeldStatement → Grown TypedStatement
  grown_layer y = grown_statement text (map-Statement BlockItem Statement (Grown TypedItem)
      (Grown TypedStatement) (grown text) (grown_of text) (bare y))

  abbrev names_layer : Statement-F HeldItem HeldStatement → List Name
  names_layer y = labels_step (map-Statement BlockItem Statement (List Name) (List Name)
      labels_of (labels_in text) (bare y))

  items_numbered : (items : List BlockItem) → AllByRecursion ItemNamed items → (around : Around) →
      flat_map item_numbers (items_typed text items around)
      ≡ range_with_len around.passed (length (flat_map labels_of items))
  items_numbered [] all around = refl
  items_numbered (one ∷ items) all around =
      let g = grown text one in
      let behind = g.walk.behind around in
      let m = length (labels_of one) in
      let n = length (flat_map labels_of items) in
      ranges_then around.passed behind.passed m n (item_numbers (g.typed around))
      (flat_map item_numbers (items_typed text items behind)) (all.0.numbered around)
      (items_numbered items all.1 behind) ((item_jumped text one).counts.passes around)
      ∙ ap (λ k. range_with_len around.passed k)
      (sym (length-append (labels_of one) (flat_map labels_of items)))

  all_held : (held : List HeldItem) → AllByRecursion ItemNamed (map (λ (e : HeldItem). e.0) held)
  all_held [] = tt
  all_held (one ∷ held) = (one.1, all_held held)

  layer : (y : Statement-F HeldItem HeldStatement) →
      Named numbers_in (grown_layer y) (names_layer y)
  layer (Statement-F.Block held place) =
      let items = map (λ (e : HeldItem). e.0) held in record {
        numbered = λ around.
            let parts = items_typed text items (inner around) in
            numbers_are (sym (typed.rolls-Block parts place)) ∙ of_step
            (TypedStatement-F.Block parts place)
            ∙ numbers_held parts ∙ items_numbered items (all_held held) (inner around)
            ∙ ap (λ (ns : List Name). range_with_len around.passed (length ns))
            (sym (flat_items text items));
      }
  layer (Statement-F.Expression expression place) = record {
    numbered = λ around.
        let e = typed_optional text around expression in
        numbers_are (sym (typed.rolls-Expression e place)) ∙ of_step
        (TypedStatement-F.Expression e place);
  }
  layer (Statement-F.If test first None place) =
      let g = grown_of text first.0 in
      let names = labels_in text first.0 in record {
        numbered = λ around.
            let e = typed_expression text around test in
            let s = g.typed around in
            numbers_are (sym (typed.rolls-If e s None place)) ∙ of_step
            (TypedStatement-F.If e s None place)
            ∙ numbers_append (labelled_in s).labels []
            ∙ append-nil (numbers_in s) ∙ first.1.numbered around
            ∙ ap (λ (ns : List Name). range_with_len around.passed (length ns))
            (sym (append-nil names));
      }
  layer (Statement-F.If test first (Some second) place) =
      let g = grown_of text first.0 in
      let h = grown_of text second.0 in
      let m = length (labels_in text first.0) in
      let n = length (labels_in text second.0) in record {
        numbered = λ around.
            let behind = g.walk.behind around in
            let e = typed_expression text around test in
            let s = g.typed around in
            let t = h.typed behind in
            numbers_are (sym (typed.rolls-If e s (Some t) place))
            ∙ of_step (TypedStatement-F.If e s (Some t) place)
            ∙ numbers_append (labelled_in s).labels (labelled_in t).labels
            ∙ ranges_then around.passed behind.passed m n (numbers_in s) (numbers_in t)
            (first.1.numbered around) (second.1.numbered behind)
            ((statement_jumped text first.0).counts.passes around)
            ∙ ap (λ k. range_with_len around.passed k)
            (sym (length-append (labels_in text first.0) (labels_in text second.0)));
      }
  layer (Statement-F.While test body place) =
      let g = grown_of text body.0 in record {
        numbered = λ around.
            let e = typed_expression text around test in
            let s = g.typed (loop around) in
            numbers_are (sym (typed.rolls-While e s place)) ∙ of_step
            (TypedStatement-F.While e s place)
            ∙ body.1.numbered (loop around);
      }
  layer (Statement-F.Do body test place) =
      let g = grown_of text body.0 in record {
        numbered = λ around.
            let e = typed_expression text around test in
            let s = g.typed (loop around) in
            numbers_are (sym (typed.rolls-Do s e place)) ∙ of_step (TypedStatement-F.Do s e place)
            ∙ body.1.numbered (loop around);
      }
  layer (Statement-F.For first test step body place) =
      let g = grown_of text body.0 in
      let n = length (labels_in text body.0) in record {
        numbered = λ around.
            let here = inner around in
            let behind = (start_walk text first).behind here in
            let a = typed_for_start text first here in
            let b = typed_optional text behind test in
            let c = typed_optional text behind step in
            let s = g.typed (loop behind) in
            numbers_are (sym (typed.rolls-For a b c s place)) ∙ of_step
            (TypedStatement-F.For a b c s place)
            ∙ body.1.numbered (loop behind)
            ∙ ap (λ k. range_with_len k n) ((quiet_start text first).passed here);
      }
  layer (Statement-F.Goto label place) = record {
    numbered = λ around.
        let k = label_number around label in
        numbers_are (sym (typed.rolls-Goto k place)) ∙ of_step (TypedStatement-F.Goto k place);
  }
  layer (Statement-F.Switch value body place) =
      let g = grown_of text body.0 in
      let n = length (labels_in text body.0) in record {
        numbered = λ around.
            let end = end_behind g.walk around in
            let within = switched text value end around in
            let behind = g.walk.behind within in
            let e = typed_expression text around value in
            let s = g.typed within in
            let other = unwrap_or behind.otherwise end in
            let last = labelling.end_label end place ∷ [] in
            numbers_are (sym (typed.rolls-Switch e behind.choices other s end place))
            ∙ of_step (TypedStatement-F.Switch e behind.choices other s end place)
            ∙ numbers_append (labelled_in s).labels last
            ∙ ranges_then around.passed end n 1 (numbers_in s) (end ∷ [])
            (body.1.numbered within) refl
            ((statement_jumped text body.0).counts.passes around)
            ∙ ap (λ k. range_with_len around.passed k)
            (sym (length-append (labels_in text body.0) (unnamed ∷ [])));
      }
  layer (Statement-F.Case value body place) = record {
    numbered = λ around.
        let after = selected text (Some value) around in
        in_front around.passed (labels_in text body.0) ((grown_of text body.0).typed after) place
        (body.1.numbered after);
  }
  layer (Statement-F.Default body place) = record {
    numbered = λ around.
        let after = selected text None around in
        in_front around.passed (labels_in text body.0) ((grown_of text body.0).typed after) place
        (body.1.numbered after);
  }
  layer (Statement-F.Break place) = record {
    numbered = λ around. none_in_break around.break_to place;
  }
  layer (Statement-F.Continue place) = record {
    numbered = λ around. numbers_are (sym (typed.rolls-Continue place)) ∙ of_step
        (TypedStatement-F.Continue place);
  }
  layer (Statement-F.Return value place) = record {
    numbered = λ around.
        let e = typed_optional text around value in
        numbers_are (sym (typed.rolls-Return e place)) ∙ of_step (TypedStatement-F.Return e place);
  }
  layer (Statement-F.Labeled label body) = record {
    numbered = λ around.
        let after = labeled around in
        in_front around.passed (labels_in text body.0) ((grown_of text body.0).typed after)
        label.place
        (body.1.numbered after);
  }

  item_layer : (y : BlockItem-F HeldItem HeldStatement) →
      Named item_numbers (grown_item text (map-BlockItem BlockItem Statement (Grown TypedItem)
      (Grown TypedStatement) (grown text) (grown_of text) (bare_item y)))
      (labels_item (map-BlockItem BlockItem Statement (List Name) (List Name) labels_of
      (labels_in text) (bare_item y)))
  item_layer (BlockItem-F.Declaration declaration) = record {
    numbered = λ around.
        of_declaration (typed_declaration text declaration around);
  }
  item_layer (BlockItem-F.Statement s) = record {
    numbered = λ around. of_statement ((grown_of text s.0).typed around) ∙ s.1.numbered around;
  }

  at_statement : (y : Statement-F HeldItem HeldStatement) (x : Statement-F BlockItem Statement) →
      bare y ≡ x → StatementNamed (roll-Statement x)
  at_statement y x is =
      subst (λ (z : Statement-F BlockItem Statement). StatementNamed (roll-Statement z)) is
      (subst (λ (g : Grown TypedStatement).
      Named numbers_in g (labels_in text (roll-Statement (bare y))))
      (sym (open_grown_statement text (bare y)))
      (subst (λ (names : List Name). Named numbers_in (grown_layer y) names)
      (sym (open_labels text (bare y))) (layer y)))

  at_item : (y : BlockItem-F HeldItem HeldStatement) (x : BlockItem-F BlockItem Statement) →
      bare_item y ≡ x → ItemNamed (roll-BlockItem x)
  at_item y x is =
      subst (λ (z : BlockItem-F BlockItem Statement). ItemNamed (roll-BlockItem z)) is
      (subst (λ (g : Grown TypedItem).
      Named item_numbers g (labels_of (roll-BlockItem (bare_item y))))
      (sym (open_grown_item text (bare_item y)))
      (subst (λ (names : List Name). Named item_numbers (grown_item text (map-BlockItem BlockItem
      Statement (Grown TypedItem) (Grown TypedStatement) (grown text) (grown_of text)
      (bare_item y))) names) (sym (open_labels_item text (bare_item y))) (item_layer y)))

  item_named : (one : BlockItem) → ItemNamed one
  item_named =
      ind-BlockItem ItemNamed StatementNamed (λ x y is. at_item y x is)
      (λ x y is. at_statement y x is)

  all_named : (items : List BlockItem) → AllByRecursion ItemNamed items
  all_named [] = tt
  all_named (one ∷ items) = (item_named one, all_named items)

range_long : (a n : ℕ) → length (range_with_len a n) ≡ n
range_long a zero = refl
range_long a (suc n) = ap suc (range_long (a + 1) n)

-- functions

function_in_order : (text : Text) (before : Before) (specifiers : Specifiers)
    (declarator : FunctionDeclarator) (items : List BlockItem) (place end : ℕ) →
    AreInOrder (typed_function text before specifiers declarator items place end)
function_in_order text before specifiers declarator items place end =
    let function = typed_function text before specifiers declarator items place end in
    let front = in_order (map (receiving text) (listed declarator.parameters)) in
    let first = around_body text (function_behind text true specifiers declarator before) specifiers
    items in
    let around = front.behind first in
    let n = length (flat_map labels_of items) in
    let labels = function_labels function in
    let numbers : numbers_of labels ≡ range_with_len 0 n =
    numbers_flat function.items ∙ items_numbered text items (all_named text items) around
    ∙ ap (λ k. range_with_len k n)
    ((quiet_receiving text (listed declarator.parameters)).passed first) in
    let many : n ≡ length labels =
    sym (range_long 0 n) ∙ ap (λ (ns : List ℕ). length ns) (sym numbers)
    ∙ length-map labels (λ (label : Label). label.number) in
    numbers ∙ ap (λ k. range_with_len 0 k) many

functions_in_order : (text : Text) (items : List Item) (before : Before) →
    AllByRecursion AreInOrder (functions_of text items before)
functions_in_order text [] before = tt
functions_in_order text (item.Empty place ∷ more) before =
    functions_in_order text more (item_behind text (item.Empty place) before)
functions_in_order text (item.Typedef specifiers names place ∷ more) before =
    functions_in_order text more (item_behind text (item.Typedef specifiers names place) before)
functions_in_order text (item.Objects declaration ∷ more) before =
    functions_in_order text more (item_behind text (item.Objects declaration) before)
functions_in_order text (item.Prototype specifiers declarator ∷ more) before =
    functions_in_order text more (item_behind text (item.Prototype specifiers declarator) before)
functions_in_order text (item.Function specifiers declarator made.Skipped ∷ more) before =
    functions_in_order text more
    (item_behind text (item.Function specifiers declarator made.Skipped) before)
functions_in_order text (item.Function specifiers declarator (made.Block items place end) ∷ more)
    before = (
      function_in_order text before specifiers declarator items place end,
      functions_in_order text more
          (item_behind text (item.Function specifiers declarator (made.Block items place end))
          before),
    )

pub numbers_in_order : (model : DataModel) (tree : UnitTree) → Sound model tree →
    AllByRecursion AreInOrder (unit_functions model tree)
numbers_in_order model tree sound = functions_in_order
    (text_in model tree.items) tree.items nothing_before
