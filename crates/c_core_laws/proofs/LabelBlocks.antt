-- The labelled blocks of a function's tree are those of its labels, in order (`blocks_are`).
use Rattle.std.proofs.Common.{◌≡◌, ℕ, suc, ◌+◌, Bool, false, List, [], ◌∷◌, ◌++◌, map, length}
use Rattle.std.proofs.Common.{Option, None, Some, refl, ap, sym, ◌∙◌, subst, arith, length-append}
use Rattle.std.proofs.Common.{append_assoc}
use Rattle.std.specs.Prelude.{unwrap_or}
use Rattle.std.specs.List.{AllByRecursion, flat_map, range_with_len}
use Rattle.std.proofs.lemmas.List.{append-nil}
use Rattle.cpa_expr.specs.declared.tree.Expr.{Expr}
use Rattle.c_types_rules.specs.declared.typed.Choice.{Choice}
use Rattle.c_types_rules.specs.declared.typed.TypedExpression.{TypedExpression}
use Rattle.c_types_rules.specs.declared.typed.TypedItem.{TypedItem, roll-TypedItem}
use Rattle.c_types_rules.specs.declared.typed.TypedItem.TheOpen.{TypedItem-F, TypedStatement-F}
use Rattle.c_types_rules.specs.declared.typed.TypedItem.TheFolds.{map-TypedItem, map-TypedStatement}
use Rattle.c_types_rules.specs.declared.typed.TypedItem.TheFolds.{ind-TypedItem, ind-TypedStatement}
use Rattle.c_types_rules.specs.declared.typed.TypedItem.TheFolds.{fold-TypedStatement}
use Rattle.c_types_rules.specs.declared.typed.TypedItem.TheFolds.{fold-roll-TypedItem}
use Rattle.c_types_rules.specs.declared.typed.TypedItem.TheFolds.{fold-roll-TypedStatement}
use Rattle.c_types_rules.specs.declared.typed.TypedStatement.{TypedStatement, roll-TypedStatement}
use Rattle.c_types_rules.specs.declared.typed.TypedStatement.TheVariants as typed
use Rattle.c_types_rules.specs.declared.typed.TypedFunction.{TypedFunction}
use Rattle.c_types_rules.specs.Types.{object_type}
use Rattle.cpa_model_trees.specs.declared.tree.CoreTree.{CoreTree}
use Rattle.cpa_model_trees.specs.declared.tree.CoreTree.TheVariants.{Node}
use Rattle.cpa_model_trees.specs.declared.tree.Head.{Head}
use Rattle.cpa_model_trees.specs.declared.tree.Head.TheVariants as head
use Rattle.c_core_rules.specs.declared.tree.Location.{Location}
use Rattle.c_core_rules.specs.declared.tree.Usage.TheVariants.{Used}
use Rattle.c_core_rules.specs.Values.{cell_at}
use Rattle.cpa_model_trees.specs.Numbering.{Trees, Placed, joined, statements, label_here}
use Rattle.cpa_model_trees.specs.Numbering.{labels_from, part}
use Rattle.c_core_rules.specs.Trees.{leaf, block, labeled, choice, repeated}
use Rattle.c_core_rules.specs.Cells.{Taken, nothing_taken}
use Rattle.c_core_rules.specs.Cells as core
use Rattle.c_core_rules.specs.Expressions as rows
use Rattle.c_core_rules.specs.Statements as statement
use Rattle.c_core_laws.specs.Jumps.{Jumps}
use Rattle.c_core_laws.specs.Labels.{Label, Labelled, labels_step, item_labels_step, end_label}
use Rattle.c_core_laws.specs.Labels.{labelled_statement, labelled_item, with_labels}
use Rattle.c_core_laws.specs.Labels.{function_labels, AreInOrder, IsBlockOf, core_statement}
use Rattle.c_core_laws.specs.lemmas.CoreItems.{open_core_item, open_core_statement}
use Rattle.cpa_model_trees.specs.lemmas.Nodes.{node_placed, joined_fit}
use Rattle.c_core_laws.proofs.Shapes.{Makes, makes, makes_then}
use Rattle.c_core_laws.proofs.ShapedExpressions.{expression_makes}
use Rattle.c_core_laws.proofs.Jumping.{Has, has_plain, trees_jumps}
use Rattle.cpa_model_trees.specs.Shapes.{Anything}
use Rattle.c_core_laws.proofs.JumpsKept.{Loose, makes_weaker, unused_makes, left_makes}
use Rattle.c_core_laws.proofs.JumpsKept.{receiving_makes, switch_makes, asking}
use Rattle.c_core_laws.proofs.JumpsKept.{started_makes, returned_makes, each_declared}
use Rattle.c_core_laws.proofs.JumpsKept.{resulting_makes, for_tree, function_from}
use Rattle.c_core_laws.proofs.ShapedRows.{AllShaped, makes_ordered}
use Rattle.cpa_model_trees.specs.lemmas.Numbered.{get_right}
use Rattle.c_core_laws.proofs.Gotos.{labels_append, forest_marked, each_marked}

-- the statements of trees, one behind the other
abbrev placed_of : Trees → List Placed
placed_of trees = joined (map statements trees)

joined_placed : (xs ys : Trees) → placed_of (xs ++ ys) ≡ placed_of xs ++ placed_of ys
joined_placed [] ys = refl
joined_placed (t ∷ xs) ys =
    ap (λ (ps : List Placed). statements t ++ ps) (joined_placed xs ys)
    ∙ sym (append_assoc (statements t) (placed_of xs) (placed_of ys))

-- so many labelled blocks stand among these, wherever the first of them stands
record Many (placed : List Placed) (k : ℕ) : Type 0 where
  are : (n : ℕ) → length (labels_from n placed) ≡ k

many_then : (a b : List Placed) (j k : ℕ) → Many a j → Many b k → Many (a ++ b) (j + k)
many_then a b j k h m = record {
  are = λ n.
      ap (λ (ls : List ℕ). length ls) (labels_append n a b)
      ∙ length-append (labels_from n a) (labels_from (n + length a) b)
      ∙ ap (λ x. x + length (labels_from (n + length a) b)) (h.are n)
      ∙ ap (λ x. j + x) (m.are (n + length a));
}

many_has : (loose : Bool) (trees : Trees) →
    Has (record { labels = 0; gotos = []; loose = loose }) trees → Many (placed_of trees) 0
unfolding trees_jumps
many_has loose trees h = record {
  are = λ n.
      forest_marked trees (each_marked trees) n (joined_fit Anything trees h.shaped)
      ∙ ap (λ (a : Jumps). a.labels) h.are;
}

many_plain : (trees : Trees) → AllShaped trees → Many (placed_of trees) 0
many_plain trees h = many_has false trees (has_plain trees h)

many_loose : (trees : Trees) → Loose trees → Many (placed_of trees) 0
many_loose trees h = many_has h.loose trees h.has

-- a statement with its labels is the statement

unfoldable pub labelled_in : TypedStatement → Labelled TypedStatement
labelled_in =
    fold-TypedStatement (Labelled TypedItem) (Labelled TypedStatement) labelled_item
    labelled_statement

pub open_item : (x : TypedItem-F TypedItem TypedStatement) →
    with_labels (roll-TypedItem x)
    ≡ labelled_item (map-TypedItem TypedItem TypedStatement (Labelled TypedItem)
    (Labelled TypedStatement) with_labels labelled_in x)
unfolding with_labels labelled_in
open_item x =
    fold-roll-TypedItem (Labelled TypedItem) (Labelled TypedStatement) labelled_item
    labelled_statement x

pub open_statement : (x : TypedStatement-F TypedItem TypedStatement) →
    labelled_in (roll-TypedStatement x)
    ≡ labelled_statement (map-TypedStatement TypedItem TypedStatement (Labelled TypedItem)
    (Labelled TypedStatement) with_labels labelled_in x)
unfolding with_labels labelled_in
open_statement x =
    fold-roll-TypedStatement (Labelled TypedItem) (Labelled TypedStatement) labelled_item
    labelled_statement x

abbrev WholeItem : TypedItem → Type 0
WholeItem item = (with_labels item).whole ≡ item

abbrev WholeStatement : TypedStatement → Type 0
WholeStatement s = (labelled_in s).whole ≡ s

abbrev HeldWhole : Type 0
HeldWhole = (item : TypedItem) × WholeItem item

abbrev HeldWholeStatement : Type 0
HeldWholeStatement = (s : TypedStatement) × WholeStatement s

whole_items : (held : List HeldWhole) →
    map (λ (one : Labelled TypedItem). one.whole)
    (map with_labels (map (λ (e : HeldWhole). e.0) held))
    ≡ map (λ (e : HeldWhole). e.0) held
whole_items [] = refl
whole_items (item ∷ held) =
    ap (λ (t : TypedItem). t ∷ map (λ (one : Labelled TypedItem). one.whole)
    (map with_labels (map (λ (e : HeldWhole). e.0) held))) item.1
    ∙ ap (λ (ts : List TypedItem). item.0 ∷ ts) (whole_items held)

abbrev whole_bare : TypedStatement-F HeldWhole HeldWholeStatement →
    TypedStatement-F TypedItem TypedStatement
whole_bare y = map-TypedStatement HeldWhole HeldWholeStatement TypedItem TypedStatement
    (λ e. e.0) (λ e. e.0) y

abbrev whole_bare_item : TypedItem-F HeldWhole HeldWholeStatement →
    TypedItem-F TypedItem TypedStatement
whole_bare_item y = map-TypedItem HeldWhole HeldWholeStatement TypedItem TypedStatement
    (λ e. e.0) (λ e. e.0) y

-- the whole of a layer, each part with its labels
abbrev again : TypedStatement-F TypedItem TypedStatement →
    TypedStatement-F TypedItem TypedStatement
again x = map-TypedStatement (Labelled TypedItem) (Labelled TypedStatement) TypedItem
    TypedStatement (λ one. one.whole) (λ one. one.whole)
    (map-TypedStatement TypedItem TypedStatement (Labelled TypedItem) (Labelled TypedStatement)
    with_labels labelled_in x)

abbrev again_item : TypedItem-F TypedItem TypedStatement → TypedItem-F TypedItem TypedStatement
again_item x = map-TypedItem (Labelled TypedItem) (Labelled TypedStatement) TypedItem
    TypedStatement (λ one. one.whole) (λ one. one.whole)
    (map-TypedItem TypedItem TypedStatement (Labelled TypedItem) (Labelled TypedStatement)
    with_labels labelled_in x)

whole_layer : (y : TypedStatement-F HeldWhole HeldWholeStatement) →
    again (whole_bare y) ≡ whole_bare y
whole_layer (TypedStatement-F.Block items origin) =
    ap (λ (ts : List TypedItem). TypedStatement-F.Block ts origin) (whole_items items)
whole_layer (TypedStatement-F.Expression expression origin) = refl
whole_layer (TypedStatement-F.If test first None origin) =
    ap (λ (s : TypedStatement). TypedStatement-F.If test s None origin) first.1
whole_layer (TypedStatement-F.If test first (Some second) origin) =
    ap (λ (s : TypedStatement). TypedStatement-F.If test s (Some (labelled_in second.0).whole)
    origin) first.1
    ∙ ap (λ (s : TypedStatement). TypedStatement-F.If test first.0 (Some s) origin) second.1
whole_layer (TypedStatement-F.While test body origin) =
    ap (λ (s : TypedStatement). TypedStatement-F.While test s origin) body.1
whole_layer (TypedStatement-F.Do body test origin) =
    ap (λ (s : TypedStatement). TypedStatement-F.Do s test origin) body.1
whole_layer (TypedStatement-F.For first test step body origin) =
    ap (λ (s : TypedStatement). TypedStatement-F.For first test step s origin) body.1
whole_layer (TypedStatement-F.Goto label origin) = refl
whole_layer (TypedStatement-F.Break origin) = refl
whole_layer (TypedStatement-F.Continue origin) = refl
whole_layer (TypedStatement-F.Return value origin) = refl
whole_layer (TypedStatement-F.Labeled label body origin) =
    ap (λ (s : TypedStatement). TypedStatement-F.Labeled label s origin) body.1
whole_layer (TypedStatement-F.Switch value choices otherwise body end origin) =
    ap (λ (s : TypedStatement). TypedStatement-F.Switch value choices otherwise s end origin) body.1

whole_item_layer : (y : TypedItem-F HeldWhole HeldWholeStatement) →
    again_item (whole_bare_item y) ≡ whole_bare_item y
whole_item_layer (TypedItem-F.Declaration declarators) = refl
whole_item_layer (TypedItem-F.Statement s) =
    ap (λ (t : TypedStatement). TypedItem-F.Statement t) s.1

whole_statement : (s : TypedStatement) → WholeStatement s
whole_statement =
    ind-TypedStatement WholeItem WholeStatement
    (λ x y is. subst (λ (z : TypedItem-F TypedItem TypedStatement). WholeItem (roll-TypedItem z)) is
    (ap (λ (one : Labelled TypedItem). one.whole) (open_item (whole_bare_item y))
    ∙ ap (λ (z : TypedItem-F TypedItem TypedStatement). roll-TypedItem z) (whole_item_layer y)))
    (λ x y is. subst (λ (z : TypedStatement-F TypedItem TypedStatement).
    WholeStatement (roll-TypedStatement z)) is
    (ap (λ (one : Labelled TypedStatement). one.whole) (open_statement (whole_bare y))
    ∙ ap (λ (z : TypedStatement-F TypedItem TypedStatement). roll-TypedStatement z)
    (whole_layer y)))

after_one : (j k : ℕ) → j + (k + 1) ≡ (j + k) + 1
after_one j k = omega arith

none_behind : (k : ℕ) → k + 0 ≡ k
none_behind k = omega arith

one_before : (k n : ℕ) → k + suc n ≡ (k + 1) + n
one_before k n = omega arith

from_nothing : (n : ℕ) → n + 0 ≡ 0 + n
from_nothing n = omega arith

one_and : (n : ℕ) → 1 + n ≡ suc n
one_and n = omega arith

from_one : 1 + 0 ≡ 0 + 1
from_one = omega arith

module _ (frames : rows.Frames) (place : Location) where
  -- the statements of the block of a label
  abbrev block_of : ℕ → TypedStatement → Taken → List Placed
  block_of origin body taken =
      statements (Node head.Labeled (core_statement frames place body taken).made origin)

  -- behind k labelled blocks stands that of this statement
  record StandsAt (placed : List Placed) (k : ℕ) (body : TypedStatement) : Type 0 where
    before : List Placed
    behind : List Placed
    taken : Taken
    origin : ℕ
    stands : placed ≡ before ++ (block_of origin body taken ++ behind)
    many : Many before k

  -- those of these labels stand behind k, k + 1, ..
  abbrev StandFrom : List Placed → ℕ → List Label → Type 0
  StandFrom placed k [] = Unit {0}
  StandFrom placed k (label ∷ labels) =
      StandsAt placed k label.body × StandFrom placed (k + 1) labels

  at_left : (a b : List Placed) (k : ℕ) (body : TypedStatement) → StandsAt a k body →
      StandsAt (a ++ b) k body
  at_left a b k body s =
      let own = block_of s.origin body s.taken in record {
        before = s.before;
        behind = s.behind ++ b;
        taken = s.taken;
        origin = s.origin;
        stands = ap (λ (ps : List Placed). ps ++ b) s.stands
            ∙ append_assoc s.before (own ++ s.behind) b
            ∙ ap (λ (ps : List Placed). s.before ++ ps) (append_assoc own s.behind b);
        many = s.many;
      }

  at_right : (a b : List Placed) (j k : ℕ) (body : TypedStatement) → Many a j →
      StandsAt b k body → StandsAt (a ++ b) (j + k) body
  at_right a b j k body m s =
      let own = block_of s.origin body s.taken in record {
        before = a ++ s.before;
        behind = s.behind;
        taken = s.taken;
        origin = s.origin;
        stands = ap (λ (ps : List Placed). a ++ ps) s.stands
            ∙ sym (append_assoc a s.before (own ++ s.behind));
        many = many_then a s.before j k m s.many;
      }

  from_left : (a b : List Placed) (k : ℕ) (labels : List Label) → StandFrom a k labels →
      StandFrom (a ++ b) k labels
  from_left a b k [] s = tt
  from_left a b k (label ∷ labels) s =
      (at_left a b k label.body s.0, from_left a b (k + 1) labels s.1)

  from_right : (a b : List Placed) (j k : ℕ) (labels : List Label) → Many a j →
      StandFrom b k labels → StandFrom (a ++ b) (j + k) labels
  from_right a b j k [] m s = tt
  from_right a b j k (label ∷ labels) m s = (
    at_right a b j k label.body m s.0,
    subst (λ n. StandFrom (a ++ b) n labels) (after_one j k)
        (from_right a b j (k + 1) labels m s.1),
  )

  from_both : (placed : List Placed) (k : ℕ) (xs ys : List Label) → StandFrom placed k xs →
      StandFrom placed (k + length xs) ys → StandFrom placed k (xs ++ ys)
  from_both placed k [] ys s t = subst (λ n. StandFrom placed n ys) (none_behind k) t
  from_both placed k (x ∷ xs) ys s t = (
    s.0,
    from_both placed (k + 1) xs ys s.1
        (subst (λ n. StandFrom placed n ys) (one_before k (length xs)) t),
  )

  -- the labelled blocks of these statements are those of these labels
  record Marks (labels : List Label) (placed : List Placed) : Type 0 where
    many : Many placed (length labels)
    each : StandFrom placed 0 labels

  no_marks : (placed : List Placed) → Many placed 0 → Marks [] placed
  no_marks placed m = record { many = m; each = tt }

  marks_then : (xs ys : List Label) (a b : List Placed) → Marks xs a → Marks ys b →
      Marks (xs ++ ys) (a ++ b)
  marks_then xs ys a b h k = record {
    many = subst (Many (a ++ b)) (sym (length-append xs ys))
        (many_then a b (length xs) (length ys) h.many k.many);
    each = from_both (a ++ b) 0 xs ys (from_left a b 0 xs h.each)
        (subst (λ n. StandFrom (a ++ b) n ys) (from_nothing (length xs))
        (from_right a b (length xs) 0 ys h.many k.each));
  }

  -- the same of trees
  record Mark (labels : List Label) (trees : Trees) : Type 0 where
    marks : Marks labels (placed_of trees)

  mark_then : (xs ys : List Label) (a b : Trees) → Mark xs a → Mark ys b →
      Mark (xs ++ ys) (a ++ b)
  mark_then xs ys a b h k = record {
    marks = subst (Marks (xs ++ ys)) (sym (joined_placed a b))
        (marks_then xs ys (placed_of a) (placed_of b) h.marks k.marks);
  }

  mark_none : (trees : Trees) → Many (placed_of trees) 0 → Mark [] trees
  mark_none trees m = record { marks = no_marks (placed_of trees) m }

  mark_behind : (labels : List Label) (a b : Trees) → Many (placed_of a) 0 → Mark labels b →
      Mark labels (a ++ b)
  mark_behind labels a b m k = mark_then [] labels a b (mark_none a m) k

  mark_before : (labels : List Label) (a b : Trees) → Mark labels a → Many (placed_of b) 0 →
      Mark labels (a ++ b)
  mark_before labels a b h m =
      subst (λ (ls : List Label). Mark ls (a ++ b)) (append-nil labels)
      (mark_then labels [] a b h (mark_none b m))

  one_mark : (labels : List Label) (t : CoreTree) → Marks labels (statements t) →
      Mark labels (t ∷ [])
  one_mark labels t h =
      record { marks = subst (Marks labels) (sym (append-nil (statements t))) h }

  abbrev root_of : ℕ → Head → Trees → Placed
  root_of origin h parts = record {
    head = h;
    sizes = map length (map statements parts);
    place = origin;
  }

  node_marks : (origin : ℕ) (h : Head) → ((n : ℕ) → label_here h n ≡ []) → (labels : List Label)
      (parts : Trees) → Mark labels parts → Marks labels (statements (Node h parts origin))
  node_marks origin h none labels parts m =
      let root = root_of origin h parts in
      subst (Marks labels) (sym (node_placed h parts origin))
      (marks_then [] labels (root ∷ []) (placed_of parts)
      (no_marks (root ∷ [])
      (record { are = λ n. ap (λ (ls : List ℕ). length (ls ++ [])) (none n) })) m.marks)

  block_marks : (origin : ℕ) (labels : List Label) (items : Trees) → Mark labels items →
      Marks labels (statements (block origin items))
  block_marks origin labels items m = node_marks origin head.Block (λ n. refl) labels items m

  two_mark : (origin : ℕ) (xs ys : List Label) (first second : Trees) → Mark xs first →
      Mark ys second →
      Mark (xs ++ ys) (block origin first ∷ block origin second ∷ [])
  two_mark origin xs ys first second h k =
      mark_then xs ys (block origin first ∷ []) (block origin second ∷ [])
      (one_mark xs (block origin first) (block_marks origin xs first h))
      (one_mark ys (block origin second) (block_marks origin ys second k))

  choice_mark : (origin : ℕ) (xs ys : List Label) (test : Expr) (first second : Trees) →
      Mark xs first →
      Mark ys second → Mark (xs ++ ys) (choice origin test first second ∷ [])
  choice_mark origin xs ys test first second h k =
      one_mark (xs ++ ys) (choice origin test first second)
      (node_marks origin (head.If test) (λ n. refl) (xs ++ ys)
      (block origin first ∷ block origin second ∷ [])
      (two_mark origin xs ys first second h k))

  loop_mark : (origin : ℕ) (xs ys : List Label) (body step : Trees) → Mark xs body → Mark ys step →
      Mark (xs ++ ys) (repeated origin body step ∷ [])
  loop_mark origin xs ys body step h k =
      one_mark (xs ++ ys) (repeated origin body step)
      (node_marks origin head.Loop (λ n. refl) (xs ++ ys)
      (block origin body ∷ block origin step ∷ [])
      (two_mark origin xs ys body step h k))

  body_mark : (origin : ℕ) (labels : List Label) (body step : Trees) → Mark labels body →
      Many (placed_of step) 0 → Mark labels (repeated origin body step ∷ [])
  body_mark origin labels body step h m =
      subst (λ (ls : List Label). Mark ls (repeated origin body step ∷ [])) (append-nil labels)
      (loop_mark origin labels [] body step h (mark_none step m))

  label_marks : (origin : ℕ) (number : ℕ) (body : TypedStatement) (taken : Taken)
      (labels : List Label) →
      Mark labels (core_statement frames place body taken).made →
      Marks (record { number = number; body = body } ∷ labels) (block_of origin body taken)
  label_marks origin number body taken labels m =
      let inside = (core_statement frames place body taken).made in
      let whole = block_of origin body taken in
      let root = root_of origin head.Labeled inside in
      let is = node_placed head.Labeled inside origin in
      let own : Many (root ∷ []) 1 = record { are = λ n. refl } in record {
        many = subst (λ (ps : List Placed). Many ps (suc (length labels))) (sym is)
            (subst (Many (root ∷ placed_of inside)) (one_and (length labels))
            (many_then (root ∷ []) (placed_of inside) 1 (length labels) own m.marks.many));
        each = (
          record {
            before = [];
            behind = [];
            taken = taken;
            origin = origin;
            stands = sym (append-nil whole);
            many = record { are = λ n. refl };
          },
          subst (λ (ps : List Placed). StandFrom ps (0 + 1) labels) (sym is)
              (subst (λ n. StandFrom (root ∷ placed_of inside) n labels) from_one
              (from_right (root ∷ []) (placed_of inside) 1 0 labels own m.marks.each)),
        );
      }

  nothing_made : (origin : ℕ) →
      (core_statement frames place (typed.Expression None origin) nothing_taken).made ≡ []
  nothing_made origin =
      ap (λ (r : core.Rule Trees). (r nothing_taken).made)
      (ap (core_statement frames place) (sym (typed.rolls-Expression None origin))
      ∙ open_core_statement frames place (TypedStatement-F.Expression None origin))

  end_mark : (origin : ℕ) (number : ℕ) →
      Mark (end_label number origin ∷ []) (leaf origin head.Labeled ∷ [])
  end_mark origin number =
      let own = end_label number origin ∷ [] in
      let none : Mark [] [] = mark_none [] (record { are = λ n. refl }) in
      one_mark own (leaf origin head.Labeled)
      (subst (λ (xs : Trees). Marks own (statements (Node head.Labeled xs origin)))
      (nothing_made origin)
      (label_marks origin number (typed.Expression None origin) nothing_taken []
      (subst (λ (xs : Trees). Mark [] xs) (sym (nothing_made origin)) none)))

  goto_mark : (origin : ℕ) (label : ℕ) → Mark [] (leaf origin (head.Goto label) ∷ [])
  goto_mark origin label =
      one_mark [] (leaf origin (head.Goto label))
      (node_marks origin (head.Goto label) (λ n. refl) [] []
      (mark_none [] (record { are = λ n. refl })))

  selecting_mark : (origin : ℕ) (v : Expr) (choices : List Choice) →
      Mark [] (map (statement.selecting origin v) choices)
  selecting_mark origin v [] = mark_none [] (record { are = λ n. refl })
  selecting_mark origin v (one ∷ choices) =
      mark_then [] [] (statement.selecting origin v one ∷ [])
      (map (statement.selecting origin v) choices)
      (choice_mark origin [] [] (asking v one)
      (leaf origin (head.Goto one.label) ∷ []) [] (goto_mark origin one.label)
      (mark_none [] (record { are = λ n. refl }))) (selecting_mark origin v choices)

  selected_mark : (origin : ℕ) (xs : List Label) (end : ℕ) (v : Expr) (choices : List Choice)
      (otherwise : ℕ)
      (inside : Trees) → Mark xs inside →
      Mark (xs ++ end_label end origin ∷ []) (statement.selected_by origin v choices otherwise
      inside)
  selected_mark origin xs end v choices otherwise inside m =
      let labels = xs ++ end_label end origin ∷ [] in
      let behind = inside ++ leaf origin head.Labeled ∷ [] in
      mark_then [] labels (map (statement.selecting origin v) choices)
      (leaf origin (head.Goto otherwise) ∷ behind) (selecting_mark origin v choices)
      (mark_then [] labels (leaf origin (head.Goto otherwise) ∷ []) behind
      (goto_mark origin otherwise)
      (mark_then xs (end_label end origin ∷ []) inside (leaf origin head.Labeled ∷ []) m
      (end_mark origin end)))

  -- the rules of statements

  quiet_mark : {rule : core.Rule Trees} → Makes AllShaped rule → Makes (Mark []) rule
  quiet_mark h = makes_weaker (λ trees is. mark_none trees (many_plain trees is)) h

  leaf_mark : (origin : ℕ) (h : Head) → ((n : ℕ) → label_here h n ≡ []) →
      Makes (Mark []) (core.gives (leaf origin h ∷ []))
  leaf_mark origin h none =
      makes (Mark []) (leaf origin h ∷ []) (one_mark [] (leaf origin h)
      (node_marks origin h none [] [] (mark_none [] (record { are = λ n. refl }))))

  if_marks : (origin : ℕ) (test : TypedExpression) (xs ys : List Label) {a b : core.Rule Trees} →
      Makes (Mark xs) a → Makes (Mark ys) b →
      Makes (Mark (xs ++ ys)) (core.then_by (rows.used (rows.rows frames test))
      (λ v. core.then_by a (λ x. core.then_by b (λ y.
      core.gives (v.statements ++ choice origin v.value x y ∷ [])))))
  if_marks origin test xs ys {a = a} {b = b} first second =
      makes_then (λ v. core.then_by a (λ x. core.then_by b (λ y.
      core.gives (v.statements ++ choice origin v.value x y ∷ []))))
      ((expression_makes frames test).rule Used)
      (λ v is. makes_then (λ x. core.then_by b (λ y.
      core.gives (v.statements ++ choice origin v.value x y ∷ []))) first
      (λ x so. makes_then (λ y. core.gives (v.statements ++ choice origin v.value x y ∷ [])) second
      (λ y also. makes (Mark (xs ++ ys)) (v.statements ++ choice origin v.value x y ∷ [])
      (mark_behind (xs ++ ys) v.statements (choice origin v.value x y ∷ [])
      (many_plain v.statements is) (choice_mark origin xs ys v.value x y so also)))))

  while_marks : (origin : ℕ) (xs : List Label) {a b : core.Rule Trees} → Makes Loose a →
      Makes (Mark xs) b →
      Makes (Mark xs) (core.then_by a (λ front. core.then_by b (λ inside.
      core.gives (repeated origin (front ++ inside) [] ∷ []))))
  while_marks origin xs {b = b} test body =
      makes_then (λ front. core.then_by b (λ inside.
      core.gives (repeated origin (front ++ inside) [] ∷ []))) test
      (λ front is. makes_then (λ inside. core.gives (repeated origin (front ++ inside) [] ∷ []))
      body
      (λ inside so. makes (Mark xs) (repeated origin (front ++ inside) [] ∷ [])
      (body_mark origin xs (front ++ inside) []
      (mark_behind xs front inside (many_loose front is) so) (record { are = λ n. refl }))))

  do_marks : (origin : ℕ) (xs : List Label) {a b : core.Rule Trees} → Makes (Mark xs) a →
      Makes Loose b →
      Makes (Mark xs) (core.then_by a (λ inside. core.then_by b (λ behind.
      core.gives (repeated origin inside behind ∷ []))))
  do_marks origin xs {b = b} body test =
      makes_then (λ inside. core.then_by b
      (λ behind. core.gives (repeated origin inside behind ∷ [])))
      body
      (λ inside is. makes_then (λ behind. core.gives (repeated origin inside behind ∷ [])) test
      (λ behind so. makes (Mark xs) (repeated origin inside behind ∷ [])
      (body_mark origin xs inside behind is (many_loose behind so))))

  for_marks : (origin : ℕ) (xs : List Label) {p q r s : core.Rule Trees} → Makes AllShaped p →
      Makes Loose q → Makes (Mark xs) r → Makes AllShaped s →
      Makes (Mark xs) (core.then_by p (λ before. core.then_by q (λ front.
      core.then_by r (λ inside. core.then_by s (λ behind.
      core.gives (for_tree origin before front inside behind ∷ []))))))
  for_marks origin xs {q = q} {r = r} {s = s} first test body step =
      makes_then (λ before. core.then_by q (λ front. core.then_by r (λ inside. core.then_by s
      (λ behind. core.gives (for_tree origin before front inside behind ∷ []))))) first
      (λ before f. makes_then (λ front. core.then_by r (λ inside. core.then_by s
      (λ behind. core.gives (for_tree origin before front inside behind ∷ [])))) test
      (λ front t. makes_then (λ inside. core.then_by s
      (λ behind. core.gives (for_tree origin before front inside behind ∷ []))) body
      (λ inside h. makes_then (λ behind. core.gives
      (for_tree origin before front inside behind ∷ []))
      step
      (λ behind k. makes (Mark xs) (for_tree origin before front inside behind ∷ [])
      (one_mark xs (for_tree origin before front inside behind)
      (block_marks origin xs (before ++ repeated origin (front ++ inside) behind ∷ [])
      (mark_behind xs before (repeated origin (front ++ inside) behind ∷ []) (many_plain before f)
      (body_mark origin xs (front ++ inside) behind
      (mark_behind xs front inside (many_loose front t) h) (many_plain behind k)))))))))

  as_one_marks : (origin : ℕ) (xs : List Label) {r : core.Rule Trees} → Makes (Mark xs) r →
      Makes (Mark xs) (statement.as_one (block origin) r)
  as_one_marks origin xs h =
      makes_then (λ inside. core.gives (block origin inside ∷ [])) h
      (λ inside is. makes (Mark xs) (block origin inside ∷ [])
      (one_mark xs (block origin inside) (block_marks origin xs inside is)))

  abbrev labels_in : TypedStatement → List Label
  labels_in s = (labelled_in s).labels

  abbrev item_labels : TypedItem → List Label
  item_labels item = (with_labels item).labels

  abbrev ItemMarks : TypedItem → Type 0
  ItemMarks item = Makes (Mark (item_labels item)) (statement.item_rule frames place item)

  abbrev StatementMarks : TypedStatement → Type 0
  StatementMarks s = Makes (Mark (labels_in s)) (core_statement frames place s)

  items_mark : (items : List TypedItem) → AllByRecursion ItemMarks items →
      Makes (Mark (flat_map item_labels items))
      (core.in_order (map (statement.item_rule frames place) items))
  items_mark [] all = makes (Mark []) [] (mark_none [] (record { are = λ n. refl }))
  items_mark (item ∷ items) all =
      let rest = core.in_order (map (statement.item_rule frames place) items) in
      let xs = item_labels item in
      let ys = flat_map item_labels items in
      makes_then (λ before. core.then_by rest (λ behind. core.gives (before ++ behind))) all.0
      (λ a is. makes_then (λ behind. core.gives (a ++ behind)) (items_mark items all.1)
      (λ b so. makes (Mark (xs ++ ys)) (a ++ b) (mark_then xs ys a b is so)))

  abbrev HeldItem : Type 0
  HeldItem = (item : TypedItem) × ItemMarks item

  abbrev HeldStatement : Type 0
  HeldStatement = (s : TypedStatement) × StatementMarks s

  abbrev bare_item : TypedItem-F HeldItem HeldStatement → TypedItem-F TypedItem TypedStatement
  bare_item y = map-TypedItem HeldItem HeldStatement TypedItem TypedStatement (λ e. e.0)
      (λ e. e.0) y

  abbrev bare : TypedStatement-F HeldItem HeldStatement → TypedStatement-F TypedItem TypedStatement
  bare y = map-TypedStatement HeldItem HeldStatement TypedItem TypedStatement (λ e. e.0)
      (λ e. e.0) y

  abbrev core_item_layer : TypedItem-F HeldItem HeldStatement → core.Rule Trees
  core_item_layer y = statement.item_step frames (map-TypedItem TypedItem TypedStatement
      (core.Rule Trees) (core.Rule Trees) (statement.item_rule frames place)
      (core_statement frames place) (bare_item y))

  abbrev core_layer : TypedStatement-F HeldItem HeldStatement → core.Rule Trees
  core_layer y = statement.statement_step frames place (map-TypedStatement TypedItem
      TypedStatement (core.Rule Trees) (core.Rule Trees) (statement.item_rule frames place)
      (core_statement frames place) (bare y))

  abbrev labels_layer : TypedStatement-F HeldItem HeldStatement → List Label
  labels_layer y = labels_step (map-TypedStatement TypedItem TypedStatement (Labelled TypedItem)
      (Labelled TypedStatement) with_labels labelled_in (bare y))

  abbrev labels_item_layer : TypedItem-F HeldItem HeldStatement → List Label
  labels_item_layer y = item_labels_step (map-TypedItem TypedItem TypedStatement
      (Labelled TypedItem) (Labelled TypedStatement) with_labels labelled_in (bare_item y))

  all_held : (held : List HeldItem) → AllByRecursion ItemMarks (map (λ (e : HeldItem). e.0) held)
  all_held [] = tt
  all_held (item ∷ held) = (item.1, all_held held)

  flat_items : (items : List TypedItem) →
      flat_map item_labels items
      ≡ flat_map (λ (one : Labelled TypedItem). one.labels) (map with_labels items)
  flat_items [] = refl
  flat_items (item ∷ items) =
      ap (λ (ls : List Label). item_labels item ++ ls) (flat_items items)

  layer : (y : TypedStatement-F HeldItem HeldStatement) →
      Makes (Mark (labels_layer y)) (core_layer y)
  layer (TypedStatement-F.Block held origin) =
      let items = map (λ (e : HeldItem). e.0) held in
      subst (λ (ls : List Label). Makes (Mark ls) (core_layer (TypedStatement-F.Block held origin)))
      (flat_items items)
      (as_one_marks origin (flat_map item_labels items) (items_mark items (all_held held)))
  layer (TypedStatement-F.Expression expression origin) =
      quiet_mark (unused_makes frames expression)
  layer (TypedStatement-F.If test first None origin) =
      if_marks origin test (labels_in first.0) [] first.1
      (makes (Mark []) [] (mark_none [] (record { are = λ n. refl })))
  layer (TypedStatement-F.If test first (Some second) origin) =
      if_marks origin test (labels_in first.0) (labels_in second.0) first.1 second.1
  layer (TypedStatement-F.While test body origin) =
      while_marks origin (labels_in body.0) (left_makes frames origin (Some test)) body.1
  layer (TypedStatement-F.Do body test origin) =
      do_marks origin (labels_in body.0) body.1 (left_makes frames origin (Some test))
  layer (TypedStatement-F.For first test step body origin) =
      for_marks origin (labels_in body.0) (started_makes frames first)
      (left_makes frames origin test) body.1
      (unused_makes frames step)
  layer (TypedStatement-F.Goto label origin) = leaf_mark origin (head.Goto label) (λ n. refl)
  layer (TypedStatement-F.Break origin) = leaf_mark origin head.Break (λ n. refl)
  layer (TypedStatement-F.Continue origin) = leaf_mark origin head.Continue (λ n. refl)
  layer (TypedStatement-F.Return value origin) =
      makes_weaker (λ trees h. mark_none trees (many_has false trees h))
      (returned_makes frames origin place value)
  layer (TypedStatement-F.Labeled label body origin) =
      subst (λ (s : TypedStatement). Makes (Mark (record { number = label; body = s }
      ∷ labels_in body.0)) (core_layer (TypedStatement-F.Labeled label body origin)))
      (sym (whole_statement body.0)) (record {
        at = λ taken.
            one_mark (record { number = label; body = body.0 } ∷ labels_in body.0)
            (labeled origin (core_statement frames place body.0 taken).made)
            (label_marks origin label body.0 taken (labels_in body.0) (body.1.at taken));
        extends = λ taken. body.1.extends taken;
      })
  layer (TypedStatement-F.Switch value choices otherwise body end origin) =
      let labels = labels_in body.0 ++ end_label end origin ∷ [] in
      switch_makes frames origin value choices otherwise body.1
      (λ before v inside is so. mark_behind labels before
      (statement.selected_by origin v choices otherwise inside) (many_plain before is)
      (selected_mark origin (labels_in body.0) end v choices otherwise inside so))

  item_layer : (y : TypedItem-F HeldItem HeldStatement) →
      Makes (Mark (labels_item_layer y)) (core_item_layer y)
  item_layer (TypedItem-F.Declaration declarators) =
      quiet_mark (makes_ordered (each_declared frames declarators))
  item_layer (TypedItem-F.Statement body) = body.1

  at_statement : (y : TypedStatement-F HeldItem HeldStatement)
      (x : TypedStatement-F TypedItem TypedStatement) → bare y ≡ x →
      StatementMarks (roll-TypedStatement x)
  at_statement y x is =
      subst (λ (z : TypedStatement-F TypedItem TypedStatement).
      StatementMarks (roll-TypedStatement z)) is
      (subst (λ (r : core.Rule Trees). Makes (Mark (labels_in (roll-TypedStatement (bare y)))) r)
      (sym (open_core_statement frames place (bare y)))
      (subst (λ (one : Labelled TypedStatement). Makes (Mark one.labels) (core_layer y))
      (sym (open_statement (bare y))) (layer y)))

  at_item : (y : TypedItem-F HeldItem HeldStatement)
      (x : TypedItem-F TypedItem TypedStatement) → bare_item y ≡ x →
      ItemMarks (roll-TypedItem x)
  at_item y x is =
      subst (λ (z : TypedItem-F TypedItem TypedStatement). ItemMarks (roll-TypedItem z)) is
      (subst (λ (r : core.Rule Trees). Makes (Mark (item_labels (roll-TypedItem (bare_item y)))) r)
      (sym (open_core_item frames place (bare_item y)))
      (subst (λ (one : Labelled TypedItem). Makes (Mark one.labels) (core_item_layer y))
      (sym (open_item (bare_item y))) (item_layer y)))

  item_marks : (item : TypedItem) → ItemMarks item
  item_marks =
      ind-TypedItem ItemMarks StatementMarks (λ x y is. at_item y x is)
      (λ x y is. at_statement y x is)

  all_items : (items : List TypedItem) → AllByRecursion ItemMarks items
  all_items [] = tt
  all_items (item ∷ items) = (item_marks item, all_items items)

  -- from the places of blocks to the numbers of labels

  same_first : (a b : ℕ) (xs ys : List ℕ) → a ∷ xs ≡ b ∷ ys → a ≡ b
  same_first a b xs ys is = cc

  same_rest : (a b : ℕ) (xs ys : List ℕ) → a ∷ xs ≡ b ∷ ys → xs ≡ ys
  same_rest a b xs ys is = cc

  leads_there : (t : CoreTree) (k : ℕ) (body : TypedStatement) (s : StandsAt (statements t) k body)
      (n : ℕ) → part (labels_from n (statements t)) k ≡ n + length s.before
  leads_there t k body s n =
      let inside = (core_statement frames place body s.taken).made in
      let own = block_of s.origin body s.taken in
      let m = n + length s.before in
      let front = labels_from n s.before in
      let placed : labels_from m (own ++ s.behind)
      ≡ m ∷ labels_from (m + 1) (placed_of inside ++ s.behind) =
      ap (λ (ps : List Placed). labels_from m (ps ++ s.behind))
      (node_placed head.Labeled inside s.origin) in
      let all : labels_from n (statements t)
      ≡ front ++ (m ∷ labels_from (m + 1) (placed_of inside ++ s.behind)) =
      ap (λ (ps : List Placed). labels_from n ps) s.stands
      ∙ labels_append n s.before (own ++ s.behind)
      ∙ ap (λ (ls : List ℕ). front ++ ls) placed in
      let here : k ≡ length front + 0 = sym (s.many.are n) ∙ sym (none_behind (length front)) in
      ap (λ (ls : List ℕ). part ls k) all
      ∙ ap (λ i. part (front ++ (m ∷ labels_from (m + 1) (placed_of inside ++ s.behind))) i) here
      ∙ ap (λ (o : Option ℕ). unwrap_or o 0)
      (get_right front (m ∷ labels_from (m + 1) (placed_of inside ++ s.behind)) 0)

  is_block : (t : CoreTree) (k : ℕ) (label : Label) → label.number ≡ k →
      StandsAt (statements t) k label.body → IsBlockOf frames place t label
  is_block t k label is s = record {
    before = s.before;
    behind = s.behind;
    taken = s.taken;
    origin = s.origin;
    stands = s.stands;
    leads = λ n.
        ap (λ i. part (labels_from n (statements t)) i) is ∙ leads_there t k label.body s n;
  }

  are_blocks : (t : CoreTree) (k : ℕ) (labels : List Label) →
      map (λ (label : Label). label.number) labels ≡ range_with_len k (length labels) →
      StandFrom (statements t) k labels → AllByRecursion (IsBlockOf frames place t) labels
  are_blocks t k [] is s = tt
  are_blocks t k (label ∷ labels) is s =
      let others = map (λ (one : Label). one.number) labels in
      let more = range_with_len (k + 1) (length labels) in (
        is_block t k label (same_first label.number k others more is) s.0,
        are_blocks t (k + 1) labels (same_rest label.number k others more is) s.1,
      )

record TreeMark (frames : rows.Frames) (place : Location) (labels : List Label) (t : CoreTree)
    : Type 0 where
  marks : Marks frames place labels (statements t)

from_marks : (frames : rows.Frames) (function : TypedFunction) (first : ℕ) →
    Makes (TreeMark frames (cell_at (object_type function.result) first)
    (function_labels function)) (function_from frames function first)
from_marks frames function first =
    let place = cell_at (object_type function.result) first in
    let items = core.in_order (map (statement.item_rule frames place) function.items) in
    let labels = function_labels function in
    makes_then (λ before. core.then_by (statement.receiving function.parameters) (λ u.
    core.then_by items (λ inside. core.gives (block function.place (before ++ inside)))))
    (resulting_makes function.place function.result)
    (λ before is. makes_then (λ u. core.then_by items
    (λ inside. core.gives (block function.place (before ++ inside))))
    (receiving_makes function.parameters)
    (λ u any. makes_then (λ inside. core.gives (block function.place (before ++ inside)))
    (items_mark frames place function.items (all_items frames place function.items))
    (λ inside so. makes (TreeMark frames place labels) (block function.place (before ++ inside))
    (record {
      marks = block_marks frames place function.place labels (before ++ inside)
          (mark_behind frames place labels before inside (many_plain before is) so);
    }))))

pub blocks_are : (frames : rows.Frames) (function : TypedFunction) (taken : Taken) →
    AreInOrder function →
    AllByRecursion (IsBlockOf frames (cell_at (object_type function.result) (length taken.cells))
    (statement.function_rule frames function taken).made) (function_labels function)
blocks_are frames function taken is =
    let place = cell_at (object_type function.result) (length taken.cells) in
    are_blocks frames place (statement.function_rule frames function taken).made 0
    (function_labels function) is
    ((from_marks frames function (length taken.cells)).at taken).marks.each
