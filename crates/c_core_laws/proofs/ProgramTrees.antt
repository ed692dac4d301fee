-- Where the trees of functions stand in a program, and what spreads from a statement to its parts.
use Rattle.std.proofs.Common.{◌≡◌, ℕ, zero, suc, ◌+◌, List, [], ◌∷◌, ◌++◌, map, length, Some}
use Rattle.std.proofs.Common.{slice_get, refl, ap, sym, ◌∙◌, subst, add_assoc, inl, inr}
use Rattle.std.specs.Prelude.{◌⊎◌}
use Rattle.std.specs.List.{AllByRecursion}
use Rattle.std.proofs.lemmas.Option.{none-some, same_Some}
use Rattle.cpa_model.specs.declared.program.Stmt.{Stmt}
use Rattle.cpa_model.specs.declared.program.Successor.{Successor}
use Rattle.cpa_model.specs.declared.program.Program.{Program}
use Rattle.cpa_model.specs.Programs.{IsStmt, IsBody, IsPart, after_part}
use Rattle.cpa_model.specs.lemmas.Parts.{part_of_place}
use Rattle.cpa_model_trees.specs.declared.tree.CoreTree.{CoreTree, roll-CoreTree}
use Rattle.cpa_model_trees.specs.declared.tree.CoreTree.TheOpen.{CoreTree-F}
use Rattle.cpa_model_trees.specs.declared.tree.CoreTree.TheFolds.{map-CoreTree, ind-CoreTree}
use Rattle.cpa_model_trees.specs.declared.tree.Head.{Head}
use Rattle.cpa_model_trees.specs.Numbering.{Trees, Placed, joined, statements, numbers_from}
use Rattle.cpa_model_trees.specs.Numbering.{stmt_of, labels_from, numbered, numbered_bodies}
use Rattle.cpa_model_trees.specs.Numbering.{AreTreesOf}
use Rattle.cpa_model_trees.specs.Shapes.{HasParts, PlacedFits, Anything}
use Rattle.cpa_model_trees.specs.lemmas.Nodes.{parts_are, node_of, open_statements, numbers_length}
use Rattle.cpa_model_trees.specs.lemmas.Numbered.{get_left, get_right, get_split, Behind}
use Rattle.cpa_model_trees.specs.lemmas.Numbered.{none_first, one_further, nothing_further, lengths}
use Rattle.cpa_model_trees.specs.lemmas.Numbered.{lengths_are, IsPlaced, numbered_at}
use Rattle.cpa_model_trees.specs.lemmas.Numbered.{numbered_length}

-- these statements stand in the program from a number on, in a function with these labels
pub record PlacedAt (P : Program) (labels : List ℕ) (first : ℕ) (placed : List Placed) : Type 0
  where
    pub at : (i : ℕ) (p : Placed) → slice_get placed i ≡ Some p →
        IsStmt P (first + i) (stmt_of labels p.head (numbers_from ((first + i) + 1) p.sizes))

pub placed_left : (P : Program) (labels : List ℕ) (first : ℕ) (a b : List Placed) →
    PlacedAt P labels first (a ++ b) → PlacedAt P labels first a
placed_left P labels first a b l = record { at = λ i p e. l.at i p (get_left a b i p e) }

pub placed_right : (P : Program) (labels : List ℕ) (first : ℕ) (a b : List Placed) →
    PlacedAt P labels first (a ++ b) → PlacedAt P labels (first + length a) b
placed_right P labels first a b l = record {
  at = λ i p e.
      subst (λ k. IsStmt P k (stmt_of labels p.head (numbers_from (k + 1) p.sizes)))
      (sym (add_assoc first (length a) i))
      (l.at (length a + i) p (get_right a b i ∙ e));
}

pub placed_tail : (P : Program) (labels : List ℕ) (first : ℕ) (q : Placed) (more : List Placed) →
    PlacedAt P labels first (q ∷ more) → PlacedAt P labels (first + 1) more
placed_tail P labels first q more l = record {
  at = λ i p e.
      subst (λ k. IsStmt P k (stmt_of labels p.head (numbers_from (k + 1) p.sizes)))
      (one_further first i) (l.at (suc i) p e);
}

pub placed_root : (P : Program) (labels : List ℕ) (first : ℕ) (q : Placed) (more : List Placed) →
    PlacedAt P labels first (q ∷ more) →
    IsStmt P first (stmt_of labels q.head (numbers_from (first + 1) q.sizes))
placed_root P labels first q more l =
    subst (λ k. IsStmt P k (stmt_of labels q.head (numbers_from (k + 1) q.sizes)))
    (nothing_further first) (l.at 0 q refl)

abbrev pub AllFit : List Placed → Type 0
AllFit placed = AllByRecursion (PlacedFits Anything) placed

pub fit_left : (a b : List Placed) → AllFit (a ++ b) → AllFit a
fit_left [] b h = tt
fit_left (p ∷ a) b h = (h.0, fit_left a b h.1)

pub fit_right : (a b : List Placed) → AllFit (a ++ b) → AllFit b
fit_right [] b h = h
fit_right (p ∷ a) b h = fit_right a b h.1

-- a number of a part of a statement is one of its parts
pub part_at : (labels : List ℕ) (first : ℕ) (h : Head) (sizes : List ℕ) →
    HasParts h (length sizes) → (k c : ℕ) →
    slice_get (numbers_from (first + 1) sizes) k ≡ Some c →
    (place : Successor)
    × (after_part first (stmt_of labels h (numbers_from (first + 1) sizes)) c ≡ Some place)
part_at labels first h sizes has k c at =
    let numbers = numbers_from (first + 1) sizes in
    let fits : HasParts h (length numbers) =
    subst (HasParts h) (sym (numbers_length (first + 1) sizes)) has in
    part_of_place first (stmt_of labels h numbers) k c
    (ap (λ (cs : List ℕ). slice_get cs k) (parts_are labels h numbers fits) ∙ at)

-- what holds of a statement and with it of its parts
pub record Spreads (P : Program) (labels : List ℕ) (Q : ℕ → Type 0) (t : CoreTree) : Type 0 where
  pub at : (first : ℕ) → PlacedAt P labels first (statements t) → AllFit (statements t) →
      Q first → (i : ℕ) (p : Placed) → slice_get (statements t) i ≡ Some p → Q (first + i)

module _ (P : Program) (labels : List ℕ) (Q : ℕ → Type 0)
    (step : (b c : ℕ) → IsPart P b c → Q b → Q c) where
  abbrev RootsHave : ℕ → Trees → Type 0
  RootsHave start trees =
      (k c : ℕ) → slice_get (numbers_from start (lengths trees)) k ≡ Some c → Q c

  in_forest : (own others : List Placed) (start i : ℕ) (p : Placed) →
      (slice_get own i ≡ Some p → Q (start + i)) →
      ((j : ℕ) → slice_get others j ≡ Some p → Q ((start + length own) + j)) →
      (slice_get own i ≡ Some p) ⊎ Behind own others i p → Q (start + i)
  in_forest own others start i p left right (inl e) = left e
  in_forest own others start i p left right (inr r) =
      subst Q (add_assoc start (length own) r.0 ∙ ap (λ m. start + m) (sym r.1)) (right r.0 r.2)

  pub forest_spreads : (trees : Trees) → AllByRecursion (Spreads P labels Q) trees → (start : ℕ) →
      PlacedAt P labels start (joined (map statements trees)) →
      AllFit (joined (map statements trees)) → RootsHave start trees → (i : ℕ) (p : Placed) →
      slice_get (joined (map statements trees)) i ≡ Some p → Q (start + i)
  forest_spreads [] all start placed fits roots i p e = absurd (none-some p e)
  forest_spreads (t ∷ trees) all start placed fits roots i p e =
      let own = statements t in
      let others = joined (map statements trees) in
      in_forest own others start i p
      (all.0.at start (placed_left P labels start own others placed) (fit_left own others fits)
      (roots 0 start refl) i p)
      (λ j at. forest_spreads trees all.1 (start + length own)
      (placed_right P labels start own others placed) (fit_right own others fits)
      (λ k c found. roots (suc k) c found) j p at)
      (get_split own others i p e)

  node_spreads : (first : ℕ) (h : Head) (trees : Trees) (place : ℕ) →
      AllByRecursion (Spreads P labels Q) trees →
      PlacedAt P labels first (record { head = h; sizes = lengths trees; place = place }
      ∷ joined (map statements trees)) →
      AllFit (record {
        head = h;
        sizes = lengths trees;
        place =
            place;
      } ∷ joined (map statements trees)) →
      Q first → (i : ℕ) (p : Placed) →
      slice_get (record {
        head = h;
        sizes = lengths trees;
        place =
            place;
      } ∷ joined (map statements trees)) i
      ≡ Some p → Q (first + i)
  node_spreads first h trees place all placed fits root zero p e =
      subst Q (sym (nothing_further first)) root
  node_spreads first h trees place all placed fits root (suc i) p e =
      let q : Placed = record { head = h; sizes = lengths trees; place = place } in
      let others = joined (map statements trees) in
      subst Q (sym (one_further first i))
      (forest_spreads trees all (first + 1) (placed_tail P labels first q others placed) fits.1
      (λ k c at. step first c (record {
        stmt = stmt_of labels h (numbers_from (first + 1) (lengths trees));
        is = placed_root P labels first q others placed;
        place = (part_at labels first h (lengths trees) fits.0.0 k c at).0;
        part = (part_at labels first h (lengths trees) fits.0.0 k c at).1;
      }) root) i p e)

  abbrev Held : Type 0
  Held = (t : CoreTree) × Spreads P labels Q t

  all_held : (held : List Held) → AllByRecursion (Spreads P labels Q) (map (λ (t : Held). t.0) held)
  all_held [] = tt
  all_held (t ∷ held) = (t.1, all_held held)

  abbrev bare : CoreTree-F Held → CoreTree-F CoreTree
  bare y = map-CoreTree Held CoreTree (λ t. t.0) y

  layer : (y : CoreTree-F Held) (first : ℕ) → PlacedAt P labels first (node_of (bare y)) →
      AllFit (node_of (bare y)) → Q first → (i : ℕ) (p : Placed) →
      slice_get (node_of (bare y)) i ≡ Some p → Q (first + i)
  layer (CoreTree-F.Node h held place) first placed fits root i p e =
      node_spreads first h (map (λ (t : Held). t.0) held) place (all_held held) placed fits root i p
      e

  at_tree : (y : CoreTree-F Held) (x : CoreTree-F CoreTree) → bare y ≡ x →
      Spreads P labels Q (roll-CoreTree x)
  at_tree y x is =
      subst (λ (z : CoreTree-F CoreTree). Spreads P labels Q (roll-CoreTree z)) is (record {
        at = λ first placed fits root i p e.
            layer y first
            (subst (PlacedAt P labels first) (open_statements (bare y)) placed)
            (subst AllFit (open_statements (bare y)) fits) root i p
            (ap (λ (ps : List Placed). slice_get ps i) (sym (open_statements (bare y))) ∙ e);
      })

  pub spreads : (t : CoreTree) → Spreads P labels Q t
  spreads = ind-CoreTree (Spreads P labels Q) (λ x y is. at_tree y x is)

-- the tree of a function stands in a program behind the trees before it

numbered_get : (labels : List ℕ) (n : ℕ) (placed : List Placed) (i : ℕ) (p : Placed) →
    slice_get placed i ≡ Some p →
    slice_get (numbered labels n placed) i
    ≡ Some (stmt_of labels p.head (numbers_from ((n + i) + 1) p.sizes))
numbered_get labels n [] i p e = absurd (none-some p e)
numbered_get labels n (q ∷ placed) zero p e =
    ap (λ (r : Placed). Some (stmt_of labels r.head (numbers_from (n + 1) r.sizes)))
    (same_Some q p e)
    ∙ ap (λ k. Some (stmt_of labels p.head (numbers_from (k + 1) p.sizes)))
    (sym (nothing_further n))
numbered_get labels n (q ∷ placed) (suc i) p e =
    numbered_get labels (n + 1) placed i p e
    ∙ ap (λ k. Some (stmt_of labels p.head (numbers_from (k + 1) p.sizes)))
    (sym (one_further n i))

-- the statements of a tree that begins at a number
abbrev pub tree_stmt : CoreTree → ℕ → ℕ → Placed → Stmt
tree_stmt t first i p =
    stmt_of (labels_from first (statements t)) p.head (numbers_from ((first + i) + 1) p.sizes)

record BehindTrees (n : ℕ) (trees : Trees) (k : ℕ) (t : CoreTree) : Type 0 where
  skipped : ℕ
  body : slice_get (numbers_from n (lengths trees)) k ≡ Some (n + skipped)
  at : (i : ℕ) (p : Placed) → slice_get (statements t) i ≡ Some p →
      slice_get (numbered_bodies n trees) (skipped + i) ≡ Some (tree_stmt t (n + skipped) i p)

behind_trees : (n : ℕ) (trees : Trees) (k : ℕ) (t : CoreTree) → slice_get trees k ≡ Some t →
    BehindTrees n trees k t
behind_trees n [] k t is = absurd (none-some t is)
behind_trees n (u ∷ trees) zero t is =
    let own = statements u in
    let labels = labels_from n own in
    subst (BehindTrees n (u ∷ trees) zero) (same_Some u t is) (record {
      skipped = 0;
      body = ap (λ m. Some m) (sym (nothing_further n));
      at = λ i p e.
          ap (slice_get (numbered labels n own ++ numbered_bodies (n + length own) trees))
          (none_first i)
          ∙ get_left (numbered labels n own) (numbered_bodies (n + length own) trees) i
          (stmt_of labels p.head (numbers_from ((n + i) + 1) p.sizes))
          (numbered_get labels n own i p e)
          ∙ ap (λ m. Some (tree_stmt u m i p)) (sym (nothing_further n));
    })
behind_trees n (u ∷ trees) (suc k) t is =
    let own = statements u in
    let labels = labels_from n own in
    let r = behind_trees (n + length own) trees k t is in
    let same = add_assoc n (length own) r.skipped in
    record {
      skipped = length own + r.skipped;
      body = r.body ∙ ap (λ m. Some m) same;
      at = λ i p e.
          ap (slice_get (numbered labels n own ++ numbered_bodies (n + length own) trees))
          (add_assoc (length own) r.skipped i
          ∙ ap (λ m. m + (r.skipped + i)) (sym (numbered_length labels n own)))
          ∙ get_right (numbered labels n own) (numbered_bodies (n + length own) trees)
          (r.skipped + i)
          ∙ r.at i p e
          ∙ ap (λ m. Some (tree_stmt t m i p)) same;
    }

pub record TreeStands (P : Program) (k : ℕ) (t : CoreTree) : Type 0 where
  pub first : ℕ
  pub body : IsBody P k first
  pub placed : PlacedAt P (labels_from first (statements t)) first (statements t)

pub tree_stands : (trees : Trees) (P : Program) → AreTreesOf P trees → (k : ℕ) (t : CoreTree) →
    slice_get trees k ≡ Some t → TreeStands P k t
tree_stands trees P are k t at =
    let r = behind_trees 0 trees k t at in
    let here = none_first r.skipped in
    record {
      first = r.skipped;
      body =
          ap (λ (bodies : List ℕ). slice_get bodies k)
          (are.bodies ∙ ap (numbers_from 0) (sym (lengths_are trees)))
          ∙ r.body ∙ ap (λ m. Some m) here;
      placed = record {
        at = λ i p e.
            ap (λ (all : List Stmt). slice_get all (r.skipped + i)) are.stmts ∙ r.at i p e
            ∙ ap (λ m. Some (tree_stmt t m i p)) here;
      };
    }

-- and each statement stands in one of them
pub record InTree (n : ℕ) (trees : Trees) (i : ℕ) (s : Stmt) : Type 0 where
  pub function : ℕ
  pub tree : CoreTree
  pub is_tree : slice_get trees function ≡ Some tree
  pub first : ℕ
  pub body : slice_get (numbers_from n (lengths trees)) function ≡ Some first
  pub index : ℕ
  pub here : n + i ≡ first + index
  pub placed : Placed
  pub at : slice_get (statements tree) index ≡ Some placed
  pub is : s ≡ tree_stmt tree first index placed

in_first : (n : ℕ) (t : CoreTree) (trees : Trees) (i : ℕ) (s : Stmt) →
    IsPlaced (labels_from n (statements t)) n (statements t) i s → InTree n (t ∷ trees) i s
in_first n t trees i s r = record {
  function = 0;
  tree = t;
  is_tree = refl;
  first = n;
  body = refl;
  index = i;
  here = refl;
  placed = r.0;
  at = r.1;
  is = r.2;
}

in_later : (n : ℕ) (t : CoreTree) (trees : Trees) (i j : ℕ) (s : Stmt) →
    i ≡ length (statements t) + j → InTree (n + length (statements t)) trees j s →
    InTree n (t ∷ trees) i s
in_later n t trees i j s is r = record {
  function = suc r.function;
  tree = r.tree;
  is_tree = r.is_tree;
  first = r.first;
  body = r.body;
  index = r.index;
  here = ap (λ m. n + m) is ∙ sym (add_assoc n (length (statements t)) j) ∙ r.here;
  placed = r.placed;
  at = r.at;
  is = r.is;
}

by_half : (n : ℕ) (t : CoreTree) (trees : Trees) (i : ℕ) (s : Stmt) →
    ((j : ℕ) → slice_get (numbered_bodies (n + length (statements t)) trees) j ≡ Some s →
    InTree (n + length (statements t)) trees j s) →
    (slice_get (numbered (labels_from n (statements t)) n (statements t)) i ≡ Some s)
    ⊎ Behind (numbered (labels_from n (statements t)) n (statements t))
    (numbered_bodies (n + length (statements t)) trees) i s →
    InTree n (t ∷ trees) i s
by_half n t trees i s more (inl e) =
    let own = statements t in
    in_first n t trees i s (numbered_at (labels_from n own) n own i s e)
by_half n t trees i s more (inr r) =
    let own = statements t in
    in_later n t trees i r.0 s
    (r.1 ∙ ap (λ m. m + r.0) (numbered_length (labels_from n own) n own)) (more r.0 r.2)

in_some_tree : (n : ℕ) (trees : Trees) (i : ℕ) (s : Stmt) →
    slice_get (numbered_bodies n trees) i ≡ Some s → InTree n trees i s
in_some_tree n [] i s e = absurd (none-some s e)
in_some_tree n (t ∷ trees) i s e =
    let own = statements t in
    by_half n t trees i s (λ j at. in_some_tree (n + length own) trees j s at)
    (get_split (numbered (labels_from n own) n own) (numbered_bodies (n + length own) trees) i s e)

pub in_tree : (trees : Trees) (P : Program) → AreTreesOf P trees → (n : ℕ) (s : Stmt) →
    IsStmt P n s → InTree 0 trees n s
in_tree trees P are n s at =
    in_some_tree 0 trees n s
    (ap (λ (all : List Stmt). slice_get all n) (sym are.stmts) ∙ at)
