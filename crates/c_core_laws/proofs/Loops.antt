-- Each break and continue of a program stands in a loop, where none stands outside the loops of a
-- function.
use Rattle.std.proofs.Common.{◌≡◌, ℕ, zero, suc, ◌+◌, Bool, true, false, ◌||◌, List, [], ◌∷◌, map}
use Rattle.std.proofs.Common.{length, Some, slice_get, refl, ap, sym, ◌∙◌, subst, arith, add_assoc}
use Rattle.std.proofs.Common.{inl, inr}
use Rattle.std.specs.Prelude.{◌⊎◌}
use Rattle.std.specs.List.{AllByRecursion}
use Rattle.std.proofs.lemmas.Option.{none-some, same_Some, slice_get_within}
use Rattle.cpa_model.specs.declared.program.Program.{Program}
use Rattle.cpa_model.specs.Programs.{IsStmt, InLoop, loop_nearest, loop_further, is_loop}
use Rattle.cpa_model_trees.specs.declared.tree.CoreTree.{CoreTree, roll-CoreTree}
use Rattle.cpa_model_trees.specs.declared.tree.CoreTree.TheOpen.{CoreTree-F}
use Rattle.cpa_model_trees.specs.declared.tree.CoreTree.TheFolds.{map-CoreTree, ind-CoreTree}
use Rattle.cpa_model_trees.specs.declared.tree.Head.{Head}
use Rattle.cpa_model_trees.specs.declared.tree.Head.TheVariants as head
use Rattle.cpa_model_trees.specs.Numbering.{Trees, Placed, joined, statements, numbers_from}
use Rattle.cpa_model_trees.specs.Numbering.{stmt_of}
use Rattle.c_core_laws.specs.Jumps.{Jumps, all_jumps, head_jumps, node_jumps, tree_jumps}
use Rattle.cpa_model_trees.specs.Shapes.{HasParts}
use Rattle.cpa_model_trees.specs.lemmas.Nodes.{node_of, open_statements, numbers_length}
use Rattle.c_core_laws.proofs.Jumping.{open_jumps}
use Rattle.cpa_model_trees.specs.lemmas.Numbered.{get_split, Behind, one_further, nothing_further}
use Rattle.cpa_model_trees.specs.lemmas.Numbered.{lengths}
use Rattle.c_core_laws.proofs.ProgramTrees.{PlacedAt, placed_left, placed_right, placed_tail}
use Rattle.c_core_laws.proofs.ProgramTrees.{placed_root, AllFit, fit_left, fit_right, part_at}

-- a break or a continue
abbrev pub leaves : Head → Bool
leaves head.Break = true
leaves head.Continue = true
leaves _ = false

abbrev pub IsInLoop : Program → ℕ → Type 0
IsInLoop P n = (l : ℕ) × InLoop P l n

-- a tree of which none stands outside its loops, or which stands in a loop
pub record LoopsIn (P : Program) (labels : List ℕ) (t : CoreTree) : Type 0 where
  pub at : (first : ℕ) → PlacedAt P labels first (statements t) → AllFit (statements t) →
      ((tree_jumps t).loose ≡ false) ⊎ IsInLoop P first → (i : ℕ) (p : Placed) →
      slice_get (statements t) i ≡ Some p → leaves p.head ≡ true → IsInLoop P (first + i)

left_false : (a b : Bool) → (a || b) ≡ false → a ≡ false
left_false true b h = absurd (cc)
left_false false b h = refl

right_false : (a b : Bool) → (a || b) ≡ false → b ≡ false
right_false true b h = absurd (cc)
right_false false b h = h

module _ (P : Program) (labels : List ℕ) where
  abbrev RootsIn : ℕ → Trees → Type 0
  RootsIn start trees =
      (k c : ℕ) → slice_get (numbers_from start (lengths trees)) k ≡ Some c → IsInLoop P c

  abbrev Free : ℕ → Trees → Type 0
  Free start trees =
      ((all_jumps (map tree_jumps trees)).loose ≡ false) ⊎ RootsIn start trees

  first_free : (start : ℕ) (t : CoreTree) (trees : Trees) → Free start (t ∷ trees) →
      ((tree_jumps t).loose ≡ false) ⊎ IsInLoop P start
  first_free start t trees (inl h) =
      inl (left_false (tree_jumps t).loose (all_jumps (map tree_jumps trees)).loose h)
  first_free start t trees (inr roots) = inr (roots 0 start refl)

  others_free : (start : ℕ) (t : CoreTree) (trees : Trees) → Free start (t ∷ trees) →
      Free (start + length (statements t)) trees
  others_free start t trees (inl h) =
      inl (right_false (tree_jumps t).loose (all_jumps (map tree_jumps trees)).loose h)
  others_free start t trees (inr roots) = inr (λ k c at. roots (suc k) c at)

  in_forest : (own others : List Placed) (start i : ℕ) (p : Placed) →
      (slice_get own i ≡ Some p → IsInLoop P (start + i)) →
      ((j : ℕ) → slice_get others j ≡ Some p → IsInLoop P ((start + length own) + j)) →
      (slice_get own i ≡ Some p) ⊎ Behind own others i p → IsInLoop P (start + i)
  in_forest own others start i p left right (inl e) = left e
  in_forest own others start i p left right (inr r) =
      subst (IsInLoop P) (add_assoc start (length own) r.0 ∙ ap (λ m. start + m) (sym r.1))
      (right r.0 r.2)

  forest_loops : (trees : Trees) → AllByRecursion (LoopsIn P labels) trees → (start : ℕ) →
      PlacedAt P labels start (joined (map statements trees)) →
      AllFit (joined (map statements trees)) → Free start trees → (i : ℕ) (p : Placed) →
      slice_get (joined (map statements trees)) i ≡ Some p → leaves p.head ≡ true →
      IsInLoop P (start + i)
  forest_loops [] all start placed fits free i p e so = absurd (none-some p e)
  forest_loops (t ∷ trees) all start placed fits free i p e so =
      let own = statements t in
      let others = joined (map statements trees) in
      in_forest own others start i p
      (λ at. all.0.at start (placed_left P labels start own others placed)
      (fit_left own others fits) (first_free start t trees free) i p at so)
      (λ j at. forest_loops trees all.1 (start + length own)
      (placed_right P labels start own others placed) (fit_right own others fits)
      (others_free start t trees free) j p at so)
      (get_split own others i p e)

  no_roots : (first : ℕ) (sizes : List ℕ) → length sizes ≡ 0 → (k c : ℕ) →
      slice_get (numbers_from (first + 1) sizes) k ≡ Some c → IsInLoop P c
  no_roots first sizes none k c at =
      absurd (omega (
        arith,
        none,
        numbers_length (first + 1) sizes,
        slice_get_within (numbers_from (first + 1) sizes) k c at,
      ))

  -- the parts of a node that is no loop
  further : (first : ℕ) (h : Head) (sizes : List ℕ) → HasParts h (length sizes) →
      is_loop (stmt_of labels h (numbers_from (first + 1) sizes)) ≡ false →
      IsStmt P first (stmt_of labels h (numbers_from (first + 1) sizes)) → IsInLoop P first →
      (k c : ℕ) → slice_get (numbers_from (first + 1) sizes) k ≡ Some c → IsInLoop P c
  further first h sizes has plain is inside k c at =
      let part = part_at labels first h sizes has k c at in (
        inside.0,
        loop_further first (stmt_of labels h (numbers_from (first + 1) sizes)) part.0 is plain
            part.1
            inside.1,
      )

  nearest : (first : ℕ) (sizes : List ℕ) → HasParts head.Loop (length sizes) →
      IsStmt P first (stmt_of labels head.Loop (numbers_from (first + 1) sizes)) →
      (k c : ℕ) → slice_get (numbers_from (first + 1) sizes) k ≡ Some c → IsInLoop P c
  nearest first sizes has is k c at =
      let part = part_at labels first head.Loop sizes has k c at in (
        first,
        loop_nearest (stmt_of labels head.Loop (numbers_from (first + 1) sizes)) part.0 is refl
            part.1,
      )

  passes : (first : ℕ) (h : Head) (trees : Trees) → HasParts h (length (lengths trees)) →
      is_loop (stmt_of labels h (numbers_from (first + 1) (lengths trees))) ≡ false →
      IsStmt P first (stmt_of labels h (numbers_from (first + 1) (lengths trees))) →
      ((all_jumps (map tree_jumps trees)).loose ≡ false) ⊎ IsInLoop P first →
      Free (first + 1) trees
  passes first h trees has plain is (inl e) = inl e
  passes first h trees has plain is (inr inside) =
      inr (λ k c at. further first h (lengths trees) has plain is inside k c at)

  parts_free : (first : ℕ) (h : Head) (trees : Trees) → HasParts h (length (lengths trees)) →
      IsStmt P first (stmt_of labels h (numbers_from (first + 1) (lengths trees))) →
      ((head_jumps h (all_jumps (map tree_jumps trees))).loose ≡ false) ⊎ IsInLoop P first →
      Free (first + 1) trees
  parts_free first head.Block trees has is free = passes first head.Block trees has refl is free
  parts_free first head.Labeled trees has is free =
      passes first head.Labeled trees has refl is free
  parts_free first (head.If test) trees has is free =
      passes first (head.If test) trees has refl is free
  parts_free first head.Loop trees has is free =
      inr (λ k c at. nearest first (lengths trees) has is k c at)
  parts_free first (head.Assign base len index value) trees has is free =
      inr (λ k c at. no_roots first (lengths trees) has k c at)
  parts_free first (head.Input cell) trees has is free =
      inr (λ k c at. no_roots first (lengths trees) has k c at)
  parts_free first (head.Call function) trees has is free =
      inr (λ k c at. no_roots first (lengths trees) has k c at)
  parts_free first (head.Goto label) trees has is free =
      inr (λ k c at. no_roots first (lengths trees) has k c at)
  parts_free first head.Break trees has is free =
      inr (λ k c at. no_roots first (lengths trees) has k c at)
  parts_free first head.Continue trees has is free =
      inr (λ k c at. no_roots first (lengths trees) has k c at)
  parts_free first head.Leave trees has is free =
      inr (λ k c at. no_roots first (lengths trees) has k c at)
  parts_free first head.Stop trees has is free =
      inr (λ k c at. no_roots first (lengths trees) has k c at)
  parts_free first head.Error trees has is free =
      inr (λ k c at. no_roots first (lengths trees) has k c at)

  own_loop : (first : ℕ) (h : Head) (inside : Jumps) → leaves h ≡ true →
      ((head_jumps h inside).loose ≡ false) ⊎ IsInLoop P first → IsInLoop P first
  own_loop first h inside so (inr r) = r
  own_loop first head.Break inside so (inl e) = absurd (cc)
  own_loop first head.Continue inside so (inl e) = absurd (cc)
  own_loop first head.Block inside so (inl e) = absurd (cc)
  own_loop first head.Labeled inside so (inl e) = absurd (cc)
  own_loop first (head.If test) inside so (inl e) = absurd (cc)
  own_loop first head.Loop inside so (inl e) = absurd (cc)
  own_loop first (head.Assign base len index value) inside so (inl e) = absurd (cc)
  own_loop first (head.Input cell) inside so (inl e) = absurd (cc)
  own_loop first (head.Call function) inside so (inl e) = absurd (cc)
  own_loop first (head.Goto label) inside so (inl e) = absurd (cc)
  own_loop first head.Leave inside so (inl e) = absurd (cc)
  own_loop first head.Stop inside so (inl e) = absurd (cc)
  own_loop first head.Error inside so (inl e) = absurd (cc)

  node_loops : (first : ℕ) (h : Head) (trees : Trees) (place : ℕ) →
      AllByRecursion (LoopsIn P labels) trees →
      PlacedAt P labels first (record { head = h; sizes = lengths trees; place = place }
      ∷ joined (map statements trees)) →
      AllFit (record {
        head = h;
        sizes = lengths trees;
        place =
            place;
      } ∷ joined (map statements trees)) →
      ((head_jumps h (all_jumps (map tree_jumps trees))).loose ≡ false) ⊎ IsInLoop P first →
      (i : ℕ) (p : Placed) →
      slice_get (record {
        head = h;
        sizes = lengths trees;
        place =
            place;
      } ∷ joined (map statements trees)) i
      ≡ Some p → leaves p.head ≡ true → IsInLoop P (first + i)
  node_loops first h trees place all placed fits free zero p e so =
      let q : Placed = record { head = h; sizes = lengths trees; place = place } in
      subst (IsInLoop P) (sym (nothing_further first))
      (own_loop first h (all_jumps (map tree_jumps trees))
      (ap (λ (r : Placed). leaves r.head) (same_Some q p e) ∙ so) free)
  node_loops first h trees place all placed fits free (suc i) p e so =
      let q : Placed = record { head = h; sizes = lengths trees; place = place } in
      let others = joined (map statements trees) in
      subst (IsInLoop P) (sym (one_further first i))
      (forest_loops trees all (first + 1) (placed_tail P labels first q others placed) fits.1
      (parts_free first h trees fits.0.0 (placed_root P labels first q others placed) free) i p e
      so)

  abbrev Held : Type 0
  Held = (t : CoreTree) × LoopsIn P labels t

  all_held : (held : List Held) → AllByRecursion (LoopsIn P labels) (map (λ (t : Held). t.0) held)
  all_held [] = tt
  all_held (t ∷ held) = (t.1, all_held held)

  abbrev bare : CoreTree-F Held → CoreTree-F CoreTree
  bare y = map-CoreTree Held CoreTree (λ t. t.0) y

  layer : (y : CoreTree-F Held) (first : ℕ) → PlacedAt P labels first (node_of (bare y)) →
      AllFit (node_of (bare y)) →
      ((node_jumps (map-CoreTree CoreTree Jumps tree_jumps (bare y))).loose ≡ false)
      ⊎ IsInLoop P first →
      (i : ℕ) (p : Placed) → slice_get (node_of (bare y)) i ≡ Some p → leaves p.head ≡ true →
      IsInLoop P (first + i)
  layer (CoreTree-F.Node h held place) first placed fits free i p e so =
      node_loops first h (map (λ (t : Held). t.0) held) place (all_held held) placed fits free i p e
      so

  at_tree : (y : CoreTree-F Held) (x : CoreTree-F CoreTree) → bare y ≡ x →
      LoopsIn P labels (roll-CoreTree x)
  at_tree y x is =
      subst (λ (z : CoreTree-F CoreTree). LoopsIn P labels (roll-CoreTree z)) is (record {
        at = λ first placed fits free i p e so.
            layer y first
            (subst (PlacedAt P labels first) (open_statements (bare y)) placed)
            (subst AllFit (open_statements (bare y)) fits)
            (subst (λ (a : Jumps). (a.loose ≡ false) ⊎ IsInLoop P first) (open_jumps (bare y)) free)
            i p (ap (λ (ps : List Placed). slice_get ps i) (sym (open_statements (bare y))) ∙ e)
            so;
      })

  pub loops_in : (t : CoreTree) → LoopsIn P labels t
  loops_in = ind-CoreTree (LoopsIn P labels) (λ x y is. at_tree y x is)
