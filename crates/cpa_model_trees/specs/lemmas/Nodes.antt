-- The statements of a tree are its node, and behind it those of its parts; the parts of a statement
-- are those that it is made of.
use Rattle.std.proofs.Common.{◌≡◌, ℕ, suc, ◌+◌, List, [], ◌∷◌, ◌++◌, map, length, refl, ap, sym}
use Rattle.std.proofs.Common.{◌∙◌, subst, arith}
use Rattle.std.specs.List.{AllByRecursion}
use Rattle.std.proofs.lemmas.List.{length-map}
use Rattle.cpa_model.specs.Programs.{parts_of}
use Rattle.cpa_model.specs.lemmas.Parts.{firsts_items}
use Rattle.cpa_model_trees.specs.declared.tree.CoreTree.{CoreTree, roll-CoreTree}
use Rattle.cpa_model_trees.specs.declared.tree.CoreTree.TheOpen.{CoreTree-F}
use Rattle.cpa_model_trees.specs.declared.tree.CoreTree.TheVariants.{Node, rolls-Node}
use Rattle.cpa_model_trees.specs.declared.tree.CoreTree.TheFolds.{fold-roll-CoreTree, map-CoreTree}
use Rattle.cpa_model_trees.specs.declared.tree.Head.{Head}
use Rattle.cpa_model_trees.specs.declared.tree.Head.TheVariants as head
use Rattle.cpa_model_trees.specs.Numbering.{Placed, Trees, joined, node_statements, statements}
use Rattle.cpa_model_trees.specs.Numbering.{numbers_from, stmt_of, part}
use Rattle.cpa_model_trees.specs.Shapes.{HasParts, PlacedFits, Shaped, AllShaped}

pub numbers_length : (n : ℕ) (sizes : List ℕ) → length (numbers_from n sizes) ≡ length sizes
numbers_length n [] = refl
numbers_length n (size ∷ sizes) = ap suc (numbers_length (n + size) sizes)

-- the statements of a tree, opened at its node
abbrev pub node_of : CoreTree-F CoreTree → List Placed
node_of x = node_statements (map-CoreTree CoreTree (List Placed) statements x)

pub open_statements : (x : CoreTree-F CoreTree) → statements (roll-CoreTree x) ≡ node_of x
unfolding statements
open_statements x = fold-roll-CoreTree (List Placed) node_statements x

pub node_placed : (h : Head) (parts : Trees) (place : ℕ) →
    statements (Node h parts place)
    ≡ record { head = h; sizes = map length (map statements parts); place = place }
    ∷ joined (map statements parts)
unfolding statements
node_placed h parts place =
    ap statements (sym (rolls-Node h parts place))
    ∙ fold-roll-CoreTree (List Placed) node_statements (CoreTree-F.Node h parts place)

two_parts : (numbers : List ℕ) → length numbers ≡ 2 →
    part numbers 0 ∷ part numbers 1 ∷ [] ≡ numbers
two_parts [] is = absurd (omega (arith, is))
two_parts (a ∷ []) is = absurd (omega (arith, is))
two_parts (a ∷ b ∷ []) is = refl
two_parts (a ∷ b ∷ c ∷ more) is = absurd (omega (arith, is))

no_part : (numbers : List ℕ) → length numbers ≡ 0 → [] ≡ numbers
no_part [] is = refl
no_part (a ∷ more) is = absurd (omega (arith, is))

-- the parts of a statement are those that it is made of
pub parts_are : (labels : List ℕ) (h : Head) (numbers : List ℕ) → HasParts h (length numbers) →
    parts_of (stmt_of labels h numbers) ≡ numbers
parts_are labels head.Block numbers has = firsts_items numbers
parts_are labels head.Labeled numbers has = firsts_items numbers
parts_are labels (head.If test) numbers has = two_parts numbers has
parts_are labels head.Loop numbers has = two_parts numbers has
parts_are labels (head.Assign base len index value) numbers has = no_part numbers has
parts_are labels (head.Input cell) numbers has = no_part numbers has
parts_are labels (head.Call function) numbers has = no_part numbers has
parts_are labels (head.Goto label) numbers has = no_part numbers has
parts_are labels head.Break numbers has = no_part numbers has
parts_are labels head.Continue numbers has = no_part numbers has
parts_are labels head.Leave numbers has = no_part numbers has
parts_are labels head.Stop numbers has = no_part numbers has
parts_are labels head.Error numbers has = no_part numbers has

module _ (H : Head → Type 0) where
  fits_append : (a b : List Placed) → AllByRecursion (PlacedFits H) a →
      AllByRecursion (PlacedFits H) b → AllByRecursion (PlacedFits H) (a ++ b)
  fits_append [] b h k = k
  fits_append (p ∷ a) b h k = (h.0, fits_append a b h.1 k)

  pub joined_fit : (trees : Trees) → AllShaped H trees →
      AllByRecursion (PlacedFits H) (joined (map statements trees))
  joined_fit [] h = tt
  joined_fit (t ∷ trees) h =
      fits_append (statements t) (joined (map statements trees)) h.0.all (joined_fit trees h.1)

  pub shaped_node : (h : Head) (parts : Trees) (place : ℕ) → HasParts h (length parts) → H h →
      AllShaped H parts → Shaped H (Node h parts place)
  shaped_node h parts place has is all =
      let sizes : List ℕ = map length (map statements parts) in
      let many : length sizes ≡ length parts =
      length-map (map statements parts) (λ (placed : List Placed). length placed)
      ∙ length-map parts statements in
      record {
        all = subst (AllByRecursion (PlacedFits H)) (sym (node_placed h parts place))
            ((subst (HasParts h) (sym many) has, is), joined_fit parts all);
      }

  pub append_shaped : (xs ys : Trees) → AllShaped H xs → AllShaped H ys → AllShaped H (xs ++ ys)
  append_shaped [] ys a b = b
  append_shaped (t ∷ xs) ys a b = (a.0, append_shaped xs ys a.1 b)

  pub push_shaped : (xs : Trees) (t : CoreTree) → AllShaped H xs → Shaped H t →
      AllShaped H (xs ++ t ∷ [])
  push_shaped xs t a b = append_shaped xs (t ∷ []) a (b, tt)
