-- The statements of shaped trees are numbered in the order of the trees.
use Rattle.std.proofs.Common.{◌≡◌, ℕ, zero, suc, ◌+◌, List, [], ◌∷◌, ◌++◌, map, length, Some}
use Rattle.std.proofs.Common.{slice_get, refl, ap, sym, ◌∙◌, subst, arith, add_assoc, inl, inr}
use Rattle.std.proofs.Common.{length-append}
use Rattle.std.specs.Prelude.{◌⊎◌}
use Rattle.std.specs.List.{AllByRecursion}
use Rattle.std.proofs.lemmas.Option.{none-some, same_Some}
use Rattle.cpa_model.specs.declared.program.Stmt.{Stmt}
use Rattle.cpa_model.specs.declared.program.Program.{Program}
use Rattle.cpa_model.specs.Programs.{Tiles, IsNumbered, parts_of}
use Rattle.cpa_model_trees.specs.declared.tree.CoreTree.{CoreTree, roll-CoreTree}
use Rattle.cpa_model_trees.specs.declared.tree.CoreTree.TheOpen.{CoreTree-F}
use Rattle.cpa_model_trees.specs.declared.tree.CoreTree.TheFolds.{map-CoreTree, ind-CoreTree}
use Rattle.cpa_model_trees.specs.Numbering.{Placed, joined, statements, numbers_from, stmt_of}
use Rattle.cpa_model_trees.specs.Numbering.{labels_from, numbered, numbered_bodies, Trees}
use Rattle.cpa_model_trees.specs.Numbering.{AreTreesOf}
use Rattle.cpa_model_trees.specs.Shapes.{HasParts, PlacedFits, AllShaped, Anything}
use Rattle.cpa_model_trees.specs.lemmas.Nodes.{node_of, open_statements, numbers_length, parts_are}
use Rattle.cpa_model_trees.specs.lemmas.Nodes.{joined_fit}
use Rattle.cpa_model.specs.lemmas.EdgesSound.{all_at}

-- places of a list that is two lists

pub get_left : {X : Type 0} (a b : List X) (i : ℕ) (x : X) → slice_get a i ≡ Some x →
    slice_get (a ++ b) i ≡ Some x
get_left [] b i x e = absurd (none-some x e)
get_left (y ∷ a) b zero x e = e
get_left (y ∷ a) b (suc i) x e = get_left a b i x e

pub none_first : (i : ℕ) → 0 + i ≡ i
none_first i = omega arith

suc_first : (n i : ℕ) → suc n + i ≡ suc (n + i)
suc_first n i = omega arith

pub get_right : {X : Type 0} (a b : List X) (i : ℕ) →
    slice_get (a ++ b) (length a + i) ≡ slice_get b i
get_right [] b i = ap (slice_get b) (none_first i)
get_right (y ∷ a) b i =
    ap (slice_get (y ∷ (a ++ b))) (suc_first (length a) i) ∙ get_right a b i

abbrev pub Behind : {X : Type 0} → List X → List X → ℕ → X → Type 0
Behind a b i x = (j : ℕ) × (i ≡ length a + j) × (slice_get b j ≡ Some x)

behind_more : {X : Type 0} (y : X) (a b : List X) (i : ℕ) (x : X) →
    (slice_get a i ≡ Some x) ⊎ Behind a b i x →
    (slice_get (y ∷ a) (suc i) ≡ Some x) ⊎ Behind (y ∷ a) b (suc i) x
behind_more y a b i x (inl e) = inl e
behind_more y a b i x (inr r) = inr (r.0, ap suc r.1 ∙ sym (suc_first (length a) r.0), r.2)

pub get_split : {X : Type 0} (a b : List X) (i : ℕ) (x : X) → slice_get (a ++ b) i ≡ Some x →
    (slice_get a i ≡ Some x) ⊎ Behind a b i x
get_split [] b i x e = inr (i, sym (none_first i), e)
get_split (y ∷ a) b zero x e = inl e
get_split (y ∷ a) b (suc i) x e = behind_more y a b i x (get_split a b i x e)

-- where trees end

abbrev total : List ℕ → ℕ
total [] = 0
total (n ∷ ns) = n + total ns

-- the number behind a statement of this number and its parts
abbrev end_at : ℕ → Placed → ℕ
end_at n p = (n + 1) + total p.sizes

abbrev ends_from : ℕ → List Placed → List ℕ
ends_from n [] = []
ends_from n (p ∷ more) = end_at n p ∷ ends_from (n + 1) more

-- the ends of these statements stand among all ends, from a number on
record Located (ends : List ℕ) (first : ℕ) (placed : List Placed) : Type 0 where
  at : (i : ℕ) (p : Placed) → slice_get placed i ≡ Some p →
      slice_get ends (first + i) ≡ Some (end_at (first + i) p)

located_left : (ends : List ℕ) (first : ℕ) (a b : List Placed) → Located ends first (a ++ b) →
    Located ends first a
located_left ends first a b l = record { at = λ i p e. l.at i p (get_left a b i p e) }

located_right : (ends : List ℕ) (first : ℕ) (a b : List Placed) → Located ends first (a ++ b) →
    Located ends (first + length a) b
located_right ends first a b l = record {
  at = λ i p e.
      subst (λ k. slice_get ends k ≡ Some (end_at k p)) (sym (add_assoc first (length a) i))
      (l.at (length a + i) p (get_right a b i ∙ e));
}

pub one_further : (first i : ℕ) → first + suc i ≡ (first + 1) + i
one_further first i = omega arith

located_tail : (ends : List ℕ) (first : ℕ) (q : Placed) (more : List Placed) →
    Located ends first (q ∷ more) → Located ends (first + 1) more
located_tail ends first q more l = record {
  at = λ i p e.
      subst (λ k. slice_get ends k ≡ Some (end_at k p)) (one_further first i) (l.at (suc i) p e);
}

pub nothing_further : (first : ℕ) → first + 0 ≡ first
nothing_further first = omega arith

ends_located : (first : ℕ) (placed : List Placed) (i : ℕ) (p : Placed) →
    slice_get placed i ≡ Some p →
    slice_get (ends_from first placed) i ≡ Some (end_at (first + i) p)
ends_located first [] i p e = absurd (none-some p e)
ends_located first (q ∷ placed) zero p e =
    ap (λ r. Some (end_at first r)) (same_Some q p e)
    ∙ ap (λ k. Some (end_at k p)) (sym (nothing_further first))
ends_located first (q ∷ placed) (suc i) p e =
    ends_located (first + 1) placed i p e ∙ ap (λ k. Some (end_at k p)) (sym (one_further first i))

-- the parts of the statement of this number tile what stands behind it
abbrev TilesAt : List ℕ → ℕ → Placed → Type 0
TilesAt ends n p = Tiles ends (n + 1) (numbers_from (n + 1) p.sizes) (end_at n p)

-- the ends of a tree, and of its parts
record Stands (ends : List ℕ) (t : CoreTree) : Type 0 where
  root : (first : ℕ) → Located ends first (statements t) →
      slice_get ends first ≡ Some (first + length (statements t))
  nodes : (first : ℕ) → Located ends first (statements t) → (i : ℕ) (p : Placed) →
      slice_get (statements t) i ≡ Some p → TilesAt ends (first + i) p

abbrev pub lengths : Trees → List ℕ
lengths trees = map length (map statements trees)

forest_tiles : (ends : List ℕ) (trees : Trees) → AllByRecursion (Stands ends) trees →
    (first : ℕ) → Located ends first (joined (map statements trees)) →
    Tiles ends first (numbers_from first (lengths trees)) (first + total (lengths trees))
forest_tiles ends [] all first l = sym (nothing_further first)
forest_tiles ends (t ∷ trees) all first l =
    let n = length (statements t) in
    let others = joined (map statements trees) in (
      refl,
      first + n,
      all.0.root first (located_left ends first (statements t) others l),
      subst (λ last. Tiles ends (first + n) (numbers_from (first + n) (lengths trees)) last)
          (add_assoc first n (total (lengths trees)))
          (forest_tiles ends trees all.1 (first + n)
          (located_right ends first (statements t) others l)),
    )

in_part : (ends : List ℕ) (a b : List Placed) (first i : ℕ) (p : Placed) →
    (slice_get a i ≡ Some p → TilesAt ends (first + i) p) →
    ((j : ℕ) → slice_get b j ≡ Some p → TilesAt ends ((first + length a) + j) p) →
    (slice_get a i ≡ Some p) ⊎ Behind a b i p → TilesAt ends (first + i) p
in_part ends a b first i p left right (inl e) = left e
in_part ends a b first i p left right (inr r) =
    subst (λ k. TilesAt ends k p)
    (add_assoc first (length a) r.0 ∙ ap (λ m. first + m) (sym r.1)) (right r.0 r.2)

forest_nodes : (ends : List ℕ) (trees : Trees) → AllByRecursion (Stands ends) trees →
    (first : ℕ) → Located ends first (joined (map statements trees)) → (i : ℕ) (p : Placed) →
    slice_get (joined (map statements trees)) i ≡ Some p → TilesAt ends (first + i) p
forest_nodes ends [] all first l i p e = absurd (none-some p e)
forest_nodes ends (t ∷ trees) all first l i p e =
    let own = statements t in
    let others = joined (map statements trees) in
    in_part ends own others first i p
    (all.0.nodes first (located_left ends first own others l) i p)
    (λ j at. forest_nodes ends trees all.1 (first + length own)
    (located_right ends first own others l) j p at)
    (get_split own others i p e)

pub joined_length : (lists : List (List Placed)) → length (joined lists) ≡ total (map length lists)
joined_length [] = refl
joined_length (xs ∷ lists) =
    length-append xs (joined lists) ∙ ap (λ n. length xs + n) (joined_length lists)

suc_behind : (first n : ℕ) → (first + 1) + n ≡ first + suc n
suc_behind first n = omega arith

first_node : (ends : List ℕ) (first : ℕ) (q p : Placed) (trees : Trees) →
    q.sizes ≡ lengths trees → AllByRecursion (Stands ends) trees →
    Located ends first (q ∷ joined (map statements trees)) → q ≡ p → TilesAt ends (first + 0) p
first_node ends first q p trees sizes all l is =
    subst (λ (r : Placed). TilesAt ends (first + 0) r) is
    (subst (λ k. TilesAt ends k q) (sym (nothing_further first))
    (subst (λ (ns : List ℕ). Tiles ends (first + 1) (numbers_from (first + 1) ns)
    ((first + 1) + total ns)) (sym sizes)
    (forest_tiles ends trees all (first + 1)
    (located_tail ends first q (joined (map statements trees)) l))))

later_node : (ends : List ℕ) (first i : ℕ) (q p : Placed) (trees : Trees) →
    AllByRecursion (Stands ends) trees → Located ends first (q ∷ joined (map statements trees)) →
    slice_get (joined (map statements trees)) i ≡ Some p → TilesAt ends (first + suc i) p
later_node ends first i q p trees all l e =
    subst (λ k. TilesAt ends k p) (sym (one_further first i))
    (forest_nodes ends trees all (first + 1)
    (located_tail ends first q (joined (map statements trees)) l) i p e)

node_stands : (ends : List ℕ) (first : ℕ) (q : Placed) (trees : Trees) → q.sizes ≡ lengths trees →
    AllByRecursion (Stands ends) trees → Located ends first (q ∷ joined (map statements trees)) →
    (i : ℕ) (p : Placed) → slice_get (q ∷ joined (map statements trees)) i ≡ Some p →
    TilesAt ends (first + i) p
node_stands ends first q trees sizes all l zero p e =
    first_node ends first q p trees sizes all l (same_Some q p e)
node_stands ends first q trees sizes all l (suc i) p e =
    later_node ends first i q p trees all l e

node_root : (ends : List ℕ) (first : ℕ) (q : Placed) (trees : Trees) → q.sizes ≡ lengths trees →
    Located ends first (q ∷ joined (map statements trees)) →
    slice_get ends first ≡ Some (first + length (q ∷ joined (map statements trees)))
node_root ends first q trees sizes l =
    let others = joined (map statements trees) in
    subst (λ k. slice_get ends k ≡ Some (end_at k q)) (nothing_further first) (l.at 0 q refl)
    ∙ ap (λ (ns : List ℕ). Some ((first + 1) + total ns)) sizes
    ∙ ap (λ n. Some ((first + 1) + n)) (sym (joined_length (map statements trees)))
    ∙ ap (λ n. Some n) (suc_behind first (length others))

module _ (ends : List ℕ) where
  abbrev Held : Type 0
  Held = (t : CoreTree) × Stands ends t

  all_held : (held : List Held) → AllByRecursion (Stands ends) (map (λ (t : Held). t.0) held)
  all_held [] = tt
  all_held (t ∷ held) = (t.1, all_held held)

  abbrev bare : CoreTree-F Held → CoreTree-F CoreTree
  bare y = map-CoreTree Held CoreTree (λ t. t.0) y

  layer_root : (y : CoreTree-F Held) (first : ℕ) → Located ends first (node_of (bare y)) →
      slice_get ends first ≡ Some (first + length (node_of (bare y)))
  layer_root (CoreTree-F.Node h held place) first l =
      let trees = map (λ (t : Held). t.0) held in
      node_root ends first (record { head = h; sizes = lengths trees; place = place }) trees refl l

  layer_nodes : (y : CoreTree-F Held) (first : ℕ) → Located ends first (node_of (bare y)) →
      (i : ℕ) (p : Placed) → slice_get (node_of (bare y)) i ≡ Some p → TilesAt ends (first + i) p
  layer_nodes (CoreTree-F.Node h held place) first l i p e =
      let trees = map (λ (t : Held). t.0) held in
      node_stands ends first (record { head = h; sizes = lengths trees; place = place }) trees refl
      (all_held held) l i p e

  at_tree : (y : CoreTree-F Held) (x : CoreTree-F CoreTree) → bare y ≡ x →
      Stands ends (roll-CoreTree x)
  at_tree y x is =
      subst (λ (z : CoreTree-F CoreTree). Stands ends (roll-CoreTree z)) is (record {
        root = λ first l.
            subst (λ (ps : List Placed). slice_get ends first ≡ Some (first + length ps))
            (sym (open_statements (bare y)))
            (layer_root y first (subst (Located ends first) (open_statements (bare y)) l));
        nodes = λ first l i p e.
            layer_nodes y first (subst (Located ends first) (open_statements (bare y)) l) i p
            (ap (λ (ps : List Placed). slice_get ps i) (sym (open_statements (bare y))) ∙ e);
      })

  stands : (t : CoreTree) → Stands ends t
  stands = ind-CoreTree (Stands ends) (λ x y is. at_tree y x is)

  all_stand : (trees : Trees) → AllByRecursion (Stands ends) trees
  all_stand [] = tt
  all_stand (t ∷ trees) = (stands t, all_stand trees)

-- the statements of a program, by their trees

abbrev pub StmtOf : List ℕ → ℕ → Placed → Stmt → Type 0
StmtOf labels n p s = s ≡ stmt_of labels p.head (numbers_from (n + 1) p.sizes)

abbrev pub IsPlaced : List ℕ → ℕ → List Placed → ℕ → Stmt → Type 0
IsPlaced labels n placed i s =
    (p : Placed) × (slice_get placed i ≡ Some p) × StmtOf labels (n + i) p s

pub numbered_at : (labels : List ℕ) (n : ℕ) (placed : List Placed) (i : ℕ) (s : Stmt) →
    slice_get (numbered labels n placed) i ≡ Some s → IsPlaced labels n placed i s
numbered_at labels n [] i s e = absurd (none-some s e)
numbered_at labels n (p ∷ placed) zero s e =
    let first = stmt_of labels p.head (numbers_from (n + 1) p.sizes) in (
      p,
      refl,
      subst (λ k. StmtOf labels k p s) (sym (nothing_further n)) (sym
          (same_Some first s e)),
    )
numbered_at labels n (p ∷ placed) (suc i) s e =
    let r : IsPlaced labels (n + 1) placed i s = numbered_at labels (n + 1) placed i s e in
    (r.0, r.1, subst (λ k. StmtOf labels k r.0 s) (sym (one_further n i)) r.2)

pub numbered_length : (labels : List ℕ) (n : ℕ) (placed : List Placed) →
    length (numbered labels n placed) ≡ length placed
numbered_length labels n [] = refl
numbered_length labels n (p ∷ placed) = ap suc (numbered_length labels (n + 1) placed)

pub numbered_append : (labels : List ℕ) (n : ℕ) (xs ys : List Placed) →
    numbered labels n (xs ++ ys)
    ≡ numbered labels n xs ++ numbered labels (n + length xs) ys
numbered_append labels n [] ys =
    let e : n ≡ n + 0 = omega arith in ap (λ k. numbered labels k ys) e
numbered_append labels n (x ∷ xs) ys =
    let e : n + 1 + length xs ≡ n + suc (length xs) = omega arith in
    let one = stmt_of labels x.head (numbers_from (n + 1) x.sizes) in
    ap (λ ss. one ∷ ss) (numbered_append labels (n + 1) xs ys)
    ∙ ap (λ k. one ∷ (numbered labels (n + 1) xs ++ numbered labels k ys)) e

abbrev InTrees : ℕ → Trees → ℕ → Stmt → Type 0
InTrees n trees i s =
    (labels : List ℕ) × IsPlaced labels n (joined (map statements trees)) i s

in_first : (n : ℕ) (own others : List Placed) (labels : List ℕ) (i : ℕ) (s : Stmt) →
    IsPlaced labels n own i s → IsPlaced labels n (own ++ others) i s
in_first n own others labels i s r = (r.0, get_left own others i r.0 r.1, r.2)

in_others : (n : ℕ) (own others : List Placed) (labels : List ℕ) (i j : ℕ) (s : Stmt) →
    i ≡ length own + j → IsPlaced labels (n + length own) others j s →
    IsPlaced labels n (own ++ others) i s
in_others n own others labels i j s is r = (
  r.0,
  ap (slice_get (own ++ others)) is ∙ get_right own others j ∙ r.1,
  subst (λ k. StmtOf labels k r.0 s)
      (add_assoc n (length own) j ∙ ap (λ m. n + m) (sym is)) r.2,
)

found_in : (n : ℕ) (t : CoreTree) (trees : Trees) (i : ℕ) (s : Stmt) →
    ((j : ℕ) → slice_get (numbered_bodies (n + length (statements t)) trees) j ≡ Some s →
    InTrees (n + length (statements t)) trees j s) →
    (slice_get (numbered (labels_from n (statements t)) n (statements t)) i ≡ Some s)
    ⊎ Behind (numbered (labels_from n (statements t)) n (statements t))
    (numbered_bodies (n + length (statements t)) trees) i s →
    InTrees n (t ∷ trees) i s
found_in n t trees i s more (inl e) =
    let own = statements t in
    let labels = labels_from n own in (
      labels,
      in_first n own (joined (map statements trees)) labels i s
          (numbered_at labels n own i s e),
    )
found_in n t trees i s more (inr r) =
    let own = statements t in
    let rest : InTrees (n + length own) trees r.0 s = more r.0 r.2 in (
      rest.0,
      in_others n own (joined (map statements trees)) rest.0 i r.0 s
          (r.1 ∙ ap (λ m. m + r.0) (numbered_length (labels_from n own) n own)) rest.1,
    )

stmt_at : (n : ℕ) (trees : Trees) (i : ℕ) (s : Stmt) →
    slice_get (numbered_bodies n trees) i ≡ Some s → InTrees n trees i s
stmt_at n [] i s e = absurd (none-some s e)
stmt_at n (t ∷ trees) i s e =
    let own = statements t in
    found_in n t trees i s (λ j at. stmt_at (n + length own) trees j s at)
    (get_split (numbered (labels_from n own) n own) (numbered_bodies (n + length own) trees) i s e)

pub bodies_length : (n : ℕ) (trees : Trees) →
    length (numbered_bodies n trees) ≡ length (joined (map statements trees))
bodies_length n [] = refl
bodies_length n (t ∷ trees) =
    let own = statements t in
    let labels = labels_from n own in
    length-append (numbered labels n own) (numbered_bodies (n + length own) trees)
    ∙ ap (λ m. m + length (numbered_bodies (n + length own) trees)) (numbered_length labels n own)
    ∙ ap (λ m. length own + m) (bodies_length (n + length own) trees)
    ∙ sym (length-append own (joined (map statements trees)))

ends_length : (n : ℕ) (placed : List Placed) → length (ends_from n placed) ≡ length placed
ends_length n [] = refl
ends_length n (p ∷ placed) = ap suc (ends_length (n + 1) placed)

pub lengths_are : (trees : Trees) →
    lengths trees ≡ map (λ tree. length (statements tree)) trees
lengths_are [] = refl
lengths_are (t ∷ trees) = ap (λ ns. length (statements t) ∷ ns) (lengths_are trees)

module _ (trees : Trees) (shaped : AllShaped Anything trees) where
  abbrev whole : List Placed
  whole = joined (map statements trees)

  abbrev all_ends : List ℕ
  all_ends = ends_from 0 whole

  whole_located : Located all_ends 0 whole
  whole_located = record {
    at = λ i p e. ap (slice_get all_ends) (none_first i) ∙ ends_located 0 whole i p e;
  }

  bodies_tile : Tiles all_ends 0 (numbers_from 0 (lengths trees)) (length whole)
  bodies_tile =
      subst (Tiles all_ends 0 (numbers_from 0 (lengths trees)))
      (none_first (total (lengths trees)) ∙ sym (joined_length (map statements trees)))
      (forest_tiles all_ends trees (all_stand all_ends trees) 0 whole_located)

  placed_tile : (n : ℕ) (p : Placed) → slice_get whole n ≡ Some p → TilesAt all_ends n p
  placed_tile n p e =
      subst (λ k. TilesAt all_ends k p) (none_first n)
      (forest_nodes all_ends trees (all_stand all_ends trees) 0 whole_located n p e)

  parts_tile : (n : ℕ) (s : Stmt) (end : ℕ) → slice_get (numbered_bodies 0 trees) n ≡ Some s →
      slice_get all_ends n ≡ Some end → Tiles all_ends (n + 1) (parts_of s) end
  parts_tile n s end is ends_at =
      let found : InTrees 0 trees n s = stmt_at 0 trees n s is in
      let labels = found.0 in
      let p = found.1.0 in
      let place = found.1.1 in
      let numbers = numbers_from (n + 1) p.sizes in
      let one : s ≡ stmt_of labels p.head numbers =
      subst (λ k. StmtOf labels k p s) (none_first n) found.1.2 in
      let fits : HasParts p.head (length p.sizes) =
      (all_at (PlacedFits Anything) whole n p (joined_fit Anything trees shaped)
      place).0 in
      let has : HasParts p.head (length numbers) =
      subst (HasParts p.head) (sym (numbers_length (n + 1) p.sizes)) fits in
      let parts : parts_of s ≡ numbers = ap parts_of one ∙ parts_are labels p.head numbers has in
      let ends_here : slice_get all_ends n ≡ Some (end_at n p) =
      ends_located 0 whole n p place ∙ ap (λ k. Some (end_at k p)) (none_first n) in
      let same : end_at n p ≡ end = same_Some (end_at n p) end (sym ends_here ∙ ends_at) in
      subst (λ (cs : List ℕ). Tiles all_ends (n + 1) cs end) (sym parts)
      (subst (Tiles all_ends (n + 1) numbers) same (placed_tile n p place))

pub are_numbered : (trees : Trees) (P : Program) → AllShaped Anything trees → AreTreesOf P trees →
    IsNumbered P
are_numbered trees P shaped are =
    let many : length P.stmts ≡ length (joined (map statements trees)) =
    ap (λ (all : List Stmt). length all) are.stmts ∙ bodies_length 0 trees in
    record {
      ends = all_ends trees shaped;
      each = ends_length 0 (joined (map statements trees)) ∙ sym many;
      bodies =
          subst (λ (bodies : List ℕ). Tiles (all_ends trees shaped) 0 bodies (length P.stmts))
          (ap (numbers_from 0) (lengths_are trees) ∙ sym are.bodies)
          (subst (Tiles (all_ends trees shaped) 0 (numbers_from 0 (lengths trees))) (sym many)
          (bodies_tile trees shaped));
      parts = λ n s end at ends_at. parts_tile trees shaped n s end
          (ap (λ (all : List Stmt). slice_get all n) (sym are.stmts) ∙ at) ends_at;
    }
