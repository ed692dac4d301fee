-- A numbered program, in which each goto leads to a block of its function, has trees: each block
-- becomes a labelled one, and a goto names its block by its place among those of the function.
use Rattle.std.proofs.Common.{◌≡◌, ℕ, zero, suc, ◌+◌, ◌-◌, ◌<◌, ◌≤◌, ◌==◌, Bool, true, false, List}
use Rattle.std.proofs.Common.{[], ◌∷◌, ◌++◌, map, length, take, drop, Some, slice_get, get_or}
use Rattle.std.proofs.Common.{if◌then◌else◌, refl, ap, sym, ◌∙◌, subst, arith, append_assoc, inl}
use Rattle.std.proofs.Common.{inr, eqb-true, eq-eqb, ⊎_elim, length-append}
use Rattle.std.specs.Prelude.{◌⊎◌}
use Rattle.std.specs.List.{AllByRecursion}
use Rattle.std.proofs.lemmas.List.{append-nil}
use Rattle.std.proofs.lemmas.Option.{none-some, same_Some, slice_get_within, slice_get-get_or}
use Rattle.std.proofs.lemmas.Bool.{cases_lt, false≢true}
use Rattle.cpa_model.specs.declared.program.Stmt.{Stmt}
use Rattle.cpa_model.specs.declared.program.Stmt.TheVariants as stmt
use Rattle.cpa_model.specs.declared.program.Program.{Program}
use Rattle.cpa_model.specs.Programs.{IsStmt, IsBody, IsNumbered, Tiles, parts_of, InFunction}
use Rattle.cpa_model.specs.Programs.{function_body, function_part}
use Rattle.cpa_model.specs.lemmas.Parts.{firsts_items, place_of_part}
use Rattle.cpa_model.specs.lemmas.Tiling.{Grows, Tiles-grow, part_within, part_ends, parts_apart}
use Rattle.cpa_model.specs.lemmas.Trees.{some_function, function_inside, one_body}
use Rattle.cpa_model_trees.specs.declared.tree.CoreTree.{CoreTree}
use Rattle.cpa_model_trees.specs.declared.tree.CoreTree.TheVariants.{Node}
use Rattle.cpa_model_trees.specs.declared.tree.Head.{Head}
use Rattle.cpa_model_trees.specs.declared.tree.Head.TheVariants as head
use Rattle.cpa_model_trees.specs.Numbering.{Placed, Trees, joined, statements, part, numbers_from}
use Rattle.cpa_model_trees.specs.Numbering.{stmt_of, label_here, labels_from, numbered}
use Rattle.cpa_model_trees.specs.Numbering.{numbered_bodies}
use Rattle.cpa_model_trees.specs.Shapes.{HasParts, PlacedFits, Shaped, AllShaped, Anything}
use Rattle.cpa_model_trees.specs.lemmas.Nodes.{node_placed, shaped_node, numbers_length}
use Rattle.cpa_model_trees.specs.lemmas.Numbered.{lengths, lengths_are}
use Rattle.cpa_model_trees.specs.lemmas.Numbered.{numbered_length, numbered_append}
use Rattle.c_laws.specs.TreesBack.{HasTrees, GotosStay}

-- the head of a statement in a function whose blocks stand at these numbers

abbrev place_in : ℕ → List ℕ → ℕ
place_in n [] = 0
place_in n (m ∷ ms) = if m == n then 0 else suc (place_in n ms)

abbrev head_of : List ℕ → Stmt → Head
head_of labels (stmt.Block items) = head.Labeled
head_of labels (stmt.If test first second) = head.If test
head_of labels (stmt.Loop body step) = head.Loop
head_of labels (stmt.Assign base len index value) = head.Assign base len index value
head_of labels (stmt.Input cell) = head.Input cell
head_of labels (stmt.Call function) = head.Call function
head_of labels (stmt.Goto to) = head.Goto (place_in to labels)
head_of labels stmt.Break = head.Break
head_of labels stmt.Continue = head.Continue
head_of labels stmt.Leave = head.Leave
head_of labels stmt.Stop = head.Stop
head_of labels stmt.Error = head.Error

-- a head that is no block without a label
abbrev Named : Head → Type 0
Named head.Block = ⊥
Named _ = Unit {0}

head_named : (labels : List ℕ) (s : Stmt) → Named (head_of labels s)
head_named labels (stmt.Block items) = tt
head_named labels (stmt.If test first second) = tt
head_named labels (stmt.Loop body step) = tt
head_named labels (stmt.Assign base len index value) = tt
head_named labels (stmt.Input cell) = tt
head_named labels (stmt.Call function) = tt
head_named labels (stmt.Goto to) = tt
head_named labels stmt.Break = tt
head_named labels stmt.Continue = tt
head_named labels stmt.Leave = tt
head_named labels stmt.Stop = tt
head_named labels stmt.Error = tt

head_parts : (labels : List ℕ) (s : Stmt) → HasParts (head_of labels s) (length (parts_of s))
head_parts labels (stmt.Block items) = tt
head_parts labels (stmt.If test first second) = refl
head_parts labels (stmt.Loop body step) = refl
head_parts labels (stmt.Assign base len index value) = refl
head_parts labels (stmt.Input cell) = refl
head_parts labels (stmt.Call function) = refl
head_parts labels (stmt.Goto to) = refl
head_parts labels stmt.Break = refl
head_parts labels stmt.Continue = refl
head_parts labels stmt.Leave = refl
head_parts labels stmt.Stop = refl
head_parts labels stmt.Error = refl

-- a number stands in a list
abbrev IsIn : ℕ → List ℕ → Type 0
IsIn n [] = ⊥
IsIn n (m ∷ ms) = (m ≡ n) ⊎ IsIn n ms

in_test : (n m : ℕ) (ms : List ℕ) (b : Bool) → (m == n) ≡ b →
    (IsIn n ms → part ms (place_in n ms) ≡ n) → (m ≡ n) ⊎ IsIn n ms →
    part (m ∷ ms) (if b then 0 else suc (place_in n ms)) ≡ n
in_test n m ms true e rest h = eqb-true m n e
in_test n m ms false e rest (inl same) = absurd (false≢true (sym e ∙ eq-eqb m n same))
in_test n m ms false e rest (inr more) = rest more

placed_in : (n : ℕ) (ms : List ℕ) → IsIn n ms → part ms (place_in n ms) ≡ n
placed_in n [] h = absurd h
placed_in n (m ∷ ms) h = in_test n m ms (m == n) refl (λ more. placed_in n ms more) h

-- what a goto names is among these
abbrev Leads : List ℕ → Stmt → Type 0
Leads labels (stmt.Goto to) = IsIn to labels
Leads labels _ = Unit {0}

back : (labels : List ℕ) (s : Stmt) → Leads labels s →
    stmt_of labels (head_of labels s) (parts_of s) ≡ s
back labels (stmt.Block items) h = ap (λ ns. stmt.Block ns) (firsts_items items)
back labels (stmt.If test first second) h = refl
back labels (stmt.Loop body step) h = refl
back labels (stmt.Assign base len index value) h = refl
back labels (stmt.Input cell) h = refl
back labels (stmt.Call function) h = refl
back labels (stmt.Goto to) h = ap (λ n. stmt.Goto n) (placed_in to labels h)
back labels stmt.Break h = refl
back labels stmt.Continue h = refl
back labels stmt.Leave h = refl
back labels stmt.Stop h = refl
back labels stmt.Error h = refl

-- lists

dropped : {X : Type 0} (xs : List X) (n : ℕ) (x : X) → slice_get xs n ≡ Some x →
    drop n xs ≡ x ∷ drop (n + 1) xs
dropped [] n x e = absurd (none-some x e)
dropped (y ∷ xs) zero x e = ap (λ z. z ∷ xs) (same_Some y x e)
dropped (y ∷ xs) (suc n) x e =
    let f : suc (n + 1) ≡ suc n + 1 = omega arith in
    dropped xs n x e ∙ ap (λ k. x ∷ drop k (y ∷ xs)) f

dropped_all : {X : Type 0} (xs : List X) (n : ℕ) → n ≡ length xs → drop n xs ≡ []
dropped_all [] zero e = refl
dropped_all [] (suc n) e = absurd (omega (arith, e))
dropped_all (y ∷ xs) zero e = absurd (omega (arith, e))
dropped_all (y ∷ xs) (suc n) e = dropped_all xs n (omega (arith, e))

taken_first : {X : Type 0} (xs ys : List X) (n : ℕ) → n ≡ length xs → take n (xs ++ ys) ≡ xs
taken_first [] ys zero e = refl
taken_first [] ys (suc n) e = absurd (omega (arith, e))
taken_first (x ∷ xs) ys zero e = absurd (omega (arith, e))
taken_first (x ∷ xs) ys (suc n) e = ap (λ zs. x ∷ zs) (taken_first xs ys n (omega (arith, e)))

-- the blocks among statements, of which the first stands at n

abbrev block_here : Stmt → ℕ → List ℕ
block_here (stmt.Block items) n = n ∷ []
block_here _ n = []

abbrev blocks_from : ℕ → List Stmt → List ℕ
blocks_from n [] = []
blocks_from n (s ∷ more) = block_here s n ++ blocks_from (n + 1) more

same_here : (labels : List ℕ) (h : Head) (numbers : List ℕ) (n : ℕ) → Named h →
    label_here h n ≡ block_here (stmt_of labels h numbers) n
same_here labels head.Block numbers n named = absurd named
same_here labels head.Labeled numbers n named = refl
same_here labels (head.If test) numbers n named = refl
same_here labels head.Loop numbers n named = refl
same_here labels (head.Assign base len index value) numbers n named = refl
same_here labels (head.Input cell) numbers n named = refl
same_here labels (head.Call function) numbers n named = refl
same_here labels (head.Goto label) numbers n named = refl
same_here labels head.Break numbers n named = refl
same_here labels head.Continue numbers n named = refl
same_here labels head.Leave numbers n named = refl
same_here labels head.Stop numbers n named = refl
same_here labels head.Error numbers n named = refl

same_labels : (labels : List ℕ) (n : ℕ) (placed : List Placed) →
    AllByRecursion (PlacedFits Named) placed →
    labels_from n placed ≡ blocks_from n (numbered labels n placed)
same_labels labels n [] all = refl
same_labels labels n (p ∷ placed) all =
    let numbers = numbers_from (n + 1) p.sizes in
    ap (λ ns. ns ++ labels_from (n + 1) placed) (same_here labels p.head numbers n all.0.1)
    ∙ ap (λ ns. block_here (stmt_of labels p.head numbers) n ++ ns)
    (same_labels labels (n + 1) placed all.1)

in_left : (n : ℕ) (xs ys : List ℕ) → IsIn n xs → IsIn n (xs ++ ys)
in_left n [] ys h = absurd h
in_left n (x ∷ xs) ys (inl same) = inl same
in_left n (x ∷ xs) ys (inr h) = inr (in_left n xs ys h)

in_right : (n : ℕ) (xs ys : List ℕ) → IsIn n ys → IsIn n (xs ++ ys)
in_right n [] ys h = h
in_right n (x ∷ xs) ys h = inr (in_right n xs ys h)

-- a block below the end of statements that begin at n is among them
block_in : (k n i : ℕ) (all : List Stmt) (items : List ℕ) →
    slice_get all i ≡ Some (stmt.Block items) → i < k → IsIn (n + i) (blocks_from n (take k all))
block_in k n i [] items e below = absurd (none-some (stmt.Block items) e)
block_in zero n i (t ∷ all) items e below = absurd (omega arith)
block_in (suc k) n zero (t ∷ all) items e below =
    let at : IsIn (n + 0) (block_here (stmt.Block items) n) = inl (omega arith) in
    in_left (n + 0) (block_here t n) (blocks_from (n + 1) (take k all))
    (subst (λ s. IsIn (n + 0) (block_here s n)) (sym (same_Some t (stmt.Block items) e)) at)
block_in (suc k) n (suc i) (t ∷ all) items e below =
    let one_more : n + 1 + i ≡ n + suc i = omega arith in
    subst (λ m. IsIn m (block_here t n ++ blocks_from (n + 1) (take k all))) one_more
    (in_right (n + 1 + i) (block_here t n) (blocks_from (n + 1) (take k all))
    (block_in k (n + 1) i all items e (omega arith)))

get_drop : {X : Type 0} (xs : List X) (n i : ℕ) → slice_get (drop n xs) i ≡ slice_get xs (n + i)
get_drop xs zero i = let e : i ≡ 0 + i = omega arith in ap (slice_get xs) e
get_drop [] (suc n) i = refl
get_drop (x ∷ xs) (suc n) i =
    let e : suc (n + i) ≡ suc n + i = omega arith in
    get_drop xs n i ∙ ap (slice_get (x ∷ xs)) e

many_lengths : (trees : Trees) → length (lengths trees) ≡ length trees
many_lengths [] = refl
many_lengths (t ∷ trees) = ap suc (many_lengths trees)

level : (a b : ℕ) → (a < b → ⊥) → (b < a → ⊥) → a ≡ b
level a b h k =
    ⊎_elim (λ less. absurd (h less)) (λ (more : b ≤ a).
    ⊎_elim (λ less. absurd (k less)) (λ (less : a ≤ b). omega arith) (cases_lt b a))
    (cases_lt a b)

-- each tree ends behind its root

stmt_of_end : (P : Program) (N : IsNumbered P) (n end : ℕ) → slice_get N.ends n ≡ Some end →
    (s : Stmt) × IsStmt P n s
stmt_of_end P N n end e =
    let h : n < length N.ends = slice_get_within N.ends n end e in
    let inside : n < length P.stmts = omega (arith, N.each) in
    (get_or P.stmts n stmt.Break, slice_get-get_or P.stmts n stmt.Break inside)

grows_from : (P : Program) (N : IsNumbered P) (k first : ℕ) → length P.stmts ≤ first + k →
    Grows N.ends first
grows_from P N zero first enough n end from e =
    let h : n < length N.ends = slice_get_within N.ends n end e in
    absurd (omega (arith, N.each))
grows_from P N (suc k) first enough n end from e =
    let s : (s : Stmt) × IsStmt P n s = stmt_of_end P N n end e in
    let later : Grows N.ends (n + 1) = grows_from P N k (n + 1) (omega arith) in
    let up : n + 1 ≤ end =
    Tiles-grow N.ends (n + 1) (parts_of s.0) end later (N.parts n s.0 end s.1 e) in
    omega arith

grows : (P : Program) (N : IsNumbered P) (first : ℕ) → Grows N.ends first
grows P N first = grows_from P N (length P.stmts) first (omega arith)

-- trees whose roots have these numbers, and whose statements are those of the program from the
-- first number to the last
record Grown (P : Program) (labels : List ℕ) (first : ℕ) (cs : List ℕ) (last : ℕ) : Type 0 where
  trees : Trees
  shaped : AllShaped Named trees
  numbers : numbers_from first (lengths trees) ≡ cs
  ends : first + length (joined (map statements trees)) ≡ last
  are : drop first P.stmts
      ≡ numbered labels first (joined (map statements trees)) ++ drop last P.stmts

-- the gotos between two numbers lead to what these labels name
abbrev AllLead : Program → List ℕ → ℕ → ℕ → Type 0
AllLead P labels first last =
    (n : ℕ) (s : Stmt) → first ≤ n → n < last → IsStmt P n s → Leads labels s

more_grown : (P : Program) (labels : List ℕ) (first end last : ℕ) (s : Stmt) (cs : List ℕ) →
    IsStmt P first s → Leads labels s → Grown P labels (first + 1) (parts_of s) end →
    Grown P labels end cs last → Grown P labels first (first ∷ cs) last
more_grown P labels first end last s cs is leads inner others =
    let h = head_of labels s in
    let parts = inner.trees in
    let tree = Node h parts 0 in
    let below = joined (map statements parts) in
    let behind = joined (map statements others.trees) in
    let left = drop last P.stmts in
    let many : length parts ≡ length (parts_of s) =
    sym (many_lengths parts) ∙ sym (numbers_length (first + 1) (lengths parts))
    ∙ ap (λ (ns : List ℕ). length ns) inner.numbers in
    let placed : statements tree ≡ record { head = h; sizes = lengths parts; place = 0 } ∷ below =
    node_placed h parts 0 in
    let size : length (statements tree) ≡ suc (length below) =
    ap (λ (ps : List Placed). length ps) placed in
    let here_ends : first + length (statements tree) ≡ end = omega (arith, size, inner.ends) in
    let own : numbered labels first (statements tree) ≡ s ∷ numbered labels (first + 1) below =
    ap (numbered labels first) placed
    ∙ ap (λ ns. stmt_of labels h ns ∷ numbered labels (first + 1) below) inner.numbers
    ∙ ap (λ t. t ∷ numbered labels (first + 1) below) (back labels s leads) in
    record {
      trees = tree ∷ others.trees;
      shaped = (
        shaped_node Named h parts 0 (subst (HasParts h) (sym many) (head_parts labels s))
            (head_named labels s) inner.shaped,
        others.shaped,
      );
      numbers = ap (λ k. first ∷ numbers_from k (lengths others.trees)) here_ends
          ∙ ap (λ ns. first ∷ ns) others.numbers;
      ends = omega (arith, here_ends, others.ends, length-append (statements tree) behind);
      are = dropped P.stmts first s is
          ∙ ap (λ ss. s ∷ ss) inner.are
          ∙ ap (λ ss. s ∷ (numbered labels (first + 1) below ++ ss)) others.are
          ∙ sym (append_assoc (s ∷ numbered labels (first + 1) below)
          (numbered labels end behind) left)
          ∙ ap (λ ss. (ss ++ numbered labels end behind) ++ left) (sym own)
          ∙ ap (λ k. (numbered labels first (statements tree) ++ numbered labels k behind)
          ++ left) (sym here_ends)
          ∙ ap (λ ss. ss ++ left) (sym (numbered_append labels first (statements tree) behind));
    }

grow : (P : Program) (N : IsNumbered P) (k : ℕ) (labels : List ℕ) (first : ℕ) (cs : List ℕ)
    (last : ℕ) → last ≤ first + k → AllLead P labels first last → Tiles N.ends first cs last →
    Grown P labels first cs last
grow P N k labels first [] last enough leads t = record {
  trees = [];
  shaped = tt;
  numbers = refl;
  ends = omega (arith, t);
  are = ap (λ n. drop n P.stmts) t;
}
grow P N zero labels first (c ∷ cs) last enough leads t =
    let up : c < t.1 = grows P N c c t.1 (omega arith) t.2 in
    let rest : t.1 ≤ last = Tiles-grow N.ends t.1 cs last (grows P N t.1) t.3 in
    absurd (omega (arith, t.0))
grow P N (suc k) labels first (c ∷ cs) last enough leads t =
    let end = t.1 in
    let up : c < end = grows P N c c end (omega arith) t.2 in
    let rest : end ≤ last = Tiles-grow N.ends end cs last (grows P N end) t.3 in
    let s : (s : Stmt) × IsStmt P c s = stmt_of_end P N c end t.2 in
    let inner : Grown P labels (c + 1) (parts_of s.0) end =
    grow P N k labels (c + 1) (parts_of s.0) end (omega (arith, t.0))
    (λ n r from below. leads n r (omega (arith, t.0)) (omega arith))
    (N.parts c s.0 end s.1 t.2) in
    let others : Grown P labels end cs last =
    grow P N k labels end cs last (omega (arith, t.0))
    (λ n r from below. leads n r (omega (arith, t.0)) below) t.3 in
    let lead : Leads labels s.0 = leads c s.0 (omega (arith, t.0)) (omega arith) s.1 in
    subst (λ n. Grown P labels n (c ∷ cs) last) t.0
    (more_grown P labels c end last s.0 cs s.1 lead inner others)

-- where a statement of a function begins and ends

record Stands (ends : List ℕ) (r last m : ℕ) : Type 0 where
  end : ℕ
  is : slice_get ends m ≡ Some end
  from : r ≤ m
  below : m < end
  inside : end ≤ last

stands : (P : Program) (N : IsNumbered P) (f r last m : ℕ) → IsBody P f r →
    slice_get N.ends r ≡ Some last → InFunction P f m → Stands N.ends r last m
stands P N f r last m body ends (function_body is) =
    let same : r ≡ m = same_Some r m (sym body ∙ is) in
    let at : slice_get N.ends m ≡ Some last =
    subst (λ k. slice_get N.ends k ≡ Some last) same ends in
    record {
      end = last;
      is = at;
      from = omega (arith, same);
      below = grows P N m m last (omega arith) at;
      inside = omega arith;
    }
stands P N f r last m body ends (function_part b one up) =
    let above : Stands N.ends r last b = stands P N f r last b body ends up in
    let place : (k : ℕ) × (slice_get (parts_of one.stmt) k ≡ Some m) =
    place_of_part b one.stmt m one.place one.part in
    let tiles : Tiles N.ends (b + 1) (parts_of one.stmt) above.end =
    N.parts b one.stmt above.end one.is above.is in
    let end : (end : ℕ) × (slice_get N.ends m ≡ Some end) =
    part_ends N.ends (b + 1) (parts_of one.stmt) above.end place.0 m tiles place.1 in
    let within : (b + 1 ≤ m) × (m < end.0) × (end.0 ≤ above.end) =
    part_within N.ends (b + 1) (parts_of one.stmt) above.end place.0 m end.0
    (grows P N (b + 1)) tiles place.1 end.1 in
    record {
      end = end.0;
      is = end.1;
      from = omega (arith, above.from, within.0);
      below = within.1;
      inside = omega (arith, within.2, above.inside);
    }

-- a statement between them stands in the function
in_function : (P : Program) (N : IsNumbered P) (f r last m : ℕ) → IsBody P f r →
    slice_get N.ends r ≡ Some last → r ≤ m → m < last → last ≤ length P.stmts →
    InFunction P f m
in_function P N f r last m body ends from below inside =
    let some : (g : ℕ) × InFunction P g m = some_function P N m (omega arith) in
    let g = some.0 in
    let few : g < length P.bodies = function_inside P N g m some.1 in
    let q = get_or P.bodies g 0 in
    let root : IsBody P g q = slice_get-get_or P.bodies g 0 few in
    let end : (end : ℕ) × (slice_get N.ends q ≡ Some end) =
    part_ends N.ends 0 P.bodies (length P.stmts) g q N.bodies root in
    let at : Stands N.ends q end.0 m = stands P N g q end.0 m root end.1 some.1 in
    let not_before : q < r → ⊥ =
    λ less. let apart : end.0 ≤ r =
    parts_apart N.ends 0 P.bodies (length P.stmts) g f q r end.0 (grows P N 0) N.bodies root body
    less end.1 in omega (arith, apart, at.below, at.inside) in
    let not_behind : r < q → ⊥ =
    λ less. let apart : last ≤ q =
    parts_apart N.ends 0 P.bodies (length P.stmts) f g r q last (grows P N 0) N.bodies body root
    less ends in omega (arith, apart, at.from) in
    let same : q ≡ r = level q r not_before not_behind in
    let one : g ≡ f = one_body P N g f r (subst (IsBody P g) same root) body in
    subst (λ h. InFunction P h m) one some.1

-- a function's statements, as one tree

abbrev blocks_of : Program → ℕ → ℕ → List ℕ
blocks_of P c end = blocks_from c (take (end - c) (drop c P.stmts))

record One (P : Program) (c end : ℕ) : Type 0 where
  tree : CoreTree
  shaped : Shaped Named tree
  ends : c + length (statements tree) ≡ end
  are : drop c P.stmts ≡ numbered (blocks_of P c end) c (statements tree) ++ drop end P.stmts

single : (P : Program) (c end : ℕ) (trees : Trees) → AllShaped Named trees →
    numbers_from c (lengths trees) ≡ c ∷ [] → c + length (joined (map statements trees)) ≡ end →
    drop c P.stmts
    ≡ numbered (blocks_of P c end) c (joined (map statements trees)) ++ drop end P.stmts →
    One P c end
single P c end [] shaped numbers ends are = absurd (cc (numbers))
single P c end (t ∷ []) shaped numbers ends are = record {
  tree = t;
  shaped = shaped.0;
  ends = ap (λ (ps : List Placed). c + length ps) (sym (append-nil (statements t))) ∙ ends;
  are = are
      ∙ ap (λ (ps : List Placed). numbered (blocks_of P c end) c ps ++ drop end P.stmts)
      (append-nil (statements t));
}
single P c end (t ∷ u ∷ trees) shaped numbers ends are = absurd (cc (numbers))

-- its labels are those of the tree
labelled : (P : Program) (c end : ℕ) (one : One P c end) →
    drop c P.stmts
    ≡ numbered (labels_from c (statements one.tree)) c (statements one.tree) ++ drop end P.stmts
labelled P c end one =
    let own = statements one.tree in
    let labels = blocks_of P c end in
    let ss = numbered labels c own in
    let many : end - c ≡ length ss = omega (arith, one.ends, numbered_length labels c own) in
    let same : labels ≡ labels_from c own =
    ap (λ (xs : List Stmt). blocks_from c (take (end - c) xs)) one.are
    ∙ ap (blocks_from c) (taken_first ss (drop end P.stmts) (end - c) many)
    ∙ sym (same_labels labels c own one.shaped.all) in
    one.are ∙ ap (λ (ls : List ℕ). numbered ls c own ++ drop end P.stmts) same

leading : (P : Program) (N : IsNumbered P) → GotosStay P → (f c end : ℕ) → IsBody P f c →
    slice_get N.ends c ≡ Some end → end ≤ length P.stmts → (n : ℕ) (s : Stmt) → c ≤ n →
    n < end → IsStmt P n s → Leads (blocks_of P c end) s
leading P N gotos f c end body ends inside n (stmt.Goto to) from below is =
    let stays : InFunction P f to × (items : List ℕ) × IsStmt P to (stmt.Block items) =
    gotos n to f is (in_function P N f c end n body ends from below inside) in
    let at : Stands N.ends c end to = stands P N f c end to body ends stays.0 in
    let back_to : c + (to - c) ≡ to = omega (arith, at.from) in
    let less : to - c < end - c = omega (arith, at.from, at.below, at.inside) in
    subst (λ k. IsIn k (blocks_of P c end)) back_to
    (block_in (end - c) c (to - c) (drop c P.stmts) stays.1
    (get_drop P.stmts c (to - c) ∙ ap (slice_get P.stmts) back_to ∙ stays.2) less)
leading P N gotos f c end body ends inside n (stmt.Block items) from below is = tt
leading P N gotos f c end body ends inside n (stmt.If test first second) from below is = tt
leading P N gotos f c end body ends inside n (stmt.Loop inner step) from below is = tt
leading P N gotos f c end body ends inside n (stmt.Assign base len index value) from below is = tt
leading P N gotos f c end body ends inside n (stmt.Input cell) from below is = tt
leading P N gotos f c end body ends inside n (stmt.Call function) from below is = tt
leading P N gotos f c end body ends inside n stmt.Break from below is = tt
leading P N gotos f c end body ends inside n stmt.Continue from below is = tt
leading P N gotos f c end body ends inside n stmt.Leave from below is = tt
leading P N gotos f c end body ends inside n stmt.Stop from below is = tt
leading P N gotos f c end body ends inside n stmt.Error from below is = tt

body_grown : (P : Program) (N : IsNumbered P) → GotosStay P → (f c end : ℕ) → IsBody P f c →
    slice_get N.ends c ≡ Some end → end ≤ length P.stmts → One P c end
body_grown P N gotos f c end body ends inside =
    let up : c < end = grows P N c c end (omega arith) ends in
    let grown : Grown P (blocks_of P c end) c (c ∷ []) end =
    grow P N (end - c) (blocks_of P c end) c (c ∷ []) end (omega arith)
    (leading P N gotos f c end body ends inside) (refl, end, ends, refl) in
    single P c end grown.trees grown.shaped grown.numbers grown.ends grown.are

-- the functions one behind the other

record Bodies (P : Program) (first : ℕ) (cs : List ℕ) (last : ℕ) : Type 0 where
  trees : Trees
  shaped : AllShaped Anything trees
  numbers : numbers_from first (lengths trees) ≡ cs
  are : drop first P.stmts ≡ numbered_bodies first trees ++ drop last P.stmts

any_fit : (placed : List Placed) → AllByRecursion (PlacedFits Named) placed →
    AllByRecursion (PlacedFits Anything) placed
any_fit [] h = tt
any_fit (p ∷ placed) h = ((h.0.0, tt), any_fit placed h.1)

more_bodies : (P : Program) (c end last : ℕ) (cs : List ℕ) → One P c end → Bodies P end cs last →
    Bodies P c (c ∷ cs) last
more_bodies P c end last cs one others =
    let own = statements one.tree in
    let ss = numbered (labels_from c own) c own in
    let left = drop last P.stmts in
    record {
      trees = one.tree ∷ others.trees;
      shaped = (record { all = any_fit own one.shaped.all }, others.shaped);
      numbers = ap (λ n. c ∷ numbers_from n (lengths others.trees)) one.ends
          ∙ ap (λ ns. c ∷ ns) others.numbers;
      are = labelled P c end one
          ∙ ap (λ (rest : List Stmt). ss ++ rest) others.are
          ∙ sym (append_assoc ss (numbered_bodies end others.trees) left)
          ∙ ap (λ n. (ss ++ numbered_bodies n others.trees) ++ left) (sym one.ends);
    }

bodies_grown : (P : Program) (N : IsNumbered P) → GotosStay P → (k first : ℕ) (cs : List ℕ)
    (last : ℕ) → last ≤ length P.stmts →
    ((i c : ℕ) → slice_get cs i ≡ Some c → IsBody P (k + i) c) → Tiles N.ends first cs last →
    Bodies P first cs last
bodies_grown P N gotos k first [] last inside are t = record {
  trees = [];
  shaped = tt;
  numbers = refl;
  are = ap (λ n. drop n P.stmts) t;
}
bodies_grown P N gotos k first (c ∷ cs) last inside are t =
    let end = t.1 in
    let rest : end ≤ last = Tiles-grow N.ends end cs last (grows P N end) t.3 in
    let one : One P c end =
    body_grown P N gotos (k + 0) c end (are 0 c refl) t.2 (omega (arith, rest)) in
    let others : Bodies P end cs last =
    bodies_grown P N gotos (k + 1) end cs last inside
    (λ i d at. let e : k + suc i ≡ k + 1 + i = omega arith in
    subst (λ f. IsBody P f d) e (are (suc i) d at)) t.3 in
    subst (λ n. Bodies P n (c ∷ cs) last) t.0 (more_bodies P c end last cs one others)

pub have_trees : (P : Program) → IsNumbered P → GotosStay P → HasTrees P
have_trees P N gotos =
    let end = length P.stmts in
    let all : Bodies P 0 P.bodies end =
    bodies_grown P N gotos 0 0 P.bodies end (omega arith)
    (λ i c at. let e : i ≡ 0 + i = omega arith in subst (λ f. IsBody P f c) e at) N.bodies in
    record {
      trees = all.trees;
      shaped = all.shaped;
      are = record {
        bodies = sym all.numbers ∙ ap (numbers_from 0) (lengths_are all.trees);
        stmts = all.are
            ∙ ap (λ (rest : List Stmt). numbered_bodies 0 all.trees ++ rest)
            (dropped_all P.stmts end refl)
            ∙ append-nil (numbered_bodies 0 all.trees);
      };
    }
