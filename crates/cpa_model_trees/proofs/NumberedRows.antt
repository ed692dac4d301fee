-- Numbered statements of trees one behind the other: a node is its own statement and those of its
-- parts (`node_*`), a row its first tree and the others (`row_*`).
use Rattle.std.proofs.Common.{◌≡◌, ℕ, suc, ◌+◌, List, [], ◌∷◌, ◌++◌, length, refl, ap, sym, ◌<◌}
use Rattle.std.proofs.Common.{◌≤◌, ◌*◌, get_or, drop, ◌∙◌, arith, append_assoc, set, length-append}
use Rattle.std.proofs.lemmas.List.{at_drop_more, map-append}
use Rattle.cpa_model.specs.declared.program.Stmt.{Stmt}
use Rattle.cpa_model_trees.specs.declared.tree.CoreTree.{CoreTree}
use Rattle.cpa_model_trees.specs.declared.tree.CoreTree.TheVariants as tree
use Rattle.cpa_model_trees.specs.declared.tree.Head.{Head}
use Rattle.cpa_model_trees.specs.Numbering.{Placed, statements, numbers_from, stmt_of, label_here}
use Rattle.cpa_model_trees.specs.Numbering.{labels_from, numbered, numbered_bodies, places_in}
use Rattle.cpa_model_trees.specs.Rows.{row_of, sizes_of, places_of}
use Rattle.cpa_model_trees.specs.lemmas.Nodes.{node_placed}
use Rattle.cpa_model_trees.specs.lemmas.Numbered.{lengths_are, numbered_length, numbered_append}

node_is : (h : Head) (parts : List CoreTree) (place : ℕ) →
    statements (tree.Node h parts place)
    ≡ record { head = h; sizes = sizes_of parts; place = place } ∷ row_of parts
node_is h parts place =
    node_placed h parts place
    ∙ ap (λ ns. record { head = h; sizes = ns; place = place } ∷ row_of parts) (lengths_are parts)

pub node_labels : (h : Head) (parts : List CoreTree) (place n : ℕ) →
    labels_from n (statements (tree.Node h parts place))
    ≡ label_here h n ++ labels_from (n + 1) (row_of parts)
node_labels h parts place n = ap (labels_from n) (node_is h parts place)

pub node_length : (h : Head) (parts : List CoreTree) (place : ℕ) →
    length (statements (tree.Node h parts place)) ≡ 1 + length (row_of parts)
node_length h parts place =
    let e : length (statements (tree.Node h parts place)) ≡ suc (length (row_of parts)) =
    ap length (node_is h parts place) in
    omega (arith, e)

pub node_numbered : (labels : List ℕ) (h : Head) (parts : List CoreTree) (place n : ℕ) →
    numbered labels n (statements (tree.Node h parts place))
    ≡ stmt_of labels h (numbers_from (n + 1) (sizes_of parts))
    ∷ numbered labels (n + 1) (row_of parts)
node_numbered labels h parts place n = ap (numbered labels n) (node_is h parts place)

pub labels_append : (n : ℕ) (xs ys : List Placed) →
    labels_from n (xs ++ ys) ≡ labels_from n xs ++ labels_from (n + length xs) ys
labels_append n [] ys =
    let e : n ≡ n + 0 = omega arith in ap (λ k. labels_from k ys) e
labels_append n (x ∷ xs) ys =
    let e : n + 1 + length xs ≡ n + suc (length xs) = omega arith in
    ap (λ ls. label_here x.head n ++ ls) (labels_append (n + 1) xs ys)
    ∙ sym (append_assoc (label_here x.head n) (labels_from (n + 1) xs)
    (labels_from (n + 1 + length xs) ys))
    ∙ ap (λ k. (label_here x.head n ++ labels_from (n + 1) xs) ++ labels_from k ys) e

set_behind : (before : List Stmt) (old new : Stmt) (rest : List Stmt) →
    set (before ++ old ∷ rest) (length before) new ≡ before ++ new ∷ rest
set_behind [] old new rest = refl
set_behind (s ∷ before) old new rest = ap (λ ss. s ∷ ss) (set_behind before old new rest)

-- a tree more of a row
pub row_labels : (before after : List ℕ) (n next : ℕ) (t : CoreTree) (ts : List CoreTree)
    (whole : List ℕ) → after ≡ before ++ labels_from n (statements t) →
    next ≡ n + length (statements t) →
    before ++ labels_from n (row_of (t ∷ ts)) ≡ whole →
    after ++ labels_from next (row_of ts) ≡ whole
row_labels before after n next t ts whole a e w =
    ap (λ ls. ls ++ labels_from next (row_of ts)) a
    ∙ ap (λ k. (before ++ labels_from n (statements t)) ++ labels_from k (row_of ts)) e
    ∙ append_assoc before (labels_from n (statements t))
    (labels_from (n + length (statements t)) (row_of ts))
    ∙ ap (λ ls. before ++ ls) (sym (labels_append n (statements t) (row_of ts))) ∙ w

pub row_numbered : (labels : List ℕ) (before after : List Stmt) (t : CoreTree)
    (ts : List CoreTree) (whole : List Stmt) →
    after ≡ before ++ numbered labels (length before) (statements t) →
    before ++ numbered labels (length before) (row_of (t ∷ ts)) ≡ whole →
    after ++ numbered labels (length after) (row_of ts) ≡ whole
row_numbered labels before after t ts whole a w =
    let n = length before in
    let one = numbered labels n (statements t) in
    ap (λ ss. ss ++ numbered labels (length ss) (row_of ts)) a
    ∙ ap (λ k. (before ++ one) ++ numbered labels k (row_of ts))
    (length-append before one ∙ ap (λ k. n + k) (numbered_length labels n (statements t)))
    ∙ append_assoc before one (numbered labels (n + length (statements t)) (row_of ts))
    ∙ ap (λ ss. before ++ ss) (sym (numbered_append labels n (statements t) (row_of ts))) ∙ w

pub row_numbers : (labels : List ℕ) (before after : List Stmt) (kept new : List ℕ) (t : CoreTree)
    (ts : List CoreTree) (number : ℕ) (whole : List ℕ) →
    after ≡ before ++ numbered labels (length before) (statements t) →
    number ≡ length before → new ≡ kept ++ number ∷ [] →
    kept ++ numbers_from (length before) (sizes_of (t ∷ ts)) ≡ whole →
    new ++ numbers_from (length after) (sizes_of ts) ≡ whole
row_numbers labels before after kept new t ts number whole a e n w =
    let k = length before + length (statements t) in
    let l : length after ≡ k = ap length a
    ∙ length-append before (numbered labels (length before) (statements t))
    ∙ ap (λ m. length before + m) (numbered_length labels (length before) (statements t)) in
    ap (λ ns. ns ++ numbers_from (length after) (sizes_of ts)) n
    ∙ append_assoc kept (number ∷ []) (numbers_from (length after) (sizes_of ts))
    ∙ ap (λ m. kept ++ (m ∷ numbers_from (length after) (sizes_of ts))) e
    ∙ ap (λ m. kept ++ (length before ∷ numbers_from m (sizes_of ts))) l ∙ w

-- a function more
pub body_numbered : (before after : List Stmt) (t : CoreTree) (ts : List CoreTree)
    (whole : List Stmt) →
    after ≡ before ++ numbered (labels_from (length before) (statements t)) (length before)
    (statements t) → before ++ numbered_bodies (length before) (t ∷ ts) ≡ whole →
    after ++ numbered_bodies (length after) ts ≡ whole
body_numbered before after t ts whole a w =
    let n = length before in
    let labels = labels_from n (statements t) in
    let one = numbered labels n (statements t) in
    ap (λ ss. ss ++ numbered_bodies (length ss) ts) a
    ∙ ap (λ k. (before ++ one) ++ numbered_bodies k ts)
    (length-append before one ∙ ap (λ k. n + k) (numbered_length labels n (statements t)))
    ∙ append_assoc before one (numbered_bodies (n + length (statements t)) ts) ∙ w

-- the root in the place that was held for it
pub root_placed : (before held placed : List Stmt) (labels : List ℕ) (h : Head)
    (parts : List CoreTree) (place : ℕ) (holder : Stmt) (number : ℕ) (numbers : List ℕ) →
    number ≡ length before → held ≡ before ++ holder ∷ [] →
    placed ≡ held ++ numbered labels (length held) (row_of parts) →
    numbers ≡ numbers_from (length held) (sizes_of parts) →
    set placed number (stmt_of labels h numbers)
    ≡ before ++ numbered labels (length before) (statements (tree.Node h parts place))
root_placed before held placed labels h parts place holder number numbers e k p n =
    let m = length before in
    let l : length held ≡ m + 1 = ap length k ∙ length-append before (holder ∷ []) in
    let rest = numbered labels (m + 1) (row_of parts) in
    let all : placed ≡ before ++ holder ∷ rest =
    p ∙ ap (λ j. held ++ numbered labels j (row_of parts)) l
    ∙ ap (λ ss. ss ++ rest) k ∙ append_assoc before (holder ∷ []) rest in
    let root = stmt_of labels h (numbers_from (m + 1) (sizes_of parts)) in
    ap (λ ns. set placed number (stmt_of labels h ns))
    (n ∙ ap (λ j. numbers_from j (sizes_of parts)) l)
    ∙ ap (λ i. set placed i root) e
    ∙ ap (λ ss. set ss m root) all
    ∙ set_behind before holder root rest
    ∙ ap (λ ss. before ++ ss) (sym (node_numbered labels h parts place m))

-- the same in a list that is gone through by its index
pub note_kept : (before after : List ℕ) (n next : ℕ) (xs : List CoreTree) (i : ℕ) (t : CoreTree)
    (whole : List ℕ) (end : ℕ) → i < length xs → t ≡ get_or xs i t →
    after ≡ before ++ labels_from n (statements t) → next ≡ n + length (statements t) →
    before ++ labels_from n (row_of (drop i xs)) ≡ whole →
    n + length (row_of (drop i xs)) ≡ end →
    (after ++ labels_from next (row_of (drop (i + 1) xs)) ≡ whole)
    × (next + length (row_of (drop (i + 1) xs)) ≡ end)
note_kept before after n next xs i t whole end h is a e w l =
    let ts = drop (i + 1) xs in
    let d : row_of (drop i xs) ≡ row_of (t ∷ ts) =
    at_drop_more row_of xs i t h ∙ ap (λ y. row_of (y ∷ ts)) (sym is) in
    let k : length (row_of (t ∷ ts)) ≡ length (statements t) + length (row_of ts) =
    length-append (statements t) (row_of ts) in
    let m : n + length (row_of (t ∷ ts)) ≡ end = ap (λ r. n + length r) (sym d) ∙ l in (
      row_labels before after n next t ts whole a e
          (ap (λ r. before ++ labels_from n r) (sym d) ∙ w),
      omega (arith, k, m, e),
    )

-- the same of trees that are taken out of a list
pub placed_kept : (labels : List ℕ) (before after : List Stmt) (kept new : List ℕ)
    (xs ts : List CoreTree) (t : CoreTree) (number : ℕ) (all : List ℕ) (whole : List Stmt) →
    xs ≡ t ∷ ts → after ≡ before ++ numbered labels (length before) (statements t) →
    number ≡ length before → new ≡ kept ++ number ∷ [] →
    kept ++ numbers_from (length before) (sizes_of xs) ≡ all →
    before ++ numbered labels (length before) (row_of xs) ≡ whole →
    (new ++ numbers_from (length after) (sizes_of ts) ≡ all)
    × (after ++ numbered labels (length after) (row_of ts) ≡ whole)
placed_kept labels before after kept new xs ts t number all whole x a e n w s = (
  row_numbers labels before after kept new t ts number all a e n
      (ap (λ ys. kept ++ numbers_from (length before) (sizes_of ys)) (sym x) ∙ w),
  row_numbered labels before after t ts whole a
      (ap (λ ys. before ++ numbered labels (length before) (row_of ys)) (sym x) ∙ s),
)

pub bodies_kept : (before after : List Stmt) (kept new : List ℕ) (xs ts : List CoreTree)
    (t : CoreTree) (number : ℕ) (all : List ℕ) (whole : List Stmt) → xs ≡ t ∷ ts →
    after ≡ before ++ numbered (labels_from (length before) (statements t)) (length before)
    (statements t) → number ≡ length before → new ≡ kept ++ number ∷ [] →
    kept ++ numbers_from (length before) (sizes_of xs) ≡ all →
    before ++ numbered_bodies (length before) xs ≡ whole →
    (new ++ numbers_from (length after) (sizes_of ts) ≡ all)
    × (after ++ numbered_bodies (length after) ts ≡ whole)
bodies_kept before after kept new xs ts t number all whole x a e n w s = (
  row_numbers (labels_from (length before) (statements t)) before after kept new t ts number all
      a e n (ap (λ ys. kept ++ numbers_from (length before) (sizes_of ys)) (sym x) ∙ w),
  body_numbered before after t ts whole a
      (ap (λ ys. before ++ numbered_bodies (length before) ys) (sym x) ∙ s),
)

-- what is left has no more statements
pub less_left : (xs ts : List CoreTree) (t : CoreTree) (n : ℕ) → xs ≡ t ∷ ts →
    length (row_of xs) ≤ n → length (row_of ts) ≤ n
less_left xs ts t n x h =
    let k : length (row_of xs) ≡ length (statements t) + length (row_of ts) =
    ap (λ ys. length (row_of ys)) x ∙ length-append (statements t) (row_of ts) in
    omega (arith, k, h)

-- a tree of a row has no more statements than the row
pub tree_below : (xs ts : List CoreTree) (t : CoreTree) (n : ℕ) → xs ≡ t ∷ ts →
    length (row_of xs) ≤ n → 3 * length (statements t) < 3 * n + 1
tree_below xs ts t n x h =
    let k : length (row_of xs) ≡ length (statements t) + length (row_of ts) =
    ap (λ ys. length (row_of ys)) x ∙ length-append (statements t) (row_of ts) in
    omega (arith, k, h)

pub parts_below : (h : Head) (parts : List CoreTree) (place : ℕ) →
    3 * length (row_of parts) + 2 < 3 * length (statements (tree.Node h parts place))
parts_below h parts place = omega (arith, node_length h parts place)

-- the place that is held is there
pub root_inside : (before held placed more : List Stmt) (holder : Stmt) (number : ℕ) →
    number ≡ length before → held ≡ before ++ holder ∷ [] → placed ≡ held ++ more →
    number < length placed
root_inside before held placed more holder number e k p =
    let l : length held ≡ length before + 1 =
    ap length k ∙ length-append before (holder ∷ []) in
    let m : length placed ≡ length held + length more = ap length p ∙ length-append held more in
    omega (arith, e, l, m)

-- the labels of a node, its own noted first
pub node_noted : (old own new : List ℕ) (h : Head) (parts : List CoreTree) (place n next : ℕ) →
    own ≡ old ++ label_here h n → next ≡ n + 1 → new ≡ own ++ labels_from next (row_of parts) →
    new ≡ old ++ labels_from n (statements (tree.Node h parts place))
node_noted old own new h parts place n next o e w =
    w ∙ ap (λ ls. ls ++ labels_from next (row_of parts)) o
    ∙ ap (λ k. (old ++ label_here h n) ++ labels_from k (row_of parts)) e
    ∙ append_assoc old (label_here h n) (labels_from (n + 1) (row_of parts))
    ∙ ap (λ ls. old ++ ls) (sym (node_labels h parts place n))

-- the places of a node, its own noted first
pub node_traced : (before held after : List ℕ) (h : Head) (parts : List CoreTree) (place : ℕ) →
    held ≡ before ++ place ∷ [] → after ≡ held ++ places_of parts →
    after ≡ before ++ places_in (statements (tree.Node h parts place))
node_traced before held after h parts place k a =
    a ∙ ap (λ ps. ps ++ places_of parts) k ∙ append_assoc before (place ∷ []) (places_of parts)
    ∙ ap (λ ps. before ++ places_in ps) (sym (node_is h parts place))

-- the places of a tree more of a row
pub row_traced : (before after : List ℕ) (xs ts : List CoreTree) (t : CoreTree) (whole : List ℕ) →
    xs ≡ t ∷ ts → after ≡ before ++ places_in (statements t) →
    before ++ places_of xs ≡ whole → after ++ places_of ts ≡ whole
row_traced before after xs ts t whole x a w =
    let own = places_in (statements t) in
    ap (λ ps. ps ++ places_of ts) a ∙ append_assoc before own (places_of ts)
    ∙ ap (λ ps. before ++ ps)
    (sym (map-append (λ (one : Placed). one.place) (statements t) (row_of ts)))
    ∙ ap (λ ys. before ++ places_of ys) (sym x) ∙ w
