-- What contracts see of a tree with its labels and gotos (`found_by`), after a scope began and
-- after scopes ended.
use Rattle.std.proofs.Common.{◌≡◌, ℕ, ◌+◌, ◌<◌, ◌≤◌, List, [], ◌∷◌, ◌++◌, length, take, map}
use Rattle.std.proofs.Common.{sym, ap, ◌∙◌, subst, arith, Option, Result, Ok, Err}
use Rattle.std.specs.Result.{OnErr}
use Rattle.c_lexer.specs.declared.fault.Rule.TheVariants as rule
use Rattle.c_lexer.specs.declared.fault.TextFault.{TextFault}
use Rattle.c_types_rules.specs.First.{first_with, first_append}
use Rattle.c_types_rules.specs.ExpressionRules.{broken}
use Rattle.c_types_rules.specs.StatementRules.{Jump, repeated_labels, entering_gotos}
use Rattle.c_types_jumps.specs.declared.tree.Node.{Node}
use Rattle.c_types_jumps.specs.declared.tree.Tree.{Tree}
use Rattle.c_types_jumps.specs.declared.noting.Placed.{Placed}
use Rattle.c_types_jumps.specs.Found.{Found, entered, left_to, with_base}
use Rattle.c_types_jumps.specs.Trees.{way_at, stands, stands_in, found_by, ArePlaced, IsTree}
use Rattle.c_types_jumps.specs.Trees.{AreFound}
use Rattle.c_types_jumps.proofs.Lists.{all_weaker, map_same, map_twice}

pub same_found : (a b : Found) → a.current ≡ b.current → a.labels ≡ b.labels → a.gotos ≡ b.gotos
    → a.first ≡ b.first → a.next ≡ b.next → a ≡ b
same_found a b current labels gotos first next =
    ap (λ (c : List ℕ). record a { current = c }) current
    ∙ ap (λ (l : List Jump). record a { current = b.current; labels = l }) labels
    ∙ ap (λ (g : List Jump). record a { current = b.current; labels = b.labels; gotos = g }) gotos
    ∙ ap (λ (n : ℕ). record b { first = n; next = a.next }) first
    ∙ ap (λ (n : ℕ). record b { next = n }) next

-- objects of positions that stay are those of labels and gotos
pub same_stands : (nodes new : List Node) (placed : List Placed) → ArePlaced nodes placed
    → ((position : ℕ) → position < length nodes → way_at new position ≡ way_at nodes position)
    → map (stands new) placed ≡ map (stands nodes) placed
same_stands nodes new placed are ways =
    map_same (stands new) (stands nodes) placed
    (all_weaker (λ one. one.position < length nodes) (λ one. stands new one ≡ stands nodes one)
    (λ one less. ap (λ (way : List ℕ). record { name = one.name; scopes = way })
    (ways one.position less)) placed are)

pub placed_more : (nodes new : List Node) (placed : List Placed) → ArePlaced nodes placed
    → length nodes ≤ length new → ArePlaced new placed
placed_more nodes new placed are more =
    all_weaker (λ one. one.position < length nodes) (λ one. one.position < length new)
    (λ one less. omega arith) placed are

pub found_entered : (tree new : Tree) (labels gotos : List Placed) (number : ℕ) (value : Found)
    → found_by tree labels gotos ≡ value → AreFound tree labels gotos
    → way_at new.nodes.items new.here ≡ way_at tree.nodes.items tree.here ++ number ∷ []
    → ((position : ℕ) → position < length tree.nodes.items
    → way_at new.nodes.items position ≡ way_at tree.nodes.items position)
    → new.first ≡ tree.first → new.next ≡ number + 1
    → found_by new labels gotos ≡ entered number value
found_entered tree new labels gotos number value is are current ways first next =
    subst (λ (found : Found). found_by new labels gotos ≡ entered number found) is
    (same_found (found_by new labels gotos) (entered number (found_by tree labels gotos)) current
    (same_stands tree.nodes.items new.nodes.items labels are.labels_are ways)
    (same_stands tree.nodes.items new.nodes.items gotos are.gotos_are ways) first next)

pub found_kept : (tree new : Tree) (labels gotos : List Placed) (value : Found)
    → found_by tree labels gotos ≡ value → AreFound tree labels gotos → new.here ≡ tree.here
    → ((position : ℕ) → position < length tree.nodes.items
    → way_at new.nodes.items position ≡ way_at tree.nodes.items position)
    → new.first ≡ tree.first → new.next ≡ tree.next
    → found_by new labels gotos ≡ value
found_kept tree new labels gotos value is are here ways first next =
    same_found (found_by new labels gotos) (found_by tree labels gotos)
    (ap (λ (n : ℕ). way_at new.nodes.items n) here ∙ ways tree.here are.tree_is.here)
    (same_stands tree.nodes.items new.nodes.items labels are.labels_are ways)
    (same_stands tree.nodes.items new.nodes.items gotos are.gotos_are ways) first next
    ∙ is

pub found_left : (tree new : Tree) (labels gotos : List Placed) (count : ℕ) (value : Found)
    → found_by tree labels gotos ≡ value → new.nodes.items ≡ tree.nodes.items
    → way_at new.nodes.items new.here ≡ take count (way_at tree.nodes.items tree.here)
    → new.first ≡ tree.first → new.next ≡ tree.next
    → found_by new labels gotos ≡ left_to count value
found_left tree new labels gotos count value is nodes current first next =
    subst (λ (found : Found). found_by new labels gotos ≡ left_to count found) is
    (same_found (found_by new labels gotos) (left_to count (found_by tree labels gotos)) current
    (ap (λ (all : List Node). map (stands all) labels) nodes)
    (ap (λ (all : List Node). map (stands all) gotos) nodes) first next)

pub are_entered : (tree new : Tree) (labels gotos : List Placed) → AreFound tree labels gotos
    → IsTree new → length tree.nodes.items ≤ length new.nodes.items → AreFound new labels gotos
are_entered tree new labels gotos are is more = record {
  tree_is = is;
  labels_are = placed_more tree.nodes.items new.nodes.items labels are.labels_are more;
  gotos_are = placed_more tree.nodes.items new.nodes.items gotos are.gotos_are more;
}

pub on_err_always : {T E P : Type 0} (r : Result T E) → P → OnErr r P
on_err_always (Ok x) p = tt
on_err_always (Err e) p = p

-- by what contracts see of labels and gotos
pub noted_both : (held mid new : Option TextFault) (base : List ℕ) (tree : Tree)
    (labels gotos first_labels then_labels then_gotos : List Placed) (value : Found)
    → found_by tree labels gotos ≡ value → first_labels ≡ labels → then_labels ≡ labels
    → then_gotos ≡ gotos
    → mid ≡ first_with held (broken rule.N7 (repeated_labels []
    (map (stands_in base tree.nodes.items) first_labels)))
    → new ≡ first_with mid (broken rule.N9 (entering_gotos
    (map (stands_in base tree.nodes.items) then_labels)
    (map (stands_in base tree.nodes.items) then_gotos)))
    → new ≡ first_with held (broken rule.N7 (repeated_labels [] (map (with_base base) value.labels))
    ++ broken rule.N9 (entering_gotos (map (with_base base) value.labels)
    (map (with_base base) value.gotos)))
noted_both held mid new base tree labels gotos one two three value is one_is two_is three_is mid_is
    new_is =
    let nodes = tree.nodes.items in
    let based = map (with_base base) value.labels in
    let based_gotos = map (with_base base) value.gotos in
    let labels_are : map (stands_in base nodes) labels ≡ based =
    sym (map_twice (with_base base) (stands nodes) labels)
    ∙ ap (λ (found : Found). map (with_base base) found.labels) is in
    let gotos_are : map (stands_in base nodes) gotos ≡ based_gotos =
    sym (map_twice (with_base base) (stands nodes) gotos)
    ∙ ap (λ (found : Found). map (with_base base) found.gotos) is in
    let one_based =
    ap (λ (all : List Placed). map (stands_in base nodes) all) one_is ∙ labels_are in
    let two_based =
    ap (λ (all : List Placed). map (stands_in base nodes) all) two_is ∙ labels_are in
    let three_based =
    ap (λ (all : List Placed). map (stands_in base nodes) all) three_is ∙ gotos_are in
    new_is
    ∙ ap (λ (first : Option TextFault). first_with first (broken rule.N9 (entering_gotos
    (map (stands_in base nodes) two) (map (stands_in base nodes) three)))) mid_is
    ∙ ap (λ (all : List Jump).
    first_with (first_with held (broken rule.N7 (repeated_labels [] all)))
    (broken rule.N9 (entering_gotos (map (stands_in base nodes) two)
    (map (stands_in base nodes) three)))) one_based
    ∙ ap (λ (all : List Jump).
    first_with (first_with held (broken rule.N7 (repeated_labels [] based)))
    (broken rule.N9 (entering_gotos all (map (stands_in base nodes) three)))) two_based
    ∙ ap (λ (all : List Jump).
    first_with (first_with held (broken rule.N7 (repeated_labels [] based)))
    (broken rule.N9 (entering_gotos based all))) three_based
    ∙ sym (first_append held (broken rule.N7 (repeated_labels [] based))
    (broken rule.N9 (entering_gotos based based_gotos)))
