-- Lemmas: what stays of a token that is seen behind declarations of typedef names.
use Rattle.std.specs.Prelude.{◌≡◌, ℕ, zero, suc, List, [], ◌∷◌, ◌++◌, map, Option, None, Some, refl}
use Rattle.std.specs.List.{flat_map}
use Rattle.std.proofs.Common.{sym, ◌∙◌, ap, append-nil}
use Rattle.std.proofs.lemmas.Grind.{flat_map-append}
use Rattle.c_grammar_symbols.specs.declared.named.NamedType.{NamedType}
use Rattle.c_grammar_symbols.specs.declared.symbol.Symbol.{Symbol}
use Rattle.c_grammar_symbols.specs.declared.symbol.Symbol.TheVariants as symbol
use Rattle.c_grammar_symbols.specs.Symbols.{Leaf, symbol_of}
use Rattle.c_grammar_symbols.specs.Sources.{leaf_at, named_symbol, renamed}
use Rattle.c_grammar_tree.specs.declared.item.Item.{Item}
use Rattle.c_grammar_tree.specs.Parts.{ends, is_end}
use Rattle.c_grammar_tree.specs.Faults.{is_outside}
use Rattle.c_grammar_tree.specs.Items.{typedefs_in, behind_typedefs, seen_behind}

ends_named : (s : Symbol) (o : Option NamedType) → ends (named_symbol s o) ≡ ends s
ends_named symbol.Name None = refl
ends_named symbol.Name (Some ty) = refl
ends_named _ o = refl

outside_named : (s : Symbol) (o : Option NamedType) → is_outside (named_symbol s o) ≡ is_outside s
outside_named symbol.Name None = refl
outside_named symbol.Name (Some ty) = refl
outside_named _ o = refl

end_behind : (es : List (List ℕ × NamedType)) (leaf : Leaf) →
    is_end (behind_typedefs es leaf) ≡ is_end leaf
end_behind [] leaf = refl
end_behind (e ∷ es) leaf = end_behind es (renamed e.0 e.1 leaf) ∙ ends_named leaf.symbol _

-- whether it is the end
pub end_seen : (items : List Item) (leaf : Leaf) → is_end (seen_behind items leaf) ≡ is_end leaf
end_seen items leaf = end_behind (flat_map typedefs_in items) leaf

pub outside_behind : (es : List (List ℕ × NamedType)) (leaf : Leaf) →
    is_outside (symbol_of (behind_typedefs es leaf)) ≡ is_outside (symbol_of leaf)
outside_behind [] leaf = refl
outside_behind (e ∷ es) leaf =
    outside_behind es (renamed e.0 e.1 leaf) ∙ outside_named leaf.symbol _

-- whether it is a word that the grammar leaves out
pub outside_seen : (items : List Item) (leaf : Leaf) →
    is_outside (symbol_of (seen_behind items leaf)) ≡ is_outside (symbol_of leaf)
outside_seen items leaf = outside_behind (flat_map typedefs_in items) leaf

pub place_behind : (es : List (List ℕ × NamedType)) (leaf : Leaf) →
    (behind_typedefs es leaf).place ≡ leaf.place
place_behind [] leaf = refl
place_behind (e ∷ es) leaf = place_behind es (renamed e.0 e.1 leaf)

-- its place
pub place_seen : (items : List Item) (leaf : Leaf) → (seen_behind items leaf).place ≡ leaf.place
place_seen items leaf = place_behind (flat_map typedefs_in items) leaf

-- behind two rows of declarations
pub behind_both : (es fs : List (List ℕ × NamedType)) (leaf : Leaf) →
    behind_typedefs (es ++ fs) leaf ≡ behind_typedefs fs (behind_typedefs es leaf)
behind_both [] fs leaf = refl
behind_both (e ∷ es) fs leaf = behind_both es fs (renamed e.0 e.1 leaf)

-- behind one item more
pub seen_more : (items : List Item) (one : Item) (leaf : Leaf) →
    seen_behind (items ++ one ∷ []) leaf
    ≡ behind_typedefs (typedefs_in one) (seen_behind items leaf)
seen_more items one leaf =
    ap (λ es. behind_typedefs es leaf) (flat_map-append typedefs_in items (one ∷ [])
    ∙ ap (λ es. flat_map typedefs_in items ++ es) (append-nil (typedefs_in one)))
    ∙ behind_both (flat_map typedefs_in items) (typedefs_in one) leaf

-- the token at a place of tokens that are seen so
pub leaf_at_behind : (es : List (List ℕ × NamedType)) (ls : List Leaf) (i : ℕ) →
    leaf_at (map (behind_typedefs es) ls) i ≡ behind_typedefs es (leaf_at ls i)
leaf_at_behind es [] i = sym (nowhere_behind es)
  where
    nowhere_behind : (es : List (List ℕ × NamedType)) →
        behind_typedefs es (leaf_at [] 0) ≡ leaf_at [] 0
    nowhere_behind [] = refl
    nowhere_behind (e ∷ es) = nowhere_behind es
leaf_at_behind es (l ∷ ls) zero = refl
leaf_at_behind es (l ∷ ls) (suc i) = leaf_at_behind es ls i
