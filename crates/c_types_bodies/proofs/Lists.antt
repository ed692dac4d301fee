-- A walk through a list, one item further (`item_state`), with the typed trees of declarators
-- (`declarators_step`) and of items (`items_step`).
use Rattle.std.proofs.Common.{◌≡◌, ℕ, suc, ◌+◌, ◌<◌, ◌≤◌, List, [], ◌∷◌, ◌++◌, length, get_or, drop}
use Rattle.std.proofs.Common.{map, Option, None, Some, refl, sym, ap, ◌∙◌, append_assoc, add-one}
use Rattle.std.proofs.Common.{Bool}
use Rattle.std.proofs.Math.Seq.{drop-cons}
use Rattle.std.proofs.lemmas.List.{drop_all}
use Rattle.c_grammar_tree.specs.declared.expression.Expression.{Expression}
use Rattle.c_grammar_tree.specs.declared.declaration.Declarator.{Declarator}
use Rattle.c_grammar_tree.specs.declared.statement.BlockItem.{BlockItem}
use Rattle.c_types_rules.specs.declared.typed.TypedDeclarator.{TypedDeclarator}
use Rattle.c_types_rules.specs.declared.typed.TypedItem.{TypedItem}
use Rattle.c_types_rules.specs.declared.meaning.Kind.{Kind}
use Rattle.c_types_rules.specs.declared.meaning.Role.{Role}
use Rattle.c_types_rules.specs.Names.{Text}
use Rattle.c_types_rules.specs.Statements.{Around, Walk, in_order, declarator_walk, evaluating}
use Rattle.c_types_rules.specs.TypedStatements.{Grown, grown, typed_in_order, typed_declarator}
use Rattle.c_types_rules.specs.TypedStatements.{typed_declarators}
use Rattle.c_types_bodies.specs.States.{State, noted, walked}
use Rattle.c_types_bodies.specs.Grown.{grown_walk}
use Rattle.c_types_bodies.proofs.Walks.{walked_still, walked_items}

-- what is left at a place of a list
pub drop_at : {X : Type 0} (xs : List X) (i : ℕ) (x : X) → i < length xs → x ≡ get_or xs i x
    → drop i xs ≡ x ∷ drop (i + 1) xs
drop_at {X} xs i x less is =
    drop-cons xs i x less
    ∙ ap (λ (y : X). y ∷ drop (suc i) xs) (sym is)
    ∙ ap (λ (n : ℕ). x ∷ drop n xs) (sym (add-one i))

pub item_state : {X : Type 0} (text : Text) (caller : ℕ) (walk : X → Walk) (items : List X) (i : ℕ)
    (item : X) (state next whole : State) → i < length items → item ≡ get_or items i item
    → next ≡ walked text caller (walk item) state
    → walked text caller (in_order (map walk (drop i items))) state ≡ whole
    → walked text caller (in_order (map walk (drop (i + 1) items))) next ≡ whole
item_state {X} text caller walk items i item state next whole less is next_is so_far =
    ap (λ (s : State). walked text caller (in_order (map walk (drop (i + 1) items))) s) next_is
    ∙ sym (walked_items text caller walk item (drop (i + 1) items) state)
    ∙ sym (ap (λ (rest : List X). walked text caller (in_order (map walk rest)) state)
    (drop_at items i item less is))
    ∙ so_far

pub items_end : {X : Type 0} (text : Text) (caller : ℕ) (walk : X → Walk) (items : List X) (i : ℕ)
    (state whole : State) → length items ≤ i
    → walked text caller (in_order (map walk (drop i items))) state ≡ whole → state ≡ whole
items_end {X} text caller walk items i state whole past so_far =
    sym (walked_still text caller state)
    ∙ sym (ap (λ (rest : List X). walked text caller (in_order (map walk rest)) state)
    (drop_all i items past))
    ∙ so_far

-- what is known behind a walk
pub around_walked : (text : Text) (caller : ℕ) (walk : Walk) (state next : State)
    → next ≡ walked text caller walk state → next.around ≡ walk.behind state.around
unfolding noted
around_walked text caller walk state next is = ap (λ (s : State). s.around) is

pub around_evaluated : (text : Text) (caller : ℕ) (role : Role) (value : Option Expression)
    (state next : State) → next ≡ walked text caller (evaluating role value) state
    → next.around ≡ state.around
unfolding noted
around_evaluated text caller role None state next is = ap (λ (s : State). s.around) is
around_evaluated text caller role (Some value) state next is = ap (λ (s : State). s.around) is

pub declarators_step : (text : Text) (kind : Kind) (is_const : Bool) (items : List Declarator)
    (i : ℕ) (item : Declarator) (typed new : List TypedDeclarator) (one : TypedDeclarator)
    (around next : Around) (whole : List TypedDeclarator) → i < length items
    → item ≡ get_or items i item → new ≡ typed ++ one ∷ []
    → one ≡ typed_declarator text kind is_const item around
    → next ≡ (declarator_walk text kind is_const item).behind around
    → typed ++ typed_declarators text kind is_const (drop i items) around ≡ whole
    → new ++ typed_declarators text kind is_const (drop (i + 1) items) next ≡ whole
declarators_step text kind is_const items i item typed new one around next whole less is new_is
    one_is next_is so_far =
    let more = drop (i + 1) items in
    ap (λ (all : List TypedDeclarator). all ++ typed_declarators text kind is_const more next)
    new_is
    ∙ append_assoc typed (one ∷ []) (typed_declarators text kind is_const more next)
    ∙ ap (λ (d : TypedDeclarator). typed ++ (d ∷ typed_declarators text kind is_const more next))
    one_is
    ∙ ap (λ (a : Around). typed ++ (typed_declarator text kind is_const item around
    ∷ typed_declarators text kind is_const more a)) next_is
    ∙ sym (ap (λ (rest : List Declarator). typed ++ typed_declarators text kind is_const rest
    around)
    (drop_at items i item less is))
    ∙ so_far

pub items_step : (text : Text) (items : List BlockItem) (i : ℕ) (item : BlockItem)
    (typed new : List TypedItem) (one : TypedItem) (around next : Around) (whole : List TypedItem)
    → i < length items → item ≡ get_or items i item → new ≡ typed ++ one ∷ []
    → one ≡ (grown text item).typed around → next ≡ (grown text item).walk.behind around
    → typed ++ typed_in_order (map (grown text) (drop i items)) around ≡ whole
    → new ++ typed_in_order (map (grown text) (drop (i + 1) items)) next ≡ whole
items_step text items i item typed new one around next whole less is new_is one_is next_is so_far =
    let more = map (grown text) (drop (i + 1) items) in
    ap (λ (all : List TypedItem). all ++ typed_in_order more next) new_is
    ∙ append_assoc typed (one ∷ []) (typed_in_order more next)
    ∙ ap (λ (d : TypedItem). typed ++ (d ∷ typed_in_order more next)) one_is
    ∙ ap (λ (a : Around). typed ++ ((grown text item).typed around ∷ typed_in_order more a)) next_is
    ∙ sym (ap (λ (rest : List BlockItem).
    typed ++ typed_in_order (map (grown text) rest) around) (drop_at items i item less is))
    ∙ so_far

pub walks_same : (text : Text) (items : List BlockItem)
    → map (λ (part : Grown TypedItem). part.walk) (map (grown text) items)
    ≡ map (grown_walk text) items
walks_same text [] = refl
walks_same text (item ∷ items) =
    ap (λ (all : List Walk). (grown text item).walk ∷ all) (walks_same text items)
