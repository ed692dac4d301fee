-- The faults of labels and gotos one after the other (`repeated_step`, `noted_step`); a name's
-- label is the first of its name (`found_label`).
use Rattle.std.proofs.Common.{◌≡◌, ℕ, suc, ◌+◌, ◌<◌, ◌≤◌, Bool, true, false, cond, ◌||◌, List, []}
use Rattle.std.proofs.Common.{◌∷◌, ◌++◌, length, get_or, take, drop, map, Some, None, Option, refl}
use Rattle.std.proofs.Common.{sym, ap, ◌∙◌, subst, arith, option_map}
use Rattle.std.proofs.Common.{add-one, is_some, find, unwrap_or}
use Rattle.std.specs.List.{list_any}
use Rattle.std.specs.Str.{bytes_eq}
use Rattle.std.proofs.lemmas.Cmp.{nat_list_eq_equiv}
use Rattle.std.proofs.lemmas.List.{take_more, map-append, drop_all}
use Rattle.std.proofs.Math.Seq.{drop-cons}
use Rattle.c_lexer.specs.declared.fault.Rule.{Rule}
use Rattle.c_lexer.specs.declared.fault.TextFault.{TextFault}
use Rattle.c_types_rules.specs.Names.{place_of}
use Rattle.c_types_rules.specs.First.{first_with, first_append}
use Rattle.c_types_rules.specs.ExpressionRules.{broken, at_if}
use Rattle.c_types_rules.specs.StatementRules.{Jump, has_label, repeated_labels, entering_gotos}
use Rattle.c_types_rules.specs.StatementRules.{enters_scope}
use Rattle.c_types_jumps.specs.declared.tree.Node.{Node}
use Rattle.c_types_jumps.specs.declared.noting.Placed.{Placed}
use Rattle.c_types_jumps.specs.Trees.{stands_in, bytes_of, way_at, enters_way}

-- what is left at a place of a list
drop_at : {X : Type 0} (xs : List X) (i : ℕ) (x : X) → i < length xs → x ≡ get_or xs i x
    → drop i xs ≡ x ∷ drop (i + 1) xs
drop_at {X} xs i x less is =
    drop-cons xs i x less
    ∙ ap (λ (y : X). y ∷ drop (suc i) xs) (sym is)
    ∙ ap (λ (n : ℕ). x ∷ drop n xs) (sym (add-one i))

-- the faults of one more
broken_two : (held : Option TextFault) (rule : Rule) (xs ys : List ℕ)
    → first_with held (broken rule (xs ++ ys))
    ≡ first_with (first_with held (broken rule xs)) (broken rule ys)
broken_two held rule xs ys =
    ap (λ (faults : List TextFault). first_with held faults)
    (map-append (λ place. record { rule = rule; place = place }) xs ys)
    ∙ first_append held (broken rule xs) (broken rule ys)

-- the place of a name, by whether it is the first one's and its place among the others
abbrev pub placed_by : Bool → Option ℕ → Option ℕ
placed_by b found = elim b [ true ↦ Some 0 | false ↦ option_map (λ n. n + 1) found ]

-- one of these labels has a name where one of their names is it
has_place : (base : List ℕ) (nodes : List Node) (name : List ℕ) (labels : List Placed)
    → list_any (λ label. bytes_eq label.name.bytes name) (map (stands_in base nodes) labels)
    ≡ is_some (place_of (bytes_eq name) (map bytes_of labels))
has_place base nodes name [] = refl
has_place base nodes name (label ∷ labels) =
    ap (λ b.
    b || list_any (λ one. bytes_eq one.name.bytes name) (map (stands_in base nodes) labels))
    (nat_list_eq_equiv.symm label.name.bytes name)
    ∙ here (bytes_eq name label.name.bytes)
    (list_any (λ one. bytes_eq one.name.bytes name) (map (stands_in base nodes) labels))
    (place_of (bytes_eq name) (map bytes_of labels)) (has_place base nodes name labels)
  where
    here : (b later : Bool) (place : Option ℕ) → later ≡ is_some place
        → (b || later)
        ≡ is_some (placed_by b place)
    here true later place is = refl
    here false later None is = is
    here false later (Some n) is = is

-- What was noted of the labels so far, with what is to be noted of the rest, is that of all.
pub record IsRepeated (held now : Option TextFault) (rule : Rule) (labels : List Placed) (i : ℕ)
    : Type 0 where
  pub noted : (base : List ℕ) (nodes : List Node) → first_with now (broken rule (repeated_labels
      (map (stands_in base nodes) (take i labels)) (map (stands_in base nodes) (drop i labels))))
      ≡ first_with held (broken rule (repeated_labels [] (map (stands_in base nodes) labels)))

pub repeated_step : (held now new : Option TextFault) (rule : Rule) (labels : List Placed) (i : ℕ)
    (label : Placed) → i < length labels → label ≡ get_or labels i label
    → new ≡ first_with now (broken rule (at_if (is_some (place_of (bytes_eq label.name.bytes)
    (map bytes_of (take i labels)))) label.name.place)) → IsRepeated held now rule labels i
    → IsRepeated held new rule labels (i + 1)
repeated_step held now new rule labels i label less is new_is so_far = record {
  noted = λ base nodes.
      let placed : Placed → Jump = stands_in base nodes in
      let before = map placed (take i labels) in
      let more = map placed (drop (i + 1) labels) in
      let front : map placed (take (i + 1) labels) ≡ before ++ placed label ∷ [] =
      ap (λ (some : List Placed). map placed some)
      (take_more labels i label less ∙ ap (λ (one : Placed). take i labels ++ one ∷ []) (sym is))
      ∙ map-append placed (take i labels) (label ∷ []) in
      let rest : map placed (drop i labels) ≡ placed label ∷ more =
      ap (λ (some : List Placed). map placed some) (drop_at labels i label less is) in
      let places = at_if (has_label before label.name) label.name.place in
      let here : new ≡ first_with now (broken rule places) =
      new_is ∙ ap (λ b. first_with now (broken rule (at_if b label.name.place)))
      (sym (has_place base nodes label.name.bytes (take i labels))) in
      ap (λ (some : List Jump). first_with new (broken rule (repeated_labels some more))) front
      ∙ ap (λ (first : Option TextFault).
      first_with first (broken rule (repeated_labels (before ++ placed label ∷ []) more))) here
      ∙ sym (broken_two now rule places (repeated_labels (before ++ placed label ∷ []) more))
      ∙ sym (ap (λ (some : List Jump).
      first_with now (broken rule (repeated_labels before some))) rest)
      ∙ so_far.noted base nodes;
}

pub repeated_all : (held now : Option TextFault) (rule : Rule) (labels : List Placed) (i : ℕ)
    → length labels ≤ i → IsRepeated held now rule labels i → (base : List ℕ) (nodes : List Node)
    → now ≡ first_with held (broken rule (repeated_labels [] (map (stands_in base nodes) labels)))
repeated_all held now rule labels i whole so_far base nodes =
    sym (ap (λ (some : List Placed). first_with now (broken rule (repeated_labels
    (map (stands_in base nodes) (take i labels)) (map (stands_in base nodes) some))))
    (drop_all i labels whole))
    ∙ so_far.noted base nodes

pub names_more : (labels : List Placed) (i : ℕ) (label : Placed) (names new : List (List ℕ))
    → i < length labels → label ≡ get_or labels i label → names ≡ map bytes_of (take i labels)
    → new ≡ names ++ label.name.bytes ∷ [] → new ≡ map bytes_of (take (i + 1) labels)
names_more labels i label names new less is so_far new_is =
    new_is ∙ ap (λ (all : List (List ℕ)). all ++ label.name.bytes ∷ []) so_far
    ∙ sym (ap (λ (some : List Placed). map bytes_of some)
    (take_more labels i label less ∙ ap (λ (one : Placed). take i labels ++ one ∷ []) (sym is))
    ∙ map-append bytes_of (take i labels) (label ∷ []))

-- the label that a name has a place of
pub found_label : (base : List ℕ) (nodes : List Node) (name : List ℕ) (labels : List Placed)
    (place : ℕ) (d : Placed) → place_of (bytes_eq name) (map bytes_of labels) ≡ Some place
    → find (λ label. bytes_eq label.name.bytes name) (map (stands_in base nodes) labels)
    ≡ Some (stands_in base nodes (get_or labels place d))
found_label base nodes name [] place d is = absurd (cc)
found_label base nodes name (label ∷ labels) place d is =
    ap (λ b. cond b (Some (stands_in base nodes label))
    (find (λ one. bytes_eq one.name.bytes name) (map (stands_in base nodes) labels)))
    (nat_list_eq_equiv.symm label.name.bytes name)
    ∙ here (bytes_eq name label.name.bytes) (place_of (bytes_eq name) (map bytes_of labels)) is
    (λ n. found_label base nodes name labels n d)
  where
    here : (b : Bool) (found : Option ℕ)
        → placed_by b found ≡ Some place
        → ((n : ℕ) → found ≡ Some n
        → find (λ one. bytes_eq one.name.bytes name) (map (stands_in base nodes) labels)
        ≡ Some (stands_in base nodes (get_or labels n d)))
        → cond b (Some (stands_in base nodes label))
        (find (λ one. bytes_eq one.name.bytes name) (map (stands_in base nodes) labels))
        ≡ Some (stands_in base nodes (get_or (label ∷ labels) place d))
    here true found is rest =
        let zero_is : 0 ≡ place = cc in
        subst (λ (n : ℕ). Some (stands_in base nodes label)
        ≡ Some (stands_in base nodes (get_or (label ∷ labels) n d))) zero_is refl
    here false None is rest = absurd (cc)
    here false (Some n) is rest =
        let next_is : n + 1 ≡ place = cc in
        rest n refl
        ∙ subst (λ (m : ℕ). Some (stands_in base nodes (get_or labels n d))
        ≡ Some (stands_in base nodes (get_or (label ∷ labels) m d)))
        (sym (add-one n) ∙ next_is) refl

pub place_within : (name : List ℕ) (labels : List Placed) (place : ℕ)
    → place_of (bytes_eq name) (map bytes_of labels) ≡ Some place → place < length labels
place_within name [] place is = absurd (cc)
place_within name (label ∷ labels) place is =
    here (bytes_eq name label.name.bytes) (place_of (bytes_eq name) (map bytes_of labels)) is
    (λ n. place_within name labels n)
  where
    here : (b : Bool) (found : Option ℕ)
        → placed_by b found ≡ Some place
        → ((n : ℕ) → found ≡ Some n → n < length labels) → place < suc (length labels)
    here true found is rest = let zero_is : 0 ≡ place = cc in omega arith
    here false None is rest = absurd (cc)
    here false (Some n) is rest =
        let next_is : n + 1 ≡ place = cc in let below = rest n refl in omega arith

-- a name that has no place is no label's
pub no_label : (base : List ℕ) (nodes : List Node) (name : List ℕ) (labels : List Placed)
    → place_of (bytes_eq name) (map bytes_of labels) ≡ None
    → find (λ label. bytes_eq label.name.bytes name) (map (stands_in base nodes) labels) ≡ None
no_label base nodes name [] is = refl
no_label base nodes name (label ∷ labels) is =
    ap (λ b. cond b (Some (stands_in base nodes label))
    (find (λ one. bytes_eq one.name.bytes name) (map (stands_in base nodes) labels)))
    (nat_list_eq_equiv.symm label.name.bytes name)
    ∙ here (bytes_eq name label.name.bytes) (place_of (bytes_eq name) (map bytes_of labels)) is
    (no_label base nodes name labels)
  where
    here : (b : Bool) (found : Option ℕ)
        → placed_by b found ≡ None
        → (found ≡ None
        → find (λ one. bytes_eq one.name.bytes name) (map (stands_in base nodes) labels) ≡ None)
        → cond b (Some (stands_in base nodes label))
        (find (λ one. bytes_eq one.name.bytes name) (map (stands_in base nodes) labels)) ≡ None
    here true found is rest = absurd (cc)
    here false None is rest = rest refl
    here false (Some n) is rest = absurd (cc)

-- where a goto enters a scope
abbrev pub entering_places : List Jump → Jump → List ℕ
entering_places labels goto =
    at_if (unwrap_or (option_map (enters_scope goto) (find
    (λ label. bytes_eq label.name.bytes goto.name.bytes) labels)) false)
    goto.name.place

-- What was noted of the gotos so far, with what is to be noted of the rest, is that of all.
abbrev pub IsNoted : Option TextFault → Option TextFault → Rule → List Jump → List Jump → List Jump
    → Type 0
IsNoted held now rule labels rest gotos =
    first_with now (broken rule (entering_gotos labels rest))
    ≡ first_with held (broken rule (entering_gotos labels gotos))

pub noted_step : (held now new : Option TextFault) (rule : Rule) (labels gotos : List Jump)
    (placed : Placed → Jump) (all : List Placed) (i : ℕ) (goto : Placed) → i < length all
    → goto ≡ get_or all i goto
    → new ≡ first_with now (broken rule (entering_places labels (placed goto)))
    → IsNoted held now rule labels (map placed (drop i all)) gotos
    → IsNoted held new rule labels (map placed (drop (i + 1) all)) gotos
noted_step held now new rule labels gotos placed all i goto less is new_is so_far =
    let rest : map placed (drop i all) ≡ placed goto ∷ map placed (drop (i + 1) all) =
    ap (λ (some : List Placed). map placed some) (drop_at all i goto less is) in
    ap (λ (first : Option TextFault).
    first_with first (broken rule (entering_gotos labels (map placed (drop (i + 1) all))))) new_is
    ∙ sym (broken_two now rule (entering_places labels (placed goto))
    (entering_gotos labels (map placed (drop (i + 1) all))))
    ∙ sym (ap (λ (some : List Jump).
    first_with now (broken rule (entering_gotos labels some))) rest)
    ∙ so_far

-- what a name has, by the index of all names
pub indexed : (name other : List ℕ) (labels : List Placed) (index : List (List ℕ))
    (found : Option ℕ) → found ≡ place_of (bytes_eq other) index → other ≡ name
    → index ≡ map bytes_of labels → place_of (bytes_eq name) (map bytes_of labels) ≡ found
indexed name other labels index found is same names =
    sym (is ∙ ap (λ (bytes : List ℕ). place_of (bytes_eq bytes) index) same
    ∙ ap (λ (all : List (List ℕ)). place_of (bytes_eq name) all) names)

-- where a goto enters a scope, by its label and the scopes of both
pub entering_at : (base : List ℕ) (nodes : List Node) (labels : List Placed) (goto label : Placed)
    (place : ℕ) (entered : Bool)
    → place_of (bytes_eq goto.name.bytes) (map bytes_of labels) ≡ Some place
    → label ≡ get_or labels place label
    → entered ≡ enters_way base (way_at nodes goto.position) (way_at nodes label.position)
    → at_if entered goto.name.place
    ≡ entering_places (map (stands_in base nodes) labels) (stands_in base nodes goto)
entering_at base nodes labels goto label place entered found is entered_is =
    ap (λ b. at_if b goto.name.place) (entered_is
    ∙ sym (ap (λ (one : Option Jump). unwrap_or (option_map
    (enters_scope (stands_in base nodes goto)) one) false)
    (found_label base nodes goto.name.bytes labels place label found
    ∙ ap (λ (one : Placed). Some (stands_in base nodes one)) (sym is))))

-- a goto that names no label enters none
pub entering_none : (base : List ℕ) (nodes : List Node) (labels : List Placed) (goto : Placed)
    → place_of (bytes_eq goto.name.bytes) (map bytes_of labels) ≡ None
    → entering_places (map (stands_in base nodes) labels) (stands_in base nodes goto) ≡ []
entering_none base nodes labels goto is =
    ap (λ (one : Option Jump). at_if (unwrap_or (option_map
    (enters_scope (stands_in base nodes goto)) one) false) goto.name.place)
    (no_label base nodes goto.name.bytes labels is)
