-- Rules in order, the first made and the others left.
use Rattle.std.proofs.Common.{◌≡◌, ◌<◌, ◌≤◌, ℕ, ◌+◌, List, [], ◌∷◌, map, length, get_or, drop, ◌++◌}
use Rattle.std.proofs.Common.{refl, ap, sym, ◌∙◌, append_assoc, append-nil}
use Rattle.std.proofs.lemmas.List.{at_drop_more, at_drop_all}
use Rattle.cpa_model_trees.specs.Numbering.{Trees}
use Rattle.c_types_rules.specs.declared.typed.TypedFunction.{TypedFunction}
use Rattle.c_core_rules.specs.Cells.{Taken, Made, Rule, each, in_order}
use Rattle.c_core_rules.specs.Expressions.{Frames}
use Rattle.c_core_rules.specs.Statements.{function_rule}
use Rattle.c_lower_trees.specs.Items.{in_behind}

pub in_first : (rules : List (Rule Trees)) (taken : Taken) →
    in_behind [] rules taken ≡ in_order rules taken
unfolding in_behind
in_first rules taken =
    refl

pub in_none : (before : Trees) (taken : Taken) →
    in_behind before [] taken ≡ record { taken = taken; made = before }
unfolding in_behind
in_none before taken =
    ap (λ (s : Trees). record { taken = taken; made = s }) (append-nil before)

pub in_more : (before : Trees) (rule : Rule Trees) (rules : List (Rule Trees))
    (taken : Taken) →
    in_behind before (rule ∷ rules) taken
    ≡ in_behind (before ++ (rule taken).made) rules (rule taken).taken
unfolding in_behind
in_more before rule rules taken =
    let m = rule taken in
    let n = in_order rules m.taken in
    ap (λ (s : Trees). record { taken = n.taken; made = s })
    (sym (append_assoc before m.made n.made))

-- the rule of an item more, in a list that is gone through by its index
in_step : {A : Type 0} (f : A → Rule Trees) (before : Trees) (xs : List A) (i : ℕ) (x : A)
    (taken : Taken) → i < length xs → x ≡ get_or xs i x →
    in_behind before (map f (drop i xs)) taken
    ≡ in_behind (before ++ (f x taken).made) (map f (drop (i + 1) xs)) (f x taken).taken
in_step f before xs i x taken h is =
    at_drop_more (λ ys. in_behind before (map f ys) taken) xs i x h
    ∙ ap (λ y. in_behind before (f y ∷ map f (drop (i + 1) xs)) taken) (sym is)
    ∙ in_more before (f x) (map f (drop (i + 1) xs)) taken

in_end : {A : Type 0} (f : A → Rule Trees) (before : Trees) (xs : List A) (i : ℕ)
    (taken : Taken) → length xs ≤ i →
    in_behind before (map f (drop i xs)) taken ≡ record { taken = taken; made = before }
in_end f before xs i taken h =
    at_drop_all (λ ys. in_behind before (map f ys) taken) xs i h ∙ in_none before taken

-- a loop over a list of rules: what is left makes what the whole makes, behind what was made before
pub in_kept : {A : Type 0} (f : A → Rule Trees) (before after : Trees) (xs : List A) (i : ℕ)
    (x : A) (taken later : Taken) (whole : Made Trees) → i < length xs → x ≡ get_or xs i x →
    later ≡ (f x taken).taken → after ≡ before ++ (f x taken).made →
    in_behind before (map f (drop i xs)) taken ≡ whole →
    in_behind after (map f (drop (i + 1) xs)) later ≡ whole
in_kept f before after xs i x taken later whole h is c a w =
    ap (λ s. in_behind s (map f (drop (i + 1) xs)) later) a
    ∙ ap (in_behind (before ++ (f x taken).made) (map f (drop (i + 1) xs))) c
    ∙ sym (in_step f before xs i x taken h is) ∙ w

pub in_done : {A : Type 0} (f : A → Rule Trees) (front before : Trees) (xs : List A) (i : ℕ)
    (start taken : Taken) → length xs ≤ i →
    in_behind before (map f (drop i xs)) taken ≡ in_behind front (map f xs) start →
    (taken ≡ (in_order (map f xs) start).taken)
    × (before ≡ front ++ (in_order (map f xs) start).made)
unfolding in_behind
in_done f front before xs i start taken h w =
    let e = sym (in_end f before xs i taken h) ∙ w in
    (ap (λ (m : Made Trees). m.taken) e, ap (λ (m : Made Trees). m.made) e)

-- functions
pub no_tree : (trees : Trees) → trees ++ [] ≡ trees
no_tree trees = append-nil trees

pub function_more : (frames : Frames) (before : Trees) (function : TypedFunction)
    (functions : List TypedFunction) (taken : Taken) →
    before ++ (each (map (function_rule frames) (function ∷ functions)) taken).made
    ≡ (before ++ (function_rule frames function taken).made ∷ [])
    ++ (each (map (function_rule frames) functions)
    (function_rule frames function taken).taken).made
function_more frames before function functions taken =
    let m = function_rule frames function taken in
    let n = each (map (function_rule frames) functions) m.taken in
    sym (append_assoc before (m.made ∷ []) n.made)
