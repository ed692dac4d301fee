-- One turn of the loops over expressions, facts and cells.
use Rattle.std.proofs.Common.{◌≡◌, ℕ, ◌+◌, ◌<◌, ◌≤◌, Bool, true, false, List, [], ◌∷◌, ◌++◌}
use Rattle.std.proofs.Common.{length, drop, get_or, refl, sym, ap, ◌∙◌, append_assoc, drop-cons}
use Rattle.std.proofs.Common.{add-one, if◌then◌else◌}
use Rattle.std.specs.List.{list_all}
use Rattle.std.proofs.lemmas.List.{drop_all, drop_more, append-nil}
use Rattle.cpa_ints.specs.declared.integers.IntType.TheVariants as ty
use Rattle.cpa_expr.specs.declared.tree.CmpOp.TheVariants as cmp
use Rattle.cpa_expr.specs.declared.tree.Expr.{Expr}
use Rattle.cpa_expr.specs.declared.tree.Expr.TheVariants.{Const, Cmp, Or, Not}
use Rattle.cpa_expr.specs.Cells.{scalar_read}
use Rattle.cpa_model.specs.declared.program.Cell.{Cell}
use Rattle.cpa_query.specs.Queries.{reads}
use Rattle.cpa_form_renaming.specs.declared.places.Place.{Place}
use Rattle.cpa_form_renaming.specs.Renaming.{is_whole, renamed}
use Rattle.cpa_form_rules.specs.declared.drafts.Draft.{Draft}
use Rattle.cpa_form_rules.specs.Drafts.{Placed, placed, with_place, place_at, copied, asked_of}
use Rattle.cpa_form_rules.specs.Drafts.{settled, next, fresh, want}
use Rattle.cpa_form_rules.specs.Tests.{some_from}
use Rattle.cpa_form_rules.specs.Forms.{starts, places_from}
use Rattle.cpa_edgeform.specs.Parts.{Stood, stood, own_place}

-- what is left from a place on
pub next_item : {A : Type 0} (xs : List A) (i : ℕ) (x : A) → i < length xs → x ≡ get_or xs i x
    → drop i xs ≡ x ∷ drop (i + 1) xs
next_item {A} xs i x inside at =
    drop_more xs i x inside ∙ ap (λ (y : A). y ∷ drop (i + 1) xs) (sym at)

item_here : {A : Type 0} (xs : List A) (i : ℕ) (d : A) → i < length xs
    → drop i xs ≡ get_or xs i d ∷ drop (i + 1) xs
item_here xs i d inside = rw (add-one, drop-cons xs i d inside) refl

-- what has been gathered, with what the rest gives, is what the whole list gives
pub gathered : {A B : Type 0} (all : List A → List B) (one : List B) (xs : List A) (i : ℕ) (x : A)
    (old new whole : List B) → i < length xs → x ≡ get_or xs i x
    → all (x ∷ drop (i + 1) xs) ≡ one ++ all (drop (i + 1) xs)
    → new ≡ old ++ one → old ++ all (drop i xs) ≡ whole → new ++ all (drop (i + 1) xs) ≡ whole
gathered all one xs i x old new whole inside at splits step kept =
    let rest = all (drop (i + 1) xs) in
    ap (λ ys. ys ++ rest) step
    ∙ append_assoc old one rest
    ∙ sym (ap (λ ys. old ++ ys) splits)
    ∙ sym (ap (λ ys. old ++ all ys) (next_item xs i x inside at)) ∙ kept

pub all_gathered : {A B : Type 0} (all : List A → List B) (xs : List A) (i : ℕ)
    (old whole : List B) → length xs ≤ i → all [] ≡ [] → old ++ all (drop i xs) ≡ whole
    → old ≡ whole
all_gathered all xs i old whole past none kept =
    sym (append-nil old)
    ∙ sym (ap (λ ys. old ++ ys) none)
    ∙ sym (ap (λ ys. old ++ all ys) (drop_all i xs past)) ∙ kept

-- ---- copies of places

-- places behind others
abbrev pub after : List Place → Placed → Placed
after old rest = placed rest.draft (old ++ rest.places)

copied_first : (mark : Bool) (marks : List Bool) (place : Place) (places : List Place)
    (draft : Draft) → copied (mark ∷ marks) (place ∷ places) draft
    ≡ with_place (own_place mark place draft).place
    (copied marks places (own_place mark place draft).draft)
copied_first true marks place places draft = refl
copied_first false marks place places draft = refl

pub one_copied : (marks : List Bool) (places : List Place) (i : ℕ) (m : Bool) (d p : Place)
    (draft next : Draft) (old new : List Place) → i < length marks → i < length places
    → stood next p ≡ own_place (get_or marks i m) (get_or places i d) draft
    → new ≡ old ++ p ∷ []
    → after new (copied (drop (i + 1) marks) (drop (i + 1) places) next)
    ≡ after old (copied (drop i marks) (drop i places) draft)
one_copied marks places i m d p draft next old new in_marks in_places is pushed =
    let mark = get_or marks i m in
    let place = get_or places i d in
    let ms = drop (i + 1) marks in
    let ps = drop (i + 1) places in
    let rest = copied ms ps next in
    ap (λ qs. after qs rest) pushed
    ∙ ap (placed rest.draft) (append_assoc old (p ∷ []) rest.places)
    ∙ ap (λ (s : Stood). after old (with_place s.place (copied ms ps s.draft))) is
    ∙ sym (ap (after old) (copied_first mark ms place ps draft))
    ∙ sym (ap (λ qs. after old (copied (mark ∷ ms) qs draft)) (item_here places i d in_places))
    ∙ sym (ap (λ bs. after old (copied bs (drop i places) draft)) (item_here marks i m in_marks))

pub all_copied : (marks : List Bool) (places : List Place) (i : ℕ) (draft : Draft)
    (old : List Place) → length places ≤ i
    → placed draft old ≡ after old (copied (drop i marks) (drop i places) draft)
all_copied marks places i draft old past =
    sym (ap (placed draft) (append-nil old))
    ∙ sym (ap (after old) (none (drop i marks)))
    ∙ sym (ap (λ ps. after old (copied (drop i marks) ps draft)) (drop_all i places past))
  where
    none : (ms : List Bool) → copied ms [] draft ≡ placed draft []
    none [] = refl
    none (true ∷ ms) = refl
    none (false ∷ ms) = refl

-- ---- places at which expressions can be read

pub settled_as_is : (asked : List (Expr × Bool)) (places : List Place) (draft : Draft)
    → true ≡ list_all (λ one. is_whole places one.0) asked
    → placed draft places ≡ settled asked places draft
settled_as_is asked places draft whole =
    ap (λ (b : Bool). if b then placed draft places
    else copied (reads (asked_of places asked)) places draft) whole

pub settled_by_copies : (asked : List (Expr × Bool)) (places : List Place) (draft : Draft)
    → false ≡ list_all (λ one. is_whole places one.0) asked
    → copied (reads (asked_of places asked)) places draft ≡ settled asked places draft
settled_by_copies asked places draft broken =
    ap (λ (b : Bool). if b then placed draft places
    else copied (reads (asked_of places asked)) places draft) broken

-- ---- a chain of truths

-- one test more of a chain
abbrev link : List Place → Expr → ℕ → Draft → Draft
link places e truth draft =
    want (Or (Not (scalar_read ty.Bool truth))
    (Or (renamed places e) (scalar_read ty.Bool (next draft)))) true (fresh ty.Bool draft)

pub one_link : (places : List Place) (tests : List (Expr × Bool)) (i : ℕ) (one : Expr × Bool)
    (truth new : ℕ) (draft after : Draft) → i < length tests → one ≡ get_or tests i one
    → new ≡ next draft → after ≡ link places one.0 truth draft
    → some_from places (drop (i + 1) tests) new after ≡ some_from places (drop i tests) truth draft
one_link places tests i one truth new draft after inside at numbered linked =
    let left = drop (i + 1) tests in
    ap (λ n. some_from places left n after) numbered
    ∙ ap (some_from places left (next draft)) linked
    ∙ sym (ap (λ rest. some_from places rest truth draft) (next_item tests i one inside at))

-- ---- the beginning

-- the start of a cell, as a test
abbrev pub start_of : ℕ → Cell → Expr × Bool
start_of number cell =
    (Cmp cmp.Eq cell.ty (scalar_read cell.ty number) (Const cell.ty cell.start), true)

pub one_start : (cells : List Cell) (i : ℕ) (d : Cell) (old new whole : List (Expr × Bool))
    → i < length cells → new ≡ old ++ start_of i (get_or cells i d) ∷ []
    → old ++ starts i (drop i cells) ≡ whole
    → new ++ starts (i + 1) (drop (i + 1) cells) ≡ whole
one_start cells i d old new whole inside pushed kept =
    let one = start_of i (get_or cells i d) in
    let rest = starts (i + 1) (drop (i + 1) cells) in
    ap (λ ws. ws ++ rest) pushed
    ∙ append_assoc old (one ∷ []) rest
    ∙ ap (λ n. old ++ one ∷ starts n (drop (i + 1) cells)) (add-one i)
    ∙ sym (ap (λ cs. old ++ starts i cs) (item_here cells i d inside)) ∙ kept

pub all_started : (cells : List Cell) (i : ℕ) (old whole : List (Expr × Bool)) → length cells ≤ i
    → old ++ starts i (drop i cells) ≡ whole → old ≡ whole
all_started cells i old whole past kept =
    sym (append-nil old) ∙ sym (ap (λ cs. old ++ starts i cs) (drop_all i cells past)) ∙ kept

pub one_place : (cells : List Cell) (i : ℕ) (d : Cell) (old new whole : List Place)
    → i < length cells → new ≡ old ++ place_at i (get_or cells i d).ty ∷ []
    → old ++ places_from i (drop i cells) ≡ whole
    → new ++ places_from (i + 1) (drop (i + 1) cells) ≡ whole
one_place cells i d old new whole inside pushed kept =
    let place = place_at i (get_or cells i d).ty in
    let rest = places_from (i + 1) (drop (i + 1) cells) in
    ap (λ ps. ps ++ rest) pushed
    ∙ append_assoc old (place ∷ []) rest
    ∙ ap (λ n. old ++ place ∷ places_from n (drop (i + 1) cells)) (add-one i)
    ∙ sym (ap (λ cs. old ++ places_from i cs) (item_here cells i d inside)) ∙ kept

pub all_placed : (cells : List Cell) (i : ℕ) (old whole : List Place) → length cells ≤ i
    → old ++ places_from i (drop i cells) ≡ whole → old ≡ whole
all_placed cells i old whole past kept =
    sym (append-nil old) ∙ sym (ap (λ cs. old ++ places_from i cs) (drop_all i cells past)) ∙ kept
