-- One turn of the loops over cells and wanted expressions.
use Rattle.std.proofs.Common.{◌≡◌, ℕ, suc, ◌+◌, ◌-◌, ◌*◌, ◌<◌, ◌≤◌, Bool, List, [], ◌∷◌, ◌++◌}
use Rattle.std.proofs.Common.{length, drop, get_or, refl, sym, ap, ◌∙◌, arith, append_assoc}
use Rattle.std.proofs.Common.{drop-cons, add-one}
use Rattle.std.proofs.lemmas.List.{drop_all, append-nil}
use Rattle.cpa_ints.specs.declared.integers.IntType.{IntType}
use Rattle.cpa_blast_gates.specs.declared.gate.Gate.{Gate}
use Rattle.cpa_blast_gates.specs.Nets.{Built, built, with_input}
use Rattle.cpa_expr.specs.declared.tree.Expr.{Expr}
use Rattle.cpa_blast_circuits.specs.declared.answer.Word.{Word}
use Rattle.cpa_blast.specs.declared.places.Place.{Place}
use Rattle.cpa_blast.specs.declared.formulas.Required.{Required}
use Rattle.cpa_blast.specs.Formulas.{with_inputs, variables_from, place_of, places_of, next_place}
use Rattle.cpa_blast.specs.Formulas.{with_bits, told_in, asserted}

-- what is left from a place on
here : {A : Type 0} (xs : List A) (i : ℕ) (x : A) → i < length xs → x ≡ get_or xs i x
    → drop i xs ≡ x ∷ drop (i + 1) xs
here xs i x inside at =
    rw (add-one, drop-cons xs i x inside) (ap (λ y. y ∷ drop (suc i) xs) (sym at))

read_here : {A : Type 0} (xs : List A) (i : ℕ) (d : A) → i < length xs
    → drop i xs ≡ get_or xs i d ∷ drop (i + 1) xs
read_here xs i d inside = rw (add-one, drop-cons xs i d inside) refl

-- ---- the cells without variables

pub one_place : (cells : List IntType) (marks : List Bool) (i : ℕ) (d : IntType) (e : Bool)
    (old new all : List Place) → i < length cells → i < length marks
    → new ≡ old ++ place_of (get_or cells i d) (get_or marks i e) 0 ∷ []
    → old ++ places_of (drop i cells) (drop i marks) ≡ all
    → new ++ places_of (drop (i + 1) cells) (drop (i + 1) marks) ≡ all
one_place cells marks i d e old new all in_cells in_marks is so_far =
    let t = get_or cells i d in
    let mark = get_or marks i e in
    let rest = places_of (drop (i + 1) cells) (drop (i + 1) marks) in
    ap (λ ps. ps ++ rest) is
    ∙ append_assoc old (place_of t mark 0 ∷ []) rest
    ∙ sym (ap (λ ts. old ++ places_of ts (drop i marks)) (read_here cells i d in_cells)
    ∙ ap (λ ms. old ++ places_of (t ∷ drop (i + 1) cells) ms) (read_here marks i e in_marks))
    ∙ so_far

pub last_place : (cells : List IntType) (marks : List Bool) (i : ℕ) (old all : List Place)
    → length cells ≤ i → old ++ places_of (drop i cells) (drop i marks) ≡ all → old ≡ all
last_place cells marks i old all past so_far =
    sym (append-nil old)
    ∙ sym (ap (λ ts. old ++ places_of ts (drop i marks)) (drop_all i cells past)) ∙ so_far

-- ---- new variables

pub one_input : (count i l : ℕ) (old new all : List Gate) → i < count
    → built new l ≡ with_input old → with_inputs (count - i) old ≡ all
    → with_inputs (count - (i + 1)) new ≡ all
one_input count i l old new all inside is so_far =
    ap (with_inputs (count - (i + 1))) (ap (λ b. b.net) is)
    ∙ sym (ap (λ k. with_inputs k old) (left count i inside)) ∙ so_far
  where
    left : (count i : ℕ) → i < count → count - i ≡ suc (count - (i + 1))
    left count i h = omega arith

pub last_input : (count i : ℕ) (net all : List Gate) → count ≤ i
    → with_inputs (count - i) net ≡ all → net ≡ all
last_input count i net all past so_far =
    sym (ap (λ k. with_inputs k net) (none count i past)) ∙ so_far
  where
    none : (count i : ℕ) → count ≤ i → count - i ≡ 0
    none count i h = omega arith

-- ---- the places of all cells

-- places behind others
abbrev pub behind : {A : Type 0} → List A → Built (List A) → Built (List A)
behind xs made = built made.net (xs ++ made.value)

pub one_next : (reading : Bool) (places : List Place) (i : ℕ) (d q : Place) (net next : List Gate)
    (old new : List Place) → i < length places
    → built next q ≡ next_place reading (get_or places i d) net → new ≡ old ++ q ∷ []
    → behind new (with_bits reading (drop (i + 1) places) next)
    ≡ behind old (with_bits reading (drop i places) net)
unfolding with_bits
one_next reading places i d q net next old new inside is pushed =
    let p = get_or places i d in
    let rest = drop (i + 1) places in
    let step = λ (b : Built Place). behind (old ++ b.value ∷ []) (with_bits reading rest b.net) in
    let made = next_place reading p net in
    ap (λ ps. behind ps (with_bits reading rest next)) pushed
    ∙ ap step is
    ∙ ap (λ ps. built (with_bits reading rest made.net).net ps)
    (append_assoc old (made.value ∷ []) (with_bits reading rest made.net).value)
    ∙ sym (ap (λ ps. behind old (with_bits reading ps net)) (read_here places i d inside))

pub last_next : (reading : Bool) (places : List Place) (i : ℕ) (net : List Gate) (old : List Place)
    → length places ≤ i → built net old ≡ behind old (with_bits reading (drop i places) net)
unfolding with_bits
last_next reading places i net old past =
    ap (built net) (sym (append-nil old))
    ∙ ap (λ ps. behind old (with_bits reading ps net)) (sym (drop_all i places past))

-- ---- variables of one cell

pub one_variable : (first count i l : ℕ) (old new all : List ℕ) → i < count
    → l ≡ 2 * (first + i) → new ≡ old ++ l ∷ []
    → old ++ variables_from (first + i) (count - i) ≡ all
    → new ++ variables_from (first + (i + 1)) (count - (i + 1)) ≡ all
one_variable first count i l old new all inside is pushed so_far =
    let rest = variables_from (first + (i + 1)) (count - (i + 1)) in
    ap (λ ls. ls ++ rest) pushed
    ∙ append_assoc old (l ∷ []) rest
    ∙ ap (λ k. old ++ k ∷ rest) is
    ∙ ap (λ n. old ++ 2 * (first + i) ∷ variables_from n (count - (i + 1))) (next first i)
    ∙ sym (ap (λ k. old ++ variables_from (first + i) k) (left count i inside)) ∙ so_far
  where
    left : (count i : ℕ) → i < count → count - i ≡ suc (count - (i + 1))
    left count i h = omega arith

    next : (first i : ℕ) → first + (i + 1) ≡ first + i + 1
    next first i = omega arith

pub last_variable : (first count i : ℕ) (old all : List ℕ) → count ≤ i
    → old ++ variables_from (first + i) (count - i) ≡ all → old ≡ all
last_variable first count i old all past so_far =
    sym (append-nil old)
    ∙ sym (ap (λ k. old ++ variables_from (first + i) k) (none count i past)) ∙ so_far
  where
    none : (count i : ℕ) → count ≤ i → count - i ≡ 0
    none count i h = omega arith

-- ---- wanted expressions

pub one_wanted : (cells : List Word) (wanted : List (Expr × Bool)) (i : ℕ) (one : Expr × Bool)
    (told : Required) (net next : List Gate) (old mid new : List ℕ) → i < length wanted
    → one ≡ get_or wanted i one → built next told ≡ told_in cells one.0 one.1 net
    → mid ≡ old ++ told.ok ∷ [] → new ≡ mid ++ told.truth ∷ []
    → behind new (asserted cells (drop (i + 1) wanted) next)
    ≡ behind old (asserted cells (drop i wanted) net)
unfolding asserted
one_wanted cells wanted i one told net next old mid new inside at is first second =
    let rest = drop (i + 1) wanted in
    let step = λ (b : Built Required). behind (old ++ b.value.ok ∷ b.value.truth ∷ [])
    (asserted cells rest b.net) in
    let made = told_in cells one.0 one.1 net in
    ap (λ ls. behind ls (asserted cells rest next))
    (second ∙ ap (λ ls. ls ++ told.truth ∷ []) first
    ∙ append_assoc old (told.ok ∷ []) (told.truth ∷ []))
    ∙ ap step is
    ∙ ap (λ ls. built (asserted cells rest made.net).net ls)
    (append_assoc old (made.value.ok ∷ made.value.truth ∷ []) (asserted cells rest made.net).value)
    ∙ sym (ap (λ ws. behind old (asserted cells ws net)) (here wanted i one inside at))

pub last_wanted : (cells : List Word) (wanted : List (Expr × Bool)) (i : ℕ) (net : List Gate)
    (old : List ℕ) → length wanted ≤ i
    → built net old ≡ behind old (asserted cells (drop i wanted) net)
unfolding asserted
last_wanted cells wanted i net old past =
    ap (built net) (sym (append-nil old))
    ∙ ap (λ ws. behind old (asserted cells ws net)) (sym (drop_all i wanted past))
