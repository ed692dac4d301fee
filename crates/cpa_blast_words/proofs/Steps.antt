-- One more place of a walk, and one more bit of a constant.
use Rattle.std.proofs.Common.{◌≡◌, ℕ, suc, ◌+◌, ◌-◌, ◌/◌, ◌%◌, ◌<◌, ◌≤◌, List, [], ◌∷◌, ◌++◌}
use Rattle.std.proofs.Common.{length}
use Rattle.std.proofs.Common.{drop, get_or, refl, sym, ap, ◌∙◌, arith, append_assoc, add-one}
use Rattle.std.specs.Prelude.{◌==◌}
use Rattle.std.proofs.Math.Seq.{drop-cons}
use Rattle.std.proofs.lemmas.List.{append-nil, drop_all}
use Rattle.cpa_blast_gates.specs.declared.gate.Gate.{Gate}
use Rattle.cpa_blast_gates.specs.Nets.{Built, built}
use Rattle.cpa_blast_words.specs.declared.rows.Row.{Row}
use Rattle.cpa_blast_words.specs.declared.rows.Column.{Column}
use Rattle.cpa_blast_words.specs.declared.walks.Walked.{Walked}
use Rattle.cpa_blast_words.specs.Rows.{row_in}
use Rattle.cpa_blast_words.specs.Walks.{walk, walked_of}
use Rattle.cpa_blast_words.specs.Words.{constant_literal, constant_word}

-- a walk behind the bits so far
abbrev pub onto : List ℕ → Built Walked → Built Walked
onto bits made = built made.net
    (walked_of (bits ++ made.value.bits) made.value.carry)

unrolled : (r : Row) (net : List Gate) (c x y : ℕ) (xs ys bits : List ℕ)
    → onto bits (walk r net c (x ∷ xs) (y ∷ ys))
    ≡ onto (bits ++ (row_in r net c x y).value.bit ∷ [])
    (walk r (row_in r net c x y).net (row_in r net c x y).value.carry xs ys)
unfolding walk
unrolled r net c x y xs ys bits =
    let made = row_in r net c x y in
    let rest = walk r made.net made.value.carry xs ys in
    ap (λ bs. built rest.net (walked_of bs rest.value.carry))
    (sym (append_assoc bits (made.value.bit ∷ []) rest.value.bits))

pub walk_next : (r : Row) (net next : List Gate) (c : ℕ) (made : Column) (xs ys bits : List ℕ)
    (i x y : ℕ) → i < length xs → i < length ys → x ≡ get_or xs i x → y ≡ get_or ys i y
    → built next made ≡ row_in r net c x y
    → onto (bits ++ made.bit ∷ []) (walk r next made.carry (drop (i + 1) xs) (drop (i + 1) ys))
    ≡ onto bits (walk r net c (drop i xs) (drop i ys))
walk_next r net next c made xs ys bits i x y in_xs in_ys is_x is_y column =
    let step = λ (b : Built Column). onto (bits ++ b.value.bit ∷ [])
    (walk r b.net b.value.carry (drop (i + 1) xs) (drop (i + 1) ys)) in
    ap step column
    ∙ sym (unrolled r net c x y (drop (i + 1) xs) (drop (i + 1) ys) bits)
    ∙ ap (λ z. onto bits (walk r net c z (y ∷ drop (i + 1) ys)))
    (ap (λ k. k ∷ drop (i + 1) xs) is_x ∙ sym (cons_at xs i x in_xs))
    ∙ ap (λ z. onto bits (walk r net c (drop i xs) z))
    (ap (λ k. k ∷ drop (i + 1) ys) is_y ∙ sym (cons_at ys i y in_ys))
  where
    cons_at : (zs : List ℕ) (i d : ℕ) → i < length zs
        → drop i zs ≡ get_or zs i d ∷ drop (i + 1) zs
    cons_at zs i d inside = rw (add-one, drop-cons zs i d) refl

-- the walk is over behind the last place
pub walk_end : (r : Row) (net : List Gate) (c : ℕ) (xs ys bits : List ℕ) (i : ℕ) → length xs ≤ i
    → built net (walked_of bits c) ≡ onto bits (walk r net c (drop i xs) ys)
unfolding walk
walk_end r net c xs ys bits i past =
    ap (λ bs. built net (walked_of bs c)) (sym (append-nil bits))
    ∙ ap (λ zs. onto bits (walk r net c zs ys)) (sym (drop_all i xs past))

pub constant_next : (bits rest_bits : List ℕ) (width i n : ℕ) → i < width
    → bits ++ constant_word (width - i) n ≡ rest_bits
    → (bits ++ constant_literal (n % 2 == 1) ∷ []) ++ constant_word (width - (i + 1)) (n / 2)
    ≡ rest_bits
constant_next bits rest_bits width i n inside e =
    append_assoc bits (constant_literal (n % 2 == 1) ∷ []) (constant_word (width - (i + 1)) (n / 2))
    ∙ ap (λ w. bits ++ constant_word w n) (sym (left width i inside)) ∙ e
  where
    left : (width i : ℕ) → i < width → width - i ≡ suc (width - (i + 1))
    left width i h = omega arith
