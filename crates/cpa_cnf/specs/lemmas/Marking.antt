-- One more mark, and one mark less.
use Rattle.std.proofs.Common.{◌≡◌, ℕ, ◌+◌, ◌<◌, ◌≤◌, Bool, true, false, not, ◌&&◌, ◌||◌, List, inl}
use Rattle.std.proofs.Common.{inr, length, get_or, take, set, refl, sym, ap, ◌∙◌, get_or-set_other}
use Rattle.std.proofs.Common.{get_or-set_same}
use Rattle.std.specs.Prelude.{◌==◌}
use Rattle.std.proofs.lemmas.Bool.{cases_eq, eq-eqb, ne_eqb}
use Rattle.std.proofs.lemmas.List.{get_or_past}
use Rattle.cpa_cnf.specs.Clauses.{has}
use Rattle.cpa_cnf.specs.Marking.{marked}
use Rattle.cpa_cnf.specs.lemmas.Members.{has-take_more, or_false_right}

or_true_end : (b : Bool) → (b || true) ≡ true
or_true_end true = refl
or_true_end false = refl

and_true_end : (b : Bool) → (b && true) ≡ b
and_true_end true = refl
and_true_end false = refl

and_false_end : (b : Bool) → (b && false) ≡ false
and_false_end true = refl
and_false_end false = refl

or_assoc : (a b c : Bool) → ((a || b) || c) ≡ (a || (b || c))
or_assoc true b c = refl
or_assoc false b c = refl

and_not_or : (a b c : Bool) → ((a && not b) && not c) ≡ (a && not (b || c))
and_not_or true true c = refl
and_not_or true false c = refl
and_not_or false b c = refl

pub marked-set_true : (t : List Bool) (n x : ℕ) → n < length t
    → marked (set t n true) x ≡ (marked t x || (n == x))
marked-set_true t n x below =
    elim (cases_eq n x) [
      | inl e ↦ ap (λ y. marked (set t n true) y) (sym e) ∙ get_or-set_same t n true false below
          ∙ sym (ap (λ b. marked t x || b) (eq-eqb n x e) ∙ or_true_end (marked t x))
      | inr ne ↦ get_or-set_other t n x true false (λ e. ne (sym e))
          ∙ sym (ap (λ b. marked t x || b) (ne_eqb n x ne) ∙ or_false_right (marked t x))
    ]

pub marked-set_false : (t : List Bool) (n x : ℕ) → n < length t
    → marked (set t n false) x ≡ (marked t x && not (n == x))
marked-set_false t n x below =
    elim (cases_eq n x) [
      | inl e ↦ ap (λ y. marked (set t n false) y) (sym e) ∙ get_or-set_same t n false false below
          ∙ sym (ap (λ b. marked t x && not b) (eq-eqb n x e) ∙ and_false_end (marked t x))
      | inr ne ↦ get_or-set_other t n x false false (λ e. ne (sym e))
          ∙ sym (ap (λ b. marked t x && not b) (ne_eqb n x ne) ∙ and_true_end (marked t x))
    ]

-- beyond the table nothing is marked
pub marked_beyond : (t : List Bool) (n x : ℕ) → length t ≤ n
    → marked t x ≡ (marked t x && not (n == x))
marked_beyond t n x past =
    elim (cases_eq n x) [
      | inl e ↦ ap (λ y. marked t y) (sym e) ∙ get_or_past t n false past
          ∙ sym (ap (λ b. marked t x && not b) (eq-eqb n x e) ∙ and_false_end (marked t x))
      | inr ne ↦ sym (ap (λ b. marked t x && not b) (ne_eqb n x ne) ∙ and_true_end (marked t x))
    ]

next : (xs : List ℕ) (i n x : ℕ) → i < length xs → n ≡ get_or xs i n
    → has (take (i + 1) xs) x ≡ (has (take i xs) x || (n == x))
next xs i n x below is = has-take_more xs i n x below
    ∙ ap (λ y. has (take i xs) x || (y == x)) (sym is)

-- the loops of `mark` and `clear`, one literal further
pub marks_next : (o t : List Bool) (xs : List ℕ) (i n x : ℕ) → i < length xs → n ≡ get_or xs i n
    → n < length t
    → marked t x ≡ (marked o x || has (take i xs) x)
    → marked (set t n true) x ≡ (marked o x || has (take (i + 1) xs) x)
marks_next o t xs i n x below is fits same =
    marked-set_true t n x fits ∙ ap (λ b. b || (n == x)) same
    ∙ or_assoc (marked o x) (has (take i xs) x) (n == x)
    ∙ ap (λ b. marked o x || b) (sym (next xs i n x below is))

clears_by : (o t u : List Bool) (xs : List ℕ) (i n x : ℕ) → i < length xs → n ≡ get_or xs i n
    → marked u x ≡ (marked t x && not (n == x))
    → marked t x ≡ (marked o x && not (has (take i xs) x))
    → marked u x ≡ (marked o x && not (has (take (i + 1) xs) x))
clears_by o t u xs i n x below is taken same =
    taken ∙ ap (λ b. b && not (n == x)) same ∙ and_not_or (marked o x) (has (take i xs) x) (n == x)
    ∙ ap (λ b. marked o x && not b) (sym (next xs i n x below is))

pub clears_next : (o t : List Bool) (xs : List ℕ) (i n x : ℕ) → i < length xs → n ≡ get_or xs i n
    → n < length t
    → marked t x ≡ (marked o x && not (has (take i xs) x))
    → marked (set t n false) x ≡ (marked o x && not (has (take (i + 1) xs) x))
clears_next o t xs i n x below is fits same =
    clears_by o t (set t n false) xs i n x below is (marked-set_false t n x fits) same

pub clears_beyond : (o t : List Bool) (xs : List ℕ) (i n x : ℕ) → i < length xs → n ≡ get_or xs i n
    → length t ≤ n
    → marked t x ≡ (marked o x && not (has (take i xs) x))
    → marked t x ≡ (marked o x && not (has (take (i + 1) xs) x))
clears_beyond o t xs i n x below is past same =
    clears_by o t t xs i n x below is (marked_beyond t n x past) same
