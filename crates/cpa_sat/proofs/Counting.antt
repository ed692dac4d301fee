-- Clauses over so many variables that are not empty and differ are fewer than 4^vars.
use Rattle.std.proofs.Common.{◌≡◌, ◌≢◌, ℕ, zero, suc, ◌+◌, ◌-◌, ◌*◌, ◌^◌, ◌<◌, ◌≤◌, Bool, true}
use Rattle.std.proofs.Common.{false, cond, List, [], ◌∷◌, ◌⊎◌, inl, inr, map, take, length}
use Rattle.std.proofs.Common.{get_or, refl, sym, ap, ◌∙◌, subst, arith}
use Rattle.std.specs.Prelude.{slice_index_or}
use Rattle.std.specs.List.{AllByRecursion, IsDistinct, list_any}
use Rattle.std.proofs.Math.Dec.{eqb}
use Rattle.std.proofs.Math.Nat.{pow-succ'}
use Rattle.std.proofs.lemmas.Nat.{pow_pos}
use Rattle.std.proofs.lemmas.Bool.{cases_eq, cases_lt, cases_Bool, eqb-true, ne_eqb, or_cases}
use Rattle.std.proofs.lemmas.Bool.{false≢true}
use Rattle.std.proofs.lemmas.List.{get_or-append-add, get_or-map, get_or-take, length-map}
use Rattle.std.proofs.lemmas.List.{length-append, length-take-le}
use Rattle.std.proofs.lemmas.List.Elements.{All-from_recursion, recursion_from_All}
use Rattle.std.proofs.lemmas.Map.Keys.{IsDistinct-from_apart}
use Rattle.std.proofs.lemmas.Map.Steps.{length-le_from_distinct_below}
use Rattle.std.proofs.lemmas.Option.{none-some, slice_get-get_or}
use Rattle.cpa_cnf.specs.declared.formula.Cnf.{Cnf}
use Rattle.cpa_cnf.specs.declared.formula.Line.{Line}
use Rattle.cpa_cnf.specs.Clauses.{has, IsClause}
use Rattle.cpa_cnf.specs.Lines.{AreBelow, IsRefutation, known}
use Rattle.cpa_cnf.specs.lemmas.Chains.{member_below, same_members, has_head}
use Rattle.cpa_sat_search.specs.declared.found.Found.{Found}
use Rattle.cpa_sat_search.specs.declared.found.Found.TheVariants.{Model, Refuted, Spent}
use Rattle.cpa_sat_search.specs.Endings.{IsEnding}
use Rattle.cpa_sat_search.specs.Fresh.{AreNew}
use Rattle.cpa_sat.specs.Outcomes.{IsFound}

-- the bits of a set of numbers from n on, as a number of k bits, the lowest first
number : ℕ → ℕ → (ℕ → Bool) → ℕ
number zero n f = 0
number (suc k) n f = cond (f n) 1 0 + 2 * number k (n + 1) f

number_below : (k n : ℕ) (f : ℕ → Bool) → number k n f < 2 ^ k
unfolding number
number_below zero n f = omega arith
number_below (suc k) n f = subst (λ p. cond (f n) 1 0 + 2 * number k (n + 1) f < p)
    (sym (pow-succ' 2 k)) (bit (f n) (number k (n + 1) f) (2 ^ k) (number_below k (n + 1) f))
  where
    bit : (b : Bool) (x p : ℕ) → x < p → cond b 1 0 + 2 * x < 2 * p
    bit true x p h = omega arith
    bit false x p h = omega arith

one_bit : (b c : Bool) (x y : ℕ) → cond b 1 0 + 2 * x ≡ cond c 1 0 + 2 * y → (b ≡ c) × (x ≡ y)
one_bit true true x y e = (refl, omega arith)
one_bit true false x y e = absurd (omega arith)
one_bit false true x y e = absurd (omega arith)
one_bit false false x y e = (refl, omega arith)

above : (a b : ℕ) → a ≤ b → (a ≡ b → ⊥) → a + 1 ≤ b
above a b h ne = omega arith

shift : (n k l : ℕ) → l < n + suc k → l < n + 1 + k
shift n k l h = omega arith

same_at : (f g : ℕ → Bool) (n k l : ℕ) → n ≤ l → l < n + suc k → f n ≡ g n
    → (n + 1 ≤ l → l < n + 1 + k → f l ≡ g l) → f l ≡ g l
same_at f g n k l low high here rest = go (cases_eq n l)
  where
    go : (n ≡ l) ⊎ (n ≡ l → ⊥) → f l ≡ g l
    go (inl same) = ap f (sym same) ∙ here ∙ ap g same
    go (inr ne) = rest (above n l low ne) (shift n k l high)

number_same : (k n : ℕ) (f g : ℕ → Bool) → number k n f ≡ number k n g → (l : ℕ) → n ≤ l → l < n + k
    → f l ≡ g l
unfolding number
number_same zero n f g e l low high = absurd (omega arith)
number_same (suc k) n f g e l low high =
    same_at f g n k l low high (one_bit (f n) (g n) (number k (n + 1) f) (number k (n + 1) g) e).0
    (λ a b. number_same k (n + 1) f g
    (one_bit (f n) (g n) (number k (n + 1) f) (number k (n + 1) g) e).1 l a b)

some_bit : (x : ℕ) (b : Bool) → b ≡ true → 0 < cond b 1 0 + 2 * x
some_bit x true e = omega arith
some_bit x false e = absurd (false≢true e)

some_rest : (b : Bool) (x : ℕ) → 0 < x → 0 < cond b 1 0 + 2 * x
some_rest true x h = omega arith
some_rest false x h = omega arith

some_at : (f : ℕ → Bool) (n k l x : ℕ) → n ≤ l → l < n + suc k → f l ≡ true
    → (n + 1 ≤ l → l < n + 1 + k → 0 < x) → 0 < cond (f n) 1 0 + 2 * x
some_at f n k l x low high here rest = go (cases_eq n l)
  where
    go : (n ≡ l) ⊎ (n ≡ l → ⊥) → 0 < cond (f n) 1 0 + 2 * x
    go (inl same) = some_bit x (f n) (ap f same ∙ here)
    go (inr ne) = some_rest (f n) x (rest (above n l low ne) (shift n k l high))

number_some : (k n : ℕ) (f : ℕ → Bool) (l : ℕ) → n ≤ l → l < n + k → f l ≡ true → 0 < number k n f
unfolding number
number_some zero n f l low high here = absurd (omega arith)
number_some (suc k) n f l low high here =
    some_at f n k l (number k (n + 1) f) low high here (λ a b. number_some k (n + 1) f l a b here)

four_power : (v : ℕ) → 4 ^ v ≡ 2 ^ (2 * v)
four_power zero = refl
four_power (suc v) =
    pow-succ' 4 v ∙ ap (λ p. 4 * p) (four_power v) ∙ twice (2 ^ (2 * v))
    ∙ sym (ap (λ e. 2 ^ e) shift ∙ pow-succ' 2 (suc (2 * v))
    ∙ ap (λ p. 2 * p) (pow-succ' 2 (2 * v)))
  where
    shift : 2 * suc v ≡ suc (suc (2 * v))
    shift = omega arith

    twice : (p : ℕ) → 4 * p ≡ 2 * (2 * p)
    twice p = omega arith

code : ℕ → List ℕ → ℕ
code vars c = number (2 * vars) 0 (has c)

code_below : (vars : ℕ) (c : List ℕ) → code vars c < 2 ^ (2 * vars)
unfolding code
code_below vars c = number_below (2 * vars) 0 (has c)

code_some : (vars : ℕ) (c : List ℕ) → AreBelow vars c → c ≢ [] → 0 < code vars c
unfolding code
code_some vars [] below filled = absurd (filled refl)
code_some vars (x ∷ xs) below filled =
    number_some (2 * vars) 0 (has (x ∷ xs)) x (omega arith) (from_zero x (2 * vars) below.0)
    (has_head x xs)
  where
    from_zero : (a b : ℕ) → a < b → a < 0 + b
    from_zero a b h = omega arith

code_same : (vars : ℕ) (c d : List ℕ) → IsClause c → IsClause d → AreBelow vars c → AreBelow vars d
    → code vars c ≡ code vars d → c ≡ d
unfolding code
code_same vars c d is_c is_d below_c below_d e =
    same_members 0 0 c d is_c is_d (λ l. go l (cases_lt l (2 * vars)))
  where
    from_zero : (a b : ℕ) → a < b → a < 0 + b
    from_zero a b h = omega arith

    none : (x : List ℕ) (l : ℕ) → AreBelow vars x → 2 * vars ≤ l
        → (has x l ≡ true) ⊎ (has x l ≡ false) → has x l ≡ false
    none x l below past (inl h) = absurd (over l (2 * vars) (member_below vars x l below h) past)
      where
        over : (a b : ℕ) → a < b → b ≤ a → ⊥
        over a b p q = absurd (omega arith)
    none x l below past (inr h) = h

    go : (l : ℕ) → (l < 2 * vars) ⊎ (2 * vars ≤ l) → has c l ≡ has d l
    go l (inl less) = number_same (2 * vars) 0 (has c) (has d) e l (omega arith)
        (from_zero l (2 * vars) less)
    go l (inr past) = none c l below_c past (cases_Bool (has c l))
        ∙ sym (none d l below_d past (cases_Bool (has d l)))

each_of : (f : Line → ℕ) (n q : ℕ) (xs : List Line)
    → AllByRecursion (λ (line : Line). f line < n) xs → list_any (eqb q) (map f xs) ≡ true → q < n
each_of f n q [] all h = absurd (false≢true h)
each_of f n q (x ∷ xs) all h =
    elim (or_cases (eqb q (f x)) (list_any (eqb q) (map f xs)) h) [
      | inl e ↦ subst (λ k. k < n) (sym (eqb-true q (f x) e)) all.0
      | inr e ↦ each_of f n q xs all.1 e
    ]

-- the clause of line i among all
line_clause : (cnf : Cnf) (log : List Line) (i : ℕ) (d : Line) → i < length log
    → slice_index_or (known cnf log) (length cnf.clauses + i) [] ≡ (get_or log i d).clause
line_clause cnf log i d h =
    get_or-append-add cnf.clauses (map (λ (l : Line). l.clause) log) i []
    ∙ get_or-map (λ (l : Line). l.clause) log i d [] h

pub few_lines : (cnf : Cnf) (log : List Line)
    → ((k : ℕ) → IsClause (slice_index_or (known cnf log) k []))
    → ((k : ℕ) → AreBelow cnf.vars (slice_index_or (known cnf log) k []))
    → AllByRecursion (λ (line : Line). line.clause ≢ []) log → AreNew cnf log
    → length log < 4 ^ cnf.vars
few_lines cnf log sorted below filled fresh =
    subst (λ p. length log < p) (sym (four_power cnf.vars))
    (fits (length log) (length codes) (2 ^ (2 * cnf.vars)) (length-map log lower)
    (pow_pos (2 * cnf.vars))
    (length-le_from_distinct_below codes (2 ^ (2 * cnf.vars) - 1) distinct each))
  where
    lower : Line → ℕ
    lower line = code cnf.vars line.clause - 1

    codes : List ℕ
    codes = map lower log

    fits : (n m p : ℕ) → m ≡ n → 0 < p → m ≤ p - 1 → n < p
    fits n m p e h k = omega arith

    is_sorted : (i : ℕ) (d : Line) → i < length log → IsClause (get_or log i d).clause
    is_sorted i d h = subst IsClause (line_clause cnf log i d h) (sorted (length cnf.clauses + i))

    is_below : (i : ℕ) (d : Line) → i < length log → AreBelow cnf.vars (get_or log i d).clause
    is_below i d h = subst (λ (c : List ℕ). AreBelow cnf.vars c) (line_clause cnf log i d h)
        (below (length cnf.clauses + i))

    is_filled : (i : ℕ) (d : Line) → i < length log → (get_or log i d).clause ≢ []
    is_filled i d h = All-from_recursion (λ (line : Line). line.clause ≢ []) log filled i d h

    at : (i d : ℕ) (e : Line) → i < length log → get_or codes i d ≡ lower (get_or log i e)
    at i d e h = get_or-map lower log i e d h

    less : (a b c : ℕ) → a < b → b < c → a < c
    less a b c p q = omega arith

    differ : (i j : ℕ) (e : Line) → i < j → j < length log
        → (get_or log i e).clause ≡ (get_or log j e).clause → ⊥
    differ i j e p q same =
        let inside : i < length log = less i j (length log) p q in
        let cut : length (take j log) ≡ j = length-take-le j log (le j (length log) q) in
        let in_front : i < length (take j log) = subst (λ n. i < n) (sym cut) p in
        fresh j (get_or log j e) (slice_get-get_or log j e q) (length cnf.clauses + i)
        (subst (λ n. length cnf.clauses + i < n)
        (sym (length-append cnf.clauses (map (λ (l : Line). l.clause) (take j log))))
        (under (length cnf.clauses) i (length (map (λ (l : Line). l.clause) (take j log)))
        (subst (λ n. i < n) (sym (length-map (take j log) (λ (l : Line). l.clause))) in_front)))
        (line_clause cnf (take j log) i e in_front
        ∙ ap (λ (l : Line). l.clause) (get_or-take j log i e p) ∙ same)
      where
        le : (a b : ℕ) → a < b → a ≤ b
        le a b h = omega arith

        under : (a b c : ℕ) → b < c → a + b < a + c
        under a b c h = omega arith

    first_line : (i : ℕ) (xs : List Line) → i < length xs → Line
    first_line i [] h = absurd (omega arith)
    first_line i (x ∷ xs) h = x

    apart : (i j d : ℕ) → i < j → j < length codes
        → eqb (get_or codes i d) (get_or codes j d) ≡ false
    apart i j d p q =
        let inside : j < length log = subst (λ n. j < n) (length-map log lower) q in
        let before : i < length log = less i j (length log) p inside in
        let e = first_line j log inside in
        ne_eqb _ _ (λ same.
        differ i j e p inside
        (code_same cnf.vars (get_or log i e).clause (get_or log j e).clause (is_sorted i e before)
        (is_sorted j e inside) (is_below i e before) (is_below j e inside)
        (pred_same (code cnf.vars (get_or log i e).clause) (code cnf.vars (get_or log j e).clause)
        (code_some cnf.vars _ (is_below i e before) (is_filled i e before))
        (code_some cnf.vars _ (is_below j e inside) (is_filled j e inside))
        (sym (at i d e before) ∙ same ∙ at j d e inside))))
      where
        pred_same : (a b : ℕ) → 0 < a → 0 < b → a - 1 ≡ b - 1 → a ≡ b
        pred_same a b h k f = omega arith

    distinct : IsDistinct eqb codes
    distinct = IsDistinct-from_apart eqb codes apart

    each : (q : ℕ) → list_any (eqb q) codes ≡ true → q < 2 ^ (2 * cnf.vars) - 1
    each q h =
        each_of lower (2 ^ (2 * cnf.vars) - 1) q log
        (recursion_from_All (λ (line : Line). lower line < 2 ^ (2 * cnf.vars) - 1) log
        (λ k d inside. minus_one (code cnf.vars (get_or log k d).clause) (2 ^ (2 * cnf.vars))
        (code_some cnf.vars _ (is_below k d inside) (is_filled k d inside))
        (code_below cnf.vars (get_or log k d).clause))) h
      where
        minus_one : (a p : ℕ) → 0 < a → a < p → a - 1 < p - 1
        minus_one a p x y = omega arith

-- a refutation has a line
some_lines : (cnf : Cnf) (log : List Line) → IsRefutation cnf log → 1 ≤ length log
some_lines cnf [] r = absurd (none-some [] r.last)
some_lines cnf (line ∷ log) r = omega arith

-- what the search left, with the number of clauses that there are
pub found_as : (cnf : Cnf) (learnt : ℕ) (found : Found) → IsEnding cnf learnt found
    → IsFound cnf learnt found
found_as cnf learnt (Model values) h = h
found_as cnf learnt (Refuted lines) h =
    record { refutes = h.0; some = some_lines cnf lines.items h.0; within = h.1 }
found_as cnf learnt (Spent lines) h = record {
  all = h.all;
  good = h.good;
  filled = h.filled;
  fresh = h.fresh;
  few = subst (λ n. n < 4 ^ cnf.vars) h.all
      (few_lines cnf lines.items h.clauses_are.sorted h.clauses_are.below h.filled h.fresh);
}
