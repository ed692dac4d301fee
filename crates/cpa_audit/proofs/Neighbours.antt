-- A log has one least bad line; and what neighbouring runs and rows of parts give together.
use Rattle.std.proofs.Common.{◌≡◌, ℕ, ◌+◌, ◌<◌, ◌≤◌, List, Option, None, Some, [], ◌∷◌, ◌++◌}
use Rattle.std.proofs.Common.{length}
use Rattle.std.proofs.Common.{refl, sym, ap, arith, subst, ◌⊎◌, inl, inr}
use Rattle.std.specs.List.{AllByRecursion}
use Rattle.std.proofs.lemmas.Bool.{cases_lt}
use Rattle.std.proofs.lemmas.List.{length-append}
use Rattle.std.proofs.lemmas.Option.{slice_get_within}
use Rattle.cpa_cnf.specs.declared.formula.Cnf.{Cnf}
use Rattle.cpa_cnf.specs.declared.formula.Line.{Line}
use Rattle.cpa_cnf.specs.Lines.{IsGoodAt}
use Rattle.cpa_audit.specs.Cuts.{cut, AreParts}
use Rattle.cpa_audit.specs.LeastBad.{IsLeastBad, IsLeastBadBetween, IsLeastBadOfParts}
use Rattle.cpa_audit.specs.LeastBad.{AreGoodBetween, joined}
use Rattle.cpa_audit.proofs.Dividing.{cuts_rise, cut_first, cut_last}

pub one_least : (cnf : Cnf) (log : List Line) (a b : Option ℕ)
    → IsLeastBad cnf log a → IsLeastBad cnf log b → a ≡ b
one_least cnf log None None h k = refl
one_least cnf log None (Some j) h k = absurd (k.0.bad (h j))
one_least cnf log (Some i) None h k = absurd (h.0.bad (k i))
one_least cnf log (Some i) (Some j) h k = ap Some (same (cases_lt i j) (cases_lt j i))
  where
    same : (i < j) ⊎ (j ≤ i) → (j < i) ⊎ (i ≤ j) → i ≡ j
    same (inl less) other = absurd (h.0.bad (k.1 i less))
    same (inr more) (inl less) = absurd (k.0.bad (h.1 j less))
    same (inr more) (inr less) = omega arith

across : (cnf : Cnf) (log : List Line) (a b c : ℕ) → AreGoodBetween cnf log a b
    → AreGoodBetween cnf log b c → AreGoodBetween cnf log a c
across cnf log a b c first second i from end = by (cases_lt i b)
  where
    by : (i < b) ⊎ (b ≤ i) → IsGoodAt cnf log i
    by (inl before) = first i from before
    by (inr behind) = second i behind end

-- one line more
pub one_more : (cnf : Cnf) (log : List Line) (a i : ℕ) → AreGoodBetween cnf log a i
    → IsGoodAt cnf log i → AreGoodBetween cnf log a (i + 1)
one_more cnf log a i before here k from end = by (cases_lt k i)
  where
    same : i ≤ k → i ≡ k
    same most = omega (arith, most, end)

    by : (k < i) ⊎ (i ≤ k) → IsGoodAt cnf log k
    by (inl less) = before k from less
    by (inr more) = subst (λ n. IsGoodAt cnf log n) (same more) here

-- no line is left
pub at_end : (cnf : Cnf) (log : List Line) (a b i : ℕ) → AreGoodBetween cnf log a i → b ≤ i
    → AreGoodBetween cnf log a b
at_end cnf log a b i before over k from end = before k from (omega arith)

neighbours : (cnf : Cnf) (log : List Line) (a b c : ℕ) (p q : Option ℕ) → a ≤ b → b ≤ c
    → IsLeastBadBetween cnf log a b p → IsLeastBadBetween cnf log b c q
    → IsLeastBadBetween cnf log a c (joined p q)
neighbours cnf log a b c None None up on first second = across cnf log a b c first second
neighbours cnf log a b c None (Some j) up on first second =
    (second.0, omega (arith, second.1), second.2, across cnf log a b j first second.3)
neighbours cnf log a b c (Some i) q up on first second =
    (first.0, first.1, omega (arith, first.2), first.3)

-- what two neighbouring rows of parts give
pub parts_joined : (cnf : Cnf) (log : List Line) (w first m n : ℕ) (p q : Option ℕ) → 0 < w
    → IsLeastBadOfParts cnf log w first m p → IsLeastBadOfParts cnf log w (first + m) n q
    → IsLeastBadOfParts cnf log w first (m + n) (joined p q)
parts_joined cnf log w first m n p q some front back =
    let lines = length log in
    let same : (first + m) + n ≡ first + (m + n) = omega arith in
    subst (λ k. IsLeastBadBetween cnf log (cut lines w first) (cut lines w k) (joined p q)) same
    (neighbours cnf log (cut lines w first) (cut lines w (first + m))
    (cut lines w ((first + m) + n))
    p q (cuts_rise lines w first (first + m) some (omega arith))
    (cuts_rise lines w (first + m) ((first + m) + n) some (omega arith)) front back)

-- the same where the second row's number and the answer have names
pub halves_joined : (cnf : Cnf) (log : List Line) (w first middle m n : ℕ) (p q r : Option ℕ)
    → 0 < w → middle ≡ first + m → r ≡ joined p q → IsLeastBadOfParts cnf log w first m p
    → IsLeastBadOfParts cnf log w middle n q → IsLeastBadOfParts cnf log w first (m + n) r
halves_joined cnf log w first middle m n p q r some follows is front back =
    subst (λ (a : Option ℕ). IsLeastBadOfParts cnf log w first (m + n) a) (sym is)
    (parts_joined cnf log w first m n p q some front
    (subst (λ k. IsLeastBadOfParts cnf log w k n q) follows back))

between_all : (cnf : Cnf) (log : List Line) (from end : ℕ) (r : Option ℕ) → from ≡ 0
    → length log ≤ end → IsLeastBadBetween cnf log from end r → IsLeastBad cnf log r
between_all cnf log from end None none long all = λ i. good i (cases_lt i end)
  where
    good : (i : ℕ) → (i < end) ⊎ (end ≤ i) → IsGoodAt cnf log i
    good i (inl inside) = all i (omega (arith, none)) inside
    good i (inr beyond) = λ line there. absurd
        (omega (arith, long, beyond, slice_get_within log i line there))
between_all cnf log from end (Some i) none long least =
    (least.0, λ k less. least.3 k (omega (arith, none)) less)

-- all parts are the whole log
pub whole : (cnf : Cnf) (log : List Line) (w count : ℕ) (r : Option ℕ) → 0 < w → count ≡ w
    → IsLeastBadOfParts cnf log w 0 count r → IsLeastBad cnf log r
whole cnf log w count r some all least =
    let lines = length log in
    let last : lines ≤ cut lines w w = omega (arith, cut_last lines w some) in
    let same : 0 + count ≡ w = omega (arith, all) in
    between_all cnf log (cut lines w 0) (cut lines w (0 + count)) r (cut_first lines w)
    (subst (λ k. lines ≤ cut lines w k) (sym same) last) least

all_front : (P : ℕ → Type 0) (xs ys : List ℕ) → AllByRecursion P (xs ++ ys) → AllByRecursion P xs
all_front P [] ys all = tt
all_front P (x ∷ xs) ys all = (all.0, all_front P xs ys all.1)

all_back : (P : ℕ → Type 0) (xs ys : List ℕ) → AllByRecursion P (xs ++ ys) → AllByRecursion P ys
all_back P [] ys all = all
all_back P (x ∷ xs) ys all = all_back P xs ys all.1

-- one table more
pub all_push : (P : ℕ → Type 0) (xs : List ℕ) (x : ℕ) → AllByRecursion P xs → P x
    → AllByRecursion P (xs ++ x ∷ [])
all_push P [] x all here = (here, tt)
all_push P (y ∷ ys) x all here = (all.0, all_push P ys x all.1 here)

pub parts_front : (w first vars : ℕ) (xs ys : List ℕ) → AreParts w first vars (xs ++ ys)
    → AreParts w first vars xs
parts_front w first vars xs ys are =
    let long = length-append xs ys in
    record {
      within = omega (arith, are.within, long);
      fit = all_front (λ table. table ≡ vars) xs ys are.fit;
    }

pub parts_back : (w first vars : ℕ) (xs ys : List ℕ) → AreParts w first vars (xs ++ ys)
    → AreParts w (first + length xs) vars ys
parts_back w first vars xs ys are =
    let long = length-append xs ys in
    record {
      within = omega (arith, are.within, long);
      fit = all_back (λ table. table ≡ vars) xs ys are.fit;
    }
