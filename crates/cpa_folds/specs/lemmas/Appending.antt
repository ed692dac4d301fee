-- That a precision with more cells, and the first one, keep the laws.
use Rattle.std.proofs.Common.{◌≡◌, ◌≢◌, ℕ, ◌+◌, ◌<◌, ◌≤◌, ◌==◌, Bool, true, false, List, [], ◌∷◌}
use Rattle.std.proofs.Common.{◌++◌, refl, sym, subst, arith, length, get_or, append-nil, inl, inr}
use Rattle.std.specs.Prelude.{zero, suc, not, ◌||◌, IfSome, Some, if◌then◌else◌}
use Rattle.std.specs.List.{AllByRecursion, filter, list_any, range_with_len, Contains}
use Rattle.std.proofs.lemmas.Bool.{cond_both, or_left, or_right}
use Rattle.std.proofs.lemmas.Bool.Decides.{Decides-eqb}
use Rattle.std.proofs.lemmas.List.Elements.{Contains-append_left, Contains-append_right}
use Rattle.std.proofs.lemmas.List.Elements.{Contains-append_cases}
use Rattle.std.proofs.lemmas.List.FromFn.{length-range_with_len, get_or-range_with_len}
use Rattle.cpa_model.specs.declared.automaton.Cfa.{Cfa}
use Rattle.cpa_model.specs.declared.automaton.Path.{Path}
use Rattle.cpa_iface.specs.declared.analysis.Settings.{Settings}
use Rattle.cpa_iface.specs.declared.precisions.Precision.{Precision}
use Rattle.cpa_iface.specs.Meanings.{Meaning, IsPrecision}
use Rattle.cpa_iface.specs.Laws.{FirstPrecisionLaws, RefineLaws, AppendsMissing, AreDistinct}
use Rattle.cpa_iface.specs.Laws.{AppendsSuggested}
use Rattle.cpa_folds.specs.Needed.{is_needed, needed}
use Rattle.cpa_folds.specs.Tracking.{is_tracked, first_tracking, refined}

-- a tracked cell passes the test
pub tracks : (cells : List ℕ) (cell k : ℕ) → k < length cells → get_or cells k cell ≡ cell
    → list_any (λ own. own == cell) cells ≡ true
tracks [] cell k inside at = absurd (omega arith)
tracks (c ∷ cells) cell zero inside at =
    or_left (c == cell) (list_any (λ own. own == cell) cells) ((Decides-eqb c cell).1 at)
tracks (c ∷ cells) cell (suc k) inside at =
    or_right (c == cell) (list_any (λ own. own == cell) cells)
    (tracks cells cell k (omega (arith, inside)) at)

kept_numbers : (P : ℕ → Type 0) (test : ℕ → Bool) (ns : List ℕ) → AllByRecursion P ns
    → AllByRecursion P (filter test ns)
kept_numbers P test [] all = tt
kept_numbers P test (n ∷ ns) all =
    cond_both (test n) (n ∷ filter test ns) (filter test ns) (AllByRecursion P)
    (λ _. (all.0, kept_numbers P test ns all.1)) (λ _. kept_numbers P test ns all.1)

kept_distinct : (test : ℕ → Bool) (ns : List ℕ) → AreDistinct ns → AreDistinct (filter test ns)
kept_distinct test [] all = tt
kept_distinct test (n ∷ ns) all =
    cond_both (test n) (n ∷ filter test ns) (filter test ns) AreDistinct
    (λ _. (kept_numbers (λ m. n ≢ m) test ns all.0, kept_distinct test ns all.1))
    (λ _. kept_distinct test ns all.1)

range_from : (P : ℕ → Type 0) (a n : ℕ) → ((i : ℕ) → a ≤ i → i < a + n → P i)
    → AllByRecursion P (range_with_len a n)
range_from P a zero each = tt
range_from P a (suc n) each = (
  each a (omega arith) (omega arith),
  range_from P (a + 1) n (λ i least less. each i (omega (arith, least)) (omega (arith, less))),
)

range_distinct : (a n : ℕ) → AreDistinct (range_with_len a n)
range_distinct a zero = tt
range_distinct a (suc n) = (
  range_from (λ m. a ≢ m) (a + 1) n
      (λ i least less same. absurd (omega (arith, least, same))),
  range_distinct (a + 1) n,
)

both_lists : (P : ℕ → Type 0) (xs ys : List ℕ) → AllByRecursion P xs → AllByRecursion P ys
    → AllByRecursion P (xs ++ ys)
both_lists P [] ys first second = second
both_lists P (x ∷ xs) ys first second = (first.0, both_lists P xs ys first.1 second)

weaker : (P Q : ℕ → Type 0) (ns : List ℕ) → ((n : ℕ) → P n → Q n) → AllByRecursion P ns
    → AllByRecursion Q ns
weaker P Q [] f all = tt
weaker P Q (n ∷ ns) f all = (f n all.0, weaker P Q ns f all.1)

later : (x y : ℕ) (ys : List ℕ) → Contains ys x → Contains (y ∷ ys) x
later x y ys at = (suc at.0, (let less = at.1 in omega (arith, less)), at.2)

own_items : (ns : List ℕ) → AllByRecursion (Contains ns) ns
own_items [] = tt
own_items (n ∷ ns) = (
  (zero, omega arith, refl),
  weaker (Contains ns) (Contains (n ∷ ns)) ns (λ x at. later x n ns at) (own_items ns),
)

-- a number that is found is contained
found_in : (ns : List ℕ) (n : ℕ) → list_any (λ own. own == n) ns ≡ true → Contains ns n
found_in [] n h = absurd (cc)
found_in (m ∷ ns) n h = by (m == n) refl h (found_in ns n) where
  by : (b : Bool) → (m == n) ≡ b → (b || list_any (λ own. own == n) ns) ≡ true
      → (list_any (λ own. own == n) ns ≡ true → Contains ns n) → Contains (m ∷ ns) n
  by true same h rest = (zero, omega arith, (Decides-eqb m n).0 same)
  by false other h rest = later n m ns (rest h)

passing : (test : ℕ → Bool) (ns : List ℕ) → AllByRecursion (λ n. test n ≡ true) (filter test ns)
passing test [] = tt
passing test (n ∷ ns) =
    cond_both (test n) (n ∷ filter test ns) (filter test ns) (AllByRecursion (λ m. test m ≡ true))
    (λ passes. (passes, passing test ns)) (λ _. passing test ns)

both_facts : (P Q : ℕ → Type 0) (ns : List ℕ) → AllByRecursion P ns → AllByRecursion Q ns
    → AllByRecursion (λ n. P n × Q n) ns
both_facts P Q [] first second = tt
both_facts P Q (n ∷ ns) first second = ((first.0, second.0), both_facts P Q ns first.1 second.1)

-- those that are missing are kept, each once
whole_items : (old items : List ℕ) → AllByRecursion
    (Contains (old ++ filter (λ n. not (list_any (λ own. own == n) old)) items)) items
whole_items old [] = tt
whole_items old (n ∷ items) =
    cond_both (not (list_any (λ own. own == n) old)) (n ∷ filter test items) (filter test items)
    (λ l. AllByRecursion (Contains (old ++ l)) (n ∷ items))
    (λ _. (
      Contains-append_right old (n ∷ filter test items) n (zero, omega arith, refl),
      weaker (Contains (old ++ filter test items)) (Contains (old ++ (n ∷ filter test items))) items
          (λ x at. wider x at) (whole_items old items),
    ))
    (λ there. (
      Contains-append_left old (filter test items) n
          (found_in old n (not_not (list_any (λ own. own == n) old) there)),
      whole_items old items,
    )) where
      test : ℕ → Bool
      test m = not (list_any (λ own. own == m) old)

      not_not : (b : Bool) → not b ≡ false → b ≡ true
      not_not true h = refl
      not_not false h = absurd (cc)

      wider : (x : ℕ) → Contains (old ++ filter (λ m. not (list_any (λ own. own == m) old)) items) x
          → Contains (old ++ (n ∷ filter (λ m. not (list_any (λ own. own == m) old)) items)) x
      wider x at =
          elim (Contains-append_cases old
          (filter (λ m. not (list_any (λ own. own == m) old)) items) x at) [
            | inl first ↦ Contains-append_left old
                (n ∷ filter (λ m. not (list_any (λ own. own == m) old)) items) x first
            | inr second ↦
                Contains-append_right old (n ∷ filter
                (λ m. not (list_any (λ own. own == m) old)) items) x
                (later x n (filter (λ m. not (list_any (λ own. own == m) old)) items) second)
          ]

pub appends_missing : (old items : List ℕ) → AreDistinct items
    → AppendsMissing items old (old ++ filter (λ n. not (list_any (λ own. own == n) old)) items)
appends_missing old items distinct = record {
  more = filter (λ n. not (list_any (λ own. own == n) old)) items;
  is = refl;
  whole = whole_items old items;
  only = both_facts (Contains items) (λ x. Contains old x → ⊥)
      (filter (λ n. not (list_any (λ own. own == n) old)) items)
      (kept_numbers (Contains items) (λ n. not (list_any (λ own. own == n) old)) items
      (own_items items))
      (weaker (λ n. not (list_any (λ own. own == n) old) ≡ true) (λ x. Contains old x → ⊥)
      (filter (λ n. not (list_any (λ own. own == n) old)) items)
      (λ n passes at. absurd (cc (tracks old n at.0 at.1 at.2, passes)))
      (passing (λ n. not (list_any (λ own. own == n) old)) items));
  once = kept_distinct (λ n. not (list_any (λ own. own == n) old)) items distinct;
}

needed_distinct : (cfa : Cfa) (path : Path) → AreDistinct (needed cfa path)
needed_distinct cfa path = kept_distinct (is_needed cfa path.edges)
    (range_with_len 0 (length cfa.cells)) (range_distinct 0 (length cfa.cells))

needed_inside : (cfa : Cfa) (path : Path)
    → AllByRecursion (λ cell. cell < length cfa.cells) (needed cfa path)
needed_inside cfa path =
    kept_numbers (λ cell. cell < length cfa.cells) (is_needed cfa path.edges)
    (range_with_len 0 (length cfa.cells))
    (range_from (λ cell. cell < length cfa.cells) 0 (length cfa.cells)
    (λ i least less. omega (arith, less)))

-- the laws of refinement, for whoever suggests the cells that are needed
pub refined-laws : (m : Meaning) (cfa : Cfa) (path : Path) (p : Precision)
    → m.suggestion cfa path ≡ Some (record { cells = needed cfa path; preds = [] })
    → IfSome m.replies (λ r. refined cfa path p ≡ r.refine cfa path p) → IsPrecision cfa p
    → RefineLaws m cfa path p (refined cfa path p)
refined-laws m cfa path p suggests told precision =
    let more = filter (λ cell. not (is_tracked p cell)) (needed cfa path) in
    record {
      shaped = record {
        tracked = both_lists (λ cell. cell < length cfa.cells) p.tracked more precision.tracked
            (kept_numbers (λ cell. cell < length cfa.cells) (λ cell. not (is_tracked p cell))
            (needed cfa path) (needed_inside cfa path));
        preds = precision.preds;
      };
      limit = refl;
      tracked = (more, refl);
      preds = ([], sym (append-nil p.preds));
      suggested = subst (λ o. IfSome o (AppendsSuggested p (refined cfa path p))) (sym suggests) (
        appends_missing p.tracked (needed cfa path) (needed_distinct cfa path),
        record { more = []; is = sym (append-nil p.preds); whole = tt; only = tt; once = tt },
      );
      told = told;
    }

range_all : (P : ℕ → Type 0) (a n : ℕ) → ((i : ℕ) → i < a + n → P i)
    → AllByRecursion P (range_with_len a n)
range_all P a zero each = tt
range_all P a (suc n) each = (
  each a (omega arith),
  range_all P (a + 1) n (λ i less. each i (omega (arith, less))),
)

all_or_none : (n : ℕ) (b : Bool) → AllByRecursion (λ cell. cell < n)
    (if b then range_with_len 0 n else [])
all_or_none n true = range_all (λ cell. cell < n) 0 n (λ i less. omega (arith, less))
all_or_none n false = tt

-- the laws of the first precision, where the limit is none if the settings have none
pub first_tracking-laws : (m : Meaning) (cfa : Cfa) (settings : Settings) (limit : ℕ)
    → (settings.limit ≡ 0 → limit ≡ 0)
    → IfSome m.replies (λ r. first_tracking cfa settings limit ≡ r.first_precision cfa settings)
    → FirstPrecisionLaws m cfa settings (first_tracking cfa settings limit)
first_tracking-laws m cfa settings limit none told = record {
  shaped = record { tracked = all_or_none (length cfa.cells) settings.tracked_all; preds = tt };
  exact = λ _ all no_limit. record {
    cells = λ cell less.
        let n = length cfa.cells in
        subst (λ b. Contains (if b then range_with_len 0 n else []) cell) (sym all) (
          cell,
          (let long = length-range_with_len 0 n in omega (arith, long, less)),
          (let at = get_or-range_with_len 0 n cell cell less in omega (arith, at)),
        );
    no_limit = none no_limit;
  };
  told = told;
}
