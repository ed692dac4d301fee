-- Which clauses of the joined formula are satisfied.
use Rattle.std.proofs.Common.{◌≡◌, ℕ, ◌+◌, ◌*◌, ◌<◌, Bool, true, false, ◌||◌, List, [], ◌∷◌}
use Rattle.std.proofs.Common.{◌++◌, length, map, take, Option, refl, sym, ap, ◌∙◌, arith}
use Rattle.std.specs.Prelude.{slice_index_or}
use Rattle.std.specs.List.{AllByRecursion, list_any}
use Rattle.std.proofs.lemmas.List.{length-append, length-map, length-take-le}
use Rattle.std.proofs.lemmas.List.FromFn.{length-range_with_len}
use Rattle.std.specs.List.{range_with_len}
use Rattle.cpa_cnf.specs.declared.formula.Cnf.{Cnf}
use Rattle.cpa_cnf.specs.Lines.{AreBelow}
use Rattle.cpa_cnf.specs.Models.{value_of_literal, Satisfies, IsModel}
use Rattle.cpa_blast_gates.specs.lemmas.Members.{any_clause, any_from_has, has_from_any}
use Rattle.cpa_interpolant_joining.specs.Joining.{renamed, renamed_literal, renamed_clause, joined}
use Rattle.cpa_interpolant_joining.specs.Joining.{seen, AreNames, Agree}
use Rattle.cpa_interpolant_joining.specs.lemmas.Literals.{half_below, renamed_value, seen_at}
use Rattle.cpa_interpolant_joining.specs.lemmas.Literals.{both_at, taken_value, front_value}

-- ---- a clause as a test

as_test : (values : List Bool) (clause : List ℕ) → Satisfies values clause
    → list_any (value_of_literal values) clause ≡ true
as_test values clause (l, here, is) = any_from_has (value_of_literal values) clause l here is

from_test : (values : List Bool) (clause : List ℕ)
    → list_any (value_of_literal values) clause ≡ true → Satisfies values clause
from_test values clause h = has_from_any (value_of_literal values) clause h

any_mapped : (p : ℕ → Bool) (f : ℕ → ℕ) (ls : List ℕ)
    → list_any p (map f ls) ≡ list_any (λ l. p (f l)) ls
any_mapped p f [] = refl
any_mapped p f (l ∷ ls) = ap (λ b. p (f l) || b) (any_mapped p f ls)

any_alike : (p q : ℕ → Bool) (n : ℕ) (ls : List ℕ) → AreBelow n ls
    → ((l : ℕ) → l < 2 * n → p l ≡ q l) → list_any p ls ≡ list_any q ls
any_alike p q n [] below same = refl
any_alike p q n (l ∷ ls) below same =
    ap (λ b. b || list_any p ls) (same l below.0)
    ∙ ap (λ b. q l || b) (any_alike p q n ls below.1 same)

alike : (values others : List Bool) (n : ℕ) (clause : List ℕ) → AreBelow n clause
    → ((l : ℕ) → l < 2 * n → value_of_literal values l ≡ value_of_literal others l)
    → Satisfies values clause → Satisfies others clause
alike values others n clause below same is =
    from_test others clause
    (sym (any_alike (value_of_literal values) (value_of_literal others) n clause below same)
    ∙ as_test values clause is)

module _ (first : ℕ) (names : List (Option ℕ)) (values others : List Bool) (n : ℕ)
    (same : (v : ℕ) → v < n → slice_index_or values (renamed first names v) false
    ≡ slice_index_or others v false) where
  tests : (clause : List ℕ) → AreBelow n clause
      → list_any (value_of_literal values) (renamed_clause first names clause)
      ≡ list_any (value_of_literal others) clause
  tests clause below =
      any_clause (value_of_literal values) (map (renamed_literal first names) clause)
      ∙ any_mapped (value_of_literal values) (renamed_literal first names) clause
      ∙ any_alike (λ l. value_of_literal values (renamed_literal first names l))
      (value_of_literal others) n clause below
      (λ l h. renamed_value first names values others l (same _ (half_below l n h)))

  seen_clauses : (clauses : List (List ℕ)) → AllByRecursion (AreBelow n) clauses
      → AllByRecursion (Satisfies values) (map (renamed_clause first names) clauses)
      → AllByRecursion (Satisfies others) clauses
  seen_clauses [] below are = tt
  seen_clauses (clause ∷ clauses) below are = (
    from_test others clause
        (sym (tests clause below.0) ∙ as_test values (renamed_clause first names clause) are.0),
    seen_clauses clauses below.1 are.1,
  )

  told_clauses : (clauses : List (List ℕ)) → AllByRecursion (AreBelow n) clauses
      → AllByRecursion (Satisfies others) clauses
      → AllByRecursion (Satisfies values) (map (renamed_clause first names) clauses)
  told_clauses [] below are = tt
  told_clauses (clause ∷ clauses) below are = (
    from_test values (renamed_clause first names clause)
        (tests clause below.0 ∙ as_test others clause are.0),
    told_clauses clauses below.1 are.1,
  )

-- ---- clauses of both

all_alike : (values others : List Bool) (n : ℕ) (clauses : List (List ℕ))
    → AllByRecursion (AreBelow n) clauses
    → ((l : ℕ) → l < 2 * n → value_of_literal values l ≡ value_of_literal others l)
    → AllByRecursion (Satisfies values) clauses → AllByRecursion (Satisfies others) clauses
all_alike values others n [] below same are = tt
all_alike values others n (clause ∷ clauses) below same are = (
  alike values others n clause below.0 same are.0,
  all_alike values others n clauses below.1 same are.1,
)

apart : (values : List Bool) (xs ys : List (List ℕ))
    → AllByRecursion (Satisfies values) (xs ++ ys)
    → AllByRecursion (Satisfies values) xs × AllByRecursion (Satisfies values) ys
apart values [] ys are = (tt, are)
apart values (x ∷ xs) ys are =
    let rest = apart values xs ys are.1 in ((are.0, rest.0), rest.1)

together : (values : List Bool) (xs ys : List (List ℕ))
    → AllByRecursion (Satisfies values) xs → AllByRecursion (Satisfies values) ys
    → AllByRecursion (Satisfies values) (xs ++ ys)
together values [] ys are others = others
together values (x ∷ xs) ys are others = (are.0, together values xs ys are.1 others)

module _ (first second : Cnf) (names : List (Option ℕ))
    (first_below : AllByRecursion (AreBelow first.vars) first.clauses)
    (second_below : AllByRecursion (AreBelow second.vars) second.clauses) where
  pub first_model : (values : List Bool) → IsModel (joined first second names) values
      → IsModel first (take first.vars values)
  first_model values is = record {
    each_variable = let long = is.each_variable in
        length-take-le first.vars values (omega arith);
    each_clause = all_alike values (take first.vars values) first.vars first.clauses first_below
        (λ l h. taken_value values first.vars l h)
        (apart values first.clauses (map (renamed_clause first.vars names) second.clauses)
        is.each_clause).0;
  }

  pub second_model : (values : List Bool) → IsModel (joined first second names) values
      → IsModel second (seen first.vars names second.vars values)
  second_model values is = record {
    each_variable = length-map (range_with_len 0 second.vars)
        (λ v. slice_index_or values (renamed first.vars names v) false)
        ∙ length-range_with_len 0 second.vars;
    each_clause = seen_clauses first.vars names values
        (seen first.vars names second.vars values) second.vars
        (λ v h. sym (seen_at first.vars names second.vars v values h)) second.clauses second_below
        (apart values first.clauses (map (renamed_clause first.vars names) second.clauses)
        is.each_clause).1;
  }

  pub both_model : (values others : List Bool) → AreNames first.vars names
      → Agree names values others → IsModel first values → IsModel second others
      → IsModel (joined first second names) (values ++ others)
  both_model values others below agree is other = record {
    each_variable = length-append values others
        ∙ ap (λ n. n + length others) is.each_variable
        ∙ ap (λ n. first.vars + n) other.each_variable;
    each_clause = together (values ++ others) first.clauses
        (map (renamed_clause first.vars names) second.clauses)
        (all_alike values (values ++ others) first.vars first.clauses first_below
        (λ l h. front_value values others first.vars l is.each_variable h) is.each_clause)
        (told_clauses first.vars names (values ++ others) others second.vars
        (λ v h. both_at first.vars names values others v is.each_variable below agree)
        second.clauses second_below other.each_clause);
  }
