-- The joined formula of a cut may be searched: each of its literals is one of its variables.
use Rattle.std.proofs.Common.{◌≡◌, ℕ, ◌+◌, ◌*◌, ◌/◌, ◌%◌, ◌<◌, ◌≤◌, List, [], ◌∷◌, ◌++◌, map}
use Rattle.std.proofs.Common.{length}
use Rattle.std.proofs.Common.{Option, None, Some, replicate, true, false, sym, ap, ◌∙◌, subst, refl}
use Rattle.std.proofs.Common.{arith}
use Rattle.std.specs.List.{AllByRecursion}
use Rattle.std.proofs.lemmas.List.{length-append, length-map, length-replicate}
use Rattle.std.proofs.lemmas.Nat.{mod_below}
use Rattle.cpa_ints.specs.Integers.{width}
use Rattle.cpa_cnf.specs.Lines.{AreBelow}
use Rattle.cpa_blast_gates.specs.lemmas.Members.{all_clause}
use Rattle.cpa_blast_circuits.specs.Laws.{CircuitsHaveValues}
use Rattle.cpa_blast.specs.Formulas.{formula}
use Rattle.cpa_blast.specs.Laws.{formulas_below}
use Rattle.cpa_model.specs.declared.program.Cell.{Cell}
use Rattle.cpa_form_rules.specs.Forms.{Form}
use Rattle.cpa_interpolant_joining.specs.Joining.{AreNames, name_of, named_or, renamed}
use Rattle.cpa_interpolant_joining.specs.Joining.{renamed_literal, renamed_clause}
use Rattle.cpa_interpolant_joining.specs.lemmas.Literals.{half_below}
use Rattle.cpa_interpolant_names.specs.declared.gathering.Meeting.{Meeting}
use Rattle.cpa_interpolant_names.specs.Meetings.{names_of}
use Rattle.cpa_interpolant_names.specs.Laws.{names_are_bits}
use Rattle.cpa_interpolant_cuts.specs.Cuts.{meetings_of, formula_of, sides_at}
use Rattle.cpa_interpolant_cuts.specs.lemmas.Meet.{AreParts, cell_of, before_bit}

-- ---- each clause has a side

pub as_many_sides : (cells : List Cell) (A B : Form)
    → length (sides_at A B) ≡ length (formula_of cells A B).clauses
as_many_sides cells A B =
    let front = (formula A.query).clauses in
    let back = (formula B.query).clauses in
    let ns = names_of (formula B.query).vars (meetings_of cells A B) in
    length-append (replicate (length front) true) (replicate (length back) false)
    ∙ (ap (λ n. n + length (replicate (length back) false)) (length-replicate (length front) true)
    ∙ (ap (λ n. length front + n) (length-replicate (length back) false)
    ∙ (ap (λ n. length front + n)
    (sym (length-map back (renamed_clause (formula A.query).vars ns)))
    ∙ sym (length-append front (map (renamed_clause (formula A.query).vars ns) back)))))

-- ---- literals of more variables

literals_more : (n p : ℕ) (ls : List ℕ) → n ≤ p → AreBelow n ls → AreBelow p ls
literals_more n p [] le below = tt
literals_more n p (l ∷ ls) le below =
    let here = below.0 in (omega (arith, le, here), literals_more n p ls le below.1)

clauses_more : (n p : ℕ) (cs : List (List ℕ)) → n ≤ p → AllByRecursion (AreBelow n) cs
    → AllByRecursion (AreBelow p) cs
clauses_more n p [] le below = tt
clauses_more n p (c ∷ cs) le below =
    (literals_more n p c le below.0, clauses_more n p cs le below.1)

all_both : (P : List ℕ → Type 0) (xs ys : List (List ℕ)) → AllByRecursion P xs
    → AllByRecursion P ys → AllByRecursion P (xs ++ ys)
all_both P [] ys all others = others
all_both P (x ∷ xs) ys all others = (all.0, all_both P xs ys all.1 others)

-- ---- renamed ones

module _ (first second : ℕ) (names : List (Option ℕ)) (low : AreNames first names) where
  renamed_low : (v : ℕ) → v < second → renamed first names v < first + second
  renamed_low v h = by (name_of names v) refl
    where
      by : (o : Option ℕ) → name_of names v ≡ o → named_or o (first + v) < first + second
      by None is = omega (arith, h)
      by (Some name) is = let under = low v name is in omega (arith, under)

  literal_low : (l : ℕ) → l < 2 * second
      → renamed_literal first names l < 2 * (first + second)
  literal_low l h =
      let here = renamed_low (l / 2) (half_below l second h) in
      let sign = mod_below l 2 (omega arith) in
      twice (renamed first names (l / 2)) (l % 2) (first + second) here sign
    where
      twice : (v sign n : ℕ) → v < n → sign < 2 → v * 2 + sign < 2 * n
      twice v sign n inside small = omega (arith, inside, small)

  clause_low : (ls : List ℕ) → AreBelow second ls
      → AreBelow (first + second) (map (renamed_literal first names) ls)
  clause_low [] below = tt
  clause_low (l ∷ ls) below = (literal_low l below.0, clause_low ls below.1)

  clauses_low : (cs : List (List ℕ)) → AllByRecursion (AreBelow second) cs
      → AllByRecursion (AreBelow (first + second)) (map (renamed_clause first names) cs)
  clauses_low [] below = tt
  clauses_low (c ∷ cs) below = (
    all_clause (λ l. l < 2 * (first + second)) (map (renamed_literal first names) c)
        (clause_low c below.0),
    clauses_low cs below.1,
  )

module _ (circuits : CircuitsHaveValues) (cells : List Cell) (A B : Form)
    (are : AreParts cells A B) where
  pub names_low : AreNames (formula A.query).vars
      (names_of (formula B.query).vars (meetings_of cells A B))
  names_low v name named =
      let found = names_are_bits.name (formula B.query).vars (meetings_of cells A B) v name named in
      let m = found.0 in
      let j = found.1 in
      let c = cell_of circuits cells A B are m found.2 in
      let inside : j < width c.t = subst (λ (u : Meeting). j < width u.ty) c.is found.3 in
      let high = (before_bit circuits cells A B are c.cell c.t j c.ty inside).1 in
      let is = found.5 ∙ ap (λ (u : Meeting). u.before + j) c.is in
      omega (arith, high, inside, is)

  pub all_below : AllByRecursion (AreBelow (formula_of cells A B).vars)
      (formula_of cells A B).clauses
  all_below =
      let first = (formula A.query).vars in
      let second = (formula B.query).vars in
      let given = names_of second (meetings_of cells A B) in
      all_both (AreBelow (first + second)) (formula A.query).clauses
      (map (renamed_clause first given) (formula B.query).clauses)
      (clauses_more first (first + second) (formula A.query).clauses (omega arith)
      ((formulas_below circuits).literals A.query are.before))
      (clauses_low first second given names_low (formula B.query).clauses
      ((formulas_below circuits).literals B.query are.behind))
