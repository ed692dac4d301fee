-- The variables that both sides of a cut have are bits of cells that both parts read.
use Rattle.std.proofs.Common.{◌≡◌, ℕ, zero, suc, ◌+◌, ◌*◌, ◌/◌, ◌%◌, ◌<◌, Bool, true, false}
use Rattle.std.proofs.Common.{◌||◌, ◌&&◌, List, [], ◌∷◌, map, length, Option, None, Some}
use Rattle.std.proofs.Common.{slice_get, refl, sym, ap, ◌∙◌, subst, arith, zero-add, ◌⊎◌, inl, inr}
use Rattle.std.specs.Prelude.{◌==◌, slice_index_or}
use Rattle.std.specs.List.{AllByRecursion, list_any}
use Rattle.std.proofs.lemmas.Bool.{eqb-true, eq-eqb}
use Rattle.std.proofs.lemmas.List.FromFn.{length-map-range_with_len}
use Rattle.std.proofs.lemmas.Option.{slice_get_within}
use Rattle.cpa_ints.specs.Integers.{width}
use Rattle.cpa_cnf.specs.Clauses.{has}
use Rattle.cpa_cnf.specs.Lines.{AreBelow}
use Rattle.cpa_blast_gates.specs.lemmas.Members.{any_clause, has_from_any}
use Rattle.cpa_blast_circuits.specs.lemmas.Facts.{same_some}
use Rattle.cpa_blast_circuits.specs.Laws.{CircuitsHaveValues}
use Rattle.cpa_model.specs.declared.program.Cell.{Cell}
use Rattle.cpa_query.specs.declared.query.Query.{Query}
use Rattle.cpa_query.specs.Queries.{reads, is_marked, wanted_reads}
use Rattle.cpa_blast.specs.Formulas.{formula}
use Rattle.cpa_blast.specs.Laws.{formulas_are, formulas_below}
use Rattle.cpa_blast.specs.lemmas.Models.{names}
use Rattle.cpa_blast.specs.lemmas.Stores.{mark_at}
use Rattle.cpa_form_renaming.specs.lemmas.Nodes.{or_cases}
use Rattle.cpa_form_rules.specs.Forms.{Form, place_now}
use Rattle.cpa_chains.specs.Sides.{has_variable, clauses_on, stands_on}
use Rattle.cpa_interpolant_bits.specs.Nodes.{bit_named}
use Rattle.cpa_interpolant_joining.specs.Joining.{name_of, named_or, renamed, renamed_literal}
use Rattle.cpa_interpolant_joining.specs.Joining.{renamed_clause}
use Rattle.cpa_interpolant_conditions.specs.Asked.{SharedAreBits}
use Rattle.cpa_interpolant_names.specs.declared.gathering.Meeting.{Meeting}
use Rattle.cpa_interpolant_names.specs.Meetings.{names_of, bit_at}
use Rattle.cpa_interpolant_names.specs.Laws.{names_are_bits}
use Rattle.cpa_interpolant_cuts.specs.Cuts.{meetings_of, formula_of, sides_at, shared_bits_of}
use Rattle.cpa_interpolant_cuts.specs.lemmas.Meet.{AreParts, cell_of, before_bit, behind_bit}
use Rattle.cpa_interpolant_cuts.specs.lemmas.Meet.{before_apart}

-- ---- clauses that have a variable

-- a literal of the variable, with its sign
literal_of : (l x : ℕ) → (l / 2 == x) ≡ true → (l ≡ 2 * x) ⊎ (l ≡ 2 * x + 1)
literal_of l x h = by (l % 2) refl
  where
    by : (r : ℕ) → l % 2 ≡ r → (l ≡ 2 * x) ⊎ (l ≡ 2 * x + 1)
    by zero e = let half = eqb-true (l / 2) x h in inl (omega arith)
    by (suc zero) e = let half = eqb-true (l / 2) x h in inr (omega arith)
    by (suc (suc r)) e = absurd (omega arith)

or_left : (a b : Bool) → a ≡ true → (a || b) ≡ true
or_left true b e = refl
or_left false b e = absurd (cc)

or_right : (a b : Bool) → b ≡ true → (a || b) ≡ true
or_right true b e = refl
or_right false b e = e

clause_names : (c : List ℕ) (x : ℕ) → has_variable c x ≡ true
    → (has c (2 * x) || has c (2 * x + 1)) ≡ true
clause_names c x h =
    let (l, here, is) = has_from_any (λ l. l / 2 == x) c h in
    elim (literal_of l x is) [
      | inl even ↦ or_left (has c (2 * x)) (has c (2 * x + 1)) (ap (has c) (sym even) ∙ here)
      | inr odd ↦ or_right (has c (2 * x)) (has c (2 * x + 1)) (ap (has c) (sym odd) ∙ here)
    ]

any_names : (cs : List (List ℕ)) (x : ℕ) → list_any (λ c. has_variable c x) cs ≡ true
    → names x cs ≡ true
any_names [] x h = absurd (cc)
any_names (c ∷ cs) x h =
    or_cases (has_variable c x) (list_any (λ c. has_variable c x) cs) h
    (λ here. or_left (has c (2 * x) || has c (2 * x + 1)) (names x cs) (clause_names c x here))
    (λ there. or_right (has c (2 * x) || has c (2 * x + 1)) (names x cs) (any_names cs x there))

variable_below : (n : ℕ) (c : List ℕ) (x : ℕ) → AreBelow n c → has_variable c x ≡ true → x < n
variable_below n [] x below h = absurd (cc)
variable_below n (l ∷ c) x below h =
    or_cases (l / 2 == x) (has_variable c x) h
    (λ here. let half = eqb-true (l / 2) x here in let low = below.0 in omega arith)
    (λ there. variable_below n c x below.1 there)

some_below : (n : ℕ) (cs : List (List ℕ)) (x : ℕ) → AllByRecursion (AreBelow n) cs
    → list_any (λ c. has_variable c x) cs ≡ true → x < n
some_below n [] x below h = absurd (cc)
some_below n (c ∷ cs) x below h =
    or_cases (has_variable c x) (list_any (λ c. has_variable c x) cs) h
    (λ here. variable_below n c x below.0 here) (λ there. some_below n cs x below.1 there)

-- a variable of a renamed clause is what one of the clause's is called
renamed_variable : (first : ℕ) (ns : List (Option ℕ)) (ls : List ℕ) (x : ℕ)
    → list_any (λ l. l / 2 == x) (map (renamed_literal first ns) ls) ≡ true
    → (v : ℕ) × (renamed first ns v ≡ x) × (has_variable ls v ≡ true)
renamed_variable first ns [] x h = absurd (cc)
renamed_variable first ns (l ∷ ls) x h =
    or_cases (renamed_literal first ns l / 2 == x)
    (list_any (λ l. l / 2 == x) (map (renamed_literal first ns) ls)) h
    (λ here. (
      l / 2,
      half (renamed first ns (l / 2)) (l % 2) x (small l) (eqb-true _ x here),
      or_left (l / 2 == l / 2) (has_variable ls (l / 2)) (eq-eqb (l / 2) (l / 2) refl),
    ))
    (λ there.
    let (v, is, in_ls) = renamed_variable first ns ls x there in
    (v, is, or_right (l / 2 == v) (has_variable ls v) in_ls))
  where
    small : (l : ℕ) → l % 2 < 2
    small l = omega arith

    half : (v s x : ℕ) → s < 2 → (v * 2 + s) / 2 ≡ x → v ≡ x
    half v s x h e = omega arith

some_renamed : (first : ℕ) (ns : List (Option ℕ)) (cs : List (List ℕ)) (x : ℕ)
    → list_any (λ c. has_variable c x) (map (renamed_clause first ns) cs) ≡ true
    → (v : ℕ) × (renamed first ns v ≡ x)
    × (list_any (λ c. has_variable c v) cs ≡ true)
some_renamed first ns [] x h = absurd (cc)
some_renamed first ns (c ∷ cs) x h =
    or_cases (has_variable (renamed_clause first ns c) x)
    (list_any (λ c. has_variable c x) (map (renamed_clause first ns) cs)) h
    (λ here.
    let (v, is, found) = renamed_variable first ns c x
    (sym (any_clause (λ l. l / 2 == x) (map (renamed_literal first ns) c)) ∙ here) in
    (v, is, or_left (has_variable c v) (list_any (λ c. has_variable c v) cs) found))
    (λ there.
    let (v, is, found) = some_renamed first ns cs x there in
    (v, is, or_right (has_variable c v) (list_any (λ c. has_variable c v) cs) found))

-- a name that is below the variables of the first formula is one that was given
named_below : (first v x : ℕ) (o : Option ℕ) → named_or o (first + v) ≡ x → x < first
    → o ≡ Some x
named_below first v x None is below = absurd (omega arith)
named_below first v x (Some w) is below = ap Some is

-- ---- marks

marked : (q : Query) (c : ℕ) → c < length q.cells → wanted_reads q.wanted c ≡ true
    → is_marked (reads q) c ≡ true
marked q c inside is =
    index_of (reads q) c true
    (mark_at (wanted_reads q.wanted) 0 (length q.cells) c inside
    ∙ ap (λ k. Some (wanted_reads q.wanted k)) (zero-add c) ∙ ap Some is)
  where
    index_of : (bs : List Bool) (i : ℕ) (b : Bool) → slice_get bs i ≡ Some b
        → slice_index_or bs i false ≡ b
    index_of [] i b e = absurd (cc)
    index_of (x ∷ bs) zero b e = cc
    index_of (x ∷ bs) (suc i) b e = index_of bs i b e

-- and a mark says so
pub unmarked : (q : Query) (c : ℕ) → is_marked (reads q) c ≡ true
    → wanted_reads q.wanted c ≡ true
unmarked q c is =
    let all = length-map-range_with_len (wanted_reads q.wanted) 0 (length q.cells) in
    let inside = there (reads q) c is in
    let at = mark_at (wanted_reads q.wanted) 0 (length q.cells) c (omega (arith, inside, all)) in
    ap (wanted_reads q.wanted) (sym (zero-add c))
    ∙ same_some (wanted_reads q.wanted (0 + c)) true (sym at ∙ found (reads q) c is)
  where
    there : (bs : List Bool) (i : ℕ) → slice_index_or bs i false ≡ true → i < length bs
    there [] i e = absurd (cc)
    there (x ∷ bs) zero e = omega arith
    there (x ∷ bs) (suc i) e = let rest = there bs i e in omega (arith, rest)

    found : (bs : List Bool) (i : ℕ) → slice_index_or bs i false ≡ true
        → slice_get bs i ≡ Some true
    found [] i e = absurd (cc)
    found (x ∷ bs) zero e = ap Some e
    found (x ∷ bs) (suc i) e = found bs i e

pub both_true : (a b : Bool) → a ≡ true → b ≡ true → (a && b) ≡ true
both_true true b e f = f
both_true false b e f = absurd (cc)

pub each_true : (a b : Bool) → (a && b) ≡ true → (a ≡ true) × (b ≡ true)
each_true true b e = (refl, e)
each_true false b e = absurd (cc)

-- the clauses of each side of the joined formula
pub record HasSides (cells : List Cell) (A B : Form) : Type 0 where
  pub before : clauses_on true (sides_at A B) (formula_of cells A B).clauses
      ≡ (formula A.query).clauses
  pub behind : clauses_on false (sides_at A B) (formula_of cells A B).clauses
      ≡ map (renamed_clause (formula A.query).vars
      (names_of (formula B.query).vars (meetings_of cells A B))) (formula B.query).clauses

module _ (circuits : CircuitsHaveValues) (cells : List Cell) (A B : Form)
    (are : AreParts cells A B) (sides : HasSides cells A B) where
  abbrev all : List Meeting
  all = meetings_of cells A B

  abbrev given : List (Option ℕ)
  given = names_of (formula B.query).vars all

  pub shared : SharedAreBits (shared_bits_of cells A B) (formula_of cells A B) (sides_at A B)
  shared x h =
      let parts = each_true (stands_on true (formula_of cells A B) (sides_at A B) x)
      (stands_on false (formula_of cells A B) (sides_at A B) x) h in
      let in_before : list_any (λ c. has_variable c x) (formula A.query).clauses ≡ true =
      subst (λ cs. list_any (λ c. has_variable c x) cs ≡ true) sides.before parts.0 in
      let low = some_below (formula A.query).vars (formula A.query).clauses x
      ((formulas_below circuits).literals A.query are.before) in_before in
      let other = some_renamed (formula A.query).vars given (formula B.query).clauses x
      (subst (λ cs. list_any (λ c. has_variable c x) cs ≡ true) sides.behind parts.1) in
      let name = named_below (formula A.query).vars other.0 x (name_of given other.0) other.1 low
      in
      let named = names_are_bits.name (formula B.query).vars all other.0 x name in
      let m = named.0 in
      let j = named.1 in
      let c = cell_of circuits cells A B are m named.2 in
      let inside : j < width c.t =
      subst (λ (u : Meeting). j < width u.ty) c.is named.3 in
      let one = before_bit circuits cells A B are c.cell c.t j c.ty inside in
      let two = behind_bit circuits cells A B are c.cell c.t j c.ty inside in
      let reads_behind = (formulas_are circuits).unread B.query c.cell two.0.first j c.t
      are.behind (are.start c.cell c.t c.ty) two.0.at inside
      (subst (λ v. names v (formula B.query).clauses ≡ true)
      (named.4 ∙ (ap (λ (u : Meeting). u.behind + j) c.is ∙ two.0.is))
      (any_names (formula B.query).clauses other.0 other.2)) in
      let reads_before = (formulas_are circuits).unread A.query (place_now A c.cell) one.0.first j
      c.t are.before (are.ty c.cell c.t c.ty) one.0.at inside
      (subst (λ v. names v (formula A.query).clauses ≡ true)
      (named.5 ∙ (ap (λ (u : Meeting). u.before + j) c.is ∙ one.0.is))
      (any_names (formula A.query).clauses x in_before)) in
      let is_shared : m.is_shared ≡ true =
      ap (λ (u : Meeting). u.is_shared) c.is
      ∙ both_true (is_marked (reads A.query) (place_now A c.cell))
      (is_marked (reads B.query) c.cell)
      (marked A.query (place_now A c.cell)
      (slice_get_within A.query.cells (place_now A c.cell) c.t (are.ty c.cell c.t c.ty))
      reads_before)
      (marked B.query c.cell
      (slice_get_within B.query.cells c.cell c.t (are.start c.cell c.t c.ty)) reads_behind) in
      let high : m.before + j < (formula A.query).vars =
      subst (λ k. k < (formula A.query).vars) named.5 low in (
        bit_at m j,
        ap (bit_named (shared_bits_of cells A B)) named.5
            ∙ names_are_bits.noted (formula A.query).vars all m j
            (before_apart circuits cells A B are) named.2 is_shared named.3 high,
      )
