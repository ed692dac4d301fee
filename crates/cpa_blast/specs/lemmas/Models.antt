-- The models of a query and those of its formula.
use Rattle.std.proofs.Common.{◌≡◌, ◌↔◌, ℕ, zero, suc, ◌+◌, ◌*◌, ◌<◌, ◌≤◌, ◌^◌, Bool, true, false}
use Rattle.std.proofs.Common.{not, ◌||◌, List, [], ◌∷◌, ◌++◌, length, map, Some, refl, sym, ap}
use Rattle.std.proofs.Common.{subst, ◌∙◌, arith, ℤ, zero-add}
use Rattle.std.specs.Prelude.{◌==◌, slice_get}
use Rattle.std.specs.List.{AllByRecursion, AllZip, list_any, range_with_len}
use Rattle.std.proofs.lemmas.Bool.{eqb-true, eq-eqb, ne_eqb}
use Rattle.std.proofs.lemmas.Option.{slice_get_within}
use Rattle.cpa_blast_circuits.specs.lemmas.Facts.{same_some}
use Rattle.std.proofs.lemmas.List.{length-map}
use Rattle.std.proofs.lemmas.Slice.Zip.{AllZip-long}
use Rattle.cpa_ints.specs.declared.integers.IntType.{IntType}
use Rattle.cpa_ints.specs.Integers.{width, IsInRange}
use Rattle.cpa_cnf.specs.Clauses.{has}
use Rattle.cpa_cnf.specs.Lines.{AreBelow}
use Rattle.cpa_cnf.specs.Models.{Satisfies, IsModel as IsTruth}
use Rattle.cpa_blast_gates.specs.Gates.{lit_value}
use Rattle.cpa_blast_gates.specs.Nets.{vars, Holds}
use Rattle.cpa_blast_gates.specs.Clauses.{clauses_of, assigned}
use Rattle.cpa_blast_gates.specs.Meanings.{Agrees}
use Rattle.cpa_blast_gates.specs.Laws.{models_are_assignments, clauses_are_below}
use Rattle.cpa_blast_gates.specs.Laws.{literals_have_values}
use Rattle.cpa_blast_gates.specs.lemmas.Growth.{holds_local}
use Rattle.cpa_blast_words.specs.Types.{StandsFor}
use Rattle.cpa_expr.specs.declared.tree.Expr.{Expr}
use Rattle.cpa_expr.specs.Cells.{AreValues}
use Rattle.cpa_query.specs.declared.query.Query.{Query}
use Rattle.cpa_query.specs.Queries.{IsAsked, IsQuery, IsModel, wanted_reads, reads}
use Rattle.cpa_blast_circuits.specs.declared.answer.Word.{Word}
use Rattle.cpa_blast_circuits.specs.Meanings.{types_of, HasStore}
use Rattle.cpa_blast_circuits.specs.Laws.{AreCellWords, CircuitsHaveValues}
use Rattle.cpa_blast.specs.declared.places.Place.{Place}
use Rattle.cpa_blast.specs.Formulas.{variables_from, places_of, words_of, units, read_places}
use Rattle.cpa_blast.specs.Formulas.{circuits_of, all_places, formula, first_bits, store_at}
use Rattle.cpa_blast.specs.lemmas.Inputs.{fewer, values_local, variables_below}
use Rattle.cpa_blast.specs.lemmas.Places.{types_at, marks_at, IsBetween, AreDue, IsKept, StandsAt}
use Rattle.cpa_blast.specs.lemmas.Places.{StandWhereDue, GivesBits, bits_given, bits_kept}
use Rattle.cpa_blast.specs.lemmas.Places.{stand_local, bits_exist, words_long, words_types}
use Rattle.cpa_blast.specs.lemmas.Places.{words_below, blanked, words_stand}
use Rattle.cpa_blast.specs.lemmas.Wanted.{AreTrue, HaveTruth, AreTypedOver, Tells, asserted_is}
use Rattle.cpa_blast.specs.lemmas.Stores.{places_types, places_marks, range_long, value_at_place}
use Rattle.cpa_blast.specs.lemmas.Stores.{mark_at, reads_long, same_truths, all_between, all_stand}
use Rattle.cpa_blast.specs.lemmas.Stores.{read_stand, firsts_at, model_stands, model_ranges}
use Rattle.cpa_blast.specs.lemmas.Stores.{same_store, ranges_at}

-- ---- clauses of one literal

both_kept : {A : Type 0} (P : A → Type 0) (xs ys : List A) → AllByRecursion P xs
    → AllByRecursion P ys → AllByRecursion P (xs ++ ys)
both_kept P [] ys p q = q
both_kept P (x ∷ xs) ys p q = (p.0, both_kept P xs ys p.1 q)

taken_apart : {A : Type 0} (P : A → Type 0) (xs ys : List A) → AllByRecursion P (xs ++ ys)
    → AllByRecursion P xs × AllByRecursion P ys
taken_apart P [] ys p = (tt, p)
taken_apart P (x ∷ xs) ys p =
    let rest = taken_apart P xs ys p.1 in ((p.0, rest.0), rest.1)

literal_true : (truths : List Bool) (l : ℕ) → lit_value (assigned truths) l ≡ true
    → Satisfies truths (l ∷ [])
unfolding lit_value
literal_true truths l is = (l, ap (λ b. b || false) (eq-eqb l l refl), is)

true_literal : (truths : List Bool) (l : ℕ) → Satisfies truths (l ∷ [])
    → lit_value (assigned truths) l ≡ true
unfolding lit_value
true_literal truths l s =
    subst (λ k. lit_value (assigned truths) k ≡ true)
    (sym (eqb-true l s.0 (alone (l == s.0) s.1))) s.2
  where
    alone : (b : Bool) → (b || false) ≡ true → b ≡ true
    alone true e = refl
    alone false e = e

units_true : (truths : List Bool) (ls : List ℕ) → AreTrue (assigned truths) ls
    → AllByRecursion (Satisfies truths) (units ls)
units_true truths [] are = tt
units_true truths (l ∷ ls) are = (literal_true truths l are.0, units_true truths ls are.1)

true_units : (truths : List Bool) (ls : List ℕ) → AllByRecursion (Satisfies truths) (units ls)
    → AreTrue (assigned truths) ls
true_units truths [] are = tt
true_units truths (l ∷ ls) are = (true_literal truths l are.0, true_units truths ls are.1)

units_below : (n : ℕ) (ls : List ℕ) → AreBelow n ls → AllByRecursion (AreBelow n) (units ls)
units_below n [] below = tt
units_below n (l ∷ ls) below = ((below.0, tt), units_below n ls below.1)

literals_below : (n p : ℕ) (ls : List ℕ) → n ≤ p → AreBelow n ls → AreBelow p ls
literals_below n p [] le below = tt
literals_below n p (l ∷ ls) le below =
    let here = below.0 in (omega arith, literals_below n p ls le below.1)

clauses_below : (n p : ℕ) (cs : List (List ℕ)) → n ≤ p → AllByRecursion (AreBelow n) cs
    → AllByRecursion (AreBelow p) cs
clauses_below n p [] le below = tt
clauses_below n p (c ∷ cs) le below =
    (literals_below n p c le below.0, clauses_below n p cs le below.1)

true_local : (n : ℕ) (m k : ℕ → Bool) (ls : List ℕ) → Agrees n m k → AreBelow n ls
    → AreTrue m ls → AreTrue k ls
true_local n m k [] agrees below are = tt
true_local n m k (l ∷ ls) agrees below are = (
  sym (literal_same l below.0) ∙ are.0,
  true_local n m k ls agrees below.1 are.1,
)
  where
    literal_same : (l : ℕ) → l < 2 * n → lit_value m l ≡ lit_value k l
    literal_same l h = literals_have_values.local n m k l agrees h

asked_typed : (cells : List IntType) (wanted : List (Expr × Bool))
    → AllByRecursion (λ (one : Expr × Bool). IsAsked cells one.0) wanted → AreTypedOver cells wanted
asked_typed cells [] asked = tt
asked_typed cells (one ∷ wanted) asked = (asked.0.typed, asked_typed cells wanted asked.1)

-- the variables of a place stand for a value under an assignment that agrees on them
stands_moved : (m k : ℕ → Bool) (n : ℕ) (p : Place) (v : ℤ) → Agrees n m k
    → p.first + width p.ty ≤ n → StandsAt m p v → StandsAt k p v
stands_moved m k n p v agrees within stand =
    subst (λ bs. StandsFor p.ty bs v)
    (values_local n m k (variables_from p.first (width p.ty)) agrees
    (variables_below p.first (width p.ty) n within)) stand

-- the wanted expressions are well typed over the words for the circuits
pub typed_words : (q : Query) → IsQuery q
    → AreTypedOver (types_of (words_of (read_places q).value)) q.wanted
typed_words q asked =
    subst (λ ts. AreTypedOver ts q.wanted)
    (sym (words_types (read_places q).value
    ∙ (bits_given true (places_of q.cells (reads q)) [] tt).types
    ∙ places_types q.cells (reads q) (reads_long q)))
    (asked_typed q.cells q.wanted asked)

-- ---- what clauses name

-- some clause has a literal of the variable
abbrev pub names : ℕ → List (List ℕ) → Bool
names v clauses = list_any (λ c. has c (2 * v) || has c (2 * v + 1)) clauses

has_none : (n l : ℕ) (c : List ℕ) → AreBelow n c → 2 * n ≤ l → has c l ≡ false
has_none n l [] below le = refl
has_none n l (x ∷ c) below le =
    ap (λ b. b || has c l) (ne_eqb x l (λ e. let h = below.0 in absurd (omega arith)))
    ∙ has_none n l c below.1 le

pub none_named : (n v : ℕ) (cs : List (List ℕ)) → AllByRecursion (AreBelow n) cs → n ≤ v
    → names v cs ≡ false
none_named n v [] below le = refl
none_named n v (c ∷ cs) below le =
    ap (λ b. (b || has c (2 * v + 1)) || names v cs) (has_none n (2 * v) c below.0 (omega arith))
    ∙ ap (λ b. b || names v cs) (has_none n (2 * v + 1) c below.0 (omega arith))
    ∙ none_named n v cs below.1 le

-- a cell that is not read has its variables behind the circuits
pub first_behind : (low high : ℕ) (places : List Place) (cell first : ℕ)
    → AreDue false (IsBetween low high) places → slice_get (firsts_at places) cell ≡ Some first
    → slice_get (marks_at places) cell ≡ Some false → low ≤ first
first_behind low high [] cell first due e f = absurd (cc)
first_behind low high (p ∷ places) zero first due e f =
    subst (λ k. low ≤ k) (same_some p.first first e)
    (due.0 (ap not (same_some p.is_read false f))).begins
first_behind low high (p ∷ places) (suc cell) first due e f =
    first_behind low high places cell first due.1 e f

-- ---- the parts of a formula

module _ (circuits : CircuitsHaveValues) (q : Query) (asked : IsQuery q)
    (few : length q.cells < 2 ^ 64) where
  abbrev start : List Place
  start = places_of q.cells (reads q)

  abbrev R : List Place
  R = (read_places q).value

  abbrev W : List Word
  W = words_of (read_places q).value

  marks_long : length (reads q) ≡ length q.cells
  marks_long = reads_long q

  read_given : GivesBits true start [] (read_places q)
  read_given = bits_given true start [] tt

  pub read_types : types_at R ≡ q.cells
  read_types = read_given.types ∙ places_types q.cells (reads q) marks_long

  read_marks : marks_at R ≡ reads q
  read_marks = read_given.marks ∙ places_marks q.cells (reads q) marks_long

  read_long : length R ≡ length q.cells
  read_long = sym (length-map R (λ (p : Place). p.ty)) ∙ ap length read_types

  are_words : AreCellWords (read_places q).net W
  are_words = record {
    scoped = read_given.grows.scoped;
    below = words_below (read_places q).net (vars []) R read_given.between;
    long = words_long R;
    few = subst (λ n. n < 2 ^ 64) (sym (length-map R _ ∙ read_long)) few;
  }

  words_typed : AreTypedOver (types_of W) q.wanted
  words_typed = typed_words q asked

  pub tells : Tells circuits W q.wanted (read_places q).net (circuits_of q)
  tells = asserted_is circuits q.wanted (read_places q).net W are_words words_typed

  pub rest_given : GivesBits false R (circuits_of q).net (all_places q)
  rest_given = bits_given false R (circuits_of q).net tells.grows.scoped

  kept : AllZip (IsKept false) R (all_places q).value
  kept = bits_kept false R (circuits_of q).net

  all_types : types_at (all_places q).value ≡ q.cells
  all_types = rest_given.types ∙ read_types

  circuits_longer : vars (read_places q).net ≤ vars (circuits_of q).net
  circuits_longer = let longer = tells.grows.longer in omega arith

  -- every literal's variable is one of the formula
  pub formula_below : AllByRecursion (AreBelow (vars (all_places q).net)) (formula q).clauses
  formula_below =
      let n = vars (circuits_of q).net in
      let all = vars (all_places q).net in
      both_kept (AreBelow all) (clauses_of (all_places q).net) (units (circuits_of q).value)
      (subst (AllByRecursion (AreBelow all)) (sym rest_given.clauses)
      (clauses_below n all (clauses_of (circuits_of q).net) rest_given.longer
      (clauses_are_below (circuits_of q).net tells.grows.scoped)))
      (clauses_below n all (units (circuits_of q).value) rest_given.longer
      (units_below n (circuits_of q).value tells.below))

  -- and so is every bit of a cell
  between : AllByRecursion (IsBetween 0 (vars (all_places q).net)) (all_places q).value
  between =
      all_between 0 (vars (circuits_of q).net) (vars (all_places q).net) R (all_places q).value
      (omega arith) rest_given.longer kept
      (wider R read_given.between) rest_given.between
    where
      wider : (places : List Place)
          → AreDue true (IsBetween (vars []) (vars (read_places q).net)) places
          → AreDue true (IsBetween 0 (vars (circuits_of q).net)) places
      wider [] due = tt
      wider (p ∷ places) due = (
        λ e. let here = due.0 e in let high = here.ends in let longer = circuits_longer in
            record { begins = omega arith; ends = omega arith },
        wider places due.1,
      )

  pub cells_below : AllZip (λ t first. first + width t ≤ vars (all_places q).net) q.cells
      (first_bits q)
  cells_below =
      subst (λ ts. AllZip (λ t first. first + width t ≤ vars (all_places q).net) ts (first_bits q))
      all_types (each (all_places q).value between)
    where
      each : (places : List Place) → AllByRecursion (IsBetween 0 (vars (all_places q).net)) places
          → AllZip (λ t first. first + width t ≤ vars (all_places q).net) (types_at places)
          (firsts_at places)
      each [] all = tt
      each (p ∷ places) all = (all.0.ends, each places all.1)

  -- what a store says of the wanted expressions, its blanked store says
  truths_same : (store : List ℤ) → length store ≡ length R
      → HaveTruth store q.wanted ↔ HaveTruth (blanked R store) q.wanted
  truths_same store long =
      same_truths (wanted_reads q.wanted) (length q.cells) R store read_marks read_long long
      q.wanted (λ c h. h)

  -- ---- from the formula to the query

  abbrev given_store : List Bool → List ℤ
  given_store truths = store_at (types_at (all_places q).value) (first_bits q) truths

  given_ranges : (truths : List Bool) → AreValues q.cells (given_store truths)
  given_ranges truths =
      subst (λ ts. AreValues ts (given_store truths)) all_types
      (model_ranges truths (types_at (all_places q).value) (first_bits q)
      (length-map (all_places q).value _ ∙ sym (length-map (all_places q).value _)))

  given_long : (store : List ℤ) → AreValues q.cells store → length store ≡ length R
  given_long store range = AllZip-long IsInRange q.cells store range ∙ sym read_long

  -- the circuits see the blanked store
  seen : (m : ℕ → Bool) (store : List ℤ) → AreValues q.cells store
      → Holds m (circuits_of q).net → StandWhereDue true m R store → HasStore m W (blanked R store)
  seen m store range holds stand =
      words_stand (circuits_of q).net m R store holds stand
      (ranges_at R store (subst (λ ts. AreValues ts store) (sym read_types) range))

  pub sound : (truths : List Bool) → IsTruth (formula q) truths
      → IsModel q (store_at q.cells (first_bits q) truths)
  sound truths model =
      let m = assigned truths in
      let net = (all_places q).net in
      let apart = taken_apart (Satisfies truths) (clauses_of net) (units (circuits_of q).value)
      model.each_clause in
      let holds = ((models_are_assignments net truths).0 (record {
        each_variable = model.each_variable;
        each_clause = apart.0;
      })).1 in
      let store = given_store truths in
      let range = given_ranges truths in
      let at_circuits = rest_given.grows.keeps m holds in
      let stand = read_stand m R (all_places q).value store kept
      (model_stands truths (all_places q).value) in
      let told = (tells.is m (blanked R store) at_circuits (seen m store range at_circuits stand)).0
      (true_units truths (circuits_of q).value apart.1) in
      let found : IsModel q store = record {
        values_are = range;
        wanted = (truths_same store (given_long store range)).1 told;
      } in
      subst (λ ts. IsModel q (store_at ts (first_bits q) truths)) all_types found

  -- ---- from the query to the formula

  -- a model of the formula that gives this store
  pub record Extension (store : List ℤ) : Type 0 where
    pub truths : List Bool
    pub model : IsTruth (formula q) truths
    pub gives : store_at q.cells (first_bits q) truths ≡ store

  -- an assignment as values of the variables below n
  abbrev listed : (ℕ → Bool) → ℕ → List Bool
  listed m n = map m (range_with_len 0 n)

  listed_agrees : (m : ℕ → Bool) (n : ℕ) → Agrees n m (assigned (listed m n))
  listed_agrees m n v below =
      sym (value_at_place m 0 n v below ∙ ap m (none v))
    where
      none : (v : ℕ) → 0 + v ≡ v
      none v = omega arith

  concluded : (store : List ℤ) (k : ℕ → Bool) → AreValues q.cells store
      → Holds k (all_places q).net → AreTrue k (circuits_of q).value
      → AllZip (StandsAt k) (all_places q).value store → Extension store
  concluded store k range holds are stand =
      let net = (all_places q).net in
      let truths = listed k (vars net) in
      let agrees = listed_agrees k (vars net) in
      let clauses = ((models_are_assignments net truths).1 (
        length-map (range_with_len 0 (vars net)) k ∙ range_long 0 (vars net),
        holds_local net k (assigned truths) rest_given.grows.scoped agrees holds,
      )).each_clause in
      record {
        truths = truths;
        model = record {
          each_variable = length-map (range_with_len 0 (vars net)) k ∙ range_long 0 (vars net);
          each_clause = both_kept (Satisfies truths) (clauses_of net)
              (units (circuits_of q).value) clauses
              (units_true truths (circuits_of q).value
              (true_local (vars net) k (assigned truths) (circuits_of q).value agrees
              (literals_below (vars (circuits_of q).net) (vars net) (circuits_of q).value
              rest_given.longer tells.below) are));
        };
        gives = subst (λ ts. store_at ts (first_bits q) truths ≡ store) all_types
            (same_store truths (all_places q).value store
            (moved (all_places q).value store between stand)
            (subst (λ ts. AreValues ts store) (sym all_types) range));
      }
    where
      moved : (places : List Place) (values : List ℤ)
          → AllByRecursion (IsBetween 0 (vars (all_places q).net)) places
          → AllZip (StandsAt k) places values
          → AllZip (StandsAt (assigned (listed k (vars (all_places q).net)))) places values
      moved [] [] within stand = tt
      moved [] (v ∷ values) within stand = absurd stand
      moved (p ∷ places) [] within stand = absurd stand
      moved (p ∷ places) (v ∷ values) within stand = (
        stands_moved k (assigned (listed k (vars (all_places q).net))) (vars (all_places q).net)
            p v (listed_agrees k (vars (all_places q).net)) within.0.ends stand.0,
        moved places values within.1 stand.1,
      )

  pub complete : (store : List ℤ) → IsModel q store → Extension store
  complete store model =
      let range = model.values_are in
      let long = given_long store range in
      let first = bits_exist true start [] (λ v. true) store tt refl
      (long ∙ read_long ∙ sym (start_long)) in
      let next = tells.grows.extends first.assignment first.extends.holds in
      let m = next.0 in
      let stand = stand_local true (vars []) (vars (read_places q).net) first.assignment m R store
      next.1.agrees read_given.between first.stand in
      let told = (tells.is m (blanked R store) next.1.holds
      (seen m store range next.1.holds stand)).1 ((truths_same store long).0 model.wanted) in
      let last = bits_exist false R (circuits_of q).net m store tells.grows.scoped
      next.1.holds long in
      let k = last.assignment in
      let agrees = last.extends.agrees in
      concluded store k range last.extends.holds
      (true_local (vars (circuits_of q).net) m k (circuits_of q).value agrees tells.below told)
      (all_stand k R (all_places q).value store kept
      (stand_local true (vars []) (vars (read_places q).net) m k R store
      (fewer (vars (read_places q).net) (vars (circuits_of q).net) m k circuits_longer agrees)
      read_given.between stand)
      last.stand)
    where
      start_long : length start ≡ length q.cells
      start_long =
          sym (length-map start (λ (p : Place). p.ty))
          ∙ ap length (places_types q.cells (reads q) marks_long)

  -- the clauses name variables of the circuits alone
  formula_within : AllByRecursion (AreBelow (vars (circuits_of q).net)) (formula q).clauses
  formula_within =
      let n = vars (circuits_of q).net in
      both_kept (AreBelow n) (clauses_of (all_places q).net) (units (circuits_of q).value)
      (subst (AllByRecursion (AreBelow n)) (sym rest_given.clauses)
      (clauses_are_below (circuits_of q).net tells.grows.scoped))
      (units_below n (circuits_of q).value tells.below)

  pub unread : (cell first : ℕ) (t : IntType) (j : ℕ) → slice_get q.cells cell ≡ Some t
      → slice_get (first_bits q) cell ≡ Some first
      → names (first + j) (formula q).clauses ≡ true → wanted_reads q.wanted cell ≡ true
  unread cell first t j is_cell is_first named = by (wanted_reads q.wanted cell) refl
    where
      marks : marks_at (all_places q).value ≡ reads q
      marks = rest_given.marks ∙ read_marks

      by : (b : Bool) → wanted_reads q.wanted cell ≡ b → b ≡ true
      by true e = refl
      by false e =
          let n = vars (circuits_of q).net in
          let mark = ap (λ ms. slice_get ms cell) marks
          ∙ mark_at (wanted_reads q.wanted) 0 (length q.cells) cell
          (slice_get_within q.cells cell t is_cell)
          ∙ ap Some (ap (wanted_reads q.wanted) (zero-add cell) ∙ e) in
          let behind = first_behind n (vars (all_places q).net) (all_places q).value cell first
          rest_given.between is_first mark in
          let never = none_named n (first + j) (formula q).clauses formula_within
          (omega (arith, behind)) in
          absurd (cc)
