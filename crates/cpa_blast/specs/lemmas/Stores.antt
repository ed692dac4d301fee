-- Stores of the cells of places: what a store and its blanked one agree on, and the store that the
-- values of the variables give.
use Rattle.std.proofs.Common.{◌≡◌, ◌≢◌, ℕ, zero, suc, ◌+◌, ◌<◌, ◌≤◌, ◌^◌, Bool, true, false, not}
use Rattle.std.proofs.Common.{◌||◌, List, [], ◌∷◌, length, map, Option, None, Some, refl, sym, ap}
use Rattle.std.proofs.Common.{subst, ◌∙◌, arith, ℤ, pos, inl, inr, ◌⊎◌, ◌↔◌, zero-add}
use Rattle.std.specs.Prelude.{slice_get, IsTrue, IsSomeAnd, if◌then◌else◌}
use Rattle.std.specs.List.{AllByRecursion, AllZip, range_with_len, slice_index_or}
use Rattle.std.proofs.Math.Nat.{mod-eq_of_lt}
use Rattle.std.proofs.lemmas.Bool.{cases_lt}
use Rattle.cpa_blast_circuits.specs.lemmas.Facts.{same_some}
use Rattle.std.proofs.lemmas.List.{length-map}
use Rattle.cpa_ints.specs.declared.integers.IntType.{IntType}
use Rattle.cpa_ints.specs.declared.integers.IntType.TheVariants.{Bool as Boolean}
use Rattle.cpa_ints.specs.declared.integers.IntType.TheVariants as ty
use Rattle.cpa_ints.specs.Integers.{width, IsInRange}
use Rattle.cpa_ints.specs.Wrapping.{wrapped}
use Rattle.cpa_ints.specs.Bits.{bits_of}
use Rattle.cpa_ints.specs.lemmas.Arithmetic.{wrapped_in_range}
use Rattle.cpa_ints.specs.lemmas.Bits.{bits_back, bits_wrapped}
use Rattle.cpa_blast_gates.specs.Clauses.{assigned}
use Rattle.cpa_blast_words.specs.Truths.{values, number}
use Rattle.cpa_blast_words.specs.Types.{StandsFor}
use Rattle.cpa_blast_words.specs.Laws.{words_are_numbers}
use Rattle.cpa_expr.specs.declared.tree.Expr.{Expr}
use Rattle.cpa_expr.specs.Values.{value_of, is_nonzero}
use Rattle.cpa_expr.specs.Cells.{may_read, AreValues}
use Rattle.cpa_expr.specs.Laws.{value_depends_on_what_is_read}
use Rattle.cpa_query.specs.declared.query.Query.{Query}
use Rattle.cpa_query.specs.Queries.{wanted_reads, reads}
use Rattle.cpa_blast.specs.declared.places.Place.{Place}
use Rattle.cpa_blast.specs.Formulas.{variables_from, places_of, store_at}
use Rattle.cpa_blast.specs.lemmas.Inputs.{variables_long}
use Rattle.cpa_blast.specs.lemmas.Places.{types_at, marks_at, IsBetween, AreDue, IsKept, StandsAt}
use Rattle.cpa_blast.specs.lemmas.Places.{StandWhereDue, blanked}
use Rattle.cpa_blast.specs.lemmas.Wanted.{HaveTruth}

-- ---- places of cells and marks

pub places_types : (cells : List IntType) (marks : List Bool) → length marks ≡ length cells
    → types_at (places_of cells marks) ≡ cells
places_types [] marks long = refl
places_types (t ∷ cells) [] long = absurd (omega arith)
places_types (t ∷ cells) (mark ∷ marks) long =
    ap (λ ts. t ∷ ts) (places_types cells marks (omega arith))

pub places_marks : (cells : List IntType) (marks : List Bool) → length marks ≡ length cells
    → marks_at (places_of cells marks) ≡ marks
places_marks [] [] long = refl
places_marks [] (mark ∷ marks) long = absurd (omega arith)
places_marks (t ∷ cells) [] long = absurd (omega arith)
places_marks (t ∷ cells) (mark ∷ marks) long =
    ap (λ ms. mark ∷ ms) (places_marks cells marks (omega arith))

pub range_long : (a n : ℕ) → length (range_with_len a n) ≡ n
range_long a zero = refl
range_long a (suc n) = ap suc (range_long (a + 1) n)

pub reads_long : (q : Query) → length (reads q) ≡ length q.cells
reads_long q =
    length-map (range_with_len 0 (length q.cells)) (wanted_reads q.wanted)
    ∙ range_long 0 (length q.cells)

-- the item of a list of what f is from a on
pub mark_at : (f : ℕ → Bool) (a n c : ℕ) → c < n
    → slice_get (map f (range_with_len a n)) c ≡ Some (f (a + c))
mark_at f a zero c inside = absurd (omega arith)
mark_at f a (suc n) zero inside = ap (λ k. Some (f k)) (none a)
  where
    none : (a : ℕ) → a ≡ a + 0
    none a = omega arith
mark_at f a (suc n) (suc c) inside =
    mark_at f (a + 1) n c (omega arith) ∙ ap (λ k. Some (f k)) (next a c)
  where
    next : (a c : ℕ) → a + 1 + c ≡ a + suc c
    next a c = omega arith

pub value_at_place : (f : ℕ → Bool) (a n c : ℕ) → c < n
    → slice_index_or (map f (range_with_len a n)) c false ≡ f (a + c)
value_at_place f a zero c inside = absurd (omega arith)
value_at_place f a (suc n) zero inside = ap f (none a)
  where
    none : (a : ℕ) → a ≡ a + 0
    none a = omega arith
value_at_place f a (suc n) (suc c) inside =
    value_at_place f (a + 1) n c (omega arith) ∙ ap f (next a c)
  where
    next : (a c : ℕ) → a + 1 + c ≡ a + suc c
    next a c = omega arith

-- ---- a store and its blanked one

pub blanked_at : (places : List Place) (store : List ℤ) (c : ℕ) → length store ≡ length places
    → slice_get (marks_at places) c ≡ Some true
    → slice_get store c ≡ slice_get (blanked places store) c
blanked_at [] store c long e = absurd (cc)
blanked_at (p ∷ places) [] c long e = absurd (omega arith)
blanked_at (p ∷ places) (v ∷ store) zero long e =
    ap (λ b. Some (if b then v else pos 0)) (sym (same_some p.is_read true e))
blanked_at (p ∷ places) (v ∷ store) (suc c) long e =
    blanked_at places store c (omega arith) e

past : (xs : List ℤ) (c : ℕ) → length xs ≤ c → slice_get xs c ≡ None
past [] c h = refl
past (x ∷ xs) zero h = absurd (omega arith)
past (x ∷ xs) (suc c) h = past xs c (omega arith)

blanked_long : (places : List Place) (store : List ℤ) → length store ≡ length places
    → length (blanked places store) ≡ length places
blanked_long [] store long = refl
blanked_long (p ∷ places) [] long = absurd (omega arith)
blanked_long (p ∷ places) (v ∷ store) long = ap suc (blanked_long places store (omega arith))

module _ (f : ℕ → Bool) (n : ℕ) (places : List Place) (store : List ℤ)
    (marks : marks_at places ≡ map f (range_with_len 0 n)) (many : length places ≡ n)
    (long : length store ≡ length places) where
  agree_at : (c : ℕ) → f c ≡ true → slice_get store c ≡ slice_get (blanked places store) c
  agree_at c e = by (cases_lt c n)
    where
      by : (c < n) ⊎ (n ≤ c) → slice_get store c ≡ slice_get (blanked places store) c
      by (inl inside) =
          blanked_at places store c long
          (ap (λ ms. slice_get ms c) marks ∙ mark_at f 0 n c inside
          ∙ ap Some (ap f (zero-add c) ∙ e))
      by (inr out) =
          past store c (omega arith)
          ∙ sym (past (blanked places store) c
          (let k = blanked_long places store long in omega arith))

  pub same_value : (e : Expr) → ((c : ℕ) → IsTrue (may_read e c) → f c ≡ true)
      → value_of e store ≡ value_of e (blanked places store)
  same_value e reads =
      value_depends_on_what_is_read e store (blanked places store) (λ c h. agree_at c (reads c h))

  pub same_truths : (wanted : List (Expr × Bool))
      → ((c : ℕ) → wanted_reads wanted c ≡ true → f c ≡ true)
      → HaveTruth store wanted ↔ HaveTruth (blanked places store) wanted
  same_truths [] reads = (λ h. h, λ h. h)
  same_truths (one ∷ wanted) reads =
      let here = same_value one.0
      (λ c h. reads c (first (may_read one.0 c) (wanted_reads wanted c) h)) in
      let rest = same_truths wanted
      (λ c h. reads c (second (may_read one.0 c) (wanted_reads wanted c) h)) in
      let truth = λ (v : Option ℤ). IsSomeAnd v (λ a. is_nonzero a ≡ one.1) in (
        λ h. (subst truth here h.0, rest.0 h.1),
        λ h. (subst truth (sym here) h.0, rest.1 h.1),
      )
    where
      first : (a b : Bool) → IsTrue a → (a || b) ≡ true
      first true b h = refl
      first false b h = absurd (cc)

      second : (a b : Bool) → b ≡ true → (a || b) ≡ true
      second true b h = refl
      second false b h = h

-- ---- all places

pub all_between : (low mid high : ℕ) (places made : List Place) → low ≤ mid → mid ≤ high
    → AllZip (IsKept false) places made → AreDue true (IsBetween low mid) places
    → AreDue false (IsBetween mid high) made → AllByRecursion (IsBetween low high) made
all_between low mid high [] [] lm mh kept read rest = tt
all_between low mid high [] (q ∷ made) lm mh kept read rest = absurd kept
all_between low mid high (p ∷ places) [] lm mh kept read rest = absurd kept
all_between low mid high (p ∷ places) (q ∷ made) lm mh kept read rest =
    (by p.is_read refl, all_between low mid high places made lm mh kept.1 read.1 rest.1)
  where
    by : (b : Bool) → p.is_read ≡ b → IsBetween low high q
    by true e =
        let here = read.0 e in
        let first = here.begins in
        let last = here.ends in
        subst (IsBetween low high) (sym (kept.0.same (ap not e)))
        (record { begins = first; ends = omega arith })
    by false e =
        let here = rest.0 (ap not (kept.0.mark ∙ e)) in
        let first = here.begins in
        let last = here.ends in
        record { begins = omega arith; ends = last }

pub all_stand : (m : ℕ → Bool) (places made : List Place) (store : List ℤ)
    → AllZip (IsKept false) places made → StandWhereDue true m places store
    → StandWhereDue false m made store → AllZip (StandsAt m) made store
all_stand m [] [] [] kept read rest = tt
all_stand m [] [] (v ∷ store) kept read rest = absurd rest
all_stand m [] (q ∷ made) store kept read rest = absurd kept
all_stand m (p ∷ places) [] store kept read rest = absurd kept
all_stand m (p ∷ places) (q ∷ made) [] kept read rest = absurd rest
all_stand m (p ∷ places) (q ∷ made) (v ∷ store) kept read rest =
    (by p.is_read refl, all_stand m places made store kept.1 read.1 rest.1)
  where
    by : (b : Bool) → p.is_read ≡ b → StandsAt m q v
    by true e = subst (λ x. StandsAt m x v) (sym (kept.0.same (ap not e))) (read.0 e)
    by false e = rest.0 (ap not (kept.0.mark ∙ e))

pub read_stand : (m : ℕ → Bool) (places made : List Place) (store : List ℤ)
    → AllZip (IsKept false) places made → AllZip (StandsAt m) made store
    → StandWhereDue true m places store
read_stand m [] [] [] kept stand = tt
read_stand m [] [] (v ∷ store) kept stand = absurd stand
read_stand m [] (q ∷ made) store kept stand = absurd kept
read_stand m (p ∷ places) [] store kept stand = absurd kept
read_stand m (p ∷ places) (q ∷ made) [] kept stand = absurd stand
read_stand m (p ∷ places) (q ∷ made) (v ∷ store) kept stand = (
  λ e. subst (λ x. StandsAt m x v) (kept.0.same (ap not e)) stand.0,
  read_stand m places made store kept.1 stand.1,
)

-- ---- the store of a model

boolean : (n : ℕ) → n < 2 → n ≡ bits_of Boolean (wrapped Boolean (pos n))
unfolding wrapped
boolean zero h = refl
boolean (suc zero) h = refl
boolean (suc (suc n)) h = absurd (omega arith)

-- a word stands for what its number wraps to
own_number : (t : IntType) (bs : List Bool) → length bs ≡ width t
    → StandsFor t bs (wrapped t (pos (number bs)))
own_number t bs long =
    let below : number bs < 2 ^ width t =
    subst (λ n. number bs < 2 ^ n) long (words_are_numbers.below bs) in
    record { long = long; is = by t below }
  where
    other : (u : IntType) → u ≢ Boolean → number bs < 2 ^ width u
        → number bs ≡ bits_of u (wrapped u (pos (number bs)))
    other u ne h = sym (bits_wrapped u ne (pos (number bs)) ∙ mod-eq_of_lt h)

    by : (u : IntType) → number bs < 2 ^ width u
        → number bs ≡ bits_of u (wrapped u (pos (number bs)))
    by ty.Bool h = boolean (number bs) h
    by ty.I8 h = other ty.I8 (λ e. absurd (cc)) h
    by ty.U8 h = other ty.U8 (λ e. absurd (cc)) h
    by ty.I16 h = other ty.I16 (λ e. absurd (cc)) h
    by ty.U16 h = other ty.U16 (λ e. absurd (cc)) h
    by ty.I32 h = other ty.I32 (λ e. absurd (cc)) h
    by ty.U32 h = other ty.U32 (λ e. absurd (cc)) h
    by ty.I64 h = other ty.I64 (λ e. absurd (cc)) h
    by ty.U64 h = other ty.U64 (λ e. absurd (cc)) h

abbrev pub firsts_at : List Place → List ℕ
firsts_at places = map (λ (p : Place). p.first) places

pub model_stands : (truths : List Bool) (made : List Place)
    → AllZip (StandsAt (assigned truths)) made
    (store_at (types_at made) (firsts_at made) truths)
model_stands truths [] = tt
model_stands truths (p ∷ made) = (
  own_number p.ty (values (assigned truths) (variables_from p.first (width p.ty)))
      (length-map (variables_from p.first (width p.ty)) _ ∙ variables_long p.first (width p.ty)),
  model_stands truths made,
)

pub model_ranges : (truths : List Bool) (cells : List IntType) (firsts : List ℕ)
    → length firsts ≡ length cells → AreValues cells (store_at cells firsts truths)
model_ranges truths [] firsts long = tt
model_ranges truths (t ∷ cells) [] long = absurd (omega arith)
model_ranges truths (t ∷ cells) (first ∷ firsts) long = (
  wrapped_in_range t _,
  model_ranges truths cells firsts (omega arith),
)

pub same_store : (truths : List Bool) (made : List Place) (store : List ℤ)
    → AllZip (StandsAt (assigned truths)) made store → AreValues (types_at made) store
    → store_at (types_at made) (firsts_at made) truths ≡ store
same_store truths [] [] stand range = refl
same_store truths [] (v ∷ store) stand range = absurd stand
same_store truths (p ∷ made) [] stand range = absurd stand
same_store truths (p ∷ made) (v ∷ store) stand range =
    ap (λ x. x ∷ store_at (types_at made) (firsts_at made) truths)
    (ap (λ n. wrapped p.ty (pos n)) stand.0.is ∙ bits_back p.ty v range.0)
    ∙ ap (λ xs. v ∷ xs) (same_store truths made store stand.1 range.1)

pub ranges_at : (places : List Place) (store : List ℤ) → AreValues (types_at places) store
    → AllZip (λ p v. IsInRange p.ty v) places store
ranges_at [] [] range = tt
ranges_at [] (v ∷ store) range = range
ranges_at (p ∷ places) [] range = range
ranges_at (p ∷ places) (v ∷ store) range = (range.0, ranges_at places store range.1)
