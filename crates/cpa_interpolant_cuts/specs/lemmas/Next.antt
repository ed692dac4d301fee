-- The expression of an interpolant of a cut's joined formula is an interpolant of the path.
use Rattle.std.proofs.Common.{◌≡◌, ℕ, zero, suc, ◌+◌, ◌<◌, ◌≤◌, Bool, true, false, ℤ, pos, List}
use Rattle.std.proofs.Common.{[], ◌∷◌, ◌++◌, map, take, length, Option, None, Some, slice_get, refl}
use Rattle.std.proofs.Common.{sym, ap, ◌∙◌, subst, arith, zero-add, ◌⊎◌, inl, inr, IsTrue}
use Rattle.std.proofs.Common.{IsSomeAnd}
use Rattle.std.specs.Prelude.{slice_index_or, unwrap_or}
use Rattle.std.specs.List.{AllByRecursion, range_with_len}
use Rattle.std.proofs.lemmas.List.{length-map, get_or_append_left}
use Rattle.std.proofs.lemmas.List.FromFn.{length-range_with_len, get_or-map-range_with_len}
use Rattle.std.proofs.lemmas.Option.{unwrap_or-slice_get}
use Rattle.std.proofs.lemmas.Slice.Zip.{AllZip-long}
use Rattle.cpa_ints.specs.declared.integers.IntType.{IntType}
use Rattle.cpa_ints.specs.declared.integers.IntType.TheVariants as ty
use Rattle.cpa_ints.specs.Integers.{width, IsInRange}
use Rattle.cpa_cnf.specs.declared.formula.Cnf.{Cnf}
use Rattle.cpa_cnf.specs.declared.formula.Line.{Line}
use Rattle.cpa_cnf.specs.Models.{Satisfies}
use Rattle.cpa_expr.specs.declared.tree.Expr.{Expr}
use Rattle.cpa_expr.specs.Cells.{may_read}
use Rattle.cpa_expr.specs.Values.{HasTruth, value_of, is_nonzero}
use Rattle.cpa_blast_circuits.specs.Laws.{CircuitsHaveValues}
use Rattle.cpa_blast_circuits.specs.lemmas.Facts.{same_some}
use Rattle.cpa_model.specs.declared.program.Cell.{Cell}
use Rattle.cpa_model.specs.declared.automaton.Act.{Act}
use Rattle.cpa_model.specs.declared.automaton.Cfa.{Cfa}
use Rattle.cpa_model.specs.Expressions.{types_of}
use Rattle.cpa_query.specs.Queries.{reads, is_marked, wanted_reads}
use Rattle.cpa_blast.specs.Formulas.{formula}
use Rattle.cpa_blast.specs.Laws.{formulas_are, formulas_below}
use Rattle.cpa_form_rules.specs.Runs.{Runs}
use Rattle.cpa_form_rules.specs.Reading.{ActReads}
use Rattle.cpa_form_rules.specs.Forms.{Form, place_now}
use Rattle.cpa_form_rules.specs.Laws.{IsFormOf}
use Rattle.cpa_chains.specs.Interpolants.{IsInterpolant}
use Rattle.cpa_chains.specs.Partials.{last_value, leaves_of, partials_of}
use Rattle.cpa_interpolant_bits.specs.declared.bits.Bit.{Bit}
use Rattle.cpa_interpolant_bits.specs.Bits.{bit_of, bit_in}
use Rattle.cpa_interpolant_bits.specs.Nodes.{bit_named}
use Rattle.cpa_interpolant_bits.specs.Meanings.{Gives}
use Rattle.cpa_interpolant_bits.specs.Laws.{expressions_ask}
use Rattle.cpa_interpolant_joining.specs.Joining.{AreNames, Agree}
use Rattle.cpa_interpolant_joining.specs.Laws.{parts_have_models}
use Rattle.cpa_interpolant_conditions.specs.Interpolants.{interpolant_made}
use Rattle.cpa_interpolant_conditions.specs.Laws.{conditions_of_partials_mean}
use Rattle.cpa_interpolant_names.specs.declared.gathering.Meeting.{Meeting}
use Rattle.cpa_interpolant_names.specs.Meetings.{names_of, bits_of}
use Rattle.cpa_interpolant_names.specs.Laws.{IsOne, AreApart, names_are_bits}
use Rattle.cpa_interpolant_cuts.specs.Touching.{SomeAddedReads, SomeAddedTouches}
use Rattle.cpa_interpolant_cuts.specs.Places.{ArePlaces}
use Rattle.cpa_interpolant_rules.specs.Stores.{IsStore, ActWrites}
use Rattle.cpa_interpolant_rules.specs.Stores.{SomeActReads}
use Rattle.cpa_interpolant_rules.specs.Interpolants.{LeadsTo, HasNoRun, ReadsShared, NeverTraps}
use Rattle.cpa_interpolant_rules.specs.Interpolants.{IsNext}
use Rattle.cpa_interpolant_rules.specs.Parts.{added_before, added_behind}
use Rattle.cpa_interpolant_rules.specs.lemmas.Taking.{runs_of, starts_in, run_before}
use Rattle.cpa_interpolant_rules.specs.lemmas.Taking.{has_value}
use Rattle.cpa_interpolant_cuts.specs.Cuts.{meetings_of, formula_of}
use Rattle.cpa_interpolant_cuts.specs.Cuts.{sides_at, shared_bits_of, expr_of}
use Rattle.cpa_interpolant_cuts.specs.lemmas.Meet.{AreParts, cell_of, before_bit, behind_bit}
use Rattle.cpa_interpolant_cuts.specs.lemmas.Meet.{before_apart, value_of_bit}
use Rattle.cpa_interpolant_cuts.specs.lemmas.Sharing.{HasSides, shared, unmarked, each_true}

-- ---- small facts

at_most : (t : IntType) → width t ≤ 64
at_most ty.Bool = omega arith
at_most ty.I8 = omega arith
at_most ty.U8 = omega arith
at_most ty.I16 = omega arith
at_most ty.U16 = omega arith
at_most ty.I32 = omega arith
at_most ty.U32 = omega arith
at_most ty.I64 = omega arith
at_most ty.U64 = omega arith

narrow : (t : IntType) (j : ℕ) → j < width t → j < 64
narrow t j h = let most = at_most t in omega (arith, h, most)

pub same_index : (xs ys : List ℤ) (i k : ℕ) → slice_get xs i ≡ slice_get ys k
    → slice_index_or xs i (pos 0) ≡ slice_index_or ys k (pos 0)
same_index xs ys i k e =
    sym (unwrap_or-slice_get xs i (pos 0))
    ∙ (ap (λ o. unwrap_or o (pos 0)) e ∙ unwrap_or-slice_get ys k (pos 0))

pub get_taken : (n : ℕ) (xs : List ℤ) (c : ℕ) → c < length (take n xs)
    → slice_get (take n xs) c ≡ slice_get xs c
get_taken zero xs c h = absurd (omega (arith, h))
get_taken (suc n) [] c h = absurd (omega (arith, h))
get_taken (suc n) (x ∷ xs) zero h = refl
get_taken (suc n) (x ∷ xs) (suc c) h = get_taken n xs c (omega (arith, h))

one_truth : (o : Option ℤ) → IsSomeAnd o (λ a. is_nonzero a ≡ true)
    → IsSomeAnd o (λ a. is_nonzero a ≡ false) → ⊥
one_truth None h k = absurd h
one_truth (Some a) h k = absurd (cc)

-- ---- what is read

reads_behind : (acts : List Act) (c : ℕ) → SomeAddedReads (added_behind acts) c
    → SomeActReads acts c
reads_behind [] c h = absurd h
reads_behind (a ∷ acts) c (inl h) = inl h
reads_behind (a ∷ acts) c (inr h) = inr (reads_behind acts c h)

module _ (circuits : CircuitsHaveValues) (cells : List Cell) (cfa : Cfa)
    (same : cfa.cells ≡ cells) (e : Expr) (a : Act) (acts : List Act) (A B : Form)
    (form_before : IsFormOf cfa false (added_before e a) A)
    (form_behind : IsFormOf cfa false (added_behind acts) B)
    (places_before : ArePlaces cells (added_before e a) A)
    (places_behind : ArePlaces cells (added_behind acts) B) (are : AreParts cells A B)
    (sides : HasSides cells A B) (log : List Line)
    (inter : IsInterpolant (formula_of cells A B) (sides_at A B)
    (partials_of (formula_of cells A B) (sides_at A B) log)) where
  abbrev f : Expr
  f = expr_of cells A B log

  abbrev J : Cnf
  J = formula_of cells A B

  abbrev all : List Meeting
  all = meetings_of cells A B

  abbrev last_at : List Bool → Bool
  last_at truths = last_value truths (leaves_of J (sides_at A B)) (partials_of J (sides_at A B) log)

  -- a store gives the shared bits their values
  gives : (store : List ℤ) (truths : List Bool) → IsStore cells store
      → ((m : Meeting) (j : ℕ) → IsOne all m → m.is_shared ≡ true → j < width m.ty
      → slice_index_or truths (m.before + j) false
      ≡ bit_of j (slice_index_or store m.cell (pos 0)))
      → Gives (shared_bits_of cells A B) store truths
  gives store truths is each v bit named =
      let found = names_are_bits.bit (formula A.query).vars all v bit named in
      let m = found.0 in
      let j = found.1 in
      let c = cell_of circuits cells A B are m found.2 in
      let long = AllZip-long IsInRange (types_of cells) store is in
      let types = length-map cells (λ (x : Cell). x.ty) in
      let inside = c.inside in
      let number : m.cell ≡ c.cell = ap (λ (u : Meeting). u.cell) c.is in (
        ap (λ k. slice_index_or truths k false) found.5
            ∙ (each m j found.2 found.3 found.4 ∙ ap (bit_in store) (sym found.6)),
        subst (λ (b : Bit). b.cell < length store) (sym found.6)
            (omega (arith, long, types, inside, number)),
        subst (λ (b : Bit). b.place < 64) (sym found.6) (narrow m.ty j found.4),
      )

  asked : (store : List ℤ) (truths : List Bool) → Gives (shared_bits_of cells A B) store truths
      → HasTruth store f (last_at truths)
  asked store truths given =
      conditions_of_partials_mean.asks (shared_bits_of cells A B) store truths J (sides_at A B)
      log (shared circuits cells A B are sides) given

  -- ---- the part before the cut

  leads : LeadsTo cells a e f
  leads old new holds step =
      let (inputs, run) = run_before cells e a old new holds step in
      let found = form_before.model old inputs new
      (subst (λ cs. IsStore cs old) (sym same) step.before)
      (subst (λ cs. Runs cs (added_before e a) old inputs new) (sym same) run) in
      let values = found.0 in
      let model = found.1 in
      let extended = (formulas_are circuits).complete A.query values are.before model in
      let truths = extended.0 in
      let follows = inter.follows truths
      (subst (AllByRecursion (Satisfies truths)) (sym sides.before) extended.1.model.each_clause)
      in
      subst (HasTruth new f) follows (asked new truths (gives new truths step.after
      (λ m j one is_shared below.
      let c = cell_of circuits cells A B are m one in
      let inside : j < width c.t =
      subst (λ (u : Meeting). j < width u.ty) c.is below in
      let here = before_bit circuits cells A B are c.cell c.t j c.ty inside in
      ap (λ (u : Meeting). slice_index_or truths (u.before + j) false) c.is
      ∙ (value_of_bit A.query truths values (place_now A c.cell) j _ c.t extended.1.gives
      here.0
      ∙ ap (bit_of j) (same_index values new (place_now A c.cell) c.cell
      (form_before.place values c.cell model
      (subst (λ (cs : List Cell). c.cell < length cs) (sym same) c.inside)
      ∙ ap (λ s. slice_get s c.cell) found.4)
      ∙ ap (λ (u : Meeting). slice_index_or new u.cell (pos 0)) (sym c.is))))))

  -- ---- the part behind the cut

  -- all meetings, as if both parts read their cells
  abbrev as_shared : Meeting → Meeting
  as_shared m = record m { is_shared = true }

  abbrev opened : List Meeting
  opened = map as_shared all

  abbrev every_bit : List (Option Bit)
  every_bit = bits_of (formula A.query).vars opened

  opened_one : (m : Meeting) → IsOne all m → IsOne opened (as_shared m)
  opened_one m (k, is) = (k, there all k is)
    where
      there : (ms : List Meeting) (k : ℕ) → slice_get ms k ≡ Some m
          → slice_get (map as_shared ms) k ≡ Some (as_shared m)
      there [] k is = absurd (cc)
      there (n ∷ ms) zero is = ap (λ (u : Meeting). Some (as_shared u)) (same_some n m is)
      there (n ∷ ms) (suc k) is = there ms k is

  opened_back : (n : Meeting) → IsOne opened n
      → (m : Meeting) × IsOne all m × (n ≡ as_shared m)
  opened_back n (k, is) =
      let (m, at, same) = back all k is in (m, (k, at), same)
    where
      back : (ms : List Meeting) (k : ℕ) → slice_get (map as_shared ms) k ≡ Some n
          → (m : Meeting) × (slice_get ms k ≡ Some m) × (n ≡ as_shared m)
      back [] k is = absurd (cc)
      back (m ∷ ms) zero is = (m, refl, sym (same_some (as_shared m) n is))
      back (m ∷ ms) (suc k) is = back ms k is

  opened_apart : AreApart (λ n. n.before) opened
  opened_apart m n i j one other below also same =
      let (p, p_one, p_is) = opened_back m one in
      let (r, r_one, r_is) = opened_back n other in
      let together = before_apart circuits cells A B are p r i j p_one r_one
      (subst (λ (u : Meeting). i < width u.ty) p_is below)
      (subst (λ (u : Meeting). j < width u.ty) r_is also)
      (ap (λ (u : Meeting). u.before + i) (sym p_is)
      ∙ (same ∙ ap (λ (u : Meeting). u.before + j) r_is)) in
      (p_is ∙ (ap as_shared together.0 ∙ sym r_is), together.1)

  -- the values that a store gives the variables of the part before the cut
  abbrev told_by : List ℤ → Option Bit → Bool
  told_by store None = false
  told_by store (Some bit) = bit_in store bit

  abbrev values_by : List ℤ → List Bool
  values_by store =
      map (λ v. told_by store (bit_named every_bit v)) (range_with_len 0 (formula A.query).vars)

  by_long : (store : List ℤ) → length (values_by store) ≡ (formula A.query).vars
  by_long store =
      length-map (range_with_len 0 (formula A.query).vars) _
      ∙ length-range_with_len 0 (formula A.query).vars

  by_low : (m : Meeting) (j : ℕ) → IsOne all m → j < width m.ty
      → m.before + j < (formula A.query).vars
  by_low m j one below =
      let c = cell_of circuits cells A B are m one in
      let inside : j < width c.t = subst (λ (u : Meeting). j < width u.ty) c.is below in
      let high = (before_bit circuits cells A B are c.cell c.t j c.ty inside).1 in
      subst (λ (u : Meeting). u.before + j < (formula A.query).vars) (sym c.is)
      (omega (arith, high, inside))

  by_bit : (store : List ℤ) (m : Meeting) (j : ℕ) → IsOne all m → j < width m.ty
      → slice_index_or (values_by store) (m.before + j) false
      ≡ bit_of j (slice_index_or store m.cell (pos 0))
  by_bit store m j one below =
      let low = by_low m j one below in
      get_or-map-range_with_len (λ v. told_by store (bit_named every_bit v)) 0
      (formula A.query).vars (m.before + j) (m.before + j) false low (zero-add (m.before + j))
      ∙ ap (told_by store) (names_are_bits.noted (formula A.query).vars opened (as_shared m) j
      opened_apart (opened_one m one) refl below low)

  total : NeverTraps cells f
  total store is =
      has_value (value_of f store) (last_at (values_by store))
      (asked store (values_by store) (gives store (values_by store) is
      (λ m j one is_shared below. by_bit store m j one below)))

  ends : HasNoRun cells acts f
  ends store holds run =
      let is = starts_in cells acts store run in
      let (inputs, last, runs) = runs_of cells acts store run in
      let found = form_behind.model store inputs last
      (subst (λ cs. IsStore cs store) (sym same) is)
      (subst (λ cs. Runs cs (added_behind acts) store inputs last) (sym same) runs) in
      let values = found.0 in
      let extended = (formulas_are circuits).complete B.query values are.behind found.1 in
      let truths = extended.0 in
      let long = AllZip-long IsInRange (types_of cells) store is in
      let agree : Agree (names_of (formula B.query).vars all) (values_by store) truths =
      λ v name named.
      let at = names_are_bits.name (formula B.query).vars all v name named in
      let m = at.0 in
      let j = at.1 in
      let c = cell_of circuits cells A B are m at.2 in
      let inside : j < width c.t = subst (λ (u : Meeting). j < width u.ty) c.is at.3 in
      let here = behind_bit circuits cells A B are c.cell c.t j c.ty inside in
      let begins : slice_get values c.cell ≡ slice_get store c.cell =
      sym (get_taken (length B.places) values c.cell
      (subst (λ (s : List ℤ). c.cell < length s) (sym found.2)
      (omega (arith, long, length-map cells (λ (x : Cell). x.ty), c.inside))))
      ∙ ap (λ s. slice_get s c.cell) found.2 in
      ap (λ k. slice_index_or truths k false)
      (at.4 ∙ ap (λ (u : Meeting). u.behind + j) c.is)
      ∙ (value_of_bit B.query truths values c.cell j _ c.t extended.1.gives here.0
      ∙ (ap (bit_of j) (same_index values store c.cell c.cell begins
      ∙ ap (λ (u : Meeting). slice_index_or store u.cell (pos 0)) (sym c.is))
      ∙ (sym (by_bit store m j at.2 at.3)
      ∙ ap (λ k. slice_index_or (values_by store) k false) (sym at.5)))) in
      let low : AreNames (formula A.query).vars (names_of (formula B.query).vars all) =
      λ v name named.
      let at = names_are_bits.name (formula B.query).vars all v name named in
      subst (λ k. k < (formula A.query).vars) (sym at.5) (by_low at.0 at.1 at.2 at.3) in
      let blank : Cnf = record { vars = (formula A.query).vars; clauses = [] } in
      let both = parts_have_models.both blank (formula B.query)
      (names_of (formula B.query).vars all) (values_by store) truths
      (record {
        first_below = tt;
        second_below = (formulas_below circuits).literals B.query are.behind;
      }) low agree (record { each_variable = by_long store; each_clause = tt })
      extended.1.model in
      let all_values = values_by store ++ truths in
      let refuted = inter.refutes all_values
      (subst (AllByRecursion (Satisfies all_values)) (sym sides.behind) both.each_clause) in
      one_truth (value_of f store) holds
      (subst (HasTruth store f) refuted (asked store all_values (gives store all_values is
      (λ m j one is_shared below.
      let low_bit = by_low m j one below in
      let wide = by_long store in
      get_or_append_left (values_by store) truths false (m.before + j)
      (omega (arith, low_bit, wide)) ∙ by_bit store m j one below))))

  -- ---- what the expression reads

  touched : (c : ℕ) → SomeAddedTouches (added_before e a) c
      → IsTrue (may_read e c) ⊎ (ActReads a c ⊎ ActWrites a c)
  touched c (inl (inl (inl h))) = inl h
  touched c (inl (inl (inr h))) = absurd h
  touched c (inl (inr h)) = absurd h
  touched c (inr (inl (inl h))) = inr (inl h)
  touched c (inr (inl (inr h))) = inr (inr h)
  touched c (inr (inr h)) = absurd h

  read_here : (c : ℕ) → SomeAddedReads (added_before e a) c
      → IsTrue (may_read e c) ⊎ (ActReads a c ⊎ ActWrites a c)
  read_here c (inl (inl h)) = inl h
  read_here c (inl (inr h)) = absurd h
  read_here c (inr (inl h)) = inr (inl h)
  read_here c (inr (inr h)) = absurd h

  shared_reads : ReadsShared a acts e f
  shared_reads cell h =
      let made = interpolant_made J (sides_at A B) log in
      let asks = expressions_ask.reads (shared_bits_of cells A B) made.nodes made.condition cell h
      in
      let found = names_are_bits.bit (formula A.query).vars all asks.0 asks.1 asks.2 in
      let m = found.0 in
      let c = cell_of circuits cells A B are m found.2 in
      let own : c.cell ≡ cell =
      sym (ap (λ (u : Meeting). u.cell) c.is)
      ∙ (sym (ap (λ (b : Bit). b.cell) found.6) ∙ asks.3) in
      let marks = each_true (is_marked (reads A.query) (place_now A c.cell))
      (is_marked (reads B.query) c.cell) (sym (ap (λ (u : Meeting). u.is_shared) c.is) ∙ found.3)
      in
      let in_before = unmarked A.query (place_now A c.cell) marks.0 in
      let in_behind = unmarked B.query c.cell marks.1 in
      let before : IsTrue (may_read e c.cell) ⊎ (ActReads a c.cell ⊎ ActWrites a c.cell) =
      elim (places_before.moves c.cell c.inside) [
        | inl stays ↦
            read_here c.cell (places_before.reads c.cell c.inside
            (subst (λ k. wanted_reads A.query.wanted k ≡ true) stays in_before))
        | inr new ↦ touched c.cell new.1
      ] in
      let behind = reads_behind acts c.cell (places_behind.reads c.cell c.inside in_behind) in (
        subst (λ k. IsTrue (may_read e k) ⊎ (ActReads a k ⊎ ActWrites a k)) own before,
        subst (SomeActReads acts) own behind,
      )

  pub next : IsNext cells a acts e f
  next = record { leads = leads; ends = ends; reads = shared_reads; total = total }
