-- A variable is a bit of one cell at most, and one bit of it.
use Rattle.std.proofs.Common.{◌≡◌, ℕ, zero, suc, ◌+◌, ◌<◌, ◌≤◌, ◌^◌, Bool, true, false, not}
use Rattle.std.proofs.Common.{List, [], ◌∷◌, length, Some, refl, sym, ap, subst, ◌∙◌, arith, ◌⊎◌}
use Rattle.std.proofs.Common.{inl, inr}
use Rattle.std.specs.Prelude.{⊤, slice_get, if◌then◌else◌}
use Rattle.std.specs.List.{AllByRecursion, AllZip}
use Rattle.cpa_ints.specs.declared.integers.IntType.{IntType}
use Rattle.cpa_ints.specs.Integers.{width}
use Rattle.cpa_blast_gates.specs.declared.gate.Gate.{Gate}
use Rattle.cpa_blast_gates.specs.Nets.{vars, IsScoped, built}
use Rattle.cpa_blast_circuits.specs.lemmas.Facts.{same_some}
use Rattle.cpa_blast_circuits.specs.Laws.{CircuitsHaveValues}
use Rattle.cpa_query.specs.declared.query.Query.{Query}
use Rattle.cpa_query.specs.Queries.{IsQuery, reads}
use Rattle.cpa_blast.specs.Formulas.{with_inputs, place_of, is_due, place_before, next_place}
use Rattle.cpa_blast.specs.Formulas.{with_bits, places_of, read_places, circuits_of, all_places}
use Rattle.cpa_blast.specs.Formulas.{first_bits}
use Rattle.cpa_blast.specs.lemmas.Inputs.{inputs_grow, inputs_long}
use Rattle.cpa_blast.specs.lemmas.Places.{types_at, IsBetween, AreDue, IsKept, bits_given}
use Rattle.cpa_blast.specs.lemmas.Places.{bits_kept}
use Rattle.cpa_blast.specs.lemmas.Stores.{firsts_at, places_types, reads_long}
use Rattle.cpa_blast.specs.lemmas.Models.{tells, rest_given}

-- a cell with the variable of its low bit: what `place_of` makes
abbrev what : (A : Type 0) → (IntType → Bool → ℕ → A) → Type 0
what A make = A

abbrev Place : Type 0
Place = what _ place_of

-- ---- in the order in which variables are given out

-- the variables of the place come behind those of the other one
abbrev IsBehind : Place → Place → Type 0
IsBehind p q = p.first + width p.ty ≤ q.first

-- of the cells that are due, each has its variables behind those of the cells before it
abbrev AreInOrder : Bool → List Place → Type 0
AreInOrder reading [] = ⊤
AreInOrder reading (p ∷ places) =
    (is_due reading p.is_read ≡ true → AreDue reading (IsBehind p) places)
    × AreInOrder reading places

all_behind : (reading : Bool) (low high : ℕ) (p : Place) (places : List Place)
    → p.first + width p.ty ≤ low → AreDue reading (IsBetween low high) places
    → AreDue reading (IsBehind p) places
all_behind reading low high p [] ends due = tt
all_behind reading low high p (q ∷ places) ends due = (
  λ e. let here = (due.0 e).begins in omega arith,
  all_behind reading low high p places ends due.1,
)

unlike : (b : Bool) → b ≡ true → b ≡ false → ⊥
unlike b e f = absurd (cc)

in_order : (reading : Bool) (places : List Place) (s : List Gate) → IsScoped s
    → AreInOrder reading (with_bits reading places s).value
unfolding with_bits next_place
in_order reading [] s scoped = tt
in_order reading (p ∷ places) s scoped =
    by (is_due reading p.is_read) refl (λ n h. in_order reading places n h)
  where
    by : (b : Bool) → is_due reading p.is_read ≡ b
        → ((n : List Gate) → IsScoped n → AreInOrder reading (with_bits reading places n).value)
        → AreInOrder reading
        (let first = if b then built (with_inputs (width p.ty) s)
        (place_of p.ty p.is_read (vars s)) else built s p in
        place_before first.value (with_bits reading places first.net)).value
    by true e rest =
        let next = with_inputs (width p.ty) s in
        let grown = inputs_grow (width p.ty) s scoped in
        let given = bits_given reading places next grown.scoped in
        let wide = inputs_long (width p.ty) s in (
          λ due. all_behind reading (vars next) (vars (with_bits reading places next).net)
              (place_of p.ty p.is_read (vars s)) (with_bits reading places next).value
              (omega arith) given.between,
          rest next grown.scoped,
        )
    by false e rest = (
      λ due. absurd (unlike (is_due reading p.is_read) due e),
      rest s scoped,
    )

-- ---- all cells

-- the variables of the one come before those of the other, or behind them
abbrev StandApart : Place → Place → Type 0
StandApart p q = IsBehind p q ⊎ IsBehind q p

abbrev AreApart : List Place → Type 0
AreApart [] = ⊤
AreApart (p ∷ places) = AllByRecursion (StandApart p) places × AreApart places

module _ (low mid high : ℕ) where
  -- a cell that is read, before others
  read_apart : (p : Place) (places made : List Place) → p.first + width p.ty ≤ mid
      → AllZip (IsKept false) places made → AreDue true (IsBehind p) places
      → AreDue false (IsBetween mid high) made → AllByRecursion (StandApart p) made
  read_apart p [] [] ends keeps due rest = tt
  read_apart p [] (q ∷ made) ends keeps due rest = absurd keeps
  read_apart p (r ∷ places) [] ends keeps due rest = absurd keeps
  read_apart p (r ∷ places) (q ∷ made) ends keeps due rest =
      (by r.is_read refl, read_apart p places made ends keeps.1 due.1 rest.1)
    where
      by : (b : Bool) → r.is_read ≡ b → StandApart p q
      by true e = subst (StandApart p) (sym (keeps.0.same (ap not e))) (inl (due.0 e))
      by false e =
          let here = (rest.0 (ap not (keeps.0.mark ∙ e))).begins in inl (omega arith)

  -- one that is not
  unread_apart : (p : Place) (places made : List Place) → mid ≤ p.first
      → AllZip (IsKept false) places made → AreDue true (IsBetween low mid) places
      → AreDue false (IsBehind p) made → AllByRecursion (StandApart p) made
  unread_apart p [] [] begins keeps due rest = tt
  unread_apart p [] (q ∷ made) begins keeps due rest = absurd keeps
  unread_apart p (r ∷ places) [] begins keeps due rest = absurd keeps
  unread_apart p (r ∷ places) (q ∷ made) begins keeps due rest =
      (by r.is_read refl, unread_apart p places made begins keeps.1 due.1 rest.1)
    where
      by : (b : Bool) → r.is_read ≡ b → StandApart p q
      by true e =
          let here = (due.0 e).ends in
          subst (StandApart p) (sym (keeps.0.same (ap not e))) (inr (omega arith))
      by false e = inl (rest.0 (ap not (keeps.0.mark ∙ e)))

  all_apart : (places made : List Place) → AllZip (IsKept false) places made
      → AreDue true (IsBetween low mid) places → AreDue false (IsBetween mid high) made
      → AreInOrder true places → AreInOrder false made → AreApart made
  all_apart [] [] keeps read rest first second = tt
  all_apart [] (q ∷ made) keeps read rest first second = absurd keeps
  all_apart (p ∷ places) [] keeps read rest first second = absurd keeps
  all_apart (p ∷ places) (q ∷ made) keeps read rest first second =
      (by p.is_read refl, all_apart places made keeps.1 read.1 rest.1 first.1 second.1)
    where
      by : (b : Bool) → p.is_read ≡ b → AllByRecursion (StandApart q) made
      by true e =
          subst (λ x. AllByRecursion (StandApart x) made) (sym (keeps.0.same (ap not e)))
          (read_apart p places made (read.0 e).ends keeps.1 (first.0 e) rest.1)
      by false e =
          let unread = ap not (keeps.0.mark ∙ e) in
          unread_apart q places made (rest.0 unread).begins keeps.1 read.1 (second.0 unread)

-- ---- by numbers

meet_never : (p : Place) (places : List Place) (d i j v first other : ℕ) (t u : IntType)
    → AllByRecursion (StandApart p) places → p.ty ≡ t → p.first ≡ first → i < width t
    → v ≡ first + i → slice_get (types_at places) d ≡ Some u
    → slice_get (firsts_at places) d ≡ Some other → j < width u → v ≡ other + j → ⊥
meet_never p [] d i j v first other t u all ty at inside is ty_d at_d inside_d is_d =
    absurd (cc)
meet_never p (q ∷ places) zero i j v first other t u all ty at inside is ty_d at_d inside_d is_d =
    let same_ty = same_some q.ty u ty_d in
    let same_at = same_some q.first other at_d in
    let wide : width p.ty ≡ width t = ap width ty in
    let wide_d : width q.ty ≡ width u = ap width same_ty in
    elim all.0 [
      | inl behind ↦ absurd (omega (arith, behind, wide, wide_d, at, same_at, is, is_d, inside))
      | inr before ↦
          absurd (omega (arith, before, wide, wide_d, at, same_at, is, is_d, inside_d))
    ]
meet_never p (q ∷ places) (suc d) i j v first other t u all ty at inside is ty_d at_d inside_d
    is_d =
    meet_never p places d i j v first other t u all.1 ty at inside is ty_d at_d inside_d is_d

same_cell : (places : List Place) → AreApart places → (c d i j v first other : ℕ)
    (t u : IntType) → slice_get (types_at places) c ≡ Some t
    → slice_get (firsts_at places) c ≡ Some first → i < width t → v ≡ first + i
    → slice_get (types_at places) d ≡ Some u → slice_get (firsts_at places) d ≡ Some other
    → j < width u → v ≡ other + j → c ≡ d
same_cell [] apart c d i j v first other t u ty at inside is ty_d at_d inside_d is_d = absurd (cc)
same_cell (p ∷ places) apart zero zero i j v first other t u ty at inside is ty_d at_d inside_d
    is_d = refl
same_cell (p ∷ places) apart zero (suc d) i j v first other t u ty at inside is ty_d at_d
    inside_d is_d =
    absurd (meet_never p places d i j v first other t u apart.0 (same_some p.ty t ty)
    (same_some p.first first at) inside is ty_d at_d inside_d is_d)
same_cell (p ∷ places) apart (suc c) zero i j v first other t u ty at inside is ty_d at_d
    inside_d is_d =
    absurd (meet_never p places c j i v other first u t apart.0 (same_some p.ty u ty_d)
    (same_some p.first other at_d) inside_d is_d ty at inside is)
same_cell (p ∷ places) apart (suc c) (suc d) i j v first other t u ty at inside is ty_d at_d
    inside_d is_d =
    ap suc (same_cell places apart.1 c d i j v first other t u ty at inside is ty_d at_d inside_d
    is_d)

module _ (circuits : CircuitsHaveValues) (q : Query) (asked : IsQuery q)
    (few : length q.cells < 2 ^ 64) where
  places_apart : AreApart (all_places q).value
  places_apart =
      let start = places_of q.cells (reads q) in
      let given = bits_given true start [] tt in
      let told = tells circuits q asked few in
      let more = told.grows.longer in
      let rest = rest_given circuits q asked few in
      all_apart 0 (vars (circuits_of q).net) (vars (all_places q).net) (read_places q).value
      (all_places q).value (bits_kept false (read_places q).value (circuits_of q).net)
      (wider (read_places q).value given.between) rest.between (in_order true start [] tt)
      (in_order false (read_places q).value (circuits_of q).net told.grows.scoped)
    where
      wider : (places : List Place)
          → AreDue true (IsBetween (vars []) (vars (read_places q).net)) places
          → AreDue true (IsBetween 0 (vars (circuits_of q).net)) places
      wider [] due = tt
      wider (p ∷ places) due = (
        λ e. let high = (due.0 e).ends in
            let longer = (tells circuits q asked few).grows.longer in
            record { begins = omega arith; ends = omega (arith, high, longer) },
        wider places due.1,
      )

  pub bits_apart : (c d i j v first other : ℕ) (t u : IntType) → slice_get q.cells c ≡ Some t
      → slice_get (first_bits q) c ≡ Some first → i < width t → v ≡ first + i
      → slice_get q.cells d ≡ Some u → slice_get (first_bits q) d ≡ Some other → j < width u
      → v ≡ other + j → (c ≡ d) × (i ≡ j)
  bits_apart c d i j v first other t u ty at inside is ty_d at_d inside_d is_d =
      let types = (rest_given circuits q asked few).types
      ∙ (bits_given true (places_of q.cells (reads q)) [] tt).types
      ∙ places_types q.cells (reads q) (reads_long q) in
      let same = same_cell (all_places q).value places_apart c d i j v first other t u
      (ap (λ ts. slice_get ts c) types ∙ ty) at inside is (ap (λ ts. slice_get ts d) types ∙ ty_d)
      at_d inside_d is_d in
      let begins = same_some first other
      (sym at ∙ (ap (λ k. slice_get (first_bits q) k) same ∙ at_d)) in
      (same, omega (arith, begins, is, is_d))
