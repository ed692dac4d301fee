-- The law of names and bits. Below the statement, its lemma.
use Rattle.std.specs.Prelude.{◌≡◌, ℕ, ◌+◌, ◌<◌, true, List, Option, Some, None, slice_get}
use Rattle.std.specs.Prelude.{replicate}
use Rattle.std.specs.Prelude.{if◌then◌else◌}
use Rattle.std.proofs.Common.{refl, sym, ap, ◌∙◌, subst, arith, Bool, false, inl, inr}
use Rattle.std.proofs.lemmas.List.{length-replicate}
use Rattle.cpa_ints.specs.Integers.{width}
use Rattle.cpa_interpolant_bits.specs.declared.bits.Bit.{Bit}
use Rattle.cpa_interpolant_bits.specs.Nodes.{bit_named, bit_in_row}
use Rattle.cpa_interpolant_joining.specs.Joining.{name_of, name_in_row}
use Rattle.cpa_interpolant_names.specs.declared.gathering.Meeting.{Meeting}
use Rattle.cpa_interpolant_names.specs.Meetings.{names_of, bits_of, bit_at, starts_behind}
use Rattle.cpa_interpolant_names.specs.Meetings.{variable_before, all_bits, starts_before}
use Rattle.cpa_interpolant_names.specs.Meetings.{shared_bits}
use Rattle.cpa_interpolant_names.specs.lemmas.Writing.{from_all, into_all, none_there}

-- one of the meetings
abbrev pub IsOne : List Meeting → Meeting → Type 0
IsOne ms m = (k : ℕ) × (slice_get ms k ≡ Some m)

-- a variable is a bit of one meeting alone, where they start so
abbrev pub AreApart : (Meeting → ℕ) → List Meeting → Type 0
AreApart start ms =
    (m n : Meeting) (i j : ℕ) → IsOne ms m → IsOne ms n → i < width m.ty → j < width n.ty
    → start m + i ≡ start n + j → (m ≡ n) × (i ≡ j)

-- A name is that of a bit of a cell, and each bit of each cell has its name, where bits behind the
-- cut stand apart. A bit that is noted is one of a cell which both parts read, and each is noted,
-- where bits before the cut stand apart.
pub record NamesAreBits : Type 0 where
  pub name : (vars : ℕ) (ms : List Meeting) (v w : ℕ) → name_of (names_of vars ms) v ≡ Some w
      → (m : Meeting) × (j : ℕ) × IsOne ms m × (j < width m.ty) × (v ≡ m.behind + j)
      × (w ≡ m.before + j)
  pub named : (vars : ℕ) (ms : List Meeting) (m : Meeting) (j : ℕ)
      → AreApart (λ n. n.behind) ms → IsOne ms m → j < width m.ty → m.behind + j < vars
      → name_of (names_of vars ms) (m.behind + j) ≡ Some (m.before + j)
  pub bit : (vars : ℕ) (ms : List Meeting) (v : ℕ) (bit : Bit)
      → bit_named (bits_of vars ms) v ≡ Some bit
      → (m : Meeting) × (j : ℕ) × IsOne ms m × (m.is_shared ≡ true) × (j < width m.ty)
      × (v ≡ m.before + j) × (bit ≡ bit_at m j)
  pub noted : (vars : ℕ) (ms : List Meeting) (m : Meeting) (j : ℕ)
      → AreApart (λ n. n.before) ms → IsOne ms m → m.is_shared ≡ true → j < width m.ty
      → m.before + j < vars → bit_named (bits_of vars ms) (m.before + j) ≡ Some (bit_at m j)

-- ---- the lemma

in_row : {A : Type 0} (o : Option (Option A)) (f : Option (Option A) → Option A) (x : A)
    → ((p : Option A) → f (Some p) ≡ p) → f None ≡ None → f o ≡ Some x → o ≡ Some (Some x)
in_row None f x some none is = absurd (cc)
in_row (Some p) f x some none is = ap Some (sym (some p) ∙ is)

shared_count : (m : Meeting) (j : ℕ) → j < shared_bits m
    → (m.is_shared ≡ true) × (j < width m.ty)
shared_count m j h = by m.is_shared refl h
  where
    by : (b : Bool) → m.is_shared ≡ b → j < (if b then width m.ty else 0)
        → (m.is_shared ≡ true) × (j < width m.ty)
    by true e h = (e, h)
    by false e h = absurd (omega (arith, h))

counted_shared : (m : Meeting) (j : ℕ) → m.is_shared ≡ true → j < width m.ty → j < shared_bits m
counted_shared m j e h = subst (λ b. j < (if b then width m.ty else 0)) (sym e) h

pub names_are_bits : NamesAreBits
names_are_bits = record {
  name = λ vars ms v w is.
      elim (from_all ℕ starts_behind variable_before all_bits ms (replicate vars None) v w
      (in_row (slice_get (names_of vars ms) v) name_in_row w (λ p. refl) refl is)) [
        | inl was ↦ absurd (none_there vars v w was)
        | inr (k, m, j, at, below, place, value) ↦ (m, j, (k, at), below, place, value)
      ];
  named = λ vars ms m j apart one below inside.
      ap name_in_row (into_all ℕ starts_behind variable_before all_bits ms (replicate vars None)
      (m.behind + j) (m.before + j)
      (λ k n i at h e.
      let same = apart n m i j (k, at) one h below (sym e) in
      ap (λ u. u.before + i) same.0 ∙ ap (λ u. m.before + u) same.1)
      (let long = length-replicate {A = Option ℕ} vars None in omega (arith, inside, long)) one.0 m
      j one.1
      below refl);
  bit = λ vars ms v bit is.
      elim (from_all Bit starts_before bit_at shared_bits ms (replicate vars None) v bit
      (in_row (slice_get (bits_of vars ms) v) bit_in_row bit (λ p. refl) refl is)) [
        | inl was ↦ absurd (none_there vars v bit was)
        | inr (k, m, j, at, below, place, value) ↦
            let counted = shared_count m j below in
            (m, j, (k, at), counted.0, counted.1, place, value)
      ];
  noted = λ vars ms m j apart one shared below inside.
      ap bit_in_row (into_all Bit starts_before bit_at shared_bits ms (replicate vars None)
      (m.before + j) (bit_at m j)
      (λ k n i at h e.
      let same = apart n m i j (k, at) one (shared_count n i h).1 below (sym e) in
      ap (λ u. bit_at u i) same.0 ∙ ap (λ u. bit_at m u) same.1)
      (let long = length-replicate {A = Option Bit} vars None in omega (arith, inside, long)) one.0
      m j one.1
      (counted_shared m j shared below) refl);
}
